-- Jumps over parts of a statement are written behind the parts.
use Rattle.std.proofs.Common.{◌≡◌, ℕ, ◌+◌, List, [], ◌∷◌, ◌++◌, length, refl, ap, ◌∙◌, arith, append_assoc, length-append}
use Rattle.std.specs.Prelude.{slice_set}
use Rattle.mon_events.specs.declared.op.Op.{Op}
use Rattle.mon_trees.specs.declared.tree.Targets.{Targets}
use Rattle.mon_compile.specs.declared.assembly.Instruction.{Instruction}
use Rattle.mon_compile.specs.declared.assembly.Argument.TheVariants.{Number, Destination}
use Rattle.mon_compile.specs.declared.assembly.Label.{Label}
use Rattle.mon_compile.specs.declared.assembly.Label.TheVariants.{At}
use Rattle.mon_compile.specs.Contexts.{FromAt, Spot, Entry, Context, While, For, Try, Finally, Raised, Returning, put, none, above, bare, at_line, no_line}
use Rattle.mon_compile.specs.Expressions.{Coder, Locals, store_code}
use Rattle.mon_compile.specs.Statements.{Scheme, ClauseScheme, while_code, for_code, if_code, if_else_code, in_clause, except_body, except_as_body, except_code, except_as_code, clauses_code, handlers_code, finally_code}
use Rattle.mon_compile.specs.Open.{inside, ending, covered}
use Rattle.mon_compile.proofs.ExpressionHoles.{written}

-- a jump behind one part and over another
pub over : (front rest : List Instruction) (c0 c1 c2 c3 : List Instruction) (x y : Instruction) (place : ℕ) → c1 ≡ c0 ++ front → place ≡ length c1 → c2 ≡ c1 ++ (x ∷ []) → c3 ≡ c2 ++ rest → slice_set c3 place y ≡ c0 ++ (front ++ (y ∷ rest))
over front rest c0 c1 c2 c3 x y place e1 m e2 e3 =
    let whole : c3 ≡ c1 ++ (x ∷ rest) = e3 ∙ ap (λ l. l ++ rest) e2 ∙ append_assoc c1 (x ∷ []) rest in
    written c1 rest c3 x y place whole m ∙ ap (λ l. l ++ (y ∷ rest)) e1 ∙ append_assoc c0 front (y ∷ rest)

pub while_written : (line : ℕ) (e : Coder) (a : Scheme) (context : Context) → ((x at : ℕ) → length (inside (While x) 1 a context at) ≡ length (a (While x (At 0) ∷ context) at)) → (s up back : Spot) (start branch : ℕ) (c0 c1 c2 c3 c4 : List Instruction) (x : Instruction) → start ≡ length c0 → s ≡ at_line line context → c1 ≡ c0 ++ e s (length c0) → branch ≡ length c1 → up ≡ above 1 s → c2 ≡ c1 ++ (x ∷ [])
    → c3 ≡ c2 ++ inside (While start) 1 a context (length c2) → back ≡ no_line context → c4 ≡ c3 ++ (put back Op.JumpBackward (Destination (At start)) ∷ []) → slice_set c4 branch (put up Op.PopJumpIfFalse (Destination (At (length c4)))) ≡ c0 ++ while_code line e a context (length c0)
while_written line e a context size s up back start branch c0 c1 c2 c3 c4 x hx hs e1 hb hu e2 e3 hk e4 =
    let here = at_line line context in
    let test = e here (length c0) in
    let from = length c0 + length test + 1 in
    let body = inside (While (length c0)) 1 a context from in
    let behind = put (no_line context) Op.JumpBackward (Destination (At (length c0))) ∷ [] in
    let branching : Spot → ℕ → Instruction = λ z n. put z Op.PopJumpIfFalse (Destination (At n)) in
    let f1 : c1 ≡ c0 ++ test = e1 ∙ ap (λ (z : Spot). c0 ++ e z (length c0)) hs in
    let l2 : length c2 ≡ from = omega (arith, ap length f1 ∙ length-append c0 test, ap length e2 ∙ length-append c1 (x ∷ [])) in
    let f3 : c3 ≡ c2 ++ body = e3 ∙ ap (λ n. c2 ++ inside (While n) 1 a context (length c2)) hx ∙ ap (λ n. c2 ++ inside (While (length c0)) 1 a context n) l2 in
    let f4 : c4 ≡ c3 ++ behind = e4 ∙ ap (λ (z : Spot). c3 ++ (put z Op.JumpBackward (Destination (At start)) ∷ [])) hk ∙ ap (λ n. c3 ++ (put (no_line context) Op.JumpBackward (Destination (At n)) ∷ [])) hx in
    let whole : c4 ≡ c2 ++ (body ++ behind) = f4 ∙ ap (λ l. l ++ behind) f3 ∙ append_assoc c2 body behind in
    let y = from + length (a (While (length c0) (At 0) ∷ context) from) + 1 in
    let there : length c4 ≡ y = omega (arith, ap length whole ∙ length-append c2 (body ++ behind), length-append body behind, l2, size (length c0) from) in
    over test (body ++ behind) c0 c1 c2 c4 x (branching up (length c4)) branch f1 hb e2 whole
    ∙ ap (λ (z : Spot). c0 ++ (test ++ (branching z (length c4) ∷ (body ++ behind)))) (hu ∙ ap (λ (z : Spot). above 1 z) hs)
    ∙ ap (λ n. c0 ++ (test ++ (branching (above 1 here) n ∷ (body ++ behind)))) there

pub for_written : (locals : Locals) (line : ℕ) (t : Targets) (e : Coder) (a : Scheme) (context : Context) → ((x at : ℕ) → length (inside (For x) 2 a context at) ≡ length (a (For x (At 0) ∷ context) at)) → (s up higher low : Spot) (start branch : ℕ) (c0 c1 c2 c3 c4 c5 c6 c7 : List Instruction) (x : Instruction)
    → s ≡ at_line line context → c1 ≡ c0 ++ (e s (length c0) ++ (put (above 1 s) Op.GetIter none ∷ [])) → start ≡ length c1 → up ≡ above 1 s → c2 ≡ c1 ++ (put up Op.ForIter none ∷ []) → branch ≡ length c2 → higher ≡ above 2 s → c3 ≡ c2 ++ (x ∷ [])
    → c4 ≡ c3 ++ store_code locals t up → c5 ≡ c4 ++ inside (For start) 2 a context (length c4) → low ≡ bare up → c6 ≡ c5 ++ (put low Op.JumpBackward (Destination (At start)) ∷ []) → c7 ≡ slice_set c6 branch (put higher Op.PopJumpIfDone (Destination (At (length c6))))
    → c7 ++ (put low Op.EndFor none ∷ []) ≡ c0 ++ for_code locals line t e a context (length c0)
for_written locals line t e a context size s up higher low start branch c0 c1 c2 c3 c4 c5 c6 c7 x hs e1 hx hu e2 hb hh e3 e4 e5 hl e6 e7 =
    let here = at_line line context in
    let whole = e here (length c0) in
    let first = length c0 + length whole + 1 in
    let stored = store_code locals t (above 1 here) in
    let from = first + 2 + length stored in
    let body = inside (For first) 2 a context from in
    let get = put (above 1 here) Op.GetIter none in
    let iter = put (above 1 here) Op.ForIter none in
    let back = put (above 1 (bare here)) Op.JumpBackward (Destination (At first)) in
    let end = put (above 1 (bare here)) Op.EndFor none in
    let branching : Spot → ℕ → Instruction = λ z n. put z Op.PopJumpIfDone (Destination (At n)) in
    let u1 : up ≡ above 1 here = hu ∙ ap (λ (z : Spot). above 1 z) hs in
    let low_is : low ≡ above 1 (bare here) = hl ∙ ap (λ (z : Spot). bare z) u1 in
    let f1 : c1 ≡ c0 ++ (whole ++ (get ∷ [])) = e1 ∙ ap (λ (z : Spot). c0 ++ (e z (length c0) ++ (put (above 1 z) Op.GetIter none ∷ []))) hs in
    let l1 : length c1 ≡ first = omega (arith, ap length f1 ∙ length-append c0 (whole ++ (get ∷ [])), length-append whole (get ∷ [])) in
    let started : start ≡ first = hx ∙ l1 in
    let f2 : c2 ≡ c1 ++ (iter ∷ []) = e2 ∙ ap (λ (z : Spot). c1 ++ (put z Op.ForIter none ∷ [])) u1 in
    let f4 : c4 ≡ c3 ++ stored = e4 ∙ ap (λ (z : Spot). c3 ++ store_code locals t z) u1 in
    let l3 : length c3 ≡ first + 2 = omega (arith, l1, ap length f2 ∙ length-append c1 (iter ∷ []), ap length e3 ∙ length-append c2 (x ∷ [])) in
    let l4 : length c4 ≡ from = omega (arith, l3, ap length f4 ∙ length-append c3 stored) in
    let f5 : c5 ≡ c4 ++ body = e5 ∙ ap (λ n. c4 ++ inside (For n) 2 a context (length c4)) started ∙ ap (λ n. c4 ++ inside (For first) 2 a context n) l4 in
    let f6 : c6 ≡ c5 ++ (back ∷ []) = e6 ∙ ap (λ (z : Spot). c5 ++ (put z Op.JumpBackward (Destination (At start)) ∷ [])) low_is ∙ ap (λ n. c5 ++ (put (above 1 (bare here)) Op.JumpBackward (Destination (At n)) ∷ [])) started in
    let rest = stored ++ (body ++ (back ∷ [])) in
    let flat : ((c3 ++ stored) ++ body) ++ (back ∷ []) ≡ c3 ++ rest = simp append_assoc in
    let tail : c6 ≡ c3 ++ rest = f6 ∙ ap (λ l. l ++ (back ∷ [])) (f5 ∙ ap (λ l. l ++ body) f4) ∙ flat in
    let z = from + length (a (For first (At 0) ∷ context) from) + 1 in
    let l6 : length c6 ≡ z = omega (arith, l4, ap length f5 ∙ length-append c4 body, ap length f6 ∙ length-append c5 (back ∷ []), size first from) in
    let front = (whole ++ (get ∷ [])) ++ (iter ∷ []) in
    let headed : c2 ≡ c0 ++ front = f2 ∙ ap (λ l. l ++ (iter ∷ [])) f1 ∙ append_assoc c0 (whole ++ (get ∷ [])) (iter ∷ []) in
    let jump = branching (above 2 here) z in
    let f7 : c7 ≡ c0 ++ (front ++ (jump ∷ rest)) = e7 ∙ over front rest c0 c2 c3 c6 x (branching higher (length c6)) branch headed hb e3 tail
    ∙ ap (λ (k : Spot). c0 ++ (front ++ (branching k (length c6) ∷ rest))) (hh ∙ ap (λ (k : Spot). above 2 k) hs)
    ∙ ap (λ n. c0 ++ (front ++ (branching (above 2 here) n ∷ rest))) l6 in
    let long : (c0 ++ (((whole ++ (get ∷ [])) ++ (iter ∷ [])) ++ (jump ∷ (stored ++ (body ++ (back ∷ [])))))) ++ (end ∷ []) ≡ c0 ++ (whole ++ (get ∷ (iter ∷ (jump ∷ (stored ++ (body ++ (back ∷ (end ∷ []))))))))
    = simp append_assoc in
    let same : from + length (a (For first (At 0) ∷ context) from) + 2 ≡ z + 1 = omega arith in
    ap (λ (k : Spot). c7 ++ (put k Op.EndFor none ∷ [])) low_is
    ∙ ap (λ l. l ++ (end ∷ [])) f7
    ∙ long
    ∙ ap (λ n. c0 ++ (whole ++ (get ∷ (iter ∷ (jump ∷ (stored ++ (a (For first (At n) ∷ context) from ++ (back ∷ (end ∷ []))))))))) same

pub if_written : (line : ℕ) (e : Coder) (a : Scheme) (context : Context) (s up : Spot) (branch : ℕ) (c0 c1 c2 c3 : List Instruction) (x : Instruction) → s ≡ at_line line context → c1 ≡ c0 ++ e s (length c0) → branch ≡ length c1 → up ≡ above 1 s → c2 ≡ c1 ++ (x ∷ [])
    → c3 ≡ c2 ++ a context (length c2) → slice_set c3 branch (put up Op.PopJumpIfFalse (Destination (At (length c3)))) ≡ c0 ++ if_code line e a context (length c0)
if_written line e a context s up branch c0 c1 c2 c3 x hs e1 hb hu e2 e3 =
    let here = at_line line context in
    let test = e here (length c0) in
    let from = length c0 + length test + 1 in
    let body = a context from in
    let branching : Spot → ℕ → Instruction = λ z n. put z Op.PopJumpIfFalse (Destination (At n)) in
    let f1 : c1 ≡ c0 ++ test = e1 ∙ ap (λ (z : Spot). c0 ++ e z (length c0)) hs in
    let l2 : length c2 ≡ from = omega (arith, ap length f1 ∙ length-append c0 test, ap length e2 ∙ length-append c1 (x ∷ [])) in
    let f3 : c3 ≡ c2 ++ body = e3 ∙ ap (λ n. c2 ++ a context n) l2 in
    let there : length c3 ≡ from + length body = omega (arith, ap length f3 ∙ length-append c2 body, l2) in
    over test body c0 c1 c2 c3 x (branching up (length c3)) branch f1 hb e2 f3
    ∙ ap (λ (z : Spot). c0 ++ (test ++ (branching z (length c3) ∷ body))) (hu ∙ ap (λ (z : Spot). above 1 z) hs)
    ∙ ap (λ n. c0 ++ (test ++ (branching (above 1 here) n ∷ body))) there

pub if_else_written : (line : ℕ) (e : Coder) (a b : Scheme) (context : Context) (s up low : Spot) (branch jump : ℕ) (c0 c1 c2 c3 c4 c5 c6 : List Instruction) (x x' : Instruction) → s ≡ at_line line context → c1 ≡ c0 ++ e s (length c0) → branch ≡ length c1 → up ≡ above 1 s → c2 ≡ c1 ++ (x ∷ [])
    → c3 ≡ c2 ++ a context (length c2) → jump ≡ length c3 → low ≡ no_line context → c4 ≡ c3 ++ (x' ∷ []) → c5 ≡ slice_set c4 branch (put up Op.PopJumpIfFalse (Destination (At (length c4)))) → c6 ≡ c5 ++ b context (length c5)
    → slice_set c6 jump (put low Op.JumpForward (Destination (At (length c6)))) ≡ c0 ++ if_else_code line e a b context (length c0)
if_else_written line e a b context s up low branch jump c0 c1 c2 c3 c4 c5 c6 x x' hs e1 hb hu e2 e3 hj hl e4 e5 e6 =
    let here = at_line line context in
    let test = e here (length c0) in
    let from = length c0 + length test + 1 in
    let body = a context from in
    let far = from + length body + 1 in
    let other = b context far in
    let branching : Spot → ℕ → Instruction = λ z n. put z Op.PopJumpIfFalse (Destination (At n)) in
    let jumping : Spot → ℕ → Instruction = λ z n. put z Op.JumpForward (Destination (At n)) in
    let f1 : c1 ≡ c0 ++ test = e1 ∙ ap (λ (z : Spot). c0 ++ e z (length c0)) hs in
    let l1 : length c1 ≡ length c0 + length test = ap length f1 ∙ length-append c0 test in
    let l2 : length c2 ≡ from = omega (arith, l1, ap length e2 ∙ length-append c1 (x ∷ [])) in
    let f3 : c3 ≡ c2 ++ body = e3 ∙ ap (λ n. c2 ++ a context n) l2 in
    let l3 : length c3 ≡ from + length body = omega (arith, ap length f3 ∙ length-append c2 body, l2) in
    let l4 : length c4 ≡ far = omega (arith, ap length e4 ∙ length-append c3 (x' ∷ []), l3) in
    let f4 : c4 ≡ c2 ++ (body ++ (x' ∷ [])) = e4 ∙ ap (λ l. l ++ (x' ∷ [])) f3 ∙ append_assoc c2 body (x' ∷ []) in
    let front = test ++ (branching (above 1 here) far ∷ body) in
    let flat : c0 ++ (test ++ (branching (above 1 here) far ∷ (body ++ (x' ∷ [])))) ≡ (c0 ++ (test ++ (branching (above 1 here) far ∷ body))) ++ (x' ∷ []) = simp append_assoc in
    let f5 : c5 ≡ (c0 ++ front) ++ (x' ∷ []) = e5
    ∙ over test (body ++ (x' ∷ [])) c0 c1 c2 c4 x (branching up (length c4)) branch f1 hb e2 f4
    ∙ ap (λ (z : Spot). c0 ++ (test ++ (branching z (length c4) ∷ (body ++ (x' ∷ []))))) (hu ∙ ap (λ (z : Spot). above 1 z) hs)
    ∙ ap (λ n. c0 ++ (test ++ (branching (above 1 here) n ∷ (body ++ (x' ∷ []))))) l4
    ∙ flat in
    let lf : length (c0 ++ front) ≡ from + length body = omega (arith, length-append c0 front, length-append test (branching (above 1 here) far ∷ body)) in
    let l5 : length c5 ≡ far = omega (arith, ap length f5 ∙ length-append (c0 ++ front) (x' ∷ []), lf) in
    let f6 : c6 ≡ c5 ++ other = e6 ∙ ap (λ n. c5 ++ b context n) l5 in
    let l6 : length c6 ≡ far + length other = omega (arith, ap length f6 ∙ length-append c5 other, l5) in
    let place : jump ≡ length (c0 ++ front) = omega (arith, hj, l3, lf) in
    over front other c0 (c0 ++ front) c5 c6 x' (jumping low (length c6)) jump refl place f5 f6
    ∙ ap (λ (z : Spot). c0 ++ (front ++ (jumping z (length c6) ∷ other))) hl
    ∙ ap (λ n. c0 ++ (front ++ (jumping (no_line context) n ∷ other))) l6
    ∙ ap (λ l. c0 ++ l) (append_assoc test (branching (above 1 here) far ∷ body) (jumping (no_line context) (far + length other) ∷ other))

pub handlers_written : (a : Scheme) (cs : List ClauseScheme) (context : Context) → ((at : ℕ) → length (inside Try 1 a context at) ≡ length (a (Try (At 0) ∷ context) at)) → ((at : ℕ) → length (ending (clauses_code cs) context at) ≡ length (clauses_code cs (At 0) context at))
    → (low up : Spot) (jump : ℕ) (c0 c1 c2 c3 c4 : List Instruction) (x : Instruction) → c1 ≡ c0 ++ inside Try 1 a context (length c0) → jump ≡ length c1 → low ≡ no_line context → c2 ≡ c1 ++ (x ∷ []) → up ≡ above 1 low → c3 ≡ c2 ++ (put up Op.PushExcInfo none ∷ [])
    → c4 ≡ c3 ++ ending (clauses_code cs) context (length c3) → slice_set c4 jump (put low Op.JumpForward (Destination (At (length c4)))) ≡ c0 ++ handlers_code a cs context (length c0)
handlers_written a cs context size clauses_size low up jump c0 c1 c2 c3 c4 x e1 hj hl e2 hu e3 e4 =
    let h = length c0 + length (a (Try (At 0) ∷ context) (length c0)) + 1 in
    let body = inside Try 1 a context (length c0) in
    let clauses = ending (clauses_code cs) context (h + 1) in
    let push = put (above 1 (no_line context)) Op.PushExcInfo none in
    let jumping : Spot → ℕ → Instruction = λ z n. put z Op.JumpForward (Destination (At n)) in
    let f3 : c3 ≡ c2 ++ (push ∷ []) = e3 ∙ ap (λ (z : Spot). c2 ++ (put z Op.PushExcInfo none ∷ [])) (hu ∙ ap (λ (z : Spot). above 1 z) hl) in
    let l3 : length c3 ≡ h + 1 = omega (arith, ap length e1 ∙ length-append c0 body, size (length c0), ap length e2 ∙ length-append c1 (x ∷ []), ap length f3 ∙ length-append c2 (push ∷ [])) in
    let f4 : c4 ≡ c3 ++ clauses = e4 ∙ ap (λ n. c3 ++ ending (clauses_code cs) context n) l3 in
    let whole : c4 ≡ c2 ++ (push ∷ clauses) = f4 ∙ ap (λ l. l ++ clauses) f3 ∙ append_assoc c2 (push ∷ []) clauses in
    let there : length c4 ≡ h + 1 + length (clauses_code cs (At 0) context (h + 1)) = omega (arith, ap length f4 ∙ length-append c3 clauses, l3, clauses_size (h + 1)) in
    over body (push ∷ clauses) c0 c1 c2 c4 x (jumping low (length c4)) jump e1 hj e2 whole
    ∙ ap (λ (z : Spot). c0 ++ (body ++ (jumping z (length c4) ∷ (push ∷ clauses)))) hl
    ∙ ap (λ n. c0 ++ (body ++ (jumping (no_line context) n ∷ (push ∷ clauses)))) there

-- a clause whose class does not match is jumped over
matched_written : (t : Coder) (body : FromAt) (here s up : Spot) (first : Spot → Instruction) (branch : ℕ) (c0 c1 c2 c3 c4 : List Instruction) (x : Instruction) → s ≡ here → c1 ≡ c0 ++ (t s (length c0) ++ (put (above 1 s) Op.CheckExcMatch none ∷ [])) → branch ≡ length c1 → up ≡ above 1 s
    → c2 ≡ c1 ++ (x ∷ []) → c3 ≡ c2 ++ (first s ∷ []) → c4 ≡ c3 ++ body (length c3)
    → slice_set c4 branch (put up Op.PopJumpIfFalse (Destination (At (length c4))))
    ≡ c0 ++ (t here (length c0) ++ (put (above 1 here) Op.CheckExcMatch none ∷ (put (above 1 here) Op.PopJumpIfFalse (Destination (At (length c0 + length (t here (length c0)) + 3 + length (body (length c0 + length (t here (length c0)) + 3))))) ∷ (first here ∷ body (length c0 + length (t here (length c0)) + 3)))))
matched_written t body here s up first branch c0 c1 c2 c3 c4 x hs e1 hb hu e2 e3 e4 =
    let class = t here (length c0) in
    let from = length c0 + length class + 3 in
    let check = put (above 1 here) Op.CheckExcMatch none in
    let branching : Spot → ℕ → Instruction = λ z n. put z Op.PopJumpIfFalse (Destination (At n)) in
    let f1 : c1 ≡ c0 ++ (class ++ (check ∷ [])) = e1 ∙ ap (λ (z : Spot). c0 ++ (t z (length c0) ++ (put (above 1 z) Op.CheckExcMatch none ∷ []))) hs in
    let f3 : c3 ≡ c2 ++ (first here ∷ []) = e3 ∙ ap (λ (z : Spot). c2 ++ (first z ∷ [])) hs in
    let l3 : length c3 ≡ from = omega (arith, ap length f1 ∙ length-append c0 (class ++ (check ∷ [])), length-append class (check ∷ []), ap length e2 ∙ length-append c1 (x ∷ []), ap length f3 ∙ length-append c2 (first here ∷ [])) in
    let f4 : c4 ≡ c3 ++ body from = e4 ∙ ap (λ n. c3 ++ body n) l3 in
    let there : length c4 ≡ from + length (body from) = omega (arith, ap length f4 ∙ length-append c3 (body from), l3) in
    let rest = first here ∷ body from in
    let whole : c4 ≡ c2 ++ rest = f4 ∙ ap (λ l. l ++ body from) f3 ∙ append_assoc c2 (first here ∷ []) (body from) in
    over (class ++ (check ∷ [])) rest c0 c1 c2 c4 x (branching up (length c4)) branch f1 hb e2 whole
    ∙ ap (λ (z : Spot). c0 ++ ((class ++ (check ∷ [])) ++ (branching z (length c4) ∷ rest))) (hu ∙ ap (λ (z : Spot). above 1 z) hs)
    ∙ ap (λ n. c0 ++ ((class ++ (check ∷ [])) ++ (branching (above 1 here) n ∷ rest))) there
    ∙ ap (λ l. c0 ++ l) (append_assoc class (check ∷ []) (branching (above 1 here) (from + length (body from)) ∷ rest))

pub except_written : (line : ℕ) (t : Coder) (b : Scheme) (y : Label) (context : Context) (s up : Spot) (branch : ℕ) (c0 c1 c2 c3 c4 : List Instruction) (x : Instruction) → s ≡ in_clause (at_line line context) → c1 ≡ c0 ++ (t s (length c0) ++ (put (above 1 s) Op.CheckExcMatch none ∷ [])) → branch ≡ length c1
    → up ≡ above 1 s → c2 ≡ c1 ++ (x ∷ []) → c3 ≡ c2 ++ (put s Op.PopTop none ∷ []) → c4 ≡ c3 ++ except_body b y context (length c3)
    → slice_set c4 branch (put up Op.PopJumpIfFalse (Destination (At (length c4)))) ≡ c0 ++ except_code line t b y context (length c0)
except_written line t b y context s up branch c0 c1 c2 c3 c4 x hs e1 hb hu e2 e3 e4 =
    matched_written t (except_body b y context) (in_clause (at_line line context)) s up (λ z. put z Op.PopTop none) branch c0 c1 c2 c3 c4 x hs e1 hb hu e2 e3 e4

pub except_as_written : (line : ℕ) (t : Coder) (n : ℕ) (b : Scheme) (y : Label) (context : Context) (s up : Spot) (branch : ℕ) (c0 c1 c2 c3 c4 : List Instruction) (x : Instruction) → s ≡ in_clause (at_line line context) → c1 ≡ c0 ++ (t s (length c0) ++ (put (above 1 s) Op.CheckExcMatch none ∷ [])) → branch ≡ length c1
    → up ≡ above 1 s → c2 ≡ c1 ++ (x ∷ []) → c3 ≡ c2 ++ (put s Op.StoreFast (Number n) ∷ []) → c4 ≡ c3 ++ except_as_body n b y context (length c3)
    → slice_set c4 branch (put up Op.PopJumpIfFalse (Destination (At (length c4)))) ≡ c0 ++ except_as_code line t n b y context (length c0)
except_as_written line t n b y context s up branch c0 c1 c2 c3 c4 x hs e1 hb hu e2 e3 e4 =
    matched_written t (except_as_body n b y context) (in_clause (at_line line context)) s up (λ z. put z Op.StoreFast (Number n)) branch c0 c1 c2 c3 c4 x hs e1 hb hu e2 e3 e4

-- the last part behind what it covers, and again where an exception came
pub finally_written : (a f : Scheme) (context : Context) → ((at : ℕ) → length (covered a f context at) ≡ length (a (Finally (f (Returning ∷ context)) (f context) (At 0) ∷ context) at) + length (f context (at + length (a (Finally (f (Returning ∷ context)) (f context) (At 0) ∷ context) at))))
    → (low up spot : Spot) (jump : ℕ) (c0 c1 c2 c3 c4 c5 : List Instruction) (x : Instruction) → c1 ≡ c0 ++ covered a f context (length c0) → jump ≡ length c1 → low ≡ no_line context → c2 ≡ c1 ++ (x ∷ []) → up ≡ above 1 low → c3 ≡ c2 ++ (put up Op.PushExcInfo none ∷ [])
    → c4 ≡ c3 ++ f (Raised ∷ context) (length c3) → spot ≡ in_clause low → c5 ≡ c4 ++ (put spot Op.Reraise none ∷ []) → slice_set c5 jump (put low Op.JumpForward (Destination (At (length c5)))) ≡ c0 ++ finally_code a f context (length c0)
finally_written a f context size low up spot jump c0 c1 c2 c3 c4 c5 x e1 hj hl e2 hu e3 e4 hs e5 =
    let entry : Label → Entry = λ l. Finally (f (Returning ∷ context)) (f context) l in
    let from = length c0 + length (a (entry (At 0) ∷ context) (length c0)) in
    let usual = f context from in
    let h = from + length usual + 1 in
    let body = a (entry (At h) ∷ context) (length c0) in
    let raised = f (Raised ∷ context) (h + 1) in
    let front = covered a f context (length c0) in
    let push = put (above 1 (no_line context)) Op.PushExcInfo none in
    let end = put (in_clause (no_line context)) Op.Reraise none ∷ [] in
    let rest = push ∷ (raised ++ end) in
    let jumping : Spot → ℕ → Instruction = λ z n. put z Op.JumpForward (Destination (At n)) in
    let f3 : c3 ≡ c2 ++ (push ∷ []) = e3 ∙ ap (λ (z : Spot). c2 ++ (put z Op.PushExcInfo none ∷ [])) (hu ∙ ap (λ (z : Spot). above 1 z) hl) in
    let l3 : length c3 ≡ h + 1 = omega (arith, ap length e1 ∙ length-append c0 front, size (length c0), ap length e2 ∙ length-append c1 (x ∷ []), ap length f3 ∙ length-append c2 (push ∷ [])) in
    let f4 : c4 ≡ c3 ++ raised = e4 ∙ ap (λ n. c3 ++ f (Raised ∷ context) n) l3 in
    let f5 : c5 ≡ c4 ++ end = e5 ∙ ap (λ (z : Spot). c4 ++ (put z Op.Reraise none ∷ [])) (hs ∙ ap (λ (z : Spot). in_clause z) hl) in
    let flat : ((c2 ++ (push ∷ [])) ++ raised) ++ end ≡ c2 ++ rest = simp append_assoc in
    let whole : c5 ≡ c2 ++ rest = f5 ∙ ap (λ l. l ++ end) (f4 ∙ ap (λ l. l ++ raised) f3) ∙ flat in
    let y = h + 1 + length raised + 1 in
    let there : length c5 ≡ y = omega (arith, ap length f5 ∙ length-append c4 end, ap length f4 ∙ length-append c3 raised, l3) in
    over front rest c0 c1 c2 c5 x (jumping low (length c5)) jump e1 hj e2 whole
    ∙ ap (λ (z : Spot). c0 ++ (front ++ (jumping z (length c5) ∷ rest))) hl
    ∙ ap (λ n. c0 ++ (front ++ (jumping (no_line context) n ∷ rest))) there
    ∙ ap (λ l. c0 ++ l) (append_assoc body usual (jumping (no_line context) y ∷ rest))
