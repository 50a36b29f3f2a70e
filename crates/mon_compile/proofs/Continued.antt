-- Parts of the code that go on behind their beginning, and contexts an entry at a time.
use Rattle.std.proofs.Common.{◌≡◌, ℕ, ◌+◌, ◌<◌, ◌==◌, true, false, List, [], ◌∷◌, ◌++◌, length, map, drop, get_or, refl, sym, ap, ◌∙◌, arith, append_assoc, length-append}
use Rattle.std.specs.Prelude.{Result, Option}
use Rattle.std.proofs.lemmas.Bool.Decides.{nat_tests}
use Rattle.mon_events.specs.declared.op.Op.{Op}
use Rattle.mon_trees.specs.declared.tree.Expression.{Expression}
use Rattle.mon_trees.specs.declared.tree.Handler.{Handler}
use Rattle.mon_trees.specs.declared.tree.Simple.{Simple}
use Rattle.mon_trees.specs.declared.tree.Simple.TheVariants as simple
use Rattle.mon_trees.specs.declared.tree.Statement.{Statement}
use Rattle.mon_trees.specs.declared.tree.Targets.{Targets}
use Rattle.mon_compile.specs.declared.assembly.Instruction.{Instruction}
use Rattle.mon_compile.specs.declared.emitter.EmitFault.{EmitFault}
use Rattle.mon_compile.specs.declared.surroundings.Surroundings.{Surroundings}
use Rattle.mon_compile.specs.declared.surroundings.Surroundings.TheOpen.{Surroundings-F}
use Rattle.mon_compile.specs.declared.surroundings.Surroundings.TheFolds.{fold-roll-Surroundings, map-Surroundings}
use Rattle.mon_compile.specs.declared.surroundings.Surroundings.TheViews.{roll-Surroundings}
use Rattle.mon_compile.specs.Contexts.{FromAt, Entry, Context, Spot, put, none, above, at_line}
use Rattle.mon_compile.specs.Emission.{Emission, emitted, one, Emits}
use Rattle.mon_compile.specs.Expressions.{Locals, or_none, store_code, expression_code}
use Rattle.mon_compile.specs.Open.{open_step, open_context}
use Rattle.mon_compile.specs.Statements.{leave_all, coder_of, simple_code, handlers_code, finally_code, guarded, try_code, statement_code, handler_code, block_code}
use Rattle.mon_compile.proofs.Emissions.{Frame, frame_of, code_of, whole, emits_as, left_more}
use Rattle.mon_compile.proofs.Parts.{part_next}

-- one layer of a context
pub opened : (locals : Locals) (c : Surroundings) (x : Surroundings-F Surroundings) → c ≡ roll-Surroundings x → open_context locals c ≡ open_step locals (map-Surroundings Surroundings Context (open_context locals) x)
opened locals c x is = ap (open_context locals) is ∙ fold-roll-Surroundings Context (open_step locals) x

-- what is left of a part, behind its beginning
pub part_then : (part : Locals → FromAt) (more : FromAt) (r : Result (Unit {0}) EmitFault) (e0 e1 e2 : Emission) (front : List Instruction) → more (length e0.code) ≡ front ++ part e0.locals (length e0.code + length front) → frame_of e1 ≡ frame_of e0 → e1.code ≡ e0.code ++ front
    → Emits r e1 e2 (part e1.locals) → Emits r e0 e2 more
part_then part more r e0 e1 e2 front split same made h =
    emits_as r e0 e1 e2 (part e1.locals) more same
    (ap (λ (k : Frame). e1.code ++ part k.0 (length e1.code)) same ∙ left_more (part e0.locals) (more (length e0.code)) front e0.code e1.code split made)
    h

-- what leaves the other entries, behind what leaves the first
pub left_then : (leave : Context → FromAt) (r : Result (Unit {0}) EmitFault) (e0 e1 e2 : Emission) (c outer : Surroundings) (x : Entry) (front : List Instruction) → open_context e0.locals c ≡ x ∷ open_context e0.locals outer
    → leave (x ∷ open_context e0.locals outer) (length e0.code) ≡ front ++ leave (open_context e0.locals outer) (length e0.code + length front)
    → frame_of e1 ≡ frame_of e0 → e1.code ≡ e0.code ++ front → Emits r e1 e2 (leave (open_context e1.locals outer)) → Emits r e0 e2 (leave (open_context e0.locals c))
left_then leave r e0 e1 e2 c outer x front here split same made h =
    part_then (λ k. leave (open_context k outer)) (leave (open_context e0.locals c)) r e0 e1 e2 front (ap (λ (z : Context). leave z (length e0.code)) here ∙ split) same made h

-- statements one after another
pub block_next : (c : Surroundings) (body : List Statement) (i : ℕ) (s : Statement) (e e' w : Emission) → i < length body → s ≡ get_or body i s → e' ≡ emitted e (statement_code e.locals s (open_context e.locals c))
    → emitted e (block_code e.locals (drop i body) (open_context e.locals c)) ≡ w → emitted e' (block_code e'.locals (drop (i + 1) body) (open_context e'.locals c)) ≡ w
block_next c body i s e e' w h is made k =
    let l = e.locals in
    let o = open_context l c in
    let piece = statement_code l s o (length e.code) in
    let rest = block_code l (drop (i + 1) body) o in
    let codes : (e.code ++ piece) ++ rest (length (e.code ++ piece)) ≡ e.code ++ block_code l (drop i body) o (length e.code)
    = ap (λ at. (e.code ++ piece) ++ rest at) (length-append e.code piece)
    ∙ append_assoc e.code piece (rest (length e.code + length piece))
    ∙ ap (λ (b : List Statement). e.code ++ block_code l b o (length e.code)) (sym (part_next body i s h is)) in
    ap (λ (z : Emission). emitted z (block_code z.locals (drop (i + 1) body) (open_context z.locals c))) made
    ∙ whole e (emitted (emitted e (statement_code l s o)) rest) (e.code ++ block_code l (drop i body) o (length e.code)) refl codes
    ∙ k

-- statements without a block

pub return_then : (line : ℕ) (v : Option Expression) (x : Simple) (s : Spot) (r : Result (Unit {0}) EmitFault) (e0 e1 e2 : Emission) (c : Surroundings) → x ≡ simple.Return v → s ≡ at_line line (open_context e0.locals c) → e1 ≡ emitted e0 (or_none (coder_of e0.locals v) s)
    → Emits r e1 e2 (λ at. leave_all (open_context e1.locals c) at ++ (put (above 1 (at_line line [])) Op.ReturnValue none ∷ [])) → Emits r e0 e2 (simple_code e0.locals line x (open_context e0.locals c))
return_then line v x s r e0 e1 e2 c is here made h =
    let l = e0.locals in
    let o = open_context l c in
    let value = or_none (coder_of l v) in
    part_then (λ k at. leave_all (open_context k c) at ++ (put (above 1 (at_line line [])) Op.ReturnValue none ∷ [])) (simple_code l line x o) r e0 e1 e2 (value (at_line line o) (length e0.code)) (ap (λ (y : Simple). simple_code l line y o (length e0.code)) is)
    (ap frame_of made) (ap code_of made ∙ ap (λ (z : Spot). e0.code ++ value z (length e0.code)) here) h

pub assign_then : (line : ℕ) (t : Targets) (v : Expression) (x : Simple) (s : Spot) (r : Result (Unit {0}) EmitFault) (e0 e1 e2 : Emission) (c : Surroundings) → x ≡ simple.Assign t v → s ≡ at_line line (open_context e0.locals c) → e1 ≡ emitted e0 (expression_code e0.locals v s)
    → Emits r e1 e2 (λ at. store_code e1.locals t s) → Emits r e0 e2 (simple_code e0.locals line x (open_context e0.locals c))
assign_then line t v x s r e0 e1 e2 c is here made h =
    let l = e0.locals in
    let o = open_context l c in
    let value = expression_code l v (at_line line o) (length e0.code) in
    part_then (λ k at. store_code k t s) (simple_code l line x o) r e0 e1 e2 value (ap (λ (y : Simple). simple_code l line y o (length e0.code)) is ∙ ap (λ (z : Spot). value ++ store_code l t z) (sym here))
    (ap frame_of made) (ap code_of made ∙ ap (λ (z : Spot). e0.code ++ expression_code l v z (length e0.code)) here) h

-- a `try` without a last part, and with one

abbrev tried : ℕ → Emission → Surroundings → List Statement → List Handler → List Statement → FromAt
tried line e c body clauses last = try_code line (block_code e.locals body) (map (handler_code e.locals) clauses) (map (statement_code e.locals) last) (open_context e.locals c)

is_zero : (n : ℕ) → true ≡ (n == 0) → n ≡ 0
is_zero n h = grind (arith, nat_tests)

not_zero : (n : ℕ) → false ≡ (n == 0) → 0 < n
not_zero n h = grind (arith, nat_tests)

nop_then : (line : ℕ) (more : FromAt) (part : Locals → FromAt) (s : Spot) (r : Result (Unit {0}) EmitFault) (e0 e1 e2 : Emission) (c : Surroundings) → more (length e0.code) ≡ put (at_line line (open_context e0.locals c)) Op.Nop none ∷ part e0.locals (length e0.code + 1) → s ≡ at_line line (open_context e0.locals c)
    → e1 ≡ emitted e0 (one (put s Op.Nop none)) → Emits r e1 e2 (part e1.locals) → Emits r e0 e2 more
nop_then line more part s r e0 e1 e2 c split here made h =
    let nop = put (at_line line (open_context e0.locals c)) Op.Nop none in
    let single : length (nop ∷ []) ≡ 1 = refl in
    part_then part more r e0 e1 e2 (nop ∷ []) (split ∙ ap (λ n. nop ∷ part e0.locals (length e0.code + n)) (sym single)) (ap frame_of made) (ap code_of made ∙ ap (λ (z : Spot). e0.code ++ (put z Op.Nop none ∷ [])) here) h

pub try_then : (line : ℕ) (s : Spot) (r : Result (Unit {0}) EmitFault) (e0 e1 e2 : Emission) (c : Surroundings) (body : List Statement) (clauses : List Handler) (last : List Statement) → true ≡ (length last == 0) → s ≡ at_line line (open_context e0.locals c) → e1 ≡ emitted e0 (one (put s Op.Nop none))
    → Emits r e1 e2 (handlers_code (block_code e1.locals body) (map (handler_code e1.locals) clauses) (open_context e1.locals c)) → Emits r e0 e2 (tried line e0 c body clauses last)
try_then line s r e0 e1 e2 c body clauses [] none here made h = nop_then line (tried line e0 c body clauses []) (λ k. handlers_code (block_code k body) (map (handler_code k) clauses) (open_context k c)) s r e0 e1 e2 c refl here made h
try_then line s r e0 e1 e2 c body clauses (x ∷ last) none here made h = absurd (omega (arith, is_zero (length (x ∷ last)) none))

pub finally_then : (line : ℕ) (s : Spot) (r : Result (Unit {0}) EmitFault) (e0 e1 e2 : Emission) (c : Surroundings) (body : List Statement) (clauses : List Handler) (last : List Statement) → false ≡ (length last == 0) → s ≡ at_line line (open_context e0.locals c) → e1 ≡ emitted e0 (one (put s Op.Nop none))
    → Emits r e1 e2 (finally_code (guarded (block_code e1.locals body) (map (handler_code e1.locals) clauses)) (block_code e1.locals last) (open_context e1.locals c)) → Emits r e0 e2 (tried line e0 c body clauses last)
finally_then line s r e0 e1 e2 c body clauses [] some here made h = absurd (omega (arith, not_zero 0 some))
finally_then line s r e0 e1 e2 c body clauses (x ∷ last) some here made h =
    nop_then line (tried line e0 c body clauses (x ∷ last)) (λ k. finally_code (guarded (block_code k body) (map (handler_code k) clauses)) (block_code k (x ∷ last)) (open_context k c)) s r e0 e1 e2 c refl here made h
