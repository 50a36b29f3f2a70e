-- A part inside an entry whose label is settled once it is known.
use Rattle.std.proofs.Common.{◌≡◌, ℕ, ◌+◌, ◌<◌, ◌≤◌, List, ◌∷◌, ◌++◌, length, map, refl, sym, ap, ◌∙◌, subst, arith, append_assoc, length-append}
use Rattle.std.proofs.lemmas.List.{length-map, map-append}
use Rattle.mon_compile.specs.declared.assembly.Instruction.{Instruction}
use Rattle.mon_compile.specs.declared.assembly.Label.{Label}
use Rattle.mon_compile.specs.declared.assembly.Label.TheVariants.{At, EndOf, HandlerOf}
use Rattle.mon_compile.specs.declared.surroundings.Surroundings.{Surroundings}
use Rattle.mon_compile.specs.declared.surroundings.Surroundings.TheOpen.{Surroundings-F}
use Rattle.mon_compile.specs.declared.surroundings.Surroundings.TheFolds.{fold-roll-Surroundings, ind-Surroundings, map-Surroundings}
use Rattle.mon_compile.specs.declared.surroundings.Surroundings.TheViews.{roll-Surroundings}
use Rattle.mon_trees.specs.declared.tree.Statement.{Statement}
use Rattle.mon_compile.specs.Contexts.{Entry, While, For, Try, ExceptAs, Finally, Returning, Context}
use Rattle.mon_compile.specs.Expressions.{Locals}
use Rattle.mon_compile.specs.Statements.{Scheme, block_code}
use Rattle.mon_compile.specs.Moved.{moved, moved_entry, moved_context, Fixes}
use Rattle.mon_compile.specs.Open.{depth_step, depth_of, open_step, open_context, settle_label, settled, changed_from, inside, ending, covered}
use Rattle.mon_compile.proofs.Labels.{body_carries}
use Rattle.mon_compile.proofs.StatementLabels.{Carrying, ClauseCarrying, kept_entry}
use Rattle.mon_compile.proofs.Settled.{changed_behind}

end_kept : (k d n : ℕ) → k < d → settle_label (EndOf d) n (EndOf k) ≡ EndOf k
end_kept k d n h = grind arith

handler_kept : (k d n : ℕ) → k < d → settle_label (HandlerOf d) n (HandlerOf k) ≡ HandlerOf k
handler_kept k d n h = grind arith

end_settled : (d n : ℕ) → settle_label (EndOf d) n (EndOf d) ≡ At n
end_settled d n = grind arith

handler_settled : (d n : ℕ) → settle_label (HandlerOf d) n (HandlerOf d) ≡ At n
handler_settled d n = grind arith

-- labels of entries further in are not those of a context
abbrev Keeps : Context → Type 0
Keeps o = (d n : ℕ) → length o ≤ d → (moved_context (settle_label (EndOf d) n) o ≡ o) × (moved_context (settle_label (HandlerOf d) n) o ≡ o)

abbrev Part : Locals → Type 0
Part locals = (c : Surroundings) × Keeps (open_context locals c)

-- the entry of a `finally` inside a context
covered_kept : (locals : Locals) (last : List Statement) (o : Context) (g : Label → Label) → Fixes g → moved_context g o ≡ o → (h : Label) → g h ≡ h → (entry : Entry) → entry ≡ Finally (block_code locals last (Returning ∷ o)) (block_code locals last o) h → moved_context g (entry ∷ o) ≡ entry ∷ o
covered_kept locals last o g fix same h kept entry is =
    let f = block_code locals last in
    let entry_of : Label → Entry = λ l. Finally (f (Returning ∷ o)) (f o) l in
    ap (λ (x : Entry). moved_entry g x ∷ moved_context g o) is
    ∙ ap (λ (x : Entry). x ∷ moved_context g o) (kept_entry g f (body_carries g locals last) o fix same h)
    ∙ ap (λ (l : Label). entry_of l ∷ moved_context g o) kept
    ∙ ap (λ (c : Context). entry_of h ∷ c) same
    ∙ ap (λ (x : Entry). x ∷ o) (sym is)

kept_layer : (locals : Locals) (y : Surroundings-F (Part locals)) → Keeps (open_step locals (map-Surroundings Surroundings Context (open_context locals) (map-Surroundings (Part locals) Surroundings (λ e. e.0) y)))
kept_layer locals Surroundings-F.Top d n h = (refl, refl)
kept_layer locals (Surroundings-F.While x outer) d n h =
    let inner = outer.now.1 d n (omega (arith, h)) in
    (rw (end_kept (length (open_context locals outer.now.0)) d n (omega (arith, h)), inner.0) refl, rw inner.1 refl)
kept_layer locals (Surroundings-F.For x outer) d n h =
    let inner = outer.now.1 d n (omega (arith, h)) in
    (rw (end_kept (length (open_context locals outer.now.0)) d n (omega (arith, h)), inner.0) refl, rw inner.1 refl)
kept_layer locals (Surroundings-F.Try outer) d n h =
    let inner = outer.now.1 d n (omega (arith, h)) in
    (rw inner.0 refl, rw (handler_kept (length (open_context locals outer.now.0)) d n (omega (arith, h)), inner.1) refl)
kept_layer locals (Surroundings-F.Except outer) d n h = let inner = outer.now.1 d n (omega (arith, h)) in (rw inner.0 refl, rw inner.1 refl)
kept_layer locals (Surroundings-F.ExceptAs k outer) d n h =
    let inner = outer.now.1 d n (omega (arith, h)) in
    (rw inner.0 refl, rw (handler_kept (length (open_context locals outer.now.0)) d n (omega (arith, h)), inner.1) refl)
kept_layer locals (Surroundings-F.Finally last outer) d n h =
    let o = open_context locals outer.now.0 in
    let inner = outer.now.1 d n (omega (arith, h)) in
    (covered_kept locals last.now o (settle_label (EndOf d) n) (λ k. refl) inner.0 (HandlerOf (length o)) refl _ refl, covered_kept locals last.now o (settle_label (HandlerOf d) n) (λ k. refl) inner.1 (HandlerOf (length o)) (handler_kept (length o) d n (omega (arith, h))) _ refl)
kept_layer locals (Surroundings-F.Raised outer) d n h = let inner = outer.now.1 d n (omega (arith, h)) in (rw inner.0 refl, rw inner.1 refl)
kept_layer locals (Surroundings-F.Returning outer) d n h = let inner = outer.now.1 d n (omega (arith, h)) in (rw inner.0 refl, rw inner.1 refl)

pub open_kept : (locals : Locals) (c : Surroundings) → Keeps (open_context locals c)
open_kept locals = ind-Surroundings (λ c. Keeps (open_context locals c)) (λ x y is.
    let unrolled : open_context locals (roll-Surroundings x) ≡ open_step locals (map-Surroundings Surroundings Context (open_context locals) x) = fold-roll-Surroundings Context (open_step locals) x in
    let inner : Keeps (open_step locals (map-Surroundings Surroundings Context (open_context locals) x))
    = subst (λ (z : Surroundings-F Surroundings). Keeps (open_step locals (map-Surroundings Surroundings Context (open_context locals) z))) is (kept_layer locals y) in
    subst Keeps (sym unrolled) inner)

-- as many entries as there are in the surroundings
abbrev Counted : Locals → Surroundings → Type 0
Counted locals c = length (open_context locals c) ≡ depth_of c

depth_layer : (locals : Locals) (y : Surroundings-F ((c : Surroundings) × Counted locals c)) → length (open_step locals (map-Surroundings Surroundings Context (open_context locals) (map-Surroundings ((c : Surroundings) × Counted locals c) Surroundings (λ e. e.0) y)))
    ≡ depth_step (map-Surroundings Surroundings ℕ depth_of (map-Surroundings ((c : Surroundings) × Counted locals c) Surroundings (λ e. e.0) y))
depth_layer locals Surroundings-F.Top = refl
depth_layer locals (Surroundings-F.While x outer) = let inner = outer.now.1 in omega (arith, inner)
depth_layer locals (Surroundings-F.For x outer) = let inner = outer.now.1 in omega (arith, inner)
depth_layer locals (Surroundings-F.Try outer) = let inner = outer.now.1 in omega (arith, inner)
depth_layer locals (Surroundings-F.Except outer) = let inner = outer.now.1 in omega (arith, inner)
depth_layer locals (Surroundings-F.ExceptAs n outer) = let inner = outer.now.1 in omega (arith, inner)
depth_layer locals (Surroundings-F.Finally last outer) = let inner = outer.now.1 in omega (arith, inner)
depth_layer locals (Surroundings-F.Raised outer) = let inner = outer.now.1 in omega (arith, inner)
depth_layer locals (Surroundings-F.Returning outer) = let inner = outer.now.1 in omega (arith, inner)

pub entries : (locals : Locals) (c : Surroundings) → Counted locals c
entries locals = ind-Surroundings (Counted locals) (λ x y is.
    ap length (fold-roll-Surroundings Context (open_step locals) x)
    ∙ subst (λ (z : Surroundings-F Surroundings). length (open_step locals (map-Surroundings Surroundings Context (open_context locals) z)) ≡ depth_step (map-Surroundings Surroundings ℕ depth_of z)) is (depth_layer locals y)
    ∙ sym (fold-roll-Surroundings ℕ depth_step x))

-- an entry round a part, with the label that the code gives it in a context
pub record Settles (entry : Label → Entry) (l : Label) (context : Context) : Type 0 where
  pub becomes : (n : ℕ) → moved_entry (settle_label l n) (entry l) ≡ entry (At n)
  pub fixes : (n : ℕ) → Fixes (settle_label l n)
  pub keeps : (n : ℕ) → moved_context (settle_label l n) context ≡ context

pub while_settles : (x : ℕ) (locals : Locals) (c : Surroundings) → Settles (While x) (EndOf (length (open_context locals c))) (open_context locals c)
while_settles x locals c = let d = length (open_context locals c) in record { becomes = λ n. ap (While x) (end_settled d n); fixes = λ n k. refl; keeps = λ n. (open_kept locals c d n (omega arith)).0 }

pub for_settles : (x : ℕ) (locals : Locals) (c : Surroundings) → Settles (For x) (EndOf (length (open_context locals c))) (open_context locals c)
for_settles x locals c = let d = length (open_context locals c) in record { becomes = λ n. ap (For x) (end_settled d n); fixes = λ n k. refl; keeps = λ n. (open_kept locals c d n (omega arith)).0 }

pub try_settles : (locals : Locals) (c : Surroundings) → Settles Try (HandlerOf (length (open_context locals c))) (open_context locals c)
try_settles locals c = let d = length (open_context locals c) in record { becomes = λ n. ap Try (handler_settled d n); fixes = λ n k. refl; keeps = λ n. (open_kept locals c d n (omega arith)).1 }

pub except_as_settles : (local : ℕ) (locals : Locals) (c : Surroundings) → Settles (ExceptAs local) (HandlerOf (length (open_context locals c))) (open_context locals c)
except_as_settles local locals c = let d = length (open_context locals c) in record { becomes = λ n. ap (ExceptAs local) (handler_settled d n); fixes = λ n k. refl; keeps = λ n. (open_kept locals c d n (omega arith)).1 }

-- that of a `finally`, by its last part
abbrev pub entry_over : Scheme → Context → Label → Entry
entry_over f context l = Finally (f (Returning ∷ context)) (f context) l

pub finally_settles : (last : List Statement) (locals : Locals) (c : Surroundings) → Settles (entry_over (block_code locals last) (open_context locals c)) (HandlerOf (length (open_context locals c))) (open_context locals c)
finally_settles last locals c =
    let f = block_code locals last in
    let o = open_context locals c in
    let d = length o in
    let keep : (n : ℕ) → moved_context (settle_label (HandlerOf d) n) o ≡ o = λ n. (open_kept locals c d n (omega arith)).1 in
    record {
      becomes = λ n. let g = settle_label (HandlerOf d) n in kept_entry g f (body_carries g locals last) o (λ k. refl) (keep n) (HandlerOf d) ∙ ap (entry_over f o) (handler_settled d n);
      fixes = λ n k. refl;
      keeps = keep;
    }

-- the part, once the label is known
part_settled : (a : Scheme) → ((g : Label → Label) → Carrying g a) → (entry : Label → Entry) (l : Label) (context : Context) → Settles entry l context → (from n : ℕ) → map (settled l n) (a (entry l ∷ context) from) ≡ a (entry (At n) ∷ context) from
part_settled a carries entry l context s from n =
    let g = settle_label l n in
    sym (carries g (entry l ∷ context) (s.fixes n) from)
    ∙ ap (λ (c : Context). a (moved_entry g (entry l) ∷ c) from) (s.keeps n)
    ∙ ap (λ (e : Entry). a (e ∷ context) from) (s.becomes n)

as_long : (a : Scheme) → ((g : Label → Label) → Carrying g a) → (entry : Label → Entry) (l : Label) (context : Context) → Settles entry l context → (from n : ℕ) → length (a (entry (At n) ∷ context) from) ≡ length (a (entry l ∷ context) from)
as_long a carries entry l context s from n = ap length (sym (part_settled a carries entry l context s from n)) ∙ length-map (a (entry l ∷ context) from) (settled l n)

-- no index has a part in its length
pub inside_length : (a : Scheme) → ((g : Label → Label) → Carrying g a) → (entry : Label → Entry) (l : Label) (context : Context) → Settles entry l context → (behind from : ℕ) → length (inside entry behind a context from) ≡ length (a (entry (At 0) ∷ context) from)
inside_length a carries entry l context s behind from =
    as_long a carries entry l context s from (from + length (a (entry (At 0) ∷ context) from) + behind) ∙ sym (as_long a carries entry l context s from 0)

pub part_inside : (a : Scheme) → ((g : Label → Label) → Carrying g a) → (entry : Label → Entry) (l : Label) (context : Context) → Settles entry l context → (behind from : ℕ) (m : Label) (c0 c1 : List Instruction)
    → m ≡ l → from ≡ length c0 → c1 ≡ c0 ++ a (entry l ∷ context) (length c0) → changed_from (settled m (length c1 + behind)) from c1 ≡ c0 ++ inside entry behind a context (length c0)
part_inside a carries entry l context s behind from m c0 c1 is start e =
    let part = a (entry l ∷ context) (length c0) in
    let done = length c1 + behind in
    let there : done ≡ length c0 + length (a (entry (At 0) ∷ context) (length c0)) + behind = omega (arith, ap length e ∙ length-append c0 part, as_long a carries entry l context s (length c0) 0) in
    ap (λ (k : Label). changed_from (settled k done) from c1) is
    ∙ ap (λ k. changed_from (settled l done) k c1) start
    ∙ ap (λ c. changed_from (settled l done) (length c0) c) e
    ∙ changed_behind (settled l done) c0 part
    ∙ ap (λ p. c0 ++ p) (part_settled a carries entry l context s (length c0) done)
    ∙ ap (λ n. c0 ++ a (entry (At n) ∷ context) (length c0)) there

-- clauses whose end is known once they are put
clauses_settled : (a : Label → Scheme) → ((g : Label → Label) → ClauseCarrying g a) → (locals : Locals) (c : Surroundings) (from n : ℕ)
    → map (settled (EndOf (length (open_context locals c))) n) (a (EndOf (length (open_context locals c))) (open_context locals c) from) ≡ a (At n) (open_context locals c) from
clauses_settled a carries locals c from n =
    let d = length (open_context locals c) in
    let g = settle_label (EndOf d) n in
    sym (carries g (EndOf d) (open_context locals c) (λ k. refl) from)
    ∙ ap (λ (o : Context). a (g (EndOf d)) o from) (open_kept locals c d n (omega arith)).0
    ∙ ap (λ (l : Label). a l (open_context locals c) from) (end_settled d n)

clauses_as_long : (a : Label → Scheme) → ((g : Label → Label) → ClauseCarrying g a) → (locals : Locals) (c : Surroundings) (from n : ℕ) → length (a (At n) (open_context locals c) from) ≡ length (a (EndOf (length (open_context locals c))) (open_context locals c) from)
clauses_as_long a carries locals c from n =
    let l = EndOf (length (open_context locals c)) in
    ap length (sym (clauses_settled a carries locals c from n)) ∙ length-map (a l (open_context locals c) from) (settled l n)

pub ending_length : (a : Label → Scheme) → ((g : Label → Label) → ClauseCarrying g a) → (locals : Locals) (c : Surroundings) (from : ℕ) → length (ending a (open_context locals c) from) ≡ length (a (At 0) (open_context locals c) from)
ending_length a carries locals c from = clauses_as_long a carries locals c from (from + length (a (At 0) (open_context locals c) from)) ∙ sym (clauses_as_long a carries locals c from 0)

pub clauses_ending : (a : Label → Scheme) → ((g : Label → Label) → ClauseCarrying g a) → (locals : Locals) (c : Surroundings) (from d : ℕ) (c0 c1 : List Instruction) → d ≡ length (open_context locals c) → from ≡ length c0 → c1 ≡ c0 ++ a (EndOf d) (open_context locals c) (length c0)
    → changed_from (settled (EndOf d) (length c1 + 0)) from c1 ≡ c0 ++ ending a (open_context locals c) (length c0)
clauses_ending a carries locals c from d c0 c1 is start e =
    let context = open_context locals c in
    let l = EndOf (length context) in
    let part = a l context (length c0) in
    let f : c1 ≡ c0 ++ part = e ∙ ap (λ n. c0 ++ a (EndOf n) context (length c0)) is in
    let done = length c1 + 0 in
    let there : done ≡ length c0 + length (a (At 0) context (length c0)) = omega (arith, ap length f ∙ length-append c0 part, clauses_as_long a carries locals c (length c0) 0) in
    ap (λ n. changed_from (settled (EndOf n) done) from c1) is
    ∙ ap (λ k. changed_from (settled l done) k c1) start
    ∙ ap (λ c. changed_from (settled l done) (length c0) c) f
    ∙ changed_behind (settled l done) c0 part
    ∙ ap (λ p. c0 ++ p) (clauses_settled a carries locals c (length c0) done)
    ∙ ap (λ n. c0 ++ a (At n) context (length c0)) there

-- what a last part covers, and the part, whose handler is known behind both
pub covered_length : (a f : Scheme) → ((g : Label → Label) → Carrying g a) → (l : Label) (context : Context) → Settles (entry_over f context) l context → (at : ℕ)
    → length (covered a f context at) ≡ length (a (entry_over f context (At 0) ∷ context) at) + length (f context (at + length (a (entry_over f context (At 0) ∷ context) at)))
covered_length a f carries l context s at =
    let first = length (a (entry_over f context (At 0) ∷ context) at) in
    let usual = f context (at + first) in
    let h = at + first + length usual + 1 in
    let body = a (entry_over f context (At h) ∷ context) at in
    omega (arith, length-append body usual, as_long a carries (entry_over f context) l context s at h, as_long a carries (entry_over f context) l context s at 0)

pub covered_settled : (a f : Scheme) → ((g : Label → Label) → Carrying g a) → ((g : Label → Label) → Carrying g f) → (l : Label) (context : Context) → Settles (entry_over f context) l context → (from : ℕ) (m : Label) (c0 c1 c2 : List Instruction)
    → m ≡ l → from ≡ length c0 → c1 ≡ c0 ++ a (entry_over f context l ∷ context) (length c0) → c2 ≡ c1 ++ f context (length c1) → changed_from (settled m (length c2 + 1)) from c2 ≡ c0 ++ covered a f context (length c0)
covered_settled a f carries f_carries l context s from m c0 c1 c2 is start e1 e2 =
    let entry = entry_over f context in
    let part = a (entry l ∷ context) (length c0) in
    let behind = length c0 + length (a (entry (At 0) ∷ context) (length c0)) in
    let usual = f context behind in
    let done = length c2 + 1 in
    let l1 : length c1 ≡ behind = omega (arith, ap length e1 ∙ length-append c0 part, as_long a carries entry l context s (length c0) 0) in
    let f2 : c2 ≡ c1 ++ usual = e2 ∙ ap (λ n. c1 ++ f context n) l1 in
    let there : done ≡ behind + length usual + 1 = omega (arith, l1, ap length f2 ∙ length-append c1 usual) in
    let both : c2 ≡ c0 ++ (part ++ usual) = f2 ∙ ap (λ c. c ++ usual) e1 ∙ append_assoc c0 part usual in
    let g = settle_label l done in
    let still : map (moved g) usual ≡ usual = sym (f_carries g context (s.fixes done) behind) ∙ ap (λ (c : Context). f c behind) (s.keeps done) in
    ap (λ (k : Label). changed_from (settled k done) from c2) is
    ∙ ap (λ k. changed_from (settled l done) k c2) start
    ∙ ap (λ c. changed_from (settled l done) (length c0) c) both
    ∙ changed_behind (settled l done) c0 (part ++ usual)
    ∙ ap (λ p. c0 ++ p) (map-append (settled l done) part usual)
    ∙ ap (λ p. c0 ++ (p ++ map (moved g) usual)) (part_settled a carries entry l context s (length c0) done)
    ∙ ap (λ p. c0 ++ (a (entry (At done) ∷ context) (length c0) ++ p)) still
    ∙ ap (λ n. c0 ++ (a (entry (At n) ∷ context) (length c0) ++ usual)) there
