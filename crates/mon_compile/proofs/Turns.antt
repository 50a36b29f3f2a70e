-- Expressions one after another, and calls.
use Rattle.std.proofs.Common.{◌≡◌, ℕ, ◌+◌, ◌<◌, List, [], ◌∷◌, ◌++◌, length, map, drop, get_or, refl, sym, ap, ◌∙◌, arith, append_assoc, length-append}
use Rattle.std.proofs.lemmas.List.{drop_more}
use Rattle.mon_events.specs.declared.op.Op.{Op}
use Rattle.mon_trees.specs.declared.tree.Expression.{Expression}
use Rattle.mon_compile.specs.declared.assembly.Instruction.{Instruction}
use Rattle.mon_compile.specs.declared.assembly.Argument.TheVariants.{Number}
use Rattle.mon_compile.specs.Contexts.{Spot, put, above}
use Rattle.mon_compile.specs.Emission.{Emission, emitted}
use Rattle.mon_compile.specs.Expressions.{Coder, Locals, expression_code, in_turn, call_code, method_code}
use Rattle.mon_compile.proofs.Emissions.{whole}

-- what is left of the expressions at an index
left_at : (es : List Expression) (i : ℕ) (e : Expression) → i < length es → e ≡ get_or es i e → drop i es ≡ e ∷ drop (i + 1) es
left_at es i e h is = drop_more es i e h ∙ ap (λ (x : Expression). x ∷ drop (i + 1) es) (sym is)

-- the next expression
one_more : (locals : Locals) (es : List Expression) (i : ℕ) (x : Expression) (up next : Spot) (code : List Instruction) → i < length es → x ≡ get_or es i x → next ≡ above 1 up
    → (code ++ expression_code locals x up (length code)) ++ in_turn (map (expression_code locals) (drop (i + 1) es)) next (length (code ++ expression_code locals x up (length code))) ≡ code ++ in_turn (map (expression_code locals) (drop i es)) up (length code)
one_more locals es i x up next code h is hu =
    let piece = expression_code locals x up (length code) in
    let rest = in_turn (map (expression_code locals) (drop (i + 1) es)) in
    ap (λ (z : Spot). (code ++ piece) ++ rest z (length (code ++ piece))) hu
    ∙ ap (λ at. (code ++ piece) ++ rest (above 1 up) at) (length-append code piece)
    ∙ append_assoc code piece (rest (above 1 up) (length code + length piece))
    ∙ ap (λ (l : List Expression). code ++ in_turn (map (expression_code locals) l) up (length code)) (sym (left_at es i x h is))

pub turn_next : (es : List Expression) (i : ℕ) (x : Expression) (up next : Spot) (e e' w : Emission) → i < length es → x ≡ get_or es i x → next ≡ above 1 up → e' ≡ emitted e (expression_code e.locals x up)
    → emitted e (in_turn (map (expression_code e.locals) (drop i es)) up) ≡ w → emitted e' (in_turn (map (expression_code e'.locals) (drop (i + 1) es)) next) ≡ w
turn_next es i x up next e e' w h is hu made k =
    ap (λ (z : Emission). emitted z (in_turn (map (expression_code z.locals) (drop (i + 1) es)) next)) made
    ∙ whole e (emitted (emitted e (expression_code e.locals x up)) (in_turn (map (expression_code e.locals) (drop (i + 1) es)) next)) _ refl (one_more e.locals es i x up next e.code h is hu)
    ∙ k

-- the arguments of a call, and the call itself
abbrev pub called : List Coder → ℕ → ℕ → Spot → ℕ → List Instruction
called args n count s at = in_turn args s at ++ (put (above n s) Op.Call (Number count) ∷ [])

pub call_written : (f : Coder) (args : List Coder) (s up : Spot) (n : ℕ) (c0 c1 c2 : List Instruction) → n ≡ length args → c1 ≡ c0 ++ f s (length c0) → up ≡ above 1 s → c2 ≡ c1 ++ (in_turn args up (length c1) ++ (put (above n up) Op.Call (Number n) ∷ [])) → c2 ≡ c0 ++ call_code f args s (length c0)
call_written f args s up n c0 c1 c2 hn e1 hu e2 =
    let callee = f s (length c0) in
    let m = length args in
    let last : ℕ → List Instruction = λ k. put (record s { stack = k }) Op.Call (Number m) ∷ [] in
    let deep : m + (1 + s.stack) ≡ 1 + m + s.stack = omega arith in
    e2
    ∙ ap (λ (z : Spot). c1 ++ called args n n z (length c1)) hu
    ∙ ap (λ k. c1 ++ called args k k (above 1 s) (length c1)) hn
    ∙ ap (λ k. c1 ++ (in_turn args (above 1 s) (length c1) ++ last k)) deep
    ∙ ap (λ l. l ++ (in_turn args (above 1 s) (length l) ++ last (1 + m + s.stack))) e1
    ∙ ap (λ at. (c0 ++ callee) ++ (in_turn args (above 1 s) at ++ last (1 + m + s.stack))) (length-append c0 callee)
    ∙ append_assoc c0 callee (in_turn args (above 1 s) (length c0 + length callee) ++ last (1 + m + s.stack))

pub method_written : (o : Coder) (args : List Coder) (s up higher : Spot) (method number n : ℕ) (c0 c1 c2 c3 : List Instruction) → n ≡ length args → number ≡ method → c1 ≡ c0 ++ o s (length c0) → up ≡ above 1 s → c2 ≡ c1 ++ (put up Op.LoadMethod (Number number) ∷ []) → higher ≡ above 2 s
    → c3 ≡ c2 ++ (in_turn args higher (length c2) ++ (put (above n higher) Op.Call (Number (n + 1)) ∷ [])) → c3 ≡ c0 ++ method_code o method args s (length c0)
method_written o args s up higher method number n c0 c1 c2 c3 hn hm e1 hu e2 hh e3 =
    let object = o s (length c0) in
    let m = length args in
    let load = put (above 1 s) Op.LoadMethod (Number method) in
    let last : ℕ → List Instruction = λ k. put (record s { stack = k }) Op.Call (Number (m + 1)) ∷ [] in
    let deep : m + (2 + s.stack) ≡ 2 + m + s.stack = omega arith in
    let loaded : c2 ≡ c1 ++ (load ∷ []) = e2 ∙ ap (λ (z : Spot). c1 ++ (put z Op.LoadMethod (Number number) ∷ [])) hu ∙ ap (λ k. c1 ++ (put (above 1 s) Op.LoadMethod (Number k) ∷ [])) hm in
    let from = length c0 + length object + 1 in
    let start : length c2 ≡ from = omega (arith, ap length e1 ∙ length-append c0 object, ap length loaded ∙ length-append c1 (load ∷ [])) in
    let rest = in_turn args (above 2 s) from ++ last (2 + m + s.stack) in
    e3
    ∙ ap (λ (z : Spot). c2 ++ called args n (n + 1) z (length c2)) hh
    ∙ ap (λ k. c2 ++ called args k (k + 1) (above 2 s) (length c2)) hn
    ∙ ap (λ k. c2 ++ (in_turn args (above 2 s) (length c2) ++ last k)) deep
    ∙ ap (λ at. c2 ++ (in_turn args (above 2 s) at ++ last (2 + m + s.stack))) start
    ∙ ap (λ l. l ++ rest) loaded
    ∙ append_assoc c1 (load ∷ []) rest
    ∙ ap (λ l. l ++ (load ∷ rest)) e1
    ∙ append_assoc c0 object (load ∷ rest)
