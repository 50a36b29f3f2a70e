-- Lines that are put together argument by argument.
use Rattle.std.proofs.Common.{◌≡◌, ℕ, ◌+◌, ◌<◌, ◌≤◌, List, [], ◌∷◌, ◌++◌, length, drop, get_or, None, ap, sym, ◌∙◌, arith, length-append, append_assoc, append-nil}
use Rattle.std.specs.List.{flat_map}
use Rattle.std.proofs.lemmas.Bool.Decides.{nat_tests}
use Rattle.std.proofs.lemmas.List.{drop_more, drop_all}
use Rattle.mon_values.specs.declared.value.Value.{Value}
use Rattle.mon_values.specs.Printing.{str_of}
use Rattle.mon_builtins.specs.Builtins.{behind, short}

-- one more argument behind the line
pub line_more : (line spaced later text whole : List ℕ) (names : List (List ℕ)) (args : List Value) (i : ℕ) (x : Value) → whole ≡ behind line names (drop i args) → i < length args → x ≡ get_or args i x
    → spaced ≡ line ++ 32 ∷ [] → text ≡ str_of names x → later ≡ spaced ++ text → whole ≡ behind later names (drop (i + 1) args)
line_more line spaced later text whole names args i x is h e p t q =
    let rest : List ℕ = flat_map (λ y. 32 ∷ str_of names y) (drop (i + 1) args) in
    let split : drop i args ≡ x ∷ drop (i + 1) args = drop_more args i x h ∙ ap (λ y. y ∷ drop (i + 1) args) (sym e) in
    let grown : later ≡ line ++ 32 ∷ str_of names x = q ∙ ap (λ l. spaced ++ l) t ∙ ap (λ l. l ++ str_of names x) p ∙ append_assoc line (32 ∷ []) (str_of names x) in
    is
    ∙ ap (λ l. behind line names l) split
    ∙ sym (append_assoc line (32 ∷ str_of names x) rest)
    ∙ sym (ap (λ l. l ++ rest) grown)

-- what follows makes no line shorter
pub long_line : (line whole : List ℕ) (names : List (List ℕ)) (args : List Value) → whole ≡ behind line names args → 4096 < length line → short whole ≡ None
long_line line whole names args e h =
    let longer : length line ≤ length whole = omega (arith, ap length e, length-append line (flat_map (λ x. 32 ∷ str_of names x) args)) in
    let beyond : 4096 < length whole = omega arith in
    grind (arith, nat_tests)

pub last_line : (line whole : List ℕ) (names : List (List ℕ)) (args : List Value) (i : ℕ) → whole ≡ behind line names (drop i args) → length args ≤ i → whole ≡ line
last_line line whole names args i e h = e ∙ ap (λ l. behind line names l) (drop_all i args h) ∙ simp append-nil
