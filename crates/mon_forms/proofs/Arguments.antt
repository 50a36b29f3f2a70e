-- Arguments read so far, before those of the words that are left.
use Rattle.std.proofs.Common.{◌≡◌, ℕ, List, [], ◌∷◌, ◌++◌, Option, Some, None, Ok, refl, sym, ap, ◌∙◌, append_assoc}
use Rattle.mon_values.specs.declared.value.Value.{Value}
use Rattle.mon_forms.specs.Answers.{Answers}
use Rattle.mon_forms.specs.Operands.{and_arguments, argument_of, arguments_of}
use Rattle.mon_forms.specs.Plans.{or_fault}
use Rattle.mon_forms.specs.declared.plan.PlanKind.{PlanKind}

abbrev pub behind : List Value → Option (List Value) → Option (List Value)
behind xs None = None
behind xs (Some ys) = Some (xs ++ ys)

pub behind_none : (xs : List Value) (r : Option (List Value)) → behind xs (and_arguments None r) ≡ None
behind_none xs None = refl
behind_none xs (Some ys) = refl

pub behind_more : (xs : List Value) (v : Value) (r : Option (List Value)) → behind (xs ++ v ∷ []) r ≡ behind xs (and_arguments (Some v) r)
behind_more xs v None = refl
behind_more xs v (Some ys) = ap Some (append_assoc xs (v ∷ []) ys)

given : (v : Value) (r : Option Value) → Answers (Ok v) (or_fault PlanKind.Number r) → r ≡ Some v
given v None h = absurd h
given v (Some x) h = ap Some (sym h)

-- one word more
pub arguments_more : (xs new : List Value) (v : Value) (word : List ℕ) (rest more line : List (List ℕ)) → rest ≡ word ∷ more → Answers (Ok v) (or_fault PlanKind.Number (argument_of word)) → new ≡ xs ++ v ∷ [] → behind xs (arguments_of rest) ≡ arguments_of line → behind new (arguments_of more) ≡ arguments_of line
arguments_more xs new v word rest more line cut value pushed so_far =
    ap (λ (l : List Value). behind l (arguments_of more)) pushed
    ∙ behind_more xs v (arguments_of more)
    ∙ ap (λ (r : Option Value). behind xs (and_arguments r (arguments_of more))) (sym (given v (argument_of word) value))
    ∙ sym (ap (λ (ls : List (List ℕ)). behind xs (arguments_of ls)) cut)
    ∙ so_far
