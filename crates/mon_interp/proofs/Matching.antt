-- Whether a class is of one of several.
use Rattle.std.proofs.Common.{◌≡◌, ℕ, ◌+◌, ◌<◌, Bool, true, false, List, ◌∷◌, length, drop, get_or, refl, sym, ap, ◌∙◌}
use Rattle.std.specs.Prelude.{Option, Some, None, ◌||◌}
use Rattle.std.proofs.lemmas.List.{drop_more}
use Rattle.mon_values.specs.declared.value.Value.{Value, ExcClass}
use Rattle.mon_values.specs.declared.value.Value.TheOpen.{Value-F}
use Rattle.mon_values.specs.declared.value.Value.TheViews.{out-Value, the_lemmas}
use Rattle.mon_values.specs.declared.value.Exc.{Exc}
use Rattle.mon_values.specs.Classes.{is_subclass}
use Rattle.mon_machine.specs.Operations.{matches_any, matches_class, class_at, either}

joined : (found b : Bool) (rest : Option Bool) → either (Some found) (either (Some b) rest) ≡ either (Some (found || b)) rest
joined true true None = refl
joined true true (Some r) = refl
joined true false None = refl
joined true false (Some r) = refl
joined false true None = refl
joined false true (Some r) = refl
joined false false None = refl
joined false false (Some r) = refl

out_class : (k : ℕ) → out-Value (ExcClass k) ≡ Value-F.ExcClass k
out_class k = simp the_lemmas

-- one more of them is looked at, which is a class
pub one_more : (class of i : ℕ) (vs : List Value) (v : Value) (found : Bool) → i < length vs → v ≡ get_or vs i v → v ≡ ExcClass of
    → either (Some found) (matches_any class (drop i vs)) ≡ either (Some (found || is_subclass class of)) (matches_any class (drop (i + 1) vs))
one_more class of i vs v found h is e =
    ap (λ (l : List Value). either (Some found) (matches_any class l)) (drop_more vs i v h)
    ∙ ap (λ (x : Value). either (Some found) (matches_any class (x ∷ drop (i + 1) vs))) (sym is ∙ e)
    ∙ ap (λ (x : Value-F Value Exc). either (Some found) (either (matches_class class (class_at x)) (matches_any class (drop (i + 1) vs)))) (out_class of)
    ∙ joined found (is_subclass class of) (matches_any class (drop (i + 1) vs))
