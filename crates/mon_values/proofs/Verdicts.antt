-- What is left of a text or a tuple whose other goes on.
use Rattle.std.proofs.Common.{◌≡◌, ℕ, ◌<◌, ◌≤◌, List, [], ◌∷◌, length, drop, map, refl, arith, length-drop, Bool, ap, ◌∙◌}
use Rattle.std.specs.Prelude.{ℤ}
use Rattle.std.specs.Ordering.{int_eq}
use Rattle.mon_values.specs.Ranges.{range_length}
use Rattle.mon_values.specs.Comparing.{text_verdict, tuple_verdict, same_items, same_ranges}
use Rattle.mon_values.specs.declared.value.Value.{Value}
use Rattle.mon_values.specs.declared.compare.Verdict.{Verdict}
use Rattle.mon_values.specs.declared.compare.Verdict.TheVariants.{Less, Greater}

text_shorter : (a b : List ℕ) → length a ≡ 0 → 0 < length b → text_verdict a b ≡ Less
text_shorter [] (y ∷ b) e h = refl
text_shorter a [] e h = absurd (omega arith)
text_shorter (x ∷ a) b e h = absurd (omega arith)

pub text_ends : (a b : List ℕ) (i : ℕ) → length a ≤ i → i < length b → text_verdict (drop i a) (drop i b) ≡ Less
text_ends a b i e h = text_shorter (drop i a) (drop i b) (omega (arith, length-drop i a)) (omega (arith, length-drop i b))

tuple_shorter : (f : Value → (Value → Verdict)) (a b : List Value) → length a ≡ 0 → 0 < length b → tuple_verdict (map f a) b ≡ Less
tuple_shorter f [] (y ∷ b) e h = refl
tuple_shorter f a [] e h = absurd (omega arith)
tuple_shorter f (x ∷ a) b e h = absurd (omega arith)

pub tuple_ends : (f : Value → (Value → Verdict)) (a b : List Value) (i : ℕ) → length a ≤ i → i < length b → tuple_verdict (map f (drop i a)) (drop i b) ≡ Less
tuple_ends f a b i e h = tuple_shorter f (drop i a) (drop i b) (omega (arith, length-drop i a)) (omega (arith, length-drop i b))

tuple_longer : (f : Value → (Value → Verdict)) (a b : List Value) → 0 < length a → length b ≡ 0 → tuple_verdict (map f a) b ≡ Greater
tuple_longer f (x ∷ a) [] h e = refl
tuple_longer f [] b h e = absurd (omega arith)
tuple_longer f (x ∷ a) (y ∷ b) h e = absurd (omega arith)

pub tuple_past : (f : Value → (Value → Verdict)) (a b : List Value) (i : ℕ) → i < length a → length b ≤ i → tuple_verdict (map f (drop i a)) (drop i b) ≡ Greater
tuple_past f a b i h e = tuple_longer f (drop i a) (drop i b) (omega (arith, length-drop i a)) (omega (arith, length-drop i b))

pub same_ranges_from : (a b c d e f : ℤ) (r : Bool) (n n' : ℕ) (p q : Bool) → r ≡ same_items n n' p q → n ≡ range_length a b c → n' ≡ range_length d e f → p ≡ int_eq a d → q ≡ int_eq c f → r ≡ same_ranges a b c d e f
same_ranges_from a b c d e f r n n' p q is count count' start step =
    is
    ∙ ap (λ k. same_items k n' p q) count
    ∙ ap (λ k. same_items (range_length a b c) k p q) count'
    ∙ ap (λ k. same_items (range_length a b c) (range_length d e f) k q) start
    ∙ ap (λ k. same_items (range_length a b c) (range_length d e f) (int_eq a d) k) step
