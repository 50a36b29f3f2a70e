-- What is left of two texts where one has ended.
use Rattle.std.proofs.Common.{ap, ◌&&◌, ◌==◌, Bool, ◌≡◌, ℕ, ◌<◌, ◌≤◌, List, [], ◌∷◌, length, drop, refl, arith, length-drop, true, false}
use Rattle.std.proofs.Math.Dec.{eqb}
use Rattle.std.specs.Char.{encode_utf8}
use Rattle.std.specs.Cmp.Lexicographic.{pointwise}
use Rattle.std.specs.Str.{IsUtf8, chars}
use Rattle.std.proofs.lemmas.Str.{IsUtf8-past_char, chars_past_char}
use Rattle.mon_code.specs.Programs.{is_text}
use Rattle.std.proofs.Common.{◌++◌}
use Rattle.std.proofs.lemmas.Bool.Decides.{nat_tests}

none : (a b : List ℕ) → length a ≡ 0 → length b ≡ 0 → is_text a b ≡ true
none [] [] e h = refl
none [] (y ∷ b) e h = absurd (omega arith)
none (x ∷ a) b e h = absurd (omega arith)

shorter : (a b : List ℕ) → length a ≡ 0 → 0 < length b → is_text a b ≡ false
shorter [] (y ∷ b) e h = refl
shorter a [] e h = absurd (omega arith)
shorter (x ∷ a) b e h = absurd (omega arith)

pub both_end : (a b : List ℕ) (i : ℕ) → length a ≤ i → length b ≤ i → is_text (drop i a) (drop i b) ≡ true
both_end a b i e h = none (drop i a) (drop i b) (omega (arith, length-drop i a)) (omega (arith, length-drop i b))

pub one_ends : (a b : List ℕ) (i : ℕ) → length a ≤ i → i < length b → is_text (drop i a) (drop i b) ≡ false
one_ends a b i e h = shorter (drop i a) (drop i b) (omega (arith, length-drop i a)) (omega (arith, length-drop i b))

-- texts are the same where each of their characters is
pub by_each : (a b : List ℕ) → is_text a b ≡ pointwise eqb a b
by_each [] [] = refl
by_each [] (y ∷ b) = refl
by_each (x ∷ a) [] = refl
by_each (x ∷ a) (y ∷ b) = ap (λ (t : Bool). x == y && t) (by_each a b)

-- a character of a string, and its end

pub rest_utf8 : (bs rest : List ℕ) (c : ℕ) → IsUtf8 bs → bs ≡ encode_utf8 c ++ rest → IsUtf8 rest
rest_utf8 bs rest c ok e = IsUtf8-past_char bs rest c ok e

pub text_next : (a bs rest : List ℕ) (c : ℕ) → IsUtf8 bs → bs ≡ encode_utf8 c ++ rest → is_text a (chars bs) ≡ is_text a (c ∷ chars rest)
text_next a bs rest c ok e = ap (λ (l : List ℕ). is_text a l) (chars_past_char bs rest c ok e)

pub text_end : (a bs : List ℕ) → length bs ≡ 0 → is_text a (chars bs) ≡ is_text a []
unfolding chars
text_end a [] e = refl
text_end a (b ∷ bs) e = absurd (omega arith)

pub nothing_left : (a : List ℕ) → (length a == 0) ≡ is_text a []
nothing_left [] = refl
nothing_left (x ∷ a) = grind (arith, nat_tests)
