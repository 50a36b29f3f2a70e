-- The answer for a text, by its length and its encoding.
use Rattle.std.proofs.Common.{◌≡◌, ◌<◌, ◌≤◌, ℕ, List, Bool, true, false, refl, sym, ap, length, Option, Some, Result, nat_lt, arith, subst}
use Rattle.std.specs.Str.{is_utf8, IsUtf8}
use Rattle.std.specs.Str.Lossy.{utf8_valid_len}
use Rattle.std.proofs.lemmas.Str.{IsUtf8-from_is_utf8, is_utf8-from_IsUtf8}
use Rattle.mon_lexer.specs.Characters.{source}
use Rattle.mon_lexer.specs.Layout.{first_fault}
use Rattle.mon_lexer.specs.Top.{lexfault, signs_of, spelled, Gives, Answers}
use Rattle.mon_lexer.specs.declared.token.Item.{Item}
use Rattle.mon_lexer.specs.declared.token.LexFault.{LexFault}
use Rattle.mon_lexer.specs.declared.token.LexFault.TheVariants.{NotUtf8, TooLong}

pub too_long : (bytes : List ℕ) → 262144 < length bytes → lexfault bytes ≡ Some TooLong
unfolding lexfault
too_long bytes h =
    let e : nat_lt 262144 (length bytes) ≡ true = grind arith in
    rw e refl

is_false : (b : Bool) → (b ≡ true → ⊥) → b ≡ false
is_false true h = absurd (h refl)
is_false false h = refl

pub not_utf8 : (bytes : List ℕ) (at : ℕ) → length bytes ≤ 262144 → (IsUtf8 bytes → ⊥) → at ≡ utf8_valid_len bytes → lexfault bytes ≡ Some (NotUtf8 at)
unfolding lexfault
not_utf8 bytes at h u e =
    let short : nat_lt 262144 (length bytes) ≡ false = grind arith in
    let bad : is_utf8 bytes ≡ false = is_false (is_utf8 bytes) (λ t. u (IsUtf8-from_is_utf8 bytes t)) in
    rw (short, bad) (ap (λ n. Some (NotUtf8 n)) (sym e))

utf8_fault : (bytes : List ℕ) → length bytes ≤ 262144 → IsUtf8 bytes → lexfault bytes ≡ first_fault (signs_of (source bytes))
unfolding lexfault
utf8_fault bytes h u =
    let short : nat_lt 262144 (length bytes) ≡ false = grind arith in
    let good : is_utf8 bytes ≡ true = is_utf8-from_IsUtf8 bytes u in
    rw (short, good) refl

pub utf8_answers : (r : Result (List Item) LexFault) (bytes text : List ℕ) → length bytes ≤ 262144 → IsUtf8 bytes → text ≡ bytes → Gives r (first_fault (signs_of (source text))) (spelled text) → Answers r bytes
utf8_answers r bytes text h u e a =
    let P : List ℕ → Type 0 = λ t. Gives r (first_fault (signs_of (source t))) (spelled t) in
    let Q : Option LexFault → Type 0 = λ f. Gives r f (spelled bytes) in
    subst Q (sym (utf8_fault bytes h u)) (subst P e a)
