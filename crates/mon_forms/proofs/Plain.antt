-- Printable ASCII and tabs are text, and so is each word of them.
use Rattle.std.proofs.Common.{◌≡◌, ℕ, zero, suc, ◌<◌, ◌&&◌, Bool, true, false, List, [], ◌∷◌, get_or, IsUtf8, refl, arith}
use Rattle.std.proofs.lemmas.Str.{IsUtf8-from_ascii}
use Rattle.std.proofs.lemmas.Bool.Decides.{nat_tests}
use Rattle.mon_forms.specs.Lines.{is_plain, is_plain_line}

plain_low : (c : ℕ) → is_plain c ≡ true → c < 128
plain_low c h = grind (arith, nat_tests)

pub both : (a b : Bool) → (a && b) ≡ true → (a ≡ true) × (b ≡ true)
both true b h = (refl, h)
both false b h = absurd cc

all_low : (line : List ℕ) → is_plain_line line ≡ true → (i : ℕ) → get_or line i 0 < 128
all_low [] h i = omega arith
all_low (c ∷ line) h zero = plain_low c (both _ _ h).0
all_low (c ∷ line) h (suc i) = all_low line (both _ _ h).1 i

pub plain_utf8 : (line : List ℕ) → is_plain_line line ≡ true → IsUtf8 line
plain_utf8 line h = IsUtf8-from_ascii line (all_low line h)
