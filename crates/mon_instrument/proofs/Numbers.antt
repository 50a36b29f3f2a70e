-- Lists read with a default, and events by their bits.
use Rattle.std.proofs.Common.{◌≡◌, ℕ, zero, suc, ◌<◌, true, List, [], ◌∷◌, length, get_or, eqb, refl, arith, eqb-true}
use Rattle.std.proofs.lemmas.Bool.{agree_below_at}
use Rattle.mon_events.specs.Events.{bit}
use Rattle.mon_events.specs.Events.{event_at}

pub bit_back : (b : ℕ) → b < 17 → bit (event_at b) ≡ b
bit_back b h = eqb-true (bit (event_at b)) b (agree_below_at (λ i. eqb (bit (event_at i)) i) (λ i. true) 17 b refl h)

pub any_default : {A : Type 0} (xs : List A) (t : ℕ) (d e : A) → t < length xs → get_or xs t d ≡ get_or xs t e
any_default [] t d e h = absurd (omega arith)
any_default (x ∷ xs) zero d e h = refl
any_default (x ∷ xs) (suc t) d e h = any_default xs t d e (omega arith)
