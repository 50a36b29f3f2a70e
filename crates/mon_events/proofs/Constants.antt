-- The sets that are constants of the code.
use Rattle.std.proofs.Common.{◌≡◌, ℕ, Bool, true, false, not, eqb, bit_and, Ok, Err, refl, sym, ap, ◌∙◌, eq-eqb, ne_eqb}
use Rattle.std.specs.Prelude.{Result}
use Rattle.mon_events.specs.Events.{is_local, is_ancillary}
use Rattle.mon_events.specs.Sets.{packed, set_of, is_within, normal_set, normal_if, normal_global, normal_local}
use Rattle.mon_events.specs.declared.event.Event.{Event}
use Rattle.mon_events.specs.declared.set.EventSet.{EventSet}
use Rattle.mon_events.specs.declared.set.BadEvent.{BadEvent}

pub globals : set_of (λ e. not (is_ancillary e)) ≡ 131059
unfolding packed
globals = refl

pub locals : set_of is_local ≡ 75747
unfolding packed
locals = refl

-- the test of the code is that of the definition
is_yes : (set n m : ℕ) (f : Event → Bool) → set_of f ≡ m → n ≡ normal_set set → bit_and n m ≡ n → is_within (normal_set set) f ≡ true
is_yes set n m f s e h = ap (λ z. eqb (bit_and (normal_set set) z) (normal_set set)) s ∙ (ap (λ z. eqb (bit_and z m) z) (sym e) ∙ eq-eqb (bit_and n m) n h)

is_no : (set n m : ℕ) (f : Event → Bool) → set_of f ≡ m → n ≡ normal_set set → (bit_and n m ≡ n → ⊥) → is_within (normal_set set) f ≡ false
is_no set n m f s e h = ap (λ z. eqb (bit_and (normal_set set) z) (normal_set set)) s ∙ (ap (λ z. eqb (bit_and z m) z) (sym e) ∙ ne_eqb (bit_and n m) n h)

kept : (set : EventSet) (n : ℕ) (b : Bool) → n ≡ normal_set set.0 → b ≡ true → Ok (record { 0 = n }) ≡ normal_if b set
kept set n b e h = let P : ℕ → Result EventSet BadEvent = λ z. Ok (record { 0 = z }) in ap P e ∙ ap (λ z. normal_if z set) (sym h)

refused : (set : EventSet) (b : Bool) → b ≡ false → Err (record { 0 = set }) ≡ normal_if b set
refused set b h = ap (λ z. normal_if z set) (sym h)

pub global_yes : (set : EventSet) (n : ℕ) → n ≡ normal_set set.0 → bit_and n 131059 ≡ n → Ok (record { 0 = n }) ≡ normal_global set
global_yes set n e h = kept set n _ e (is_yes set.0 n 131059 (λ v. not (is_ancillary v)) globals e h)

pub global_no : (set : EventSet) (n : ℕ) → n ≡ normal_set set.0 → (bit_and n 131059 ≡ n → ⊥) → Err (record { 0 = set }) ≡ normal_global set
global_no set n e h = refused set _ (is_no set.0 n 131059 (λ v. not (is_ancillary v)) globals e h)

pub local_yes : (set : EventSet) (n : ℕ) → n ≡ normal_set set.0 → bit_and n 75747 ≡ n → Ok (record { 0 = n }) ≡ normal_local set
local_yes set n e h = kept set n _ e (is_yes set.0 n 75747 is_local locals e h)

pub local_no : (set : EventSet) (n : ℕ) → n ≡ normal_set set.0 → (bit_and n 75747 ≡ n → ⊥) → Err (record { 0 = set }) ≡ normal_local set
local_no set n e h = refused set _ (is_no set.0 n 75747 is_local locals e h)
