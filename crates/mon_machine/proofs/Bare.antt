-- A board on which nothing is wanted, and disables.
use Rattle.std.proofs.Common.{◌≡◌, ℕ, zero, suc, ◌+◌, ◌-◌, ◌^◌, ◌%◌, ◌≤◌, ◌==◌, Bool, false, ◌&&◌, List, [], ◌∷◌, ◌++◌, length, take, get_or, set, refl, sym, ap, subst, ◌∙◌, arith, append-nil}
use Rattle.std.proofs.Math.Nat.{zero-div}
use Rattle.std.proofs.Math.Seq.{take-append-add}
use Rattle.std.proofs.lemmas.List.{append_cancel_left}
use Rattle.mon_events.specs.declared.event.Slot.{Slot}
use Rattle.mon_events.specs.Events.{place}
use Rattle.mon_words.specs.Words.{is_bit, is_enabled, clear}
use Rattle.mon_words.specs.History.{no_cell, cell_at, clear_at, after, puts}
use Rattle.mon_words.specs.declared.history.Board.{Board}
use Rattle.mon_words.specs.declared.history.Cell.{Cell}
use Rattle.mon_words.specs.declared.history.Mark.{Mark}
use Rattle.mon_words.specs.declared.history.Mark.TheVariants.{Off, Put}
use Rattle.mon_machine.specs.Bare.{IsBare}

-- ---- a disable wants nothing

want_set : (cells : List Cell) (l m : ℕ) (c : Cell) → c.want ≡ (get_or cells l no_cell).want → (get_or (set cells l c) m no_cell).want ≡ (get_or cells m no_cell).want
want_set [] l m c e = refl
want_set (x ∷ xs) zero zero c e = e
want_set (x ∷ xs) zero (suc m) c e = refl
want_set (x ∷ xs) (suc l) zero c e = refl
want_set (x ∷ xs) (suc l) (suc m) c e = want_set xs l m c e

bare_clear : (b : Board) (l k : ℕ) → IsBare b → IsBare (clear_at b l k)
bare_clear b l k h = record { global = h.global; locations = λ m. want_set b.cells l m (clear (cell_at b l) k) refl ∙ h.locations m }

bare_after : (b : Board) (marks : List Mark) → puts marks ≡ [] → IsBare b → IsBare (after b marks)
bare_after b [] e h = h
bare_after b (Off t l k ∷ marks) e h = bare_after (clear_at b l k) marks e (bare_clear b l k h)
bare_after b (Put stops c ∷ marks) e h = absurd (cc)

after_append : (b : Board) (xs ys : List Mark) → after b (xs ++ ys) ≡ after (after b xs) ys
after_append b [] ys = refl
after_append b (Off t l k ∷ xs) ys = after_append (clear_at b l k) xs ys
after_append b (Put stops c ∷ xs) ys = after_append c xs ys

puts_append : (xs ys : List Mark) → puts (xs ++ ys) ≡ puts xs ++ puts ys
puts_append [] ys = refl
puts_append (Off t l k ∷ xs) ys = puts_append xs ys
puts_append (Put stops c ∷ xs) ys = ap (λ (ms : List Mark). Put stops c ∷ ms) (puts_append xs ys)

puts_take : (n : ℕ) (marks : List Mark) → puts marks ≡ [] → puts (take n marks) ≡ []
puts_take zero marks e = refl
puts_take (suc n) [] e = refl
puts_take (suc n) (Off t l k ∷ marks) e = puts_take n marks e
puts_take (suc n) (Put stops c ∷ marks) e = absurd (cc)

pub no_bit : (n k : ℕ) → n ≡ 0 → is_bit n k ≡ false
no_bit n k e = ap (λ (m : ℕ). is_bit m k) e ∙ ap (λ (m : ℕ). m % 2 == 1) (zero-div (2 ^ k))

pub not_enabled : (c : Cell) (slot : Slot) (tool : ℕ) → c.want ≡ 0 → is_enabled c slot tool ≡ false
not_enabled c slot tool e = ap (λ (b : Bool). b && is_bit c.live (place slot tool)) (no_bit c.want (place slot tool) e)

-- ---- nor do disables alone

module _ (first : Board) (before more : List Mark) (bare : IsBare (after first before)) (quiet : puts more ≡ []) where
  pub bare_at : (at : ℕ) → length before ≤ at → IsBare (after first (take at (before ++ more)))
  bare_at at low =
      let n : ℕ = at - length before in
      let here : length before + n ≡ at = omega arith in
      let seen : take at (before ++ more) ≡ before ++ take n more = ap (λ (k : ℕ). take k (before ++ more)) (sym here) ∙ take-append-add before more n in
      let board : after first (take at (before ++ more)) ≡ after (after first before) (take n more) = ap (after first) seen ∙ after_append first before (take n more) in
      subst IsBare (sym board) (bare_after (after first before) (take n more) (puts_take n more quiet) bare)

pub quiet_more : (before more later : List Mark) → later ≡ before ++ more → puts later ≡ puts before → puts more ≡ []
quiet_more before more later is e =
    append_cancel_left (puts before) (puts more) [] (sym (puts_append before more) ∙ ap puts (sym is) ∙ e ∙ sym (append-nil (puts before)))
