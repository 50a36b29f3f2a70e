-- What runs print, step by step.
use Rattle.std.proofs.Common.{◌≡◌, ℕ, zero, suc, ◌+◌, Bool, true, false, List, [], ◌++◌, refl, sym, ap, ◌∙◌, arith, add-one, append_assoc, append-nil}
use Rattle.std.specs.Prelude.{if◌then◌else◌}
use Rattle.mon_code.specs.Programs.{Parts}
use Rattle.mon_frames.specs.Views.{FramesView}
use Rattle.mon_machine.specs.declared.mode.Mode.{Mode}
use Rattle.mon_machine.specs.State.{State, goes}
use Rattle.mon_machine.specs.Step.{step, in_mode}
use Rattle.mon_machine.specs.Run.{after_steps, steps_done, printed_by}
use Rattle.mon_machine.specs.Laws.{RunsAddUp}
use Rattle.mon_machine.proofs.Runs.{after_steps_sum, stands_still, stands_still_on}

pub printed_none : (p : Parts) (s : State) → printed_by p s 0 ≡ []
unfolding printed_by
printed_none p s = refl

pub printed_more : (p : Parts) (s : State) (n : ℕ) → printed_by p s (n + 1) ≡ (step p s).printed ++ printed_by p (step p s).after n
unfolding printed_by
printed_more p s n = rw add-one refl

-- one step more at the end
pub printed_last : (p : Parts) (s : State) (n : ℕ) → printed_by p s (n + 1) ≡ printed_by p s n ++ (step p (after_steps p s n)).printed
unfolding printed_by after_steps
printed_last p s zero = append-nil (step p s).printed
printed_last p s (suc n) =
    let here = (step p s).printed in
    let t : State = (step p s).after in
    printed_more p s (suc n)
    ∙ ap (λ (k : ℕ). here ++ printed_by p t k) (sym (add-one n))
    ∙ ap (λ (texts : List (List ℕ)). here ++ texts) (printed_last p t n)
    ∙ sym (append_assoc here (printed_by p t n) (step p (after_steps p t n)).printed)

nothing_printed : (p : Parts) (v : FramesView) (m : Mode) → goes m ≡ false → (in_mode p v m).printed ≡ []
nothing_printed p v Mode.Run e = let h : true ≡ false = e in cc
nothing_printed p v (Mode.Unwind x) e = let h : true ≡ false = e in cc
nothing_printed p v (Mode.Finish a) e = let h : true ≡ false = e in cc
nothing_printed p v (Mode.Ended outcome) e = refl
nothing_printed p v Mode.Stuck e = refl

-- a state that does not go on prints nothing
prints_nothing : (p : Parts) (s : State) → goes s.mode ≡ false → (step p s).printed ≡ []
unfolding step
prints_nothing p s e = nothing_printed p s.frames s.mode e

pub printed_ended : (p : Parts) (s : State) (n : ℕ) → goes s.mode ≡ false → printed_by p s n ≡ []
unfolding printed_by
printed_ended p s zero e = refl
printed_ended p s (suc n) e =
    ap (λ (texts : List (List ℕ)). texts ++ printed_by p (step p s).after n) (prints_nothing p s e)
    ∙ ap (λ (t : State). printed_by p t n) (stands_still p s e) ∙ printed_ended p s n e

-- so the steps that it does print all
pub printed_done : (p : Parts) (s : State) (n : ℕ) → printed_by p s (steps_done p s n) ≡ printed_by p s n
unfolding printed_by steps_done
printed_done p s zero = refl
printed_done p s (suc n) = pick (goes s.mode) refl (printed_done p (step p s).after n)
  where
    pick : (b : Bool) → goes s.mode ≡ b → printed_by p (step p s).after (steps_done p (step p s).after n) ≡ printed_by p (step p s).after n
        → printed_by p s (if b then steps_done p (step p s).after n + 1 else 0) ≡ (step p s).printed ++ printed_by p (step p s).after n
    pick true e h = printed_more p s (steps_done p (step p s).after n) ∙ ap (λ (texts : List (List ℕ)). (step p s).printed ++ texts) h
    pick false e h = sym (printed_ended p s (suc n) e)

-- what some steps print, and then some more
printed_sum : (p : Parts) (s : State) (m n : ℕ) → printed_by p s (m + n) ≡ printed_by p s m ++ printed_by p (after_steps p s m) n
unfolding printed_by after_steps
printed_sum p s zero n =
    let e : 0 + n ≡ n = omega arith in
    ap (λ (k : ℕ). printed_by p s k) e
printed_sum p s (suc m) n =
    let e : suc m + n ≡ suc (m + n) = omega arith in
    let here = (step p s).printed in
    let t : State = (step p s).after in
    ap (λ (k : ℕ). printed_by p s k) e
    ∙ ap (λ (texts : List (List ℕ)). here ++ texts) (printed_sum p t m n)
    ∙ sym (append_assoc here (printed_by p t m) (printed_by p (after_steps p t m) n))

pub runs_add_up : RunsAddUp
runs_add_up p s m n = record {
  state = after_steps_sum p s m n;
  printed = printed_sum p s m n;
  still = λ e. after_steps_sum p s m n ∙ stands_still_on p (after_steps p s m) n e;
  silent = λ e. printed_sum p s m n ∙ ap (λ (texts : List (List ℕ)). printed_by p s m ++ texts) (printed_ended p (after_steps p s m) n e) ∙ append-nil (printed_by p s m);
}
