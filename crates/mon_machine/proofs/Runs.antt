-- Runs, step by step.
use Rattle.std.proofs.Common.{[], ◌≡◌, ℕ, zero, suc, ◌+◌, ◌-◌, ◌≤◌, Bool, true, false, refl, sym, ap, ◌∙◌, arith, add-one, subst}
use Rattle.std.specs.Prelude.{if◌then◌else◌}
use Rattle.mon_code.specs.Programs.{Parts}
use Rattle.mon_frames.specs.Views.{FramesView}
use Rattle.mon_machine.specs.declared.mode.Mode.{Mode}
use Rattle.mon_machine.specs.State.{State, goes, in_mode_of}
use Rattle.mon_machine.specs.Step.{step, in_mode}
use Rattle.mon_machine.specs.Run.{after_steps, steps_done, Goes}
use Rattle.mon_machine.specs.Laws.{GoesOnByOne}

pub after_steps_none : (p : Parts) (s : State) → after_steps p s 0 ≡ s
unfolding after_steps
after_steps_none p s = refl

pub after_steps_first : (p : Parts) (s : State) (n : ℕ) → after_steps p s (n + 1) ≡ after_steps p (step p s).after n
unfolding after_steps
after_steps_first p s n = rw add-one refl

-- some steps, and then some more
pub after_steps_sum : (p : Parts) (s : State) (m n : ℕ) → after_steps p s (m + n) ≡ after_steps p (after_steps p s m) n
unfolding after_steps
after_steps_sum p s zero n =
    let e : 0 + n ≡ n = omega arith in
    ap (λ (k : ℕ). after_steps p s k) e
after_steps_sum p s (suc m) n =
    let e : suc m + n ≡ suc (m + n) = omega arith in
    ap (λ (k : ℕ). after_steps p s k) e ∙ after_steps_sum p (step p s).after m n

-- one step more
pub one_more : (p : Parts) (s : State) (n : ℕ) → after_steps p s (n + 1) ≡ (step p (after_steps p s n)).after
unfolding after_steps
one_more p s n = after_steps_sum p s n 1

stands : (p : Parts) (v : FramesView) (m : Mode) → goes m ≡ false → (in_mode p v m).after ≡ in_mode_of v m
stands p v Mode.Run e = let h : true ≡ false = e in cc
stands p v (Mode.Unwind x) e = let h : true ≡ false = e in cc
stands p v (Mode.Finish a) e = let h : true ≡ false = e in cc
stands p v (Mode.Ended outcome) e = refl
stands p v Mode.Stuck e = refl

-- a state that does not go on stands still
pub stands_still : (p : Parts) (s : State) → goes s.mode ≡ false → (step p s).after ≡ s
unfolding step
stands_still p s e = stands p s.frames s.mode e

pub stands_still_on : (p : Parts) (s : State) (n : ℕ) → goes s.mode ≡ false → after_steps p s n ≡ s
unfolding after_steps
stands_still_on p s zero e = refl
stands_still_on p s (suc n) e = ap (λ (t : State). after_steps p t n) (stands_still p s e) ∙ stands_still_on p s n e

-- a thread that goes on before each of n steps does n of them
pub steps_done_goes : (p : Parts) (s : State) (n : ℕ) → Goes p s n → steps_done p s n ≡ n
unfolding steps_done Goes
steps_done_goes p s zero g = refl
steps_done_goes p s (suc n) g =
    let e : steps_done p (step p s).after n ≡ n = steps_done_goes p (step p s).after n g.1 in
    ap (λ (b : Bool). if b then steps_done p (step p s).after n + 1 else 0) g.0 ∙ omega (arith, e)

-- one that does not go on does none
pub steps_done_ended : (p : Parts) (s : State) (n : ℕ) → goes s.mode ≡ false → steps_done p s n ≡ 0
unfolding steps_done
steps_done_ended p s zero e = refl
steps_done_ended p s (suc n) e = ap (λ (b : Bool). if b then steps_done p (step p s).after n + 1 else 0) e

-- of some steps and then some more
pub steps_done_sum : (p : Parts) (s : State) (m n : ℕ) → Goes p s m → steps_done p s (m + n) ≡ m + steps_done p (after_steps p s m) n
unfolding steps_done Goes after_steps
steps_done_sum p s zero n g =
    let e : 0 + n ≡ n = omega arith in
    ap (λ (k : ℕ). steps_done p s k) e ∙ omega arith
steps_done_sum p s (suc m) n g =
    let e : suc m + n ≡ suc (m + n) = omega arith in
    let h : steps_done p (step p s).after (m + n) ≡ m + steps_done p (after_steps p (step p s).after m) n = steps_done_sum p (step p s).after m n g.1 in
    ap (λ (k : ℕ). steps_done p s k) e ∙ ap (λ (b : Bool). if b then steps_done p (step p s).after (m + n) + 1 else 0) g.0 ∙ omega (arith, h)

-- where it no more goes on after n steps, these are all that it ever does
pub steps_done_all : (p : Parts) (s : State) (n later : ℕ) → Goes p s n → goes (after_steps p s n).mode ≡ false → n ≤ later → steps_done p s later ≡ n
steps_done_all p s n later g e h =
    let more : later ≡ n + (later - n) = omega arith in
    let none : steps_done p (after_steps p s n) (later - n) ≡ 0 = steps_done_ended p (after_steps p s n) (later - n) e in
    ap (λ (k : ℕ). steps_done p s k) more ∙ steps_done_sum p s n (later - n) g ∙ omega (arith, none)

-- and there it stays
pub after_steps_all : (p : Parts) (s : State) (n later : ℕ) → goes (after_steps p s n).mode ≡ false → n ≤ later → after_steps p s later ≡ after_steps p s n
after_steps_all p s n later e h =
    let more : later ≡ n + (later - n) = omega arith in
    ap (λ (k : ℕ). after_steps p s k) more ∙ after_steps_sum p s n (later - n) ∙ stands_still_on p (after_steps p s n) (later - n) e

pub goes_none : (p : Parts) (s : State) → Goes p s 0
unfolding Goes
goes_none p s = tt

pub goes_sum : (p : Parts) (s : State) (m n : ℕ) → Goes p s m → Goes p (after_steps p s m) n → Goes p s (m + n)
unfolding Goes after_steps
goes_sum p s zero n g h = subst (λ (k : ℕ). Goes p s k) (omega arith) h
goes_sum p s (suc m) n g h =
    let e : suc (m + n) ≡ suc m + n = omega arith in
    subst (λ (k : ℕ). Goes p s k) e (g.0, goes_sum p (step p s).after m n g.1 h)

goes_one : (p : Parts) (s : State) → goes s.mode ≡ true → Goes p s 1
unfolding Goes
goes_one p s e = (e, tt)

-- one step more, where it goes on
pub goes_one_more : (p : Parts) (s : State) (n : ℕ) → Goes p s n → goes (after_steps p s n).mode ≡ true → Goes p s (n + 1)
goes_one_more p s n g e = goes_sum p s n 1 g (goes_one p (after_steps p s n) e)

-- a thread goes on before each step that it does
pub goes_done : (p : Parts) (s : State) (n : ℕ) → Goes p s (steps_done p s n)
unfolding steps_done Goes
goes_done p s zero = tt
goes_done p s (suc n) = pick (goes s.mode) refl (goes_done p (step p s).after n)
  where
    pick : (b : Bool) → goes s.mode ≡ b → Goes p (step p s).after (steps_done p (step p s).after n) → Goes p s (if b then steps_done p (step p s).after n + 1 else 0)
    pick true e g = subst (λ (k : ℕ). Goes p s k) (sym (add-one (steps_done p (step p s).after n))) (e, g)
    pick false e g = tt

-- and is where it is after these
pub after_steps_done : (p : Parts) (s : State) (n : ℕ) → after_steps p s (steps_done p s n) ≡ after_steps p s n
unfolding steps_done after_steps
after_steps_done p s zero = refl
after_steps_done p s (suc n) = pick (goes s.mode) refl (after_steps_done p (step p s).after n)
  where
    pick : (b : Bool) → goes s.mode ≡ b → after_steps p (step p s).after (steps_done p (step p s).after n) ≡ after_steps p (step p s).after n
        → after_steps p s (if b then steps_done p (step p s).after n + 1 else 0) ≡ after_steps p (step p s).after n
    pick true e h = after_steps_first p s (steps_done p (step p s).after n) ∙ h
    pick false e h = sym (stands_still_on p s (suc n) e)

pub steps_done_within : (p : Parts) (s : State) (n : ℕ) → steps_done p s n ≤ n
unfolding steps_done
steps_done_within p s zero = omega arith
steps_done_within p s (suc n) = pick (goes s.mode) (steps_done_within p (step p s).after n)
  where
    pick : (b : Bool) → steps_done p (step p s).after n ≤ n → (if b then steps_done p (step p s).after n + 1 else 0) ≤ suc n
    pick true h = omega arith
    pick false h = omega arith

silent : (p : Parts) (v : FramesView) (m : Mode) → goes m ≡ false → (in_mode p v m).events ≡ []
silent p v Mode.Run e = let h : true ≡ false = e in cc
silent p v (Mode.Unwind x) e = let h : true ≡ false = e in cc
silent p v (Mode.Finish a) e = let h : true ≡ false = e in cc
silent p v (Mode.Ended outcome) e = refl
silent p v Mode.Stuck e = refl

-- nothing happens where a state does not go on
pub nothing_happens : (p : Parts) (s : State) → goes s.mode ≡ false → (step p s).events ≡ []
unfolding step
nothing_happens p s e = silent p s.frames s.mode e

-- a thread that goes on after n steps did them all
pub steps_done_on : (p : Parts) (s : State) (n : ℕ) → goes (after_steps p s n).mode ≡ true → steps_done p s n ≡ n
unfolding steps_done after_steps
steps_done_on p s zero on = refl
steps_done_on p s (suc n) on = pick (goes s.mode) refl (steps_done_on p (step p s).after n on)
  where
    pick : (b : Bool) → goes s.mode ≡ b → steps_done p (step p s).after n ≡ n → (if b then steps_done p (step p s).after n + 1 else 0) ≡ suc n
    pick true e rest = omega (arith, rest)
    pick false e rest =
        let same : after_steps p s (suc n) ≡ s = stands_still_on p s (suc n) e in
        let h : true ≡ false = sym on ∙ ap (λ (t : State). goes t.mode) same ∙ e in
        cc

pub is_run : GoesOnByOne
is_run p s n = record {
  one_more = one_more p s n;
  does = steps_done_goes p s n;
  no_more = λ g e later h. steps_done_all p s n later g e h;
  still = λ e later h. after_steps_all p s n later e h;
}
