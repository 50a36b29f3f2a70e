-- A thread goes on step by step.
use Rattle.std.proofs.Common.{◌≡◌, ℕ, zero, suc, ◌+◌, ◌<◌, ◌≤◌, nat_lt, Bool, true, false, cond, List, [], ◌∷◌, ◌++◌, length, take, get_or, refl, sym, ap, ◌∙◌, subst, arith, length-append, append-nil, append_assoc}
use mathlib.Core.Logic.{dite}
use native.Mathlib.Decide.{ℕ_discrete}
use Rattle.std.proofs.lemmas.List.{take-append-le}
use Rattle.mon_words.specs.declared.history.Board.{Board}
use Rattle.mon_words.specs.declared.tally.Retirement.{Retirement}
use Rattle.mon_words.specs.History.{after}
use Rattle.mon_recorders.proofs.Spans.{in_turn_none, turn_more, get_front, get_last, between_get}
use Rattle.mon_interp.specs.Retires.{Loaded, not_loaded, tries_of, IsLawful, RetiredOnce, RetiredBy, Retired}
use Rattle.std.specs.Prelude.{None}
use Rattle.std.proofs.lemmas.Bool.Decides.{nat_tests}
use Rattle.mon_code.specs.Programs.{Parts}
use Rattle.mon_words.specs.Told.{Told, Polls}
use Rattle.mon_words.specs.declared.history.Mark.{Mark}
use Rattle.mon_machine.specs.declared.mode.Mode.{Mode}
use Rattle.mon_machine.specs.State.{State, goes}
use Rattle.mon_machine.specs.Run.{after_steps}
use Rattle.mon_machine.specs.Advances.{Progress, RanStep, Ran, Polled, PolledOnce, Stays, Advanced, instruction_due, is_asked, board_at}
use Rattle.mon_machine.proofs.Advancing.{ran_none, ran_more, ran_polled, polled_none, polled_more, stays_refl, stays_trans, advanced, advanced_asked, first_more, not_asked}
use Rattle.mon_interp.specs.declared.thread.Stop.{Stop}
use Rattle.mon_interp.specs.Threads.{stop_due}
use Rattle.mon_interp.specs.Machines.{StepOrStop}

-- ---- what was retired

retired_none : (p : Parts) (s : State) (a : Told) → RetiredBy p s [] a a
retired_none p s a = record {
  loaded = [];
  count = refl;
  lawful = λ k h. absurd (omega (arith, h));
  tries = sym (ap (λ (z : List Retirement). a.tally.retirements ++ z) (in_turn_none _) ∙ append-nil a.tally.retirements);
}

loaded_front : (xs : List Loaded) (y : Loaded) (k : ℕ) → k < length xs → get_or (xs ++ y ∷ []) k not_loaded ≡ get_or xs k not_loaded
loaded_front [] y k h = absurd (omega arith)
loaded_front (x ∷ xs) y zero h = refl
loaded_front (x ∷ xs) y (suc k) h = loaded_front xs y k (omega arith)

loaded_last : (xs : List Loaded) (y : Loaded) (n : ℕ) → length xs ≡ n → get_or (xs ++ y ∷ []) n not_loaded ≡ y
loaded_last [] y n e = ap (λ k. get_or (y ∷ []) k not_loaded) (sym e)
loaded_last (x ∷ xs) y n e = ap (λ k. get_or (x ∷ (xs ++ y ∷ [])) k not_loaded) (sym e) ∙ loaded_last xs y (length xs) refl

retired_more : (p : Parts) (at : List ℕ) (next : ℕ) (a b c : Told) (old mid new : Progress) → Ran p at a b old mid → (more : List Mark) → c.seen ≡ b.seen ++ more → RetiredBy p old.state at a b → RetiredOnce p mid.state next b c → RetiredBy p old.state (at ++ next ∷ []) a c
retired_more p at next a b c old mid new r more grown h s =
    let n : ℕ = length at in
    let long : length (at ++ next ∷ []) ≡ n + 1 = length-append at (next ∷ []) in
    let there : State = after_steps p old.state n in
    let loaded : List Loaded = h.loaded ++ s.loaded ∷ [] in
    let last : get_or loaded n not_loaded ≡ s.loaded = loaded_last h.loaded s.loaded n h.count in
    let front : (k : ℕ) → k < n → get_or loaded k not_loaded ≡ get_or h.loaded k not_loaded = λ k l. loaded_front h.loaded s.loaded k (subst (λ j. k < j) (sym h.count) l) in
    let old_lawful : (k : ℕ) → k < n → IsLawful (instruction_due p (after_steps p old.state k)) (board_at a.first c.seen (get_or (at ++ next ∷ []) k 0)) (get_or loaded k not_loaded).word = λ k l.
    subst (λ (x : List Mark × ℕ). IsLawful (instruction_due p (after_steps p old.state k)) (after a.first x.0) x.1)
    (λ i. (sym (ap (λ j. take j c.seen) (get_front at (next ∷ []) k l) ∙ (ap (take (get_or at k 0)) grown ∙ take-append-le (get_or at k 0) b.seen more (between_get (length a.seen) at (length b.seen) k r.span.between l))) i, (sym (front k l) i).word))
    (h.lawful k l) in
    let new_lawful : IsLawful (instruction_due p there) (board_at a.first c.seen (get_or (at ++ next ∷ []) n 0)) (get_or loaded n not_loaded).word =
    subst (λ (x : State × Board × ℕ × ℕ). IsLawful (instruction_due p x.0) (board_at x.1 c.seen x.2) x.3) (λ i. (r.state i, r.first i, sym (get_last at next) i, (sym last i).word)) s.lawful in
    record {
      loaded = loaded;
      count = length-append h.loaded (s.loaded ∷ []) ∙ (ap (λ k. k + 1) h.count ∙ sym long);
      lawful = λ k l. dite (ℕ_discrete k n)
          (λ is. subst (λ j. IsLawful (instruction_due p (after_steps p old.state j)) (board_at a.first c.seen (get_or (at ++ next ∷ []) j 0)) (get_or loaded j not_loaded).word) (sym is) new_lawful)
          (λ ne. old_lawful k (omega (arith, l, long, ne)));
      tries = s.tries
          ∙ ((λ i. h.tries i ++ tries_of (instruction_due p (r.state i)) s.loaded)
          ∙ (append_assoc a.tally.retirements _ (tries_of (instruction_due p there) s.loaded)
          ∙ ap (λ (z : List Retirement). a.tally.retirements ++ z)
          (sym (turn_more _ _ n (length (at ++ next ∷ [])) (tries_of (instruction_due p there) s.loaded) long
          (λ k l. ap (λ (x : Loaded). tries_of (instruction_due p (after_steps p old.state k)) x) (front k l))
          (ap (λ (x : Loaded). tries_of (instruction_due p there) x) last)))));
    }

-- so many steps were done
pub record Going (p : Parts) (turn : ℕ) (a b : Told) (old new : Progress) : Type 0 where
  pub at : List ℕ
  pub ran : Ran p at a b old new
  pub polled : Polled p old.state (length at) false a b
  pub count : length at ≡ turn
  pub unwinds : instruction_due p old.state ≡ None → get_or at 0 (length a.seen) ≡ length a.seen
  pub still : at ≡ [] → b.seen ≡ a.seen
  pub stays : Stays a b
  pub retired : RetiredBy p old.state at a b

pub going_none : (p : Parts) (a : Told) (x : Progress) → Going p 0 a a x x
going_none p a x = record {
  at = [];
  ran = ran_none p a x;
  polled = polled_none p x.state a;
  count = refl;
  unwinds = λ none. refl;
  still = λ e. refl;
  stays = stays_refl a;
  retired = retired_none p x.state a;
}

pub going_more : (p : Parts) (turn : ℕ) (a b c : Told) (old mid new : Progress) → Going p turn a b old mid → Stays b c → StepOrStop true p b c mid new → Going p (turn + 1) a c old new
going_more p turn a b c old mid new h stays step =
    let next : ℕ = step.0.at in
    let s : RanStep p next b c mid new = step.0.ran in
    record {
      at = h.at ++ next ∷ [];
      ran = ran_more p h.at next a b c old mid new h.ran stays s;
      polled = subst (λ n. Polled p old.state n false a c) (sym (length-append h.at (next ∷ []))) (polled_more p old.state (length h.at) a b c h.polled (subst (λ (t : State). PolledOnce p t b c) h.ran.state step.1));
      count = length-append h.at (next ∷ []) ∙ ap (λ n. n + 1) h.count;
      unwinds = λ none. first_more a h.at next (λ e. s.unwinds (ap (instruction_due p) (h.ran.state ∙ ap (λ (l : List ℕ). after_steps p old.state (length l)) e ∙ Rattle.mon_machine.proofs.Runs.after_steps_none p old.state) ∙ none) ∙ ap (λ (l : List Mark). length l) (h.still e)) (h.unwinds none);
      still = λ e. absurd (omega (arith, ap length e, length-append h.at (next ∷ [])));
      stays = stays_trans a b c h.stays stays;
      retired = retired_more p h.at next a b c old mid new h.ran s.reads.more s.reads.grown h.retired step.0.retired;
    }

pub going_retired : (p : Parts) (turn : ℕ) (a b : Told) (old new : Progress) → Going p turn a b old new → Retired p a b old new
going_retired p turn a b old new h = record { at = h.at; ran = h.ran; retired = h.retired }

pub asked_retired : (p : Parts) (turn : ℕ) (a b c : Told) (old mid new : Progress) → Going p turn a b old mid → StepOrStop false p b c mid new → Retired p a c old new
asked_retired p turn a b c old mid new h stop =
    let poll : Polls b true c = stop.1 in
    subst (λ (x : Progress). Retired p a c old x) (sym stop.0) (record {
      at = h.at;
      ran = ran_polled p h.at a b c old mid true h.ran poll;
      retired = record {
        loaded = h.retired.loaded;
        count = h.retired.count;
        lawful = λ k l. subst (λ (w : List Mark). IsLawful (instruction_due p (after_steps p old.state k)) (board_at a.first w (get_or h.at k 0)) (get_or h.retired.loaded k not_loaded).word) (sym (ap (λ (t : Told). t.seen) poll.rest)) (h.retired.lawful k l);
        tries = ap (λ (t : Told). t.tally.retirements) poll.rest ∙ h.retired.tries;
      };
    })

-- all steps were done, or the thread has ended
pub going_last : (p : Parts) (turn steps : ℕ) (a b : Told) (old new : Progress) → Going p turn a b old new → turn ≤ steps → (goes new.state.mode ≡ true → turn ≡ steps) → Advanced p steps a b old new
going_last p turn steps a b old new h within all =
    advanced p steps h.at a b old new h.ran h.polled (omega (arith, within, h.count)) h.unwinds (λ on. h.count ∙ all on)

-- or it was asked to stop
pub going_asked : (p : Parts) (turn steps : ℕ) (a b c : Told) (old mid new : Progress) → Going p turn a b old mid → turn < steps → goes mid.state.mode ≡ true → StepOrStop false p b c mid new → Advanced p steps a c old new
going_asked p turn steps a b c old mid new h within on stop =
    subst (λ (x : Progress). Advanced p steps a c old x) (sym stop.0)
    (advanced_asked p steps h.at a b c old mid h.ran h.polled stop.1 (omega (arith, within, h.count)) h.unwinds on stop.2)

less_more : (x y : ℕ) → y ≡ x + 1 → nat_lt x y ≡ true
less_more x y e = grind (arith, nat_tests)

was_asked : (p : Parts) (turn : ℕ) (a b c : Told) (old mid new : Progress) → Going p turn a b old mid → StepOrStop false p b c mid new → is_asked a c ≡ true
was_asked p turn a b c old mid new h stop = less_more a.tally.polled c.tally.polled (ap (λ (t : Told). t.tally.polled) stop.1.rest ∙ omega (arith, h.polled.polled))

pub stops_asked : (p : Parts) (turn : ℕ) (a b c : Told) (old mid new : Progress) → Going p turn a b old mid → goes mid.state.mode ≡ true → StepOrStop false p b c mid new → Stop.Asked ≡ stop_due (is_asked a c) new.state.mode
stops_asked p turn a b c old mid new h on stop =
    let asked : is_asked a c ≡ true = was_asked p turn a b c old mid new h stop in
    let goes_on : goes new.state.mode ≡ true = ap (λ (x : Progress). goes x.state.mode) stop.0 ∙ on in
    λ i. cond (sym goes_on i) (cond (sym asked i) Stop.Asked Stop.Spent) Stop.Ended

pub stops_ended : (asked : Bool) (mode : Mode) → goes mode ≡ false → Stop.Ended ≡ stop_due asked mode
stops_ended asked mode e = ap (λ b. cond b (cond asked Stop.Asked Stop.Spent) Stop.Ended) (sym e)

pub stops_spent : (p : Parts) (turn : ℕ) (a b : Told) (old new : Progress) → Going p turn a b old new → goes new.state.mode ≡ true → Stop.Spent ≡ stop_due (is_asked a b) new.state.mode
stops_spent p turn a b old new h on =
    let no : is_asked a b ≡ false = not_asked p old.state (length h.at) a b h.polled in
    λ i. cond (sym on i) (cond (sym no i) Stop.Asked Stop.Spent) Stop.Ended
