-- The events of a step stand at its location, and so do its loads.
use Rattle.std.proofs.Common.{◌≡◌, ℕ, zero, suc, ◌+◌, ◌==◌, Bool, true, false, cond, List, [], ◌∷◌, ◌++◌, length, get_or, refl, ap, ◌∙◌, append-nil}
use Rattle.std.specs.Prelude.{Option, Some, None, Result, Ok, Err, slice_get, if◌then◌else◌}
use Rattle.mon_values.specs.declared.value.Value.{Value}
use Rattle.mon_values.specs.declared.value.Exc.{Exc}
use Rattle.mon_events.specs.declared.event.Event.{Event}
use Rattle.mon_events.specs.declared.event.Slot.{Slot}
use Rattle.mon_events.specs.declared.op.Op.{Op}
use Rattle.mon_events.specs.Ops.{main_event}
use Rattle.mon_code.specs.declared.program.Code.{Code}
use Rattle.mon_code.specs.declared.program.Handler.{Handler}
use Rattle.mon_code.specs.declared.program.Location.{Location}
use Rattle.mon_code.specs.Programs.{Parts, op_at, location_at}
use Rattle.mon_frames.specs.declared.frame.Frame.{Frame}
use Rattle.mon_frames.specs.declared.call.By.TheVariants as by
use Rattle.mon_frames.specs.declared.call.Call.{Call}
use Rattle.mon_frames.specs.declared.call.Origin.{Origin}
use Rattle.mon_frames.specs.declared.call.Origin.TheVariants.{Plain, Generator as Generated}
use Rattle.mon_frames.specs.Calls.{handler_due}
use Rattle.mon_frames.specs.Views.{FramesView, without_top}
use Rattle.mon_words.specs.declared.history.Board.{Board}
use Rattle.mon_words.specs.declared.tally.Load.{Load}
use Rattle.mon_words.specs.Tallies.{location_loads}
use Rattle.mon_recorders.specs.declared.happening.Happening.{Happening}
use Rattle.mon_recorders.specs.declared.happening.Kind.{Kind}
use Rattle.mon_recorders.specs.declared.happening.Kind.TheVariants.{Local}
use Rattle.mon_recorders.specs.Happenings.{for_tools}
use Rattle.mon_recorders.specs.Readings.{in_turn}
use Rattle.mon_recorders.specs.Boards.{AreAt}
use Rattle.mon_machine.specs.declared.mode.Answer.{Answer}
use Rattle.mon_machine.specs.declared.mode.Mode.{Mode}
use Rattle.mon_machine.specs.declared.mode.Ending.{Ending}
use Rattle.mon_machine.specs.State.{State, Move, with_frame}
use Rattle.mon_machine.specs.Moves.{effect}
use Rattle.mon_machine.specs.Events.{Shown, shown, of_call, happens, offset, line_events, in_main, local_event, slot_events, ancillary_events, throw_events, raise_events, instruction_events, answer_events}
use Rattle.mon_machine.specs.Step.{step, in_mode, runs_top, in_code, at_location, with_line, goes_out, unwinds_from, unwinds, finishes_at, finishes_in, finishes}
use Rattle.mon_machine.specs.Run.{after_steps}
use Rattle.mon_machine.specs.Advances.{Due, due_at, due_in, due_in_top, unpolled, due_in_mode, instruction_due, any_global, any_enabled, loads_for, location_load, loads_of, board_at, loads_by}
use Rattle.mon_machine.specs.AdvanceLaws.{StandAt, EventsStandAtSteps, location_read, LoadsStandAtSteps}

at_append : (location : ℕ) (xs ys : List Happening) → AreAt location xs → AreAt location ys → AreAt location (xs ++ ys)
at_append location [] ys h k = k
at_append location (x ∷ xs) ys h k = (h.0, at_append location xs ys h.1 k)

module _ (p : Parts) (location : ℕ) (f : Frame) where
  line_at : (line last : Option ℕ) → AreAt location (line_events f location line last)
  line_at None last = tt
  line_at (Some n) None = (refl, tt)
  line_at (Some n) (Some m) = pick (n == m)
    where
      pick : (b : Bool) → AreAt location (if b then [] else happens Event.Line (Local location Slot.Line) f n ∷ [])
      pick true = tt
      pick false = (refl, tt)

  main_at : (event : Option Event) (s : Option Shown) → AreAt location (slot_events (in_main event s) location f)
  main_at None s = tt
  main_at (Some event) None = tt
  main_at (Some event) (Some s) = (refl, tt)

  ancillary_at : (event : Option Event) (s : Shown) → AreAt location (ancillary_events event s location f)
  ancillary_at None s = tt
  ancillary_at (Some event) s = (refl, tt)

  throw_at : (e : Exc) (calls : List Call) → AreAt location (throw_events p e calls)
  throw_at e [] = tt
  throw_at e (call ∷ calls) = (tt, (tt, tt))

  raise_at : (calls : List Call) (ending : Ending) → AreAt location (raise_events p f calls ending)
  raise_at calls Ending.Continues = tt
  raise_at calls (Ending.Raises e) = (tt, tt)
  raise_at calls (Ending.Reraises e) = (tt, tt)
  raise_at calls (Ending.Returns x) = tt
  raise_at calls (Ending.Yields x) = tt
  raise_at calls Ending.Parks = tt
  raise_at calls (Ending.ThrowsIn e) = throw_at e calls
  raise_at calls Ending.Misses = tt

  -- of a call that has its answer
  pub answer_at : (a : Answer) (r : Result Value Exc) → AreAt location (answer_events p a location f r)
  answer_at a (Ok x) = (refl, tt)
  answer_at a (Err e) = (refl, (tt, tt))

  -- of an instruction
  pub instruction_at : (op : Op) (n : ℕ) (line : Option ℕ) (m : Move) → AreAt location (instruction_events p op n location line f m)
  instruction_at op n line m =
      let main = slot_events (local_event p op n f m) location f in
      let ancillary = ancillary_events m.ancillary (of_call p n f.stack) location f in
      let raised = raise_events p f m.frames.calls m.ending in
      let instruction = happens Event.Instruction (Local location Slot.Instruction) f (offset f) in
      at_append location (line_events f location line f.line) (instruction ∷ (main ++ (ancillary ++ raised))) (line_at line f.line) (
        refl,
        at_append location main (ancillary ++ raised) (main_at (main_event op n) (shown p op n f m.frames.calls))
            (at_append location ancillary raised (ancillary_at m.ancillary (of_call p n f.stack)) (raise_at m.frames.calls m.ending)),
      )

IsGlobal : Happening → Type 0
IsGlobal e = e.kind ≡ Kind.Global

module _ (p : Parts) where
  located : (c : Code) (op : Option Op) (l : Option Location) (f : Frame) (v : FramesView) → StandAt (due_at (c.first + f.index) l) (at_location p c op l f v).events
  located c None None f v = tt
  located c None (Some l) f v = tt
  located c (Some op) None f v = tt
  located c (Some op) (Some l) f v = instruction_at p (c.first + f.index) f op l.argument l.line (effect p c op l.argument (with_line l.line f) (with_frame v (with_line l.line f)))

  coded : (c : Option Code) (f : Frame) (v : FramesView) → StandAt (due_in c f.index) (in_code p c f v).events
  coded None f v = tt
  coded (Some c) f v = located c (op_at p.bases c.first f.index) (location_at c f.index) f v

  topped : (v : FramesView) (calls : List Call) → StandAt (due_in_top p calls) (runs_top p v calls).events
  topped v [] = tt
  topped v (call ∷ calls) = coded (slice_get p.codes call.frame.code) call.frame v

  out_global : (v : FramesView) (calls : List Call) (o : Origin) (e : Exc) (f : Frame) → StandAt None (goes_out p v calls o e f).events
  out_global v [] o e f = (refl, tt)
  out_global v (call ∷ calls) (Generated number (by.Call builtin)) e f = (refl, tt)
  out_global v (call ∷ calls) (Generated number by.For) e f = (refl, (refl, tt))
  out_global v (call ∷ calls) Plain e f = (refl, (refl, tt))

  from_global : (v : FramesView) (o : Origin) (e : Exc) (f : Frame) (h : Option Handler) → StandAt None (unwinds_from p v o e f h).events
  from_global v o e f (Some h) = (refl, tt)
  from_global v o e f None = out_global (without_top v) (without_top v).calls o e f

  unwinds_global : (v : FramesView) (e : Exc) (calls : List Call) → StandAt None (unwinds p v e calls).events
  unwinds_global v e [] = tt
  unwinds_global v e (call ∷ calls) = from_global v call.origin e call.frame (handler_due p call.frame.code call.frame.index)

  finish_located : (v : FramesView) (a : Answer) (c : Code) (f : Frame) (l : Option Location) → StandAt (unpolled (due_at (c.first + f.index) l)) (finishes_at p v a c f l).events
  finish_located v a c f None = tt
  finish_located v a c f (Some l) = answer_at p (c.first + f.index) f a a.result

  finish_coded : (v : FramesView) (a : Answer) (c : Option Code) (f : Frame) → StandAt (unpolled (due_in c f.index)) (finishes_in p v a c f).events
  finish_coded v a None f = tt
  finish_coded v a (Some c) f = finish_located v a c f (location_at c f.index)

  finish_topped : (v : FramesView) (a : Answer) (calls : List Call) → StandAt (unpolled (due_in_top p calls)) (finishes p v a calls).events
  finish_topped v a [] = tt
  finish_topped v a (call ∷ calls) = finish_coded v a (slice_get p.codes call.frame.code) call.frame

  stand_in : (v : FramesView) (mode : Mode) → StandAt (due_in_mode p v.calls mode) (in_mode p v mode).events
  stand_in v Mode.Run = topped v v.calls
  stand_in v (Mode.Unwind e) = unwinds_global v e v.calls
  stand_in v (Mode.Finish a) = finish_topped v a v.calls
  stand_in v (Mode.Ended outcome) = tt
  stand_in v Mode.Stuck = tt

pub events_stand : EventsStandAtSteps
unfolding step instruction_due
events_stand p s = stand_in p s.frames s.mode

-- ---- loads of locations

loads_append : (xs ys : List Load) → location_loads (xs ++ ys) ≡ location_loads xs ++ location_loads ys
loads_append [] ys = refl
loads_append (Load.Location location at ∷ xs) ys = ap (λ z. (location, at) ∷ z) (loads_append xs ys)
loads_append (Load.Global ∷ xs) ys = loads_append xs ys
loads_append (Load.Callbacks tool ∷ xs) ys = loads_append xs ys

callbacks_none : (test : ℕ → Bool) (n : ℕ) → location_loads (for_tools test Load.Callbacks n) ≡ []
unfolding for_tools
callbacks_none test zero = refl
callbacks_none test (suc n) = loads_append (for_tools test Load.Callbacks n) (cond (test n) (Load.Callbacks n ∷ []) []) ∙ (let a = callbacks_none test n in let b = one (test n) in λ i. a i ++ b i)
  where
    one : (b : Bool) → location_loads (cond b (Load.Callbacks n ∷ []) []) ≡ []
    one true = refl
    one false = refl

words_none : (b : Board) (es : List Happening) → location_loads (loads_for b es) ≡ []
words_none b es = loads_append (cond (any_global es) (Load.Global ∷ []) []) (for_tools (λ t. any_enabled b t es) Load.Callbacks 6)
    ∙ (let a = one (any_global es) in let c = callbacks_none (λ t. any_enabled b t es) 6 in λ i. a i ++ c i)
  where
    one : (x : Bool) → location_loads (cond x (Load.Global ∷ []) []) ≡ []
    one true = refl
    one false = refl

step_loads : (p : Parts) (s : State) (b : Board) (at : ℕ) → location_loads (loads_of p s b at) ≡ location_read (instruction_due p s) at
step_loads p s b at =
    loads_append (location_load (instruction_due p s) at) (loads_for b (step p s).events)
    ∙ (ap (λ z. location_loads (location_load (instruction_due p s) at) ++ z) (words_none b (step p s).events)
    ∙ (append-nil (location_loads (location_load (instruction_due p s) at)) ∙ one (instruction_due p s)))
  where
    one : (due : Option Due) → location_loads (location_load due at) ≡ location_read due at
    one None = refl
    one (Some due) = refl

turns : (f : ℕ → List Load) (g : ℕ → List (ℕ × ℕ)) (n : ℕ) → ((k : ℕ) → location_loads (f k) ≡ g k) → location_loads (in_turn f n) ≡ in_turn g n
unfolding in_turn
turns f g zero h = refl
turns f g (suc n) h = loads_append (in_turn f n) (f n) ∙ (let a = turns f g n h in let b = h n in λ i. a i ++ b i)

pub loads_stand : LoadsStandAtSteps
loads_stand p at a b old new r =
    ap location_loads r.loads
    ∙ (loads_append a.tally.loads (loads_by p old.state a.first b.seen at (length at))
    ∙ ap (λ z. location_loads a.tally.loads ++ z) (turns _ _ (length at) (λ k. step_loads p (after_steps p old.state k) (board_at a.first b.seen (get_or at k 0)) (get_or at k 0))))
