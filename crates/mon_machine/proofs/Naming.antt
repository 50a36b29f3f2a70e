-- Each event names a code of the program.
use Rattle.std.proofs.Common.{◌≡◌, ℕ, ◌+◌, ◌<◌, ◌==◌, Bool, true, false, List, [], ◌∷◌, ◌++◌, length, refl}
use Rattle.std.specs.Prelude.{Option, Some, None, Result, Ok, Err, slice_get, if◌then◌else◌}
use Rattle.std.specs.List.{AllByRecursion}
use Rattle.std.proofs.lemmas.Option.{slice_get_within}
use Rattle.mon_values.specs.declared.value.Value.{Value}
use Rattle.mon_values.specs.declared.value.Exc.{Exc}
use Rattle.mon_events.specs.declared.event.Event.{Event}
use Rattle.mon_events.specs.declared.event.Slot.{Slot}
use Rattle.mon_events.specs.declared.op.Op.{Op}
use Rattle.mon_events.specs.Ops.{main_event}
use Rattle.mon_code.specs.declared.program.Code.{Code}
use Rattle.mon_code.specs.declared.program.Handler.{Handler}
use Rattle.mon_code.specs.declared.program.Location.{Location}
use Rattle.mon_code.specs.Programs.{Parts, op_at, location_at}
use Rattle.mon_code.specs.Checked.{IsChecked}
use Rattle.mon_frames.specs.declared.frame.Frame.{Frame}
use Rattle.mon_frames.specs.declared.call.Call.{Call}
use Rattle.mon_frames.specs.declared.call.By.TheVariants as by
use Rattle.mon_frames.specs.declared.generator.Generator.{Generator}
use Rattle.mon_frames.specs.declared.call.Origin.{Origin}
use Rattle.mon_frames.specs.declared.call.Origin.TheVariants.{Plain, Generator as Generated}
use Rattle.mon_frames.specs.Calls.{handler_due}
use Rattle.mon_frames.specs.Views.{FramesView, after_leaving}
use Rattle.mon_recorders.specs.declared.happening.Happening.{Happening}
use Rattle.mon_recorders.specs.declared.happening.Kind.TheVariants.{Local}
use Rattle.mon_machine.specs.declared.mode.Answer.{Answer}
use Rattle.mon_machine.specs.declared.mode.Mode.{Mode}
use Rattle.mon_machine.specs.declared.mode.Ending.{Ending}
use Rattle.mon_machine.specs.State.{State, Move, start, with_frame}
use Rattle.mon_machine.specs.Moves.{effect}
use Rattle.mon_machine.specs.Events.{Shown, shown, of_call, happens, offset, line_events, in_main, local_event, slot_events, ancillary_events, raise_events, instruction_events, answer_events}
use Rattle.mon_machine.specs.Step.{step, after_ending, in_mode, runs_top, in_code, at_location, with_line, goes_out, unwinds_from, finishes_at, finishes_in, finishes}
use Rattle.mon_machine.specs.Run.{after_steps}
use Rattle.mon_machine.specs.Laws.{NamesCode, EventsNameCodes}
use Rattle.mon_machine.proofs.Heard.{all_append}
use Rattle.mon_machine.proofs.Keeping.{IsOf, IsThrown, Waiting, HasTop, IsIn, Keeps}
use Rattle.mon_machine.proofs.Moving.{view}
use Rattle.mon_machine.proofs.Stepping.{step_steps}
use Rattle.mon_machine.proofs.Calls.{call_keeps}

-- a frame is one of a code of the program
named : (p : Parts) (f : Frame) (c : Code) → IsOf p c f → f.code < length p.codes
named p f c is = slice_get_within p.codes f.code c is.found

-- an exception that is thrown in goes to the top frame
abbrev Thrown : Parts → List Call → Ending → Type 0
Thrown p calls (Ending.ThrowsIn e) = HasTop p (IsThrown p) calls
Thrown p calls _ = Unit {0}

-- of a frame whose code is one of the program's
module _ (p : Parts) (location : ℕ) (f : Frame) (low : f.code < length p.codes) where
  line_named : (line last : Option ℕ) → AllByRecursion (NamesCode p) (line_events f location line last)
  line_named None last = tt
  line_named (Some n) None = (low, tt)
  line_named (Some n) (Some m) = pick (n == m)
    where
      pick : (b : Bool) → AllByRecursion (NamesCode p) (if b then [] else happens Event.Line (Local location Slot.Line) f n ∷ [])
      pick true = tt
      pick false = (low, tt)

  main_named : (event : Option Event) (s : Option Shown) → AllByRecursion (NamesCode p) (slot_events (in_main event s) location f)
  main_named None s = tt
  main_named (Some event) None = tt
  main_named (Some event) (Some s) = (low, tt)

  ancillary_named : (event : Option Event) (s : Shown) → AllByRecursion (NamesCode p) (ancillary_events event s location f)
  ancillary_named None s = tt
  ancillary_named (Some event) s = (low, tt)

  raise_named : (calls : List Call) (ending : Ending) → Thrown p calls ending → AllByRecursion (NamesCode p) (raise_events p f calls ending)
  raise_named calls Ending.Continues thrown = tt
  raise_named calls (Ending.Raises e) thrown = (low, tt)
  raise_named calls (Ending.Reraises e) thrown = (low, tt)
  raise_named calls (Ending.Returns x) thrown = tt
  raise_named calls (Ending.Yields x) thrown = tt
  raise_named calls Ending.Parks thrown = tt
  raise_named [] (Ending.ThrowsIn e) thrown = tt
  raise_named (call ∷ calls) (Ending.ThrowsIn e) thrown = (named p call.frame thrown.0.code thrown.0.is_of, (named p call.frame thrown.0.code thrown.0.is_of, tt))
  raise_named calls Ending.Misses thrown = tt

  instruction_named : (op : Op) (n : ℕ) (line : Option ℕ) (m : Move) → Thrown p m.frames.calls m.ending → AllByRecursion (NamesCode p) (instruction_events p op n location line f m)
  instruction_named op n line m thrown =
      let P : Happening → Type 0 = NamesCode p in
      let main = slot_events (local_event p op n f m) location f in
      let ancillary = ancillary_events m.ancillary (of_call p n f.stack) location f in
      let raised = raise_events p f m.frames.calls m.ending in
      let instruction = happens Event.Instruction (Local location Slot.Instruction) f (offset f) in
      all_append P (line_events f location line f.line) (instruction ∷ (main ++ (ancillary ++ raised))) (line_named line f.line) (
        low,
        all_append P main (ancillary ++ raised) (main_named (main_event op n) (shown p op n f m.frames.calls))
            (all_append P ancillary raised (ancillary_named m.ancillary (of_call p n f.stack)) (raise_named m.frames.calls m.ending thrown)),
      )

module _ (p : Parts) where
  answer_named : (a : Answer) (location : ℕ) (f : Frame) (r : Result Value Exc) → f.code < length p.codes → AllByRecursion (NamesCode p) (answer_events p a location f r)
  answer_named a location f (Ok x) low = (low, tt)
  answer_named a location f (Err e) low = (low, (low, tt))

  -- where an exception is thrown into a generator, its frame is next on top
  thrown_of : (m : Move) → IsIn p (after_ending p m.frames m.ending).frames (after_ending p m.frames m.ending).mode → Thrown p m.frames.calls m.ending
  thrown_of m = pick m.frames m.ending
    where
      pick : (v : FramesView) (ending : Ending) → IsIn p (after_ending p v ending).frames (after_ending p v ending).mode → Thrown p v.calls ending
      pick v (Ending.ThrowsIn e) is = is
      pick v Ending.Continues is = tt
      pick v (Ending.Raises e) is = tt
      pick v (Ending.Reraises e) is = tt
      pick v (Ending.Returns x) is = tt
      pick v (Ending.Yields x) is = tt
      pick v Ending.Parks is = tt
      pick v Ending.Misses is = tt

  located : (c : Code) (op : Option Op) (l : Option Location) (f : Frame) (v : FramesView) → f.code < length p.codes → IsIn p (at_location p c op l f v).after.frames (at_location p c op l f v).after.mode
      → AllByRecursion (NamesCode p) (at_location p c op l f v).events
  located c None l f v low is = tt
  located c (Some op) None f v low is = tt
  located c (Some op) (Some l) f v low is =
      let m : Move = effect p c op l.argument (with_line l.line f) (with_frame v (with_line l.line f)) in
      instruction_named p (c.first + f.index) f low op l.argument l.line m (thrown_of m is)

  coded : (c : Option Code) (f : Frame) (v : FramesView) → slice_get p.codes f.code ≡ c → IsIn p (in_code p c f v).after.frames (in_code p c f v).after.mode → AllByRecursion (NamesCode p) (in_code p c f v).events
  coded None f v e is = tt
  coded (Some c) f v e is = located c (op_at p.bases c.first f.index) (location_at c f.index) f v (slice_get_within p.codes f.code c e) is

  topped : (v : FramesView) (calls : List Call) → IsIn p (runs_top p v calls).after.frames (runs_top p v calls).after.mode → AllByRecursion (NamesCode p) (runs_top p v calls).events
  topped v [] is = tt
  topped v (call ∷ calls) is = coded (slice_get p.codes call.frame.code) call.frame v refl is

  out_named : (v : FramesView) (o : Origin) (calls : List Call) (e : Exc) (f : Frame) → f.code < length p.codes → Waiting p o calls → AllByRecursion (NamesCode p) (goes_out p v calls o e f).events
  out_named v o [] e f low w = (low, tt)
  out_named v Plain (call ∷ calls) e f low w = (low, (named p call.frame w.0.code w.0.is_of, tt))
  out_named v (Generated number by.For) (call ∷ calls) e f low w = (low, (named p call.frame w.0.code w.0.is_of, tt))
  out_named v (Generated number (by.Call builtin)) (call ∷ calls) e f low w = (low, tt)

  from_named : (f : Frame) (o : Origin) (below : List Call) (gs : List Generator) (its : List (List Value)) (e : Exc) (h : Option Handler) → f.code < length p.codes → Waiting p o below
      → AllByRecursion (NamesCode p) (unwinds_from p (view f o below gs its) o e f h).events
  from_named f o below gs its e (Some h) low w = (low, tt)
  from_named f o below gs its e None low w = out_named (record { calls = below; generators = after_leaving o gs; iterators = its }) o below e f low w

  finish_located : (v : FramesView) (a : Answer) (c : Code) (f : Frame) (l : Option Location) → f.code < length p.codes → AllByRecursion (NamesCode p) (finishes_at p v a c f l).events
  finish_located v a c f None low = tt
  finish_located v a c f (Some l) low = answer_named a (c.first + f.index) f a.result low

  finish_coded : (v : FramesView) (a : Answer) (c : Option Code) (f : Frame) → slice_get p.codes f.code ≡ c → AllByRecursion (NamesCode p) (finishes_in p v a c f).events
  finish_coded v a None f e = tt
  finish_coded v a (Some c) f e = finish_located v a c f (location_at c f.index) (slice_get_within p.codes f.code c e)

  finish_named : (v : FramesView) (a : Answer) (calls : List Call) → AllByRecursion (NamesCode p) (finishes p v a calls).events
  finish_named v a [] = tt
  finish_named v a (call ∷ calls) = finish_coded v a (slice_get p.codes call.frame.code) call.frame refl

  named_in : (calls : List Call) (gs : List Generator) (its : List (List Value)) (mode : Mode) → IsIn p (record { calls = calls; generators = gs; iterators = its }) mode
      → IsIn p (in_mode p (record { calls = calls; generators = gs; iterators = its }) mode).after.frames (in_mode p (record { calls = calls; generators = gs; iterators = its }) mode).after.mode
      → AllByRecursion (NamesCode p) (in_mode p (record { calls = calls; generators = gs; iterators = its }) mode).events
  named_in calls gs its Mode.Run is next = topped (record { calls = calls; generators = gs; iterators = its }) calls next
  named_in [] gs its (Mode.Unwind e) is next = absurd is
  named_in (call ∷ calls) gs its (Mode.Unwind e) is next =
      from_named call.frame call.origin calls gs its e (handler_due p call.frame.code call.frame.index) (named p call.frame is.0.code is.0.is_of) is.1
  named_in calls gs its (Mode.Finish a) is next = finish_named (record { calls = calls; generators = gs; iterators = its }) a calls
  named_in calls gs its (Mode.Ended outcome) is next = tt
  named_in calls gs its Mode.Stuck is next = tt

step_named : (p : Parts) (s : State) → Keeps p s → IsIn p (step p s).after.frames (step p s).after.mode → AllByRecursion (NamesCode p) (step p s).events
unfolding step
step_named p s k next = named_in p s.frames.calls s.frames.generators s.frames.iterators s.mode k.stands next

pub events_name_codes : EventsNameCodes
events_name_codes p k c args call n =
    let s : State = after_steps p (start c k args) n in
    let keeps : Keeps p s = call_keeps p k c args call n in
    step_named p s keeps (step_steps p s call.checked keeps).keeps.stands
