-- A step keeps how the frames of a thread stand, its LINE events stand at marked locations, and all stand where their kinds say.
use Rattle.std.proofs.Common.{◌≡◌, ℕ, ◌+◌, true, ◌⊎◌, List, [], ◌∷◌, ◌++◌, length, refl, sym, ap, subst, ◌∙◌}
use Rattle.std.specs.Prelude.{Option, Some, None, Result, Ok, Err, slice_get, slice_set}
use Rattle.std.specs.List.{AllByRecursion}
use Rattle.mon_values.specs.declared.value.Value.{Value, Gen, Done}
use Rattle.mon_values.specs.declared.value.Exc.{Exc}
use Rattle.mon_events.specs.declared.op.Op.{Op}
use Rattle.mon_code.specs.declared.program.Code.{Code}
use Rattle.mon_code.specs.declared.program.Handler.{Handler}
use Rattle.mon_code.specs.declared.program.Location.{Location}
use Rattle.mon_code.specs.Programs.{Parts, op_at, location_at, handler_at}
use Rattle.mon_code.specs.Checked.{IsChecked, HasOp, is_target}
use Rattle.mon_code.specs.Sites.{sites_of}
use Rattle.mon_recorders.specs.Proper.{AreProper}
use Rattle.mon_frames.specs.declared.frame.Frame.{Frame}
use Rattle.mon_frames.specs.declared.call.Call.{Call}
use Rattle.mon_frames.specs.declared.call.By.{By}
use Rattle.mon_frames.specs.declared.call.By.TheVariants as by
use Rattle.mon_frames.specs.declared.generator.Generator.{Generator}
use Rattle.mon_frames.specs.declared.generator.Generator.TheVariants.{NotStarted, Suspended, Finished}
use Rattle.mon_frames.specs.declared.call.Origin.{Origin}
use Rattle.mon_frames.specs.declared.call.Origin.TheVariants.{Plain, Generator as Generated}
use Rattle.mon_frames.specs.Calls.{handler_in, handler_due}
use Rattle.mon_frames.specs.Views.{FramesView, after_leaving}
use Rattle.mon_machine.specs.declared.mode.Answer.{Answer}
use Rattle.mon_machine.specs.declared.mode.Mode.{Mode}
use Rattle.mon_machine.specs.declared.mode.Ending.{Ending}
use Rattle.mon_machine.specs.State.{State, Move}
use Rattle.mon_machine.specs.Moves.{effect}
use Rattle.mon_machine.specs.Events.{line_after}
use Rattle.mon_machine.specs.Giving.{in_code_at, stands_at, takes_value, gives_caller, stop_with, gives_returned, leaves, gives_yielded, yields_from, parks_from}
use Rattle.mon_machine.specs.Step.{Step, after_ending, with_line, at_location, in_code, goes_out, unwinds_from, finished, finishes_at, finishes_in, finishes, in_mode, step}
use Rattle.mon_machine.specs.Laws.{MarksLine}
use Rattle.mon_machine.proofs.Fitting.{line_before, known_at, FoundAt, found_at, checked_code}
use Rattle.mon_machine.proofs.Keeping.{Follows, IsOf, IsAt, IsThrown, Waits, Comes, generates, op_below, Waiting, IsIn, Idle, AllIdle, Keeps, Works, idle_set, gets_value, gets_exception, is_caught}
use Rattle.mon_machine.proofs.Heard.{all_append}
use Rattle.mon_machine.proofs.Moving.{view, Parks, Yields, Ends, Moves, effect_moves}
use Rattle.mon_machine.proofs.Lines.{instruction_marked, unwinds_marked, answer_marked}
use Rattle.mon_machine.proofs.Proper.{effect_none, instruction_proper, unwinds_proper, answer_proper}

-- the frame that made a call gets its value
stands_in : (p : Parts) (op : Op) (o : Origin) (f : Frame) (w : Waits p op o f) → stands_at p f ≡ Some w.location
stands_in p op o f w = ap (λ (c : Option Code). in_code_at c f.index) w.is_of.found ∙ w.stands

gives_keeps : (p : Parts) (above : Origin) (calls : List Call) (gens : List Generator) (its : List (List Value)) (x : Value) → AllIdle p gens → Waiting p above calls
    → Keeps p (gives_caller p (record { calls = calls; generators = gens; iterators = its }) calls x)
gives_keeps p above [] gens its x idle waiting = record { generators = idle; stands = tt }
gives_keeps p above (call ∷ calls) gens its x idle waiting =
    subst (λ (l : Option Location). Keeps p (takes_value (record { calls = call ∷ calls; generators = gens; iterators = its }) call.frame x l)) (sym (stands_in p (op_below above) call.origin call.frame waiting.0))
    (record { generators = idle; stands = (gets_value p (op_below above) call.origin call.frame x waiting.0, waiting.1) })

-- a generator's frame leaves the stack, and the generator is finished or suspended
after_leaving_idle : (p : Parts) (o : Origin) (gens : List Generator) → AllIdle p gens → AllIdle p (after_leaving o gens)
after_leaving_idle p Plain gens idle = idle
after_leaving_idle p (Generated number by) gens idle = idle_set p gens number Finished idle tt

returned_keeps : (p : Parts) (o : Origin) (caller : Call) (calls : List Call) (gens : List Generator) (its : List (List Value)) (x : Value) → AllIdle p gens → Waiting p o (caller ∷ calls)
    → Keeps p (gives_returned p (record { calls = caller ∷ calls; generators = gens; iterators = its }) o x)
returned_keeps p Plain caller calls gens its x idle waiting = gives_keeps p Plain (caller ∷ calls) gens its x idle waiting
returned_keeps p (Generated number by.For) caller calls gens its x idle waiting = gives_keeps p (Generated number by.For) (caller ∷ calls) gens its (Done (Some (stop_with x))) idle waiting
returned_keeps p (Generated number (by.Call builtin)) caller calls gens its x idle waiting = record { generators = idle; stands = waiting }

leaves_keeps : (p : Parts) (f : Frame) (o : Origin) (below : List Call) (gens : List Generator) (its : List (List Value)) (x : Value) → AllIdle p gens → Waiting p o below
    → Keeps p (leaves p (view f o below gens its) (record { frame = f; origin = o } ∷ below) x)
leaves_keeps p f o [] gens its x idle waiting = record { generators = after_leaving_idle p o gens idle; stands = tt }
leaves_keeps p f o (caller ∷ calls) gens its x idle waiting = returned_keeps p o caller calls (after_leaving o gens) its x (after_leaving_idle p o gens idle) waiting

yielded_keeps : (p : Parts) (number : ℕ) (by : By) (caller : Call) (calls : List Call) (gens : List Generator) (its : List (List Value)) (x : Value) → AllIdle p gens → Waiting p (Generated number by) (caller ∷ calls)
    → Keeps p (gives_yielded p (record { calls = caller ∷ calls; generators = gens; iterators = its }) number by x)
yielded_keeps p number by.For caller calls gens its x idle waiting = gives_keeps p (Generated number by.For) (caller ∷ calls) gens its x idle waiting
yielded_keeps p number (by.Call builtin) caller calls gens its x idle waiting = record { generators = idle; stands = waiting }

yields_keeps : (p : Parts) (f : Frame) (o : Origin) (below : List Call) (gens : List Generator) (its : List (List Value)) (x : Value) → AllIdle p gens → Yields p o f → Waiting p o below
    → Keeps p (yields_from p (view f o below gens its) o below x)
yields_keeps p f Plain below gens its x idle yields waiting = absurd yields.0
yields_keeps p f (Generated number by) [] gens its x idle yields waiting = record { generators = idle_set p gens number (Suspended f) idle yields.1; stands = tt }
yields_keeps p f (Generated number by) (caller ∷ calls) gens its x idle yields waiting =
    yielded_keeps p number by caller calls (slice_set gens number (Suspended f)) its x (idle_set p gens number (Suspended f) idle yields.1) waiting

parks_keeps : (p : Parts) (f : Frame) (o : Origin) (below : List Call) (gens : List Generator) (its : List (List Value)) → AllIdle p gens → Parks p o f → Waiting p o below
    → Keeps p (parks_from p (view f o below gens its) o)
parks_keeps p f Plain below gens its idle parks waiting =
    gives_keeps p Plain below (gens ++ NotStarted f ∷ []) its (Gen (length gens)) (all_append (Idle p) gens (NotStarted f ∷ []) idle (parks.1, tt)) waiting
parks_keeps p f (Generated number by) below gens its idle parks waiting = absurd parks.0

ended : (p : Parts) (calls : List Call) (gens : List Generator) (its : List (List Value)) (ending : Ending) → AllIdle p gens → Ends p calls ending
    → Keeps p (after_ending p (record { calls = calls; generators = gens; iterators = its }) ending)
ended p calls gens its Ending.Continues idle e = record { generators = idle; stands = e }
ended p calls gens its (Ending.Raises x) idle e = record { generators = idle; stands = e }
ended p calls gens its (Ending.Reraises x) idle e = record { generators = idle; stands = e }
ended p [] gens its (Ending.Returns x) idle e = absurd e
ended p (call ∷ calls) gens its (Ending.Returns x) idle e = leaves_keeps p call.frame call.origin calls gens its x idle e.1
ended p [] gens its (Ending.Yields x) idle e = absurd e
ended p (call ∷ calls) gens its (Ending.Yields x) idle e = yields_keeps p call.frame call.origin calls gens its x idle e.0 e.1
ended p [] gens its Ending.Parks idle e = absurd e
ended p (call ∷ calls) gens its Ending.Parks idle e = parks_keeps p call.frame call.origin calls gens its idle e.0 e.1
ended p calls gens its (Ending.ThrowsIn x) idle e = record { generators = idle; stands = e }
ended p calls gens its Ending.Misses idle e = absurd e

ended_keeps : (p : Parts) (m : Move) → Moves p m → Keeps p (after_ending p m.frames m.ending)
ended_keeps p m moves = ended p m.frames.calls m.frames.generators m.frames.iterators m.ending moves.generators moves.stands

-- a step from such a state
pub record Steps (p : Parts) (s : Step) : Type 0 where
  pub keeps : Keeps p s.after
  pub marks : AllByRecursion (MarksLine p) s.events
  pub proper : AreProper (sites_of p) s.events

taken : (line last : Option ℕ) → Follows (Some line) (line_after line last)
taken None last = tt
taken (Some n) last = refl

module _ (p : Parts) (checked : IsChecked p) (f : Frame) (o : Origin) (below : List Call) (gens : List Generator) (its : List (List Value)) (idle : AllIdle p gens) (waiting : Waiting p o below) where
  at_op : (c : Code) (l : Location) (op : Option Op) → op_at p.bases c.first f.index ≡ op → location_at c f.index ≡ Some l → l.stack ≡ length f.stack → l.handling ≡ length f.handling
      → HasOp p.bases c f.index (line_before None c.locations f.index) op l → IsOf p c f → (is_target p.bases c.first 0 c.locations f.index ≡ true) ⊎ Follows (line_before None c.locations f.index) f.line → Comes (generates p c) o f.index
      → Steps p (at_location p c op (Some l) f (view f o below gens its))
  at_op c l None is stands stack handling known is_of came comes = absurd known
  at_op c l (Some op) is stands stack handling known is_of came comes =
      let g : Frame = with_line l.line f in
      let works : Works p c op l g
      = record { is_of = record { found = is_of.found; locals = is_of.locals }; stands = stands; has_op = is; known = known; stack = sym stack; handling = sym handling; line = taken l.line f.line } in
      let moves = effect_moves p c l g o below gens its waiting idle op works checked comes in
      let m = effect p c op l.argument g (view g o below gens its) in
      record { keeps = ended_keeps p m moves; marks = instruction_marked p c op l f m is_of stands known came moves.ancillary; proper = instruction_proper p c op l f checked is_of stands is m known came (effect_none p c op l.argument g (view g o below gens its)) }

  run_steps : IsAt p o f → Steps p (in_code p (slice_get p.codes f.code) f (view f o below gens its))
  run_steps at =
      let c : Code = at.code in
      let place : FoundAt c f.index (length f.stack) (length f.handling) = found_at c f.index (length f.stack) (length f.handling) at.depth in
      let known : HasOp p.bases c f.index (line_before None c.locations f.index) (op_at p.bases c.first f.index) place.location
      = known_at p.bases c f.index place.location (checked_code p f.code c checked at.is_of.found) place.stands in
      subst (λ (x : Option Code). Steps p (in_code p x f (view f o below gens its))) (sym at.is_of.found)
      (subst (λ (x : Option Location). Steps p (at_location p c (op_at p.bases c.first f.index) x f (view f o below gens its))) (sym place.stands)
      (at_op c place.location (op_at p.bases c.first f.index) refl place.stands place.stack place.handling known at.is_of at.line at.comes))

module _ (p : Parts) (f : Frame) (below : List Call) (gens : List Generator) (its : List (List Value)) where
  goes_out_keeps : (e : Exc) (o : Origin) (calls : List Call) → AllIdle p gens → Waiting p o calls → Keeps p (goes_out p (record { calls = calls; generators = gens; iterators = its }) calls o e f).after
  goes_out_keeps e o [] idle w = record { generators = idle; stands = tt }
  goes_out_keeps e Plain (call ∷ calls) idle w = record { generators = idle; stands = (gets_exception p Op.Call call.origin call.frame w.0, w.1) }
  goes_out_keeps e (Generated number by.For) (call ∷ calls) idle w = record { generators = idle; stands = (gets_exception p Op.ForIter call.origin call.frame w.0, w.1) }
  goes_out_keeps e (Generated number (by.Call builtin)) (call ∷ calls) idle w = record { generators = idle; stands = w }

unwinds_keeps : (p : Parts) (f : Frame) (below : List Call) (gens : List Generator) (its : List (List Value)) (e : Exc) (o : Origin) (h : Option Handler) (t : IsThrown p o f) → t.location.handler ≡ h → AllIdle p gens → Waiting p o below
    → Keeps p (unwinds_from p (view f o below gens its) o e f h).after
unwinds_keeps p f below gens its e o (Some h) t is idle waiting = record { generators = idle; stands = (is_caught p o f e h t is, waiting) }
unwinds_keeps p f below gens its e o None t is idle waiting = goes_out_keeps p f below (after_leaving o gens) its e o below (after_leaving_idle p o gens idle) waiting

due_is : (p : Parts) (o : Origin) (f : Frame) (t : IsThrown p o f) → handler_due p f.code f.index ≡ t.location.handler
due_is p o f t = ap (λ (c : Option Code). handler_in c f.index) t.is_of.found ∙ ap handler_at t.stands

-- the call of a builtin has its answer
finished_keeps : (p : Parts) (call : Call) (calls : List Call) (gens : List Generator) (its : List (List Value)) (result : Result Value Exc) → AllIdle p gens → Waits p Op.Call call.origin call.frame → Waiting p call.origin calls
    → Keeps p (finished (record { calls = call ∷ calls; generators = gens; iterators = its }) call.frame result)
finished_keeps p call calls gens its (Ok x) idle w waiting = record { generators = idle; stands = (gets_value p Op.Call call.origin call.frame x w, waiting) }
finished_keeps p call calls gens its (Err e) idle w waiting = record { generators = idle; stands = (gets_exception p Op.Call call.origin call.frame w, waiting) }

finishes_steps : (p : Parts) (checked : IsChecked p) (a : Answer) (call : Call) (calls : List Call) (gens : List Generator) (its : List (List Value)) → AllIdle p gens → Waits p Op.Call call.origin call.frame → Waiting p call.origin calls
    → Steps p (finishes p (record { calls = call ∷ calls; generators = gens; iterators = its }) a (call ∷ calls))
finishes_steps p checked a call calls gens its idle w waiting =
    let v : FramesView = record { calls = call ∷ calls; generators = gens; iterators = its } in
    subst (λ (c : Option Code). Steps p (finishes_in p v a c call.frame)) (sym w.is_of.found)
    (subst (λ (l : Option Location). Steps p (finishes_at p v a w.code call.frame l)) (sym w.stands)
    (record { keeps = finished_keeps p call calls gens its a.result idle w waiting; marks = answer_marked p a (w.code.first + call.frame.index) call.frame a.result; proper = answer_proper p w.code w.location call.frame checked w.is_of w.stands w.has_op a a.result }))

step_in : (p : Parts) (calls : List Call) (gens : List Generator) (its : List (List Value)) (mode : Mode) → IsChecked p → AllIdle p gens → IsIn p (record { calls = calls; generators = gens; iterators = its }) mode
    → Steps p (in_mode p (record { calls = calls; generators = gens; iterators = its }) mode)
step_in p [] gens its Mode.Run checked idle at = absurd at
step_in p (call ∷ calls) gens its Mode.Run checked idle at = run_steps p checked call.frame call.origin calls gens its idle at.1 at.0
step_in p [] gens its (Mode.Unwind e) checked idle at = absurd at
step_in p (call ∷ calls) gens its (Mode.Unwind e) checked idle at = record {
  keeps = subst (λ (h : Option Handler). Keeps p (unwinds_from p (view call.frame call.origin calls gens its) call.origin e call.frame h).after) (sym (due_is p call.origin call.frame at.0))
      (unwinds_keeps p call.frame calls gens its e call.origin at.0.location.handler at.0 refl idle at.1);
  marks = unwinds_marked p (record { calls = call ∷ calls; generators = gens; iterators = its }) e (call ∷ calls);
  proper = unwinds_proper p (record { calls = call ∷ calls; generators = gens; iterators = its }) e (call ∷ calls);
}
step_in p [] gens its (Mode.Finish a) checked idle at = absurd at
step_in p (call ∷ calls) gens its (Mode.Finish a) checked idle at = finishes_steps p checked a call calls gens its idle at.0 at.1
step_in p calls gens its (Mode.Ended outcome) checked idle at = record { keeps = record { generators = idle; stands = at }; marks = tt; proper = tt }
step_in p calls gens its Mode.Stuck checked idle at = absurd at

pub step_steps : (p : Parts) (s : State) → IsChecked p → Keeps p s → Steps p (step p s)
unfolding step
step_steps p s checked k = step_in p s.frames.calls s.frames.generators s.frames.iterators s.mode checked k.generators k.stands
