-- Events stand where their kinds say.
use Rattle.std.proofs.Common.{◌≡◌, ℕ, zero, suc, ◌+◌, ◌<◌, ◌==◌, Bool, true, false, ◌⊎◌, inl, inr, List, [], ◌∷◌, ◌++◌, length, get_or, refl, sym, ap, ◌∙◌, arith}
use Rattle.std.specs.Prelude.{Option, Some, None, slice_get, Result, Ok, Err, if◌then◌else◌}
use Rattle.mon_values.specs.declared.value.Value.{Value, None as Nothing}
use Rattle.mon_values.specs.declared.value.Value.TheOpen.{Value-F}
use Rattle.mon_values.specs.declared.value.Value.TheViews.{out-Value}
use Rattle.mon_values.specs.declared.value.Exc.{Exc}
use Rattle.mon_values.specs.declared.fault.Trouble.{Trouble}
use Rattle.mon_events.specs.declared.event.Event.{Event}
use Rattle.mon_events.specs.declared.event.Slot.{Slot}
use Rattle.mon_events.specs.declared.op.Op.{Op}
use Rattle.mon_events.specs.Events.{is_local}
use Rattle.mon_events.specs.Ops.{main_event, op_of}
use Rattle.mon_code.specs.declared.program.Code.{Code}
use Rattle.mon_code.specs.declared.program.Handler.{Handler}
use Rattle.mon_code.specs.declared.program.Location.{Location}
use Rattle.mon_code.specs.declared.site.Site.{Site}
use Rattle.mon_code.specs.Programs.{Parts, op_in, op_at, location_at}
use Rattle.mon_code.specs.Checked.{IsChecked, IsLocation, is_target}
use Rattle.mon_code.specs.Sites.{site_at, site_in, sites_of, event_of, slot_event}
use Rattle.mon_code.proofs.Sites.{site_there, site_within, sites_long}
use Rattle.mon_frames.specs.declared.frame.Frame.{Frame}
use Rattle.mon_frames.specs.declared.call.Call.{Call}
use Rattle.mon_frames.specs.declared.call.By.TheVariants as by
use Rattle.mon_frames.specs.declared.fault.ResumeFault.{ResumeFault}
use Rattle.mon_frames.specs.declared.fault.ResumeFault.TheVariants as fault
use Rattle.mon_frames.specs.declared.generator.Generator.{Generator}
use Rattle.mon_frames.specs.Generators.{resumed}
use Rattle.mon_frames.specs.declared.call.Origin.{Origin}
use Rattle.mon_frames.specs.declared.call.Origin.TheVariants.{Plain, Generator as Generated}
use Rattle.mon_frames.specs.Calls.{handler_due}
use Rattle.mon_frames.specs.Iterating.{iterated}
use Rattle.mon_frames.specs.Views.{FramesView, handled_in, without_top}
use Rattle.mon_recorders.specs.declared.happening.Happening.{Happening}
use Rattle.mon_recorders.specs.declared.happening.Kind.TheVariants.{Local}
use Rattle.mon_recorders.specs.Proper.{IsOfSlot, IsProper, AreProper}
use Rattle.mon_machine.specs.declared.mode.Answer.{Answer}
use Rattle.mon_machine.specs.declared.mode.Ending.{Ending}
use Rattle.mon_machine.specs.State.{FrameMove, Move, with_frame, in_top}
use Rattle.mon_machine.specs.Moves.{with_stack, get_iter, iterates, for_iter, for_iter_at, loops, for_generator, raises_again, return_value, yield_value, operated, effect}
use Rattle.mon_machine.specs.Operations.{operation, raise_top}
use Rattle.mon_machine.specs.Events.{Shown, shown, of_call, happens, offset, showing, line_events, in_main, local_event, slot_events, ancillary_events, of_answer, of_exception, throw_events, raise_events, instruction_events, answer_events}
use Rattle.mon_machine.specs.Step.{goes_out, unwinds_from, unwinds}
use Rattle.mon_machine.proofs.Heard.{all_append}
use Rattle.mon_machine.proofs.Fitting.{line_before}
use Rattle.mon_machine.proofs.Keeping.{Follows, IsOf}
use Rattle.mon_machine.proofs.Lines.{is_marked_here, each_line}

-- no event stands beside a move, but beside that of a call
over_frames : (v : FramesView) (f : Frame) (r : Result (Value × FramesView) Trouble) → (iterates v f r).ancillary ≡ None
over_frames v f (Ok due) = refl
over_frames v f (Err t) = refl

module _ (v : FramesView) (f : Frame) where
  get_none : (stack : List Value) → (get_iter v f stack).ancillary ≡ None
  get_none [] = refl
  get_none (x ∷ rest) = over_frames (with_frame v (with_stack f rest)) (with_stack f rest) (iterated (with_frame v (with_stack f rest)) x)

  loops_none : (r : Result FramesView ResumeFault) → (loops v f r).ancillary ≡ None
  loops_none (Ok w) = refl
  loops_none (Err fault.Running) = refl
  loops_none (Err fault.Finished) = refl
  loops_none (Err fault.NotNone) = refl
  loops_none (Err fault.Full) = refl
  loops_none (Err fault.Memory) = refl

  generator_none : (number : ℕ) (g : Option Generator) → (for_generator v f number g).ancillary ≡ None
  generator_none number None = refl
  generator_none number (Some g) = loops_none (resumed v number Nothing by.For)

  for_none : (x : Value-F Value Exc) → (for_iter_at v f x).ancillary ≡ None
  for_none (Value-F.Gen number) = generator_none number (slice_get v.generators number)
  for_none _ = refl

  over_none : (stack : List Value) → (for_iter v f stack).ancillary ≡ None
  over_none [] = refl
  over_none (x ∷ rest) = for_none (out-Value x)

  again_none : (e : Option Exc) → (raises_again v e).ancillary ≡ None
  again_none None = refl
  again_none (Some e) = refl

  return_none : (stack : List Value) → (return_value v f stack).ancillary ≡ None
  return_none [] = refl
  return_none (x ∷ rest) = refl

  yield_none : (stack : List Value) → (yield_value v f stack).ancillary ≡ None
  yield_none [] = refl
  yield_none (x ∷ rest) = refl

pub effect_none : (p : Parts) (c : Code) (op : Op) (n : ℕ) (f : Frame) (v : FramesView) → (op ≡ Op.Call) ⊎ ((effect p c op n f v).ancillary ≡ None)
effect_none p c op n f v = pick op (operation p c op n f)
  where
    raise_none : (zero_is : Bool) (m : FrameMove) → (if zero_is then raises_again v (handled_in v.calls) else in_top v m).ancillary ≡ None
    raise_none true m = again_none v f (handled_in v.calls)
    raise_none false m = refl

    pick : (op : Op) (m : Option FrameMove) → (op ≡ Op.Call) ⊎ ((operated p op n f v m).ancillary ≡ None)
    pick op (Some m) = inr refl
    pick Op.Call None = inl refl
    pick Op.GetIter None = inr (get_none v f f.stack)
    pick Op.ForIter None = inr (over_none v f f.stack)
    pick Op.RaiseVarargs None = inr (raise_none (n == 0) (raise_top f f.stack))
    pick Op.ReturnValue None = inr (return_none v f f.stack)
    pick Op.YieldValue None = inr (yield_none v f f.stack)
    pick _ None = inr refl

LocalIf : Option Event → Type 0
LocalIf None = Unit {0}
LocalIf (Some e) = is_local e ≡ true

main_local : (op : Op) (arg : ℕ) → LocalIf (main_event op arg)
unfolding LocalIf
main_local Op.Resume arg = pick (arg == 0)
  where
    pick : (b : Bool) → LocalIf (if b then Some Event.PyStart else Some Event.PyResume)
    pick true = refl
    pick false = refl
main_local Op.JumpForward arg = refl
main_local Op.JumpBackward arg = refl
main_local Op.PopJumpIfFalse arg = refl
main_local Op.PopJumpIfTrue arg = refl
main_local Op.PopJumpIfDone arg = refl
main_local Op.EndFor arg = refl
main_local Op.Call arg = refl
main_local Op.ReturnValue arg = refl
main_local Op.YieldValue arg = refl
main_local _ arg = tt

get_is : (xs : List ℕ) (k : ℕ) → k < length xs → slice_get xs k ≡ Some (get_or xs k 0)
get_is [] k h = absurd (omega arith)
get_is (x ∷ xs) zero h = refl
get_is (x ∷ xs) (suc k) h = get_is xs k (omega arith)

-- at an instruction of a frame
module _ (p : Parts) (c : Code) (op : Op) (l : Location) (f : Frame) (checked : IsChecked p) (is_of : IsOf p c f) (stands : location_at c f.index ≡ Some l) (is : op_at p.bases c.first f.index ≡ Some op) where
  here : site_at (sites_of p) (c.first + f.index) ≡ site_in f.code f.index l (get_or p.bases (c.first + f.index) 0)
  here = site_there p f.code c f.index l checked is_of.found stands

  within : c.first + f.index < length (sites_of p)
  within = site_within p f.code c f.index l checked is_of.found stands

  of_slot : (slot : Slot) (e : Happening) → slot_event (site_in f.code f.index l (get_or p.bases (c.first + f.index) 0)) slot ≡ Some e.event → e.code ≡ f.code → e.offset ≡ offset f → is_local e.event ≡ true
      → IsOfSlot (sites_of p) (c.first + f.index) slot e
  of_slot slot e event code at local = record {
    within = within;
    event = ap (λ (s : Site). slot_event s slot) here ∙ event;
    code = ap (λ (s : Site). s.code) here ∙ sym code;
    offset = ap (λ (s : Site). s.offset) here ∙ sym at;
    local = local;
  }

  main_is : event_of (op_of (get_or p.bases (c.first + f.index) 0)) l.argument ≡ main_event op l.argument
  main_is = let low : c.first + f.index < length p.bases = omega (arith, within, sites_long p checked) in
      let at : op_in (Some (get_or p.bases (c.first + f.index) 0)) ≡ Some op = ap op_in (sym (get_is p.bases (c.first + f.index) low)) ∙ is in
      ap (λ (o : Option Op). event_of o l.argument) at

  main_proper : (s : Option Shown) → AreProper (sites_of p) (slot_events (in_main (main_event op l.argument) s) (c.first + f.index) f)
  unfolding LocalIf
  main_proper = pick (main_event op l.argument) refl (main_local op l.argument)
    where
      pick : (event : Option Event) → main_event op l.argument ≡ event → LocalIf event → (s : Option Shown) → AreProper (sites_of p) (slot_events (in_main event s) (c.first + f.index) f)
      pick None e local s = tt
      pick (Some v) e local None = tt
      pick (Some v) e local (Some s) = (of_slot Slot.Main (showing s (happens v (Local (c.first + f.index) Slot.Main) f (offset f))) (main_is ∙ e) refl refl local, tt)

  ancillary_proper : (event : Option Event) (s : Shown) → (op ≡ Op.Call) ⊎ (event ≡ None) → AreProper (sites_of p) (ancillary_events event s (c.first + f.index) f)
  ancillary_proper None s which = tt
  ancillary_proper (Some v) s (inl call) = (record { within = within; call = ap (λ (s : Site). s.main) here ∙ (main_is ∙ ap (λ o. main_event o l.argument) call) }, tt)
  ancillary_proper (Some v) s (inr none) = absurd (cc)

  throw_proper : (e : Exc) (calls : List Call) → AreProper (sites_of p) (throw_events p e calls)
  throw_proper e [] = tt
  throw_proper e (call ∷ calls) = (refl, (refl, tt))

  raise_proper : (calls : List Call) (ending : Ending) → AreProper (sites_of p) (raise_events p f calls ending)
  raise_proper calls Ending.Continues = tt
  raise_proper calls (Ending.Raises e) = (refl, tt)
  raise_proper calls (Ending.Reraises e) = (refl, tt)
  raise_proper calls (Ending.Returns x) = tt
  raise_proper calls (Ending.Yields x) = tt
  raise_proper calls Ending.Parks = tt
  raise_proper calls (Ending.ThrowsIn e) = throw_proper e calls
  raise_proper calls Ending.Misses = tt

  line_proper : IsLocation p.bases c f.index (line_before None c.locations f.index) op l → (is_target p.bases c.first 0 c.locations f.index ≡ true) ⊎ Follows (line_before None c.locations f.index) f.line
      → AreProper (sites_of p) (line_events f (c.first + f.index) l.line f.line)
  line_proper known came = each_line (IsProper (sites_of p)) (c.first + f.index) l f (λ n e d.
      of_slot Slot.Line (happens Event.Line (Local (c.first + f.index) Slot.Line) f n)
      (ap (λ (b : Bool). if b then Some Event.Line else None) (is_marked_here p.bases c f.index op l n f.line known e came d)) refl refl refl)

  -- of the instruction
  pub instruction_proper : (m : Move) → IsLocation p.bases c f.index (line_before None c.locations f.index) op l → (is_target p.bases c.first 0 c.locations f.index ≡ true) ⊎ Follows (line_before None c.locations f.index) f.line
      → (op ≡ Op.Call) ⊎ (m.ancillary ≡ None) → AreProper (sites_of p) (instruction_events p op l.argument (c.first + f.index) l.line f m)
  instruction_proper m known came which =
      let P : Happening → Type 0 = IsProper (sites_of p) in
      let location : ℕ = c.first + f.index in
      let main = slot_events (local_event p op l.argument f m) location f in
      let ancillary = ancillary_events m.ancillary (of_call p l.argument f.stack) location f in
      let raised = raise_events p f m.frames.calls m.ending in
      let instruction = happens Event.Instruction (Local location Slot.Instruction) f (offset f) in
      all_append P (line_events f location l.line f.line) (instruction ∷ (main ++ (ancillary ++ raised))) (line_proper known came) (
        of_slot Slot.Instruction instruction refl refl refl refl,
        all_append P main (ancillary ++ raised) (main_proper (shown p op l.argument f m.frames.calls))
            (all_append P ancillary raised (ancillary_proper m.ancillary (of_call p l.argument f.stack) which) (raise_proper m.frames.calls m.ending)),
      )

-- of a call that has its answer
pub answer_proper : (p : Parts) (c : Code) (l : Location) (f : Frame) → IsChecked p → IsOf p c f → location_at c f.index ≡ Some l → op_at p.bases c.first f.index ≡ Some Op.Call → (a : Answer) (r : Result Value Exc)
    → AreProper (sites_of p) (answer_events p a (c.first + f.index) f r)
answer_proper p c l f checked is_of stands is a (Ok x) = ancillary_proper p c Op.Call l f checked is_of stands is (Some Event.CReturn) (of_answer p a) (inl refl)
answer_proper p c l f checked is_of stands is a (Err e) =
    let P : Happening → Type 0 = IsProper (sites_of p) in
    let raised = of_exception p Event.Raise e f in
    all_append P (ancillary_events (Some Event.CRaise) (of_answer p a) (c.first + f.index) f) (raised ∷ []) (ancillary_proper p c Op.Call l f checked is_of stands is (Some Event.CRaise) (of_answer p a) (inl refl)) (refl, tt)

goes_out_proper : (p : Parts) (v : FramesView) (calls : List Call) (o : Origin) (e : Exc) (f : Frame) → AreProper (sites_of p) (goes_out p v calls o e f).events
goes_out_proper p v [] o e f = (refl, tt)
goes_out_proper p v (call ∷ calls) (Generated number (by.Call builtin)) e f = (refl, tt)
goes_out_proper p v (call ∷ calls) (Generated number by.For) e f = (refl, (refl, tt))
goes_out_proper p v (call ∷ calls) Plain e f = (refl, (refl, tt))

unwinds_from_proper : (p : Parts) (v : FramesView) (o : Origin) (e : Exc) (f : Frame) (h : Option Handler) → AreProper (sites_of p) (unwinds_from p v o e f h).events
unwinds_from_proper p v o e f (Some h) = (refl, tt)
unwinds_from_proper p v o e f None = goes_out_proper p (without_top v) (without_top v).calls o e f

-- of an exception that goes on
pub unwinds_proper : (p : Parts) (v : FramesView) (e : Exc) (calls : List Call) → AreProper (sites_of p) (unwinds p v e calls).events
unwinds_proper p v e [] = tt
unwinds_proper p v e (call ∷ calls) = unwinds_from_proper p v call.origin e call.frame (handler_due p call.frame.code call.frame.index)
