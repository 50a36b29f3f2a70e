-- LINE events stand at marked locations.
use Rattle.std.proofs.Common.{◌≡◌, ℕ, ◌+◌, ◌==◌, Bool, true, false, not, ◌||◌, ◌⊎◌, inl, inr, List, [], ◌∷◌, ◌++◌, refl, sym, ap, subst, ◌∙◌, arith}
use Rattle.std.specs.Prelude.{Option, Some, None, Result, Ok, Err, if◌then◌else◌}
use Rattle.std.specs.List.{AllByRecursion}
use Rattle.std.proofs.lemmas.Option.{same_Some, none-some}
use Rattle.std.proofs.Math.Bool.{or-true}
use Rattle.std.proofs.lemmas.Bool.Decides.{nat_tests}
use Rattle.mon_values.specs.declared.value.Exc.{Exc}
use Rattle.mon_values.specs.declared.value.Value.{Value}
use Rattle.mon_events.specs.declared.event.Event.{Event}
use Rattle.mon_events.specs.declared.event.Slot.{Slot}
use Rattle.mon_events.specs.declared.op.Op.{Op}
use Rattle.mon_events.specs.Ops.{main_event}
use Rattle.mon_code.specs.declared.program.Code.{Code}
use Rattle.mon_code.specs.declared.program.Handler.{Handler}
use Rattle.mon_code.specs.declared.program.Location.{Location}
use Rattle.mon_code.specs.Programs.{Parts, location_at}
use Rattle.mon_code.specs.Checked.{IsLocation, is_marked, is_target, follows_line}
use Rattle.mon_frames.specs.declared.frame.Frame.{Frame}
use Rattle.mon_frames.specs.declared.call.By.TheVariants as by
use Rattle.mon_frames.specs.declared.call.Call.{Call}
use Rattle.mon_frames.specs.declared.call.Origin.{Origin}
use Rattle.mon_frames.specs.declared.call.Origin.TheVariants.{Plain, Generator as Generated}
use Rattle.mon_frames.specs.Calls.{handler_due}
use Rattle.mon_frames.specs.Views.{FramesView, without_top}
use Rattle.mon_recorders.specs.declared.happening.Happening.{Happening}
use Rattle.mon_recorders.specs.declared.happening.Kind.TheVariants.{Local}
use Rattle.mon_machine.specs.declared.mode.Answer.{Answer}
use Rattle.mon_machine.specs.declared.mode.Ending.{Ending}
use Rattle.mon_machine.specs.State.{Move}
use Rattle.mon_machine.specs.Events.{Shown, shown, of_call, happens, offset, line_events, in_main, local_event, slot_events, ancillary_events, throw_events, raise_events, instruction_events, answer_events}
use Rattle.mon_machine.specs.Step.{goes_out, unwinds_from, unwinds}
use Rattle.mon_machine.specs.Laws.{MarksLine, is_line_kind}
use Rattle.mon_machine.proofs.Heard.{all_append}
use Rattle.mon_machine.proofs.Fitting.{line_before}
use Rattle.mon_machine.proofs.Keeping.{Follows, IsOf}
use Rattle.mon_machine.proofs.Moving.{IsOther}

-- another line than the last one
pub Differs : ℕ → Option ℕ → Type 0
Differs n last = (m : ℕ) → last ≡ Some m → (n == m) ≡ false

-- what follows an instruction with another line or none
follows_other : (before : Option (Option ℕ)) (n : ℕ) (last : Option ℕ) → Follows before last → Differs n last → not (follows_line before (Some n)) ≡ true
unfolding Differs
follows_other None n last f d = refl
follows_other (Some None) n last f d = refl
follows_other (Some (Some m)) n last f d =
    let other : (n == m) ≡ false = d m f in
    let same : (m == n) ≡ false = grind (arith, nat_tests) in
    ap not same

pub is_marked_here : (bases : List ℕ) (c : Code) (i : ℕ) (op : Op) (l : Location) (n : ℕ) (last : Option ℕ) → IsLocation bases c i (line_before None c.locations i) op l → l.line ≡ Some n
    → (is_target bases c.first 0 c.locations i ≡ true) ⊎ Follows (line_before None c.locations i) last → Differs n last → l.is_marked ≡ true
is_marked_here bases c i op l n last known e came d =
    known.marked ∙ ap (λ (line : Option ℕ). is_marked bases c i (line_before None c.locations i) line) e ∙ pick came
  where
    pick : (is_target bases c.first 0 c.locations i ≡ true) ⊎ Follows (line_before None c.locations i) last → is_marked bases c i (line_before None c.locations i) (Some n) ≡ true
    pick (inl target) = ap (λ (b : Bool). not (follows_line (line_before None c.locations i) (Some n)) || b) target ∙ or-true (not (follows_line (line_before None c.locations i) (Some n)))
    pick (inr follows) = ap (λ (b : Bool). b || is_target bases c.first 0 c.locations i) (follows_other (line_before None c.locations i) n last follows d)

-- a frame of a code before an instruction
record Stands (p : Parts) (c : Code) (op : Op) (l : Location) (f : Frame) : Type 0 where
  is_of : IsOf p c f
  stands : location_at c f.index ≡ Some l
  known : IsLocation p.bases c f.index (line_before None c.locations f.index) op l
  came : (is_target p.bases c.first 0 c.locations f.index ≡ true) ⊎ Follows (line_before None c.locations f.index) f.line

at_marked : (p : Parts) (c : Code) (op : Op) (l : Location) (f : Frame) (n : ℕ) → Stands p c op l f → l.line ≡ Some n → Differs n f.line → MarksLine p (happens Event.Line (Local (c.first + f.index) Slot.Line) f n)
at_marked p c op l f n s e d = record {
  marked = λ _. record { code = c; found = s.is_of.found; index = f.index; location = l; stands = s.stands; marked = is_marked_here p.bases c f.index op l n f.line s.known e s.came d; line = e; kind = refl };
  alone = λ _. refl;
}

-- there is a LINE event where the line differs
pub each_line : (P : Happening → Type 0) (location : ℕ) (l : Location) (f : Frame) → ((n : ℕ) → l.line ≡ Some n → Differs n f.line → P (happens Event.Line (Local location Slot.Line) f n)) → AllByRecursion P (line_events f location l.line f.line)
unfolding Differs
each_line P location l f at = pick l.line f.line refl refl
  where
    chosen : (n m : ℕ) (b : Bool) → (n == m) ≡ b → l.line ≡ Some n → f.line ≡ Some m → AllByRecursion P (if b then [] else happens Event.Line (Local location Slot.Line) f n ∷ [])
    chosen n m true t e last = tt
    chosen n m false t e last = (at n e (λ o h. let same : m ≡ o = same_Some m o (sym last ∙ h) in subst (λ (x : ℕ). (n == x) ≡ false) same t), tt)

    pick : (line last : Option ℕ) → l.line ≡ line → f.line ≡ last → AllByRecursion P (line_events f location line last)
    pick None last e h = tt
    pick (Some n) None e h = (at n e (λ o g. absurd (none-some o (sym h ∙ g))), tt)
    pick (Some n) (Some m) e h = chosen n m (n == m) refl e h

line_marked : (p : Parts) (c : Code) (op : Op) (l : Location) (f : Frame) → Stands p c op l f → AllByRecursion (MarksLine p) (line_events f (c.first + f.index) l.line f.line)
line_marked p c op l f s = each_line (MarksLine p) (c.first + f.index) l f (λ n e d. at_marked p c op l f n s e d)

-- the other events are of other kinds
quiet : (p : Parts) (h : Happening) → (h.event ≡ Event.Line → ⊥) → is_line_kind h.kind ≡ false → MarksLine p h
quiet p h other kind = record { marked = λ e. absurd (other e); alone = λ e. absurd (clash (sym e ∙ kind)) }
  where
    clash : true ≡ false → ⊥
    clash e = cc

main_event_other : (op : Op) (arg : ℕ) → IsOther (main_event op arg)
main_event_other Op.Resume arg = pick (arg == 0)
  where
    pick : (b : Bool) → IsOther (if b then Some Event.PyStart else Some Event.PyResume)
    pick true = λ e. cc
    pick false = λ e. cc
main_event_other Op.JumpForward arg = λ e. cc
main_event_other Op.JumpBackward arg = λ e. cc
main_event_other Op.PopJumpIfFalse arg = λ e. cc
main_event_other Op.PopJumpIfTrue arg = λ e. cc
main_event_other Op.PopJumpIfDone arg = λ e. cc
main_event_other Op.EndFor arg = λ e. cc
main_event_other Op.Call arg = λ e. cc
main_event_other Op.ReturnValue arg = λ e. cc
main_event_other Op.YieldValue arg = λ e. cc
main_event_other _ arg = tt

main_marked : (p : Parts) (event : Option Event) (s : Option Shown) (location : ℕ) (f : Frame) → IsOther event → AllByRecursion (MarksLine p) (slot_events (in_main event s) location f)
main_marked p None s location f other = tt
main_marked p (Some event) None location f other = tt
main_marked p (Some event) (Some s) location f other = (record { marked = λ e. absurd (other e); alone = λ e. cc }, tt)

ancillary_marked : (p : Parts) (event : Option Event) (s : Shown) (location : ℕ) (f : Frame) → IsOther event → AllByRecursion (MarksLine p) (ancillary_events event s location f)
ancillary_marked p None s location f other = tt
ancillary_marked p (Some event) s location f other = (record { marked = λ e. absurd (other e); alone = λ e. cc }, tt)

throw_marked : (p : Parts) (e : Exc) (calls : List Call) → AllByRecursion (MarksLine p) (throw_events p e calls)
throw_marked p e [] = tt
throw_marked p e (call ∷ calls) = (record { marked = λ h. cc; alone = λ h. cc }, (record { marked = λ h. cc; alone = λ h. cc }, tt))

raise_marked : (p : Parts) (f : Frame) (calls : List Call) (ending : Ending) → AllByRecursion (MarksLine p) (raise_events p f calls ending)
raise_marked p f calls Ending.Continues = tt
raise_marked p f calls (Ending.Raises e) = (record { marked = λ h. cc; alone = λ h. cc }, tt)
raise_marked p f calls (Ending.Reraises e) = (record { marked = λ h. cc; alone = λ h. cc }, tt)
raise_marked p f calls (Ending.Returns x) = tt
raise_marked p f calls (Ending.Yields x) = tt
raise_marked p f calls Ending.Parks = tt
raise_marked p f calls (Ending.ThrowsIn e) = throw_marked p e calls
raise_marked p f calls Ending.Misses = tt

-- of an instruction
pub instruction_marked : (p : Parts) (c : Code) (op : Op) (l : Location) (f : Frame) (m : Move) → IsOf p c f → location_at c f.index ≡ Some l → IsLocation p.bases c f.index (line_before None c.locations f.index) op l
    → (is_target p.bases c.first 0 c.locations f.index ≡ true) ⊎ Follows (line_before None c.locations f.index) f.line → IsOther m.ancillary
    → AllByRecursion (MarksLine p) (instruction_events p op l.argument (c.first + f.index) l.line f m)
instruction_marked p c op l f m is_of stands known came other =
    let location : ℕ = c.first + f.index in
    let main = slot_events (local_event p op l.argument f m) location f in
    let ancillary = ancillary_events m.ancillary (of_call p l.argument f.stack) location f in
    let raised = raise_events p f m.frames.calls m.ending in
    let instruction = happens Event.Instruction (Local location Slot.Instruction) f (offset f) in
    all_append (MarksLine p) (line_events f location l.line f.line) (instruction ∷ (main ++ (ancillary ++ raised))) (line_marked p c op l f (record { is_of = is_of; stands = stands; known = known; came = came })) (
      quiet p instruction (λ e. cc) refl,
      all_append (MarksLine p) main (ancillary ++ raised) (main_marked p (main_event op l.argument) (shown p op l.argument f m.frames.calls) location f (main_event_other op l.argument))
          (all_append (MarksLine p) ancillary raised (ancillary_marked p m.ancillary (of_call p l.argument f.stack) location f other) (raise_marked p f m.frames.calls m.ending)),
    )

goes_out_marked : (p : Parts) (v : FramesView) (calls : List Call) (o : Origin) (e : Exc) (f : Frame) → AllByRecursion (MarksLine p) (goes_out p v calls o e f).events
goes_out_marked p v [] o e f = (record { marked = λ h. cc; alone = λ h. cc }, tt)
goes_out_marked p v (call ∷ calls) (Generated number (by.Call builtin)) e f = (record { marked = λ h. cc; alone = λ h. cc }, tt)
goes_out_marked p v (call ∷ calls) (Generated number by.For) e f = (record { marked = λ h. cc; alone = λ h. cc }, (record { marked = λ h. cc; alone = λ h. cc }, tt))
goes_out_marked p v (call ∷ calls) Plain e f = (record { marked = λ h. cc; alone = λ h. cc }, (record { marked = λ h. cc; alone = λ h. cc }, tt))

unwinds_from_marked : (p : Parts) (v : FramesView) (o : Origin) (e : Exc) (f : Frame) (h : Option Handler) → AllByRecursion (MarksLine p) (unwinds_from p v o e f h).events
unwinds_from_marked p v o e f (Some h) = (record { marked = λ h. cc; alone = λ h. cc }, tt)
unwinds_from_marked p v o e f None = goes_out_marked p (without_top v) (without_top v).calls o e f

-- of an exception that goes on
pub unwinds_marked : (p : Parts) (v : FramesView) (e : Exc) (calls : List Call) → AllByRecursion (MarksLine p) (unwinds p v e calls).events
unwinds_marked p v e [] = tt
unwinds_marked p v e (call ∷ calls) = unwinds_from_marked p v call.origin e call.frame (handler_due p call.frame.code call.frame.index)

-- of a call that has its answer
pub answer_marked : (p : Parts) (a : Answer) (location : ℕ) (f : Frame) (result : Result Value Exc) → AllByRecursion (MarksLine p) (answer_events p a location f result)
answer_marked p a location f (Ok x) = (record { marked = λ h. cc; alone = λ h. cc }, tt)
answer_marked p a location f (Err e) = (record { marked = λ h. cc; alone = λ h. cc }, (record { marked = λ h. cc; alone = λ h. cc }, tt))
