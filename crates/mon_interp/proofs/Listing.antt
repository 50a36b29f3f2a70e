-- The events of a step, by the place of its instruction.
use Rattle.std.proofs.Common.{◌≡◌, ℕ, ◌*◌, Bool, true, false, inl, inr, List, [], ◌∷◌, ◌++◌, Option, Some, None, refl, ap, ◌∙◌, subst}
use Rattle.std.specs.Prelude.{◌==◌, if◌then◌else◌, option_map, slice_get, Result, Ok, Err}
use Rattle.mon_values.specs.declared.value.Exc.{Exc}
use Rattle.mon_values.specs.declared.value.Value.{Value, Exc as Raised-value}
use Rattle.mon_values.specs.declared.value.Value.TheOpen.{Value-F}
use Rattle.mon_values.specs.declared.value.Value.TheViews.{out-Value}
use Rattle.mon_events.specs.declared.event.Event.{Event}
use Rattle.mon_events.specs.declared.event.Slot.{Slot}
use Rattle.mon_events.specs.declared.op.Op.{Op}
use Rattle.mon_events.specs.Ops.{main_event}
use Rattle.mon_code.specs.Programs.{Parts}
use Rattle.mon_frames.specs.declared.frame.Frame.{Frame}
use Rattle.mon_frames.specs.declared.call.Call.{Call}
use Rattle.mon_frames.specs.Views.{FramesView, top_of}
use Rattle.mon_code.specs.declared.program.Code.{Code}
use Rattle.mon_machine.specs.Moves.{effect}
use Rattle.mon_machine.proofs.Proper.{effect_none}
use Rattle.mon_recorders.specs.declared.happening.Happening.{Happening}
use Rattle.mon_recorders.specs.declared.happening.Kind.{Kind}
use Rattle.mon_recorders.specs.declared.happening.Kind.TheVariants.{Local, Global, Ancillary}
use Rattle.mon_machine.specs.declared.mode.Answer.{Answer}
use Rattle.mon_machine.specs.declared.mode.Ending.{Ending}
use Rattle.mon_machine.specs.State.{Move}
use Rattle.mon_machine.specs.Events.{Shown, SlotEvent, happens, showing, offset, of_call, of_value, of_answer, answer_events, index_in, shown, stopped, stopped_at, in_main, local_event, line_events, slot_events, ancillary_events, of_exception, throw_events, raise_events, instruction_events}
use Rattle.mon_interp.specs.declared.events.Place.{Place}
use Rattle.mon_interp.specs.declared.shows.Shows.{Shows}
use Rattle.mon_interp.specs.declared.step.Before.{Before}
use Rattle.mon_interp.specs.Asking.{asks_for, Adds}
use Rattle.mon_interp.proofs.Asking.{adds_more}
use Rattle.mon_interp.specs.Places.{standing, IsAt, IsBefore, ShowsFor, Answered}
use Rattle.mon_interp.specs.Shows.{shown_in, going, values, dest}

module _ (pl : Place) (f : Frame) (at : IsAt pl f) where
  happens_at : (event : Event) (kind : Kind) (n : ℕ) → happens event kind (standing pl) n ≡ happens event kind f n
  happens_at event kind n = λ i. record { event = event; kind = kind; code = at.code i; at = n; offset = 2 * at.index i; dest = 0; first = []; second = [] }

  own_at : (event : Event) (kind : Kind) → happens event kind (standing pl) (2 * pl.index) ≡ happens event kind f (offset f)
  own_at event kind = happens_at event kind (2 * pl.index) ∙ ap (λ n. happens event kind f (2 * n)) at.index

  line_choice : (location line : ℕ) (same : Bool) → (if same then [] else happens Event.Line (Local location Slot.Line) (standing pl) line ∷ []) ≡ (if same then [] else happens Event.Line (Local location Slot.Line) f line ∷ [])
  line_choice location line true = refl
  line_choice location line false = ap (λ (h : Happening). h ∷ []) (happens_at Event.Line (Local location Slot.Line) line)

  pub line_at : (location : ℕ) (line last : Option ℕ) → line_events (standing pl) location line last ≡ line_events f location line last
  line_at location None last = refl
  line_at location (Some line) None = line_choice location line false
  line_at location (Some line) (Some last) = line_choice location line (line == last)

  pub slot_at : (e : Option SlotEvent) (location : ℕ) → slot_events e location (standing pl) ≡ slot_events e location f
  slot_at None location = refl
  slot_at (Some e) location = ap (λ (h : Happening). showing e.shows h ∷ []) (own_at e.event (Local location e.slot))

  pub ancillary_at : (e : Option Event) (s : Shown) (location : ℕ) → ancillary_events e s location (standing pl) ≡ ancillary_events e s location f
  ancillary_at None s location = refl
  ancillary_at (Some event) s location = ap (λ (h : Happening). showing s h ∷ []) (own_at event (Ancillary location))

  pub exception_at : (p : Parts) (event : Event) (e : Exc) → of_exception p event e (standing pl) ≡ of_exception p event e f
  exception_at p event e = ap (λ (h : Happening). showing (of_value p (Some (Raised-value e))) h) (own_at event Global)

  pub raise_at : (p : Parts) (calls : List Call) (ending : Ending) → raise_events p (standing pl) calls ending ≡ raise_events p f calls ending
  raise_at p calls Ending.Continues = refl
  raise_at p calls (Ending.Raises e) = ap (λ (h : Happening). h ∷ []) (exception_at p Event.Raise e)
  raise_at p calls (Ending.Reraises e) = ap (λ (h : Happening). h ∷ []) (exception_at p Event.Reraise e)
  raise_at p calls (Ending.Returns x) = refl
  raise_at p calls (Ending.Yields x) = refl
  raise_at p calls Ending.Parks = refl
  raise_at p calls (Ending.ThrowsIn e) = refl
  raise_at p calls Ending.Misses = refl

  pub answer_at : (p : Parts) (a : Answer) (location : ℕ) (r : Result Value Exc) → answer_events p a location (standing pl) r ≡ answer_events p a location f r
  answer_at p a location (Ok x) = ancillary_at (Some Event.CReturn) (of_answer p a) location
  answer_at p a location (Err e) =
      let x = ancillary_at (Some Event.CRaise) (of_answer p a) location in
      let y = exception_at p Event.Raise e in
      λ i. x i ++ y i ∷ []

-- what an event shows is what is known before, and where it goes
stop_in : (p : Parts) (v : Value-F Value Exc) → option_map (going 0) (stopped_at p v) ≡ stopped_at p v
stop_in p (Value-F.Done None) = refl
stop_in p (Value-F.Done (Some e)) = refl
stop_in p _ = refl

stop : (p : Parts) (v : Option Value) → option_map (going 0) (stopped p v) ≡ stopped p v
stop p None = refl
stop p (Some v) = stop_in p (out-Value v)

shown_by : (p : Parts) (op : Op) (n : ℕ) (f : Frame) (calls : List Call) → option_map (going (dest op n (index_in calls))) (values p op n f) ≡ shown p op n f calls
shown_by p Op.EndFor n f calls = stop p (slice_get f.stack 0)
shown_by p _ n f calls = refl

call_shows : (p : Parts) (op : Op) (n : ℕ) (f : Frame) (shows : Option Shows) (ancillary : Option Event) → option_map shown_in shows ≡ values p op n f → Answered op ancillary → ShowsFor ancillary shows (of_call p n f.stack)
call_shows p op n f shows None e a = tt
call_shows p op n f shows (Some event) e (inl is) = e ∙ ap (λ (o : Op). values p o n f) is
call_shows p op n f shows (Some event) e (inr is) = absurd cc

-- the events of an instruction, one after the other, as far as they are asked for
pub listed : (p : Parts) (op : Op) (n word global : ℕ) (line : Option ℕ) (f : Frame) (b : Before) (m : Move) (to : ℕ) (es0 es1 es2 es3 es4 es5 : List Happening) → IsBefore p op n b.place.location word f b → Answered op m.ancillary → to ≡ dest op n (index_in m.frames.calls)
    → Adds word global es0 es1 (line_events (standing b.place) b.place.location line b.last)
    → Adds word global es1 es2 (happens Event.Instruction (Local b.place.location Slot.Instruction) (standing b.place) (2 * b.place.index) ∷ [])
    → ((s : Option Shown) → (asks_for word Slot.Main ≡ true → option_map shown_in b.shows ≡ s) → Adds word global es2 es3 (slot_events (in_main (main_event op n) (option_map (going to) s)) b.place.location (standing b.place)))
    → ((s : Shown) → (asks_for word Slot.Main ≡ true → ShowsFor m.ancillary b.shows s) → Adds word global es3 es4 (ancillary_events m.ancillary s b.place.location (standing b.place)))
    → Adds word global es4 es5 (raise_events p (standing b.place) m.frames.calls m.ending)
    → Adds word global es0 es5 (instruction_events p op n b.place.location line f m)
listed p op n word global line f b m to es0 es1 es2 es3 es4 es5 is answered goes e1 e2 e3 e4 e5 =
    let location : ℕ = b.place.location in
    let xs : List Happening = line_events f location line f.line in
    let i : List Happening = happens Event.Instruction (Local location Slot.Instruction) f (offset f) ∷ [] in
    let main : List Happening = slot_events (local_event p op n f m) location f in
    let anc : List Happening = ancillary_events m.ancillary (of_call p n f.stack) location f in
    let raised : List Happening = raise_events p f m.frames.calls m.ending in
    let shows : option_map (going to) (values p op n f) ≡ shown p op n f m.frames.calls = ap (λ k. option_map (going k) (values p op n f)) goes ∙ shown_by p op n f m.frames.calls in
    let x1 : Adds word global es0 es1 xs = subst (λ (l : List Happening). Adds word global es0 es1 l) (line_at b.place f is.at location line b.last ∙ ap (λ (l : Option ℕ). line_events f location line l) is.last) e1 in
    let x2 : Adds word global es1 es2 i = subst (λ (h : Happening). Adds word global es1 es2 (h ∷ [])) (own_at b.place f is.at Event.Instruction (Local location Slot.Instruction)) e2 in
    let x3 : Adds word global es2 es3 main =
    subst (λ (l : List Happening). Adds word global es2 es3 l)
    (slot_at b.place f is.at (in_main (main_event op n) (option_map (going to) (values p op n f))) location ∙ ap (λ (o : Option Shown). slot_events (in_main (main_event op n) o) location f) shows)
    (e3 (values p op n f) is.shows) in
    let x4 : Adds word global es3 es4 anc =
    subst (λ (l : List Happening). Adds word global es3 es4 l) (ancillary_at b.place f is.at m.ancillary (of_call p n f.stack) location)
    (e4 (of_call p n f.stack) (λ asked. call_shows p op n f b.shows m.ancillary (is.shows asked) answered)) in
    let x5 : Adds word global es4 es5 raised = subst (λ (l : List Happening). Adds word global es4 es5 l) (raise_at b.place f is.at p m.frames.calls m.ending) e5 in
    adds_more word global es0 es1 es5 xs (i ++ (main ++ (anc ++ raised))) x1
    (adds_more word global es1 es2 es5 i (main ++ (anc ++ raised)) x2
    (adds_more word global es2 es3 es5 main (anc ++ raised) x3
    (adds_more word global es3 es4 es5 anc raised x4 x5)))

-- what happens in the frame into which an exception is thrown
pub thrown_in : (p : Parts) (e : Exc) (calls : List Call) (g : Frame) (place : Place) (word global : ℕ) (old mid new : List Happening) → top_of calls ≡ Some g → IsAt place g
    → Adds word global old mid (of_exception p Event.PyThrow e (standing place) ∷ []) → Adds word global mid new (of_exception p Event.Raise e (standing place) ∷ []) → Adds word global old new (throw_events p e calls)
thrown_in p e [] g place word global old mid new top at h k = absurd cc
thrown_in p e (call ∷ calls) g place word global old mid new top at h k =
    let same : g ≡ call.frame = cc in
    let here = λ (event : Event). exception_at place g at p event e ∙ ap (of_exception p event e) same in
    subst (λ (l : List Happening). Adds word global old new l) (λ i. here Event.PyThrow i ∷ here Event.Raise i ∷ [])
    (adds_more word global old mid new (of_exception p Event.PyThrow e (standing place) ∷ []) (of_exception p Event.Raise e (standing place) ∷ []) h k)

-- what was seen of a frame
pub looked : (p : Parts) (op : Op) (n number word : ℕ) (f g : Frame) (b : Before) → IsBefore p op n number word g b → g ≡ f → IsBefore p op n b.place.location word f b
looked p op n number word f g b h same = subst (λ (x : Frame). IsBefore p op n b.place.location word x b) same (record { at = h.at; location_is = refl; last = h.last; shows = h.shows })

pub answered_by : (p : Parts) (c : Code) (op : Op) (n : ℕ) (f : Frame) (v : FramesView) (m : Move) → effect p c op n f v ≡ m → Answered op m.ancillary
answered_by p c op n f v m e = subst (λ (x : Move). Answered op x.ancillary) e (effect_none p c op n f v)
