-- How a thread goes on, by its innermost call.
use Rattle.std.proofs.Common.{◌≡◌, ◌<◌, ℕ, true, List, [], ◌∷◌, ◌++◌, length, refl, sym, ap, ◌∙◌, subst, arith}
use Rattle.std.specs.Prelude.{Option, Some, None, Result, Ok, Err}
use Rattle.mon_values.specs.declared.value.Value.{Value, Gen}
use Rattle.mon_values.specs.declared.value.Exc.{Exc}
use Rattle.mon_code.specs.declared.program.Handler.{Handler}
use Rattle.mon_code.specs.declared.program.Location.{Location}
use Rattle.mon_code.specs.Programs.{Parts}
use Rattle.mon_frames.specs.declared.frame.Frame.{Frame}
use Rattle.mon_frames.specs.declared.call.Call.{Call}
use Rattle.mon_frames.specs.declared.call.Origin.{Origin}
use Rattle.mon_frames.specs.declared.call.Origin.TheVariants.{Plain, Generator as Generated}
use Rattle.mon_frames.specs.Calls.{handler_due}
use Rattle.mon_frames.specs.declared.call.By.{By}
use Rattle.mon_frames.specs.Views.{FramesView, top_of, origin_of, without, without_top}
use Rattle.mon_events.specs.declared.event.Event.{Event}
use Rattle.mon_recorders.specs.declared.happening.Happening.{Happening}
use Rattle.mon_machine.specs.Events.{of_exception}
use Rattle.mon_interp.specs.declared.events.Place.{Place}
use Rattle.mon_interp.specs.Places.{standing, IsAt}
use Rattle.mon_interp.proofs.Listing.{exception_at}
use Rattle.mon_machine.specs.declared.mode.Mode.{Mode}
use Rattle.mon_machine.specs.declared.mode.Ending.{Ending}
use Rattle.mon_machine.specs.State.{State, Move, with_frame, moved, in_mode_of}
use Rattle.mon_machine.specs.Moves.{pushes}
use Rattle.mon_machine.specs.Step.{finished, unwinds, unwinds_from, goes_out, caught_in}
use Rattle.mon_machine.specs.Giving.{stands_at, takes_value, gives_caller, gives_returned, leaves, gives_yielded, yields_from, yields, parks_from, parks, outside, raise_answer, answers_call}
use Rattle.mon_recorders.specs.declared.report.Outcome.{Outcome}
use Rattle.mon_frames.specs.Generators.{parked, suspended, suspended_in}
use Rattle.mon_frames.specs.declared.call.By.TheVariants as by
use Rattle.mon_interp.specs.Moving.{Stands}
use Rattle.mon_interp.specs.Asking.{Adds}
use Rattle.mon_interp.proofs.Asking.{adds_more}
use Rattle.mon_hear.specs.Words.{any_global}

pub leaves_none : (p : Parts) (v : FramesView) (calls : List Call) (x : Value) → length calls ≡ 0 → leaves p v calls x ≡ in_mode_of v Mode.Stuck
leaves_none p v [] x e = refl
leaves_none p v (call ∷ calls) x e = absurd (omega (arith, e))

-- the calls of the frames without the innermost
left_calls : (v w : FramesView) (calls : List Call) → calls ≡ v.calls → w ≡ without_top v → w.calls ≡ (without calls v).calls
left_calls v w calls e is = ap (λ (u : FramesView). u.calls) is ∙ ap (λ (l : List Call). (without l v).calls) (sym e)

leaves_by : (p : Parts) (v w : FramesView) (calls : List Call) (o : Origin) (x : Value) (s : State) → calls ≡ v.calls → origin_of calls ≡ Some o → w ≡ without_top v
    → (length w.calls ≡ 0 → s ≡ in_mode_of w (Mode.Ended (Outcome.Returned x))) → (0 < length w.calls → s ≡ gives_returned p w o x) → leaves p v calls x ≡ s
leaves_by p v w [] o x s e top is last more = absurd cc
leaves_by p v w (call ∷ []) o x s e top is last more =
    let none : length w.calls ≡ 0 = ap length (left_calls v w (call ∷ []) e is) in
    ap (λ (u : FramesView). in_mode_of u (Mode.Ended (Outcome.Returned x))) (sym is) ∙ sym (last none)
leaves_by p v w (call ∷ caller ∷ calls) o x s e top is last more =
    let some : 0 < length w.calls = omega (arith, ap length (left_calls v w (call ∷ caller ∷ calls) e is)) in
    let same : call.origin ≡ o = cc in
    ap (λ (u : FramesView). gives_returned p u call.origin x) (sym is) ∙ ap (λ (q : Origin). gives_returned p w q x) same ∙ sym (more some)

pub leaves_last : (p : Parts) (v w : FramesView) (o : Origin) (x : Value) → origin_of v.calls ≡ Some o → w ≡ without_top v → length w.calls ≡ 0 → leaves p v v.calls x ≡ in_mode_of w (Mode.Ended (Outcome.Returned x))
leaves_last p v w o x top is none = leaves_by p v w v.calls o x (in_mode_of w (Mode.Ended (Outcome.Returned x))) refl top is (λ _. refl) (λ h. absurd (omega (arith, none, h)))

pub leaves_more : (p : Parts) (v w : FramesView) (o : Origin) (x : Value) (s : State) → origin_of v.calls ≡ Some o → w ≡ without_top v → 0 < length w.calls → gives_returned p w o x ≡ s → leaves p v v.calls x ≡ s
leaves_more p v w o x s top is some made = leaves_by p v w v.calls o x s refl top is (λ h. absurd (omega (arith, h, some))) (λ _. sym made)

pub yields_none : (p : Parts) (v : FramesView) (calls : List Call) (x : Value) → length calls ≡ 0 → yields p v calls x ≡ in_mode_of v Mode.Stuck
yields_none p v [] x e = refl
yields_none p v (call ∷ calls) x e = absurd (omega (arith, e))

pub yields_plain : (p : Parts) (v : FramesView) (calls : List Call) (x : Value) → origin_of calls ≡ Some Plain → yields p v calls x ≡ in_mode_of v Mode.Stuck
yields_plain p v [] x e = absurd cc
yields_plain p v (call ∷ calls) x e = let same : call.origin ≡ Plain = cc in ap (λ (o : Origin). yields_from p v o calls x) same

waiting_calls : (v w : FramesView) (calls : List Call) → calls ≡ v.calls → w ≡ suspended v → w.calls ≡ (suspended_in v calls).calls
waiting_calls v w calls e is = ap (λ (u : FramesView). u.calls) is ∙ ap (λ (l : List Call). (suspended_in v l).calls) (sym e)

yields_by : (p : Parts) (v w : FramesView) (calls : List Call) (number : ℕ) (by : By) (x : Value) (s : State) → calls ≡ v.calls → origin_of calls ≡ Some (Generated number by) → w ≡ suspended v
    → (length w.calls ≡ 0 → s ≡ in_mode_of w (Mode.Ended (Outcome.Returned x))) → (0 < length w.calls → s ≡ gives_yielded p w number by x) → yields p v calls x ≡ s
yields_by p v w [] number by x s e top is last more = absurd cc
yields_by p v w (call ∷ []) number by x s e top is last more =
    let none : length w.calls ≡ 0 = ap length (waiting_calls v w (call ∷ []) e is) in
    let same : call.origin ≡ Generated number by = cc in
    ap (λ (o : Origin). yields_from p v o [] x) same ∙ ap (λ (u : FramesView). in_mode_of u (Mode.Ended (Outcome.Returned x))) (sym is) ∙ sym (last none)
yields_by p v w (call ∷ caller ∷ calls) number by x s e top is last more =
    let some : 0 < length w.calls = omega (arith, ap length (waiting_calls v w (call ∷ caller ∷ calls) e is)) in
    let same : call.origin ≡ Generated number by = cc in
    ap (λ (o : Origin). yields_from p v o (caller ∷ calls) x) same ∙ ap (λ (u : FramesView). gives_yielded p u number by x) (sym is) ∙ sym (more some)

pub yields_last : (p : Parts) (v w : FramesView) (number : ℕ) (by : By) (x : Value) → origin_of v.calls ≡ Some (Generated number by) → w ≡ suspended v → length w.calls ≡ 0 → yields p v v.calls x ≡ in_mode_of w (Mode.Ended (Outcome.Returned x))
yields_last p v w number by x top is none = yields_by p v w v.calls number by x (in_mode_of w (Mode.Ended (Outcome.Returned x))) refl top is (λ _. refl) (λ h. absurd (omega (arith, none, h)))

pub yields_more : (p : Parts) (v w : FramesView) (number : ℕ) (by : By) (x : Value) (s : State) → origin_of v.calls ≡ Some (Generated number by) → w ≡ suspended v → 0 < length w.calls → gives_yielded p w number by x ≡ s → yields p v v.calls x ≡ s
yields_more p v w number by x s top is some made = yields_by p v w v.calls number by x s refl top is (λ h. absurd (omega (arith, h, some))) (λ _. sym made)

pub parks_none : (p : Parts) (v : FramesView) (calls : List Call) → length calls ≡ 0 → parks p v calls ≡ in_mode_of v Mode.Stuck
parks_none p v [] e = refl
parks_none p v (call ∷ calls) e = absurd (omega (arith, e))

pub parks_generator : (p : Parts) (v : FramesView) (calls : List Call) (number : ℕ) (by : By) → origin_of calls ≡ Some (Generated number by) → parks p v calls ≡ in_mode_of v Mode.Stuck
parks_generator p v [] number by e = absurd cc
parks_generator p v (call ∷ calls) number by e = let same : call.origin ≡ Generated number by = cc in ap (λ (o : Origin). parks_from p v o) same

pub parks_plain : (p : Parts) (v w : FramesView) (calls : List Call) (number : ℕ) (s : State) → origin_of calls ≡ Some Plain → number ≡ (parked v).0 → w ≡ (parked v).1 → gives_caller p w w.calls (Gen number) ≡ s → parks p v calls ≡ s
parks_plain p v w [] number s e n is made = absurd cc
parks_plain p v w (call ∷ calls) number s e n is made =
    let same : call.origin ≡ Plain = cc in
    ap (λ (o : Origin). parks_from p v o) same ∙ ap (λ (u : FramesView). gives_caller p u u.calls (Gen (parked v).0)) (sym is) ∙ ap (λ (k : ℕ). gives_caller p w w.calls (Gen k)) (sym n) ∙ made

-- the call at which the innermost frame stands takes the value of its answer
pub answered : (v w : FramesView) (f : Frame) (x : Value) (ending : Ending) → pushes v f x ≡ moved w ending → finished v f (Ok x) ≡ in_mode_of w Mode.Run
answered v w f x ending made = ap (λ (m : Move). in_mode_of m.frames Mode.Run) made

pub top_stands : (calls : List Call) (f : Frame) → top_of calls ≡ Some f → f.index < 65536 → Stands calls
top_stands [] f e h = absurd cc
top_stands (call ∷ calls) f e h = let same : f ≡ call.frame = cc in subst (λ (g : Frame). g.index < 65536) same h

-- the innermost frame takes the value where it stands at a location
pub no_caller_stands : (p : Parts) (v : FramesView) (calls : List Call) (f : Frame) (x : Value) → top_of calls ≡ Some f → None ≡ stands_at p f → gives_caller p v calls x ≡ in_mode_of v Mode.Stuck
no_caller_stands p v [] f x e n = absurd cc
no_caller_stands p v (call ∷ calls) f x e n =
    let same : call.frame ≡ f = cc in
    ap (λ (g : Frame). takes_value v g x (stands_at p g)) same ∙ ap (λ (o : Option Location). takes_value v f x o) (sym n)

pub caller_takes : (p : Parts) (v w : FramesView) (calls : List Call) (f : Frame) (l : Location) (x : Value) (ending : Ending) → top_of calls ≡ Some f → Some l ≡ stands_at p f → pushes v f x ≡ moved w ending → gives_caller p v calls x ≡ in_mode_of w Mode.Run
caller_takes p v w [] f l x ending e n made = absurd cc
caller_takes p v w (call ∷ calls) f l x ending e n made =
    let same : call.frame ≡ f = cc in
    ap (λ (g : Frame). takes_value v g x (stands_at p g)) same ∙ ap (λ (o : Option Location). takes_value v f x o) (sym n) ∙ ap (λ (m : Move). in_mode_of m.frames Mode.Run) made

-- the innermost frame catches an exception
pub caught : (p : Parts) (v : FramesView) (calls : List Call) (e : Exc) (f : Frame) (h : Handler) → top_of calls ≡ Some f → Some h ≡ handler_due p f.code f.index → (unwinds p v e calls).after ≡ in_mode_of (with_frame v (caught_in h e f)) Mode.Run
caught p v [] e f h is n = absurd cc
caught p v (call ∷ calls) e f h is n =
    let same : call.frame ≡ f = cc in
    ap (λ (g : Frame). (unwinds_from p v call.origin e g (handler_due p g.code g.index)).after) same
    ∙ ap (λ (o : Option Handler). (unwinds_from p v call.origin e f o).after) (sym n)

-- or it leaves this frame
pub uncaught : (p : Parts) (v : FramesView) (calls : List Call) (e : Exc) (f : Frame) (last : State) → top_of calls ≡ Some f → None ≡ handler_due p f.code f.index
    → ((g : Frame) (origin : Origin) → origin_of calls ≡ Some origin → (unwinds_from p v origin e g None).after ≡ last) → (unwinds p v e calls).after ≡ last
uncaught p v [] e f last is n leaves = absurd cc
uncaught p v (call ∷ calls) e f last is n leaves =
    let same : call.frame ≡ f = cc in
    ap (λ (g : Frame). (unwinds_from p v call.origin e g (handler_due p g.code g.index)).after) same
    ∙ ap (λ (o : Option Handler). (unwinds_from p v call.origin e f o).after) (sym n)
    ∙ leaves f call.origin refl

-- ---- the events of an unwind step

caught_events : (p : Parts) (v : FramesView) (calls : List Call) (e : Exc) (f : Frame) (h : Handler) (place : Place) → top_of calls ≡ Some f → Some h ≡ handler_due p f.code f.index → IsAt place (caught_in h e f)
    → (unwinds p v e calls).events ≡ of_exception p Event.ExceptionHandled e (standing place) ∷ []
caught_events p v [] e f h place is n at = absurd cc
caught_events p v (call ∷ calls) e f h place is n at =
    let same : call.frame ≡ f = cc in
    ap (λ (g : Frame). (unwinds_from p v call.origin e g (handler_due p g.code g.index)).events) same
    ∙ ap (λ (o : Option Handler). (unwinds_from p v call.origin e f o).events) (sym n)
    ∙ ap (λ (x : Happening). x ∷ []) (sym (exception_at place (caught_in h e f) at p Event.ExceptionHandled e))

pub caught_adds : (p : Parts) (v : FramesView) (calls : List Call) (e : Exc) (f : Frame) (h : Handler) (place : Place) (word global : ℕ) (old new : List Happening) → top_of calls ≡ Some f → Some h ≡ handler_due p f.code f.index → IsAt place (caught_in h e f)
    → Adds word global old new (of_exception p Event.ExceptionHandled e (standing place) ∷ []) → Adds word global old new (unwinds p v e calls).events
caught_adds p v calls e f h place word global old new is n at k = subst (λ (l : List Happening). Adds word global old new l) (sym (caught_events p v calls e f h place is n at)) k

pub uncaught_adds : (p : Parts) (v : FramesView) (calls : List Call) (e : Exc) (f : Frame) (word global : ℕ) (old new : List Happening) → top_of calls ≡ Some f → None ≡ handler_due p f.code f.index
    → ((g : Frame) (origin : Origin) → top_of calls ≡ Some g → origin_of calls ≡ Some origin → Adds word global old new (unwinds_from p v origin e g None).events) → Adds word global old new (unwinds p v e calls).events
uncaught_adds p v [] e f word global old new is n leaves = absurd cc
uncaught_adds p v (call ∷ calls) e f word global old new is n leaves =
    let same : call.frame ≡ f = cc in
    subst (λ (o : Option Handler). Adds word global old new (unwinds_from p v call.origin e call.frame o).events) (n ∙ ap (λ (g : Frame). handler_due p g.code g.index) (sym same)) (leaves call.frame call.origin refl refl)

-- ---- where an exception goes that left a frame

pub out_ended : (p : Parts) (v : FramesView) (calls : List Call) (o : Origin) (e x : Exc) (f : Frame) → length calls ≡ 0 → x ≡ outside o e → (goes_out p v calls o e f).after ≡ in_mode_of v (Mode.Ended (Outcome.Raised x))
out_ended p v [] o e x f h is = ap (λ (y : Exc). in_mode_of v (Mode.Ended (Outcome.Raised y))) (sym is)
out_ended p v (call ∷ calls) o e x f h is = absurd (omega (arith, h))

pub out_answered : (p : Parts) (v : FramesView) (calls : List Call) (number builtin : ℕ) (e x : Exc) (f : Frame) → ¬ (length calls ≡ 0) → x ≡ outside (Generated number (by.Call builtin)) e
    → (goes_out p v calls (Generated number (by.Call builtin)) e f).after ≡ answers_call v builtin number (raise_answer builtin x)
out_answered p v [] number builtin e x f h is = absurd (h refl)
out_answered p v (call ∷ calls) number builtin e x f h is = ap (λ (y : Exc). answers_call v builtin number (raise_answer builtin y)) (sym is)

-- nothing more happens where no frame made the call
pub out_last : (p : Parts) (v : FramesView) (calls : List Call) (o : Origin) (e : Exc) (f : Frame) (word global : ℕ) (before old : List Happening) → length calls ≡ 0 → Adds word global before old (of_exception p Event.PyUnwind e f ∷ []) → Adds word global before old (goes_out p v calls o e f).events
out_last p v [] o e f word global before old h k = k
out_last p v (call ∷ calls) o e f word global before old h k = absurd (omega (arith, h))

-- or where it was a builtin's
pub out_answer : (p : Parts) (v : FramesView) (calls : List Call) (number builtin : ℕ) (e : Exc) (f : Frame) (word global : ℕ) (before old : List Happening)
    → Adds word global before old (of_exception p Event.PyUnwind e f ∷ []) → Adds word global before old (goes_out p v calls (Generated number (by.Call builtin)) e f).events
out_answer p v [] number builtin e f word global before old k = k
out_answer p v (call ∷ calls) number builtin e f word global before old k = k

-- a frame that goes on with the exception is not the caller of a builtin
abbrev pub IsOuter : Origin → Type 0
IsOuter Plain = Unit {0}
IsOuter (Generated number by.For) = Unit {0}
IsOuter (Generated number (by.Call builtin)) = ⊥

-- nor is one that goes on with what its loop's iterator raised
pub outer_for : (o : Origin) (number : ℕ) (way : By) → o ≡ Generated number way → way ≡ by.For → IsOuter o
outer_for o number way is for = subst IsOuter (sym (is ∙ ap (Generated number) for)) tt

pub outer_plain : (o : Origin) → o ≡ Plain → IsOuter o
outer_plain o is = subst IsOuter (sym is) tt

out_here : (p : Parts) (v : FramesView) (call : Call) (calls : List Call) (o : Origin) (e : Exc) (f : Frame) → IsOuter o → (goes_out p v (call ∷ calls) o e f).events ≡ of_exception p Event.PyUnwind e f ∷ of_exception p Event.Raise (outside o e) call.frame ∷ []
out_here p v call calls Plain e f h = refl
out_here p v call calls (Generated number by.For) e f h = refl
out_here p v call calls (Generated number (by.Call builtin)) e f h = absurd h

pub raised_at : (p : Parts) (calls : List Call) (e : Exc) (f g : Frame) (place : Place) (word global : ℕ) (old new : List Happening) → top_of calls ≡ Some f → top_of calls ≡ Some g → IsAt place g
    → Adds word global old new (of_exception p Event.Raise e (standing place) ∷ []) → Adds word global old new (of_exception p Event.Raise e f ∷ [])
raised_at p calls e f g place word global old new top top2 at k =
    let same : g ≡ f = cc in
    subst (λ (h : Happening). Adds word global old new (h ∷ [])) (exception_at place g at p Event.Raise e ∙ ap (of_exception p Event.Raise e) same) k

pub out_more : (p : Parts) (v : FramesView) (calls : List Call) (o : Origin) (e x : Exc) (f : Frame) (word global : ℕ) (before old new : List Happening) → IsOuter o → x ≡ outside o e → 0 < length calls
    → Adds word global before old (of_exception p Event.PyUnwind e f ∷ []) → ((word : ℕ) (g : Frame) → top_of calls ≡ Some g → Adds word global old new (of_exception p Event.Raise x g ∷ [])) → Adds word global before new (goes_out p v calls o e f).events
out_more p v [] o e x f word global before old new outer is some w n = absurd (omega (arith, some))
out_more p v (call ∷ calls) o e x f word global before old new outer is some w n =
    let raised : Adds word global old new (of_exception p Event.Raise (outside o e) call.frame ∷ []) =
    subst (λ (y : Exc). Adds word global old new (of_exception p Event.Raise y call.frame ∷ [])) is (n word call.frame refl) in
    subst (λ (l : List Happening). Adds word global before new l) (sym (out_here p v call calls o e f outer))
    (adds_more word global before old new (of_exception p Event.PyUnwind e f ∷ []) (of_exception p Event.Raise (outside o e) call.frame ∷ []) w raised)

pub left_raised : (p : Parts) (v w : FramesView) (e : Exc) (f g : Frame) (origin o : Origin) (place : Place) (word global : ℕ) (old mid new : List Happening) → top_of v.calls ≡ Some g → top_of v.calls ≡ Some f → origin_of v.calls ≡ Some o → origin_of v.calls ≡ Some origin
    → IsAt place g → w ≡ without_top v → Adds word global old mid (of_exception p Event.PyUnwind e (standing place) ∷ [])
    → ((word : ℕ) (before : List Happening) (x : Frame) → Adds word global before mid (of_exception p Event.PyUnwind e x ∷ []) → Adds word global before new (goes_out p w w.calls o e x).events)
    → Adds word global old new (unwinds_from p v origin e f None).events
left_raised p v w e f g origin o place word global old mid new top top2 is is2 at left added out =
    let same : g ≡ f = cc in
    let one : origin ≡ o = cc in
    let gone : Adds word global old new (goes_out p w w.calls o e f).events =
    out word old f (subst (λ (x : Happening). Adds word global old mid (x ∷ [])) (exception_at place g at p Event.PyUnwind e ∙ ap (of_exception p Event.PyUnwind e) same) added) in
    subst (λ (q : Origin). Adds word global old new (unwinds_from p v q e f None).events) (sym one) (subst (λ (z : FramesView). Adds word global old new (goes_out p z z.calls o e f).events) left gone)

pub out_raised : (p : Parts) (v : FramesView) (calls : List Call) (o : Origin) (e x : Exc) (f : Frame) → IsOuter o → ¬ (length calls ≡ 0) → x ≡ outside o e → (goes_out p v calls o e f).after ≡ in_mode_of v (Mode.Unwind x)
out_raised p v [] o e x f outer h is = absurd (h refl)
out_raised p v (call ∷ calls) Plain e x f outer h is = ap (λ (y : Exc). in_mode_of v (Mode.Unwind y)) (sym is)
out_raised p v (call ∷ calls) (Generated number by.For) e x f outer h is = ap (λ (y : Exc). in_mode_of v (Mode.Unwind y)) (sym is)
out_raised p v (call ∷ calls) (Generated number (by.Call builtin)) e x f outer h is = absurd outer

-- ---- whether anything happens

happens_out : (p : Parts) (v : FramesView) (calls : List Call) (o : Origin) (e : Exc) (f : Frame) → any_global (goes_out p v calls o e f).events ≡ true
happens_out p v [] o e f = refl
happens_out p v (call ∷ calls) Plain e f = refl
happens_out p v (call ∷ calls) (Generated number by.For) e f = refl
happens_out p v (call ∷ calls) (Generated number (by.Call builtin)) e f = refl

happens_from : (p : Parts) (v : FramesView) (o : Origin) (e : Exc) (f : Frame) (h : Option Handler) → any_global (unwinds_from p v o e f h).events ≡ true
happens_from p v o e f (Some h) = refl
happens_from p v o e f None = happens_out p (without_top v) (without_top v).calls o e f

pub unwinding_happens : (p : Parts) (v : FramesView) (e : Exc) (calls : List Call) → 0 < length calls → any_global (unwinds p v e calls).events ≡ true
unwinding_happens p v e [] h = absurd (omega (arith, h))
unwinding_happens p v e (call ∷ calls) h = happens_from p v call.origin e call.frame (handler_due p call.frame.code call.frame.index)
