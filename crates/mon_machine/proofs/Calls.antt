-- The laws of a call's run.
use Rattle.std.proofs.Common.{◌≡◌, ℕ, zero, suc, ◌+◌, true, false, List, [], ◌∷◌, length, drop, arith, refl, sym, subst}
use Rattle.std.specs.Prelude.{Some}
use Rattle.std.specs.List.{AllByRecursion}
use Rattle.mon_values.specs.declared.value.Value.{Value}
use Rattle.mon_events.specs.declared.op.Op.{Op}
use Rattle.mon_code.specs.declared.program.Code.{Code}
use Rattle.mon_code.specs.Programs.{Parts}
use Rattle.mon_code.specs.Checked.{IsChecked}
use Rattle.mon_frames.specs.declared.frame.Frame.{Frame}
use Rattle.mon_frames.specs.declared.call.Call.{Call}
use Rattle.mon_frames.specs.declared.call.Origin.{Origin}
use Rattle.mon_frames.specs.Views.{FramesView, top_of}
use Rattle.mon_recorders.specs.declared.report.Outcome.{Outcome}
use Rattle.mon_machine.specs.declared.mode.Mode.{Mode}
use Rattle.mon_machine.specs.State.{State, start, goes}
use Rattle.mon_machine.specs.Step.{step}
use Rattle.mon_machine.specs.Run.{after_steps, outcome_of}
use Rattle.mon_machine.specs.Laws.{IsCall, NeverStuck, FitsDepths, HasDepths, DepthsAsRecorded, LimitsAreBounds, LineMarks, ProperEvents}
use Rattle.mon_machine.proofs.Fitting.{FoundAt, found_at, checked_code}
use Rattle.mon_machine.proofs.Keeping.{IsAt, Waits, op_below, Waiting, HasTop, IsOwn, IsIn, Keeps, called_at}
use Rattle.mon_machine.proofs.Runs.{steps_done_on}
use Rattle.mon_machine.proofs.Stepping.{step_steps}

run_keeps : (p : Parts) (s : State) (n : ℕ) → IsChecked p → Keeps p s → Keeps p (after_steps p s n)
unfolding after_steps
run_keeps p s zero checked k = k
run_keeps p s (suc n) checked k = run_keeps p (step p s).after n checked (step_steps p s checked k).keeps

start_keeps : (p : Parts) (k : ℕ) (c : Code) (args : List Value) → IsCall p k c args → Keeps p (start c k args)
start_keeps p k c args call = record { generators = tt; stands = (called_at p c k args call.found (checked_code p k c call.checked call.found) call.count, tt) }

-- the states of a call
pub call_keeps : (p : Parts) (k : ℕ) (c : Code) (args : List Value) → IsCall p k c args → (n : ℕ) → Keeps p (after_steps p (start c k args) n)
call_keeps p k c args call n = run_keeps p (start c k args) n call.checked (start_keeps p k c args call)

pub never_stuck : NeverStuck
never_stuck p k c args call n stuck =
    subst (λ (mode : Mode). IsIn p (after_steps p (start c k args) n).frames mode) stuck (call_keeps p k c args call n).stands

-- what is recorded is what a frame has
depths_at : (p : Parts) (o : Origin) (f : Frame) → IsAt p o f → FitsDepths p f f.index 0
depths_at p o f at =
    let place : FoundAt at.code f.index (length f.stack) (length f.handling) = found_at at.code f.index (length f.stack) (length f.handling) at.depth in
    record { code = at.code; found = at.is_of.found; location = place.location; stands = place.stands; stack = omega (arith, place.stack); handling = sym place.handling }

depths_behind : (p : Parts) (op : Op) (o : Origin) (f : Frame) → Waits p op o f → FitsDepths p f (f.index + 1) 1
depths_behind p op o f w =
    let place : FoundAt w.code (f.index + 1) (1 + length f.stack) (length f.handling) = found_at w.code (f.index + 1) (1 + length f.stack) (length f.handling) w.next in
    record { code = w.code; found = w.is_of.found; location = place.location; stands = place.stands; stack = sym place.stack; handling = sym place.handling }

abbrev Behind : Parts → List Call → Type 0
Behind p calls = AllByRecursion (λ (call : Call). FitsDepths p call.frame (call.frame.index + 1) 1) calls

all_behind : (p : Parts) (above : Origin) (calls : List Call) → Waiting p above calls → Behind p calls
all_behind p above [] w = tt
all_behind p above (call ∷ calls) w = (depths_behind p (op_below above) call.origin call.frame w.0, all_behind p call.origin calls w.1)

below_top : (p : Parts) (Is : Origin → Frame → Type 0) (calls : List Call) → HasTop p Is calls → Behind p (drop 1 calls)
below_top p Is [] h = absurd h
below_top p Is (call ∷ calls) h = all_behind p call.origin calls h.1

top_depths : (p : Parts) (calls : List Call) → HasTop p (IsAt p) calls → (f : Frame) × (top_of calls ≡ Some f) × FitsDepths p f f.index 0
top_depths p [] h = absurd h
top_depths p (call ∷ calls) h = (call.frame, refl, depths_at p call.origin call.frame h.0)

top_behind : (p : Parts) (calls : List Call) → HasTop p (Waits p Op.Call) calls → (f : Frame) × (top_of calls ≡ Some f) × FitsDepths p f (f.index + 1) 1
top_behind p [] h = absurd h
top_behind p (call ∷ calls) h = (call.frame, refl, depths_behind p Op.Call call.origin call.frame h.0)

depths_in : (p : Parts) (v : FramesView) (mode : Mode) → IsIn p v mode → HasDepths p (record { frames = v; mode = mode })
depths_in p v Mode.Run is = record { top = λ e. top_depths p v.calls is; answered = λ a e. absurd (cc); callers = λ e. below_top p (IsAt p) v.calls is }
depths_in p v (Mode.Unwind x) is = record { top = λ e. absurd (cc); answered = λ a e. absurd (cc); callers = λ e. below_top p _ v.calls is }
depths_in p v (Mode.Finish a) is = record { top = λ e. absurd (cc); answered = λ b e. top_behind p v.calls is; callers = λ e. below_top p _ v.calls is }
depths_in p v (Mode.Ended outcome) is = record { top = λ e. absurd (cc); answered = λ a e. absurd (cc); callers = λ e. let h : false ≡ true = e in absurd (cc) }
depths_in p v Mode.Stuck is = absurd is

pub depths_as_recorded : DepthsAsRecorded
depths_as_recorded p k c args call n =
    let s : State = after_steps p (start c k args) n in
    depths_in p s.frames s.mode (call_keeps p k c args call n).stands

-- a mode in which a run stands has the limit for its outcome where it goes on
limit_goes : (p : Parts) (v : FramesView) (mode : Mode) → IsIn p v mode → outcome_of mode ≡ Outcome.Limit → goes mode ≡ true
limit_goes p v Mode.Run is e = refl
limit_goes p v (Mode.Unwind x) is e = refl
limit_goes p v (Mode.Finish a) is e = refl
limit_goes p v (Mode.Ended outcome) is e = absurd (subst IsOwn e is)
limit_goes p v Mode.Stuck is e = absurd is

goes_limit : (mode : Mode) → goes mode ≡ true → outcome_of mode ≡ Outcome.Limit
goes_limit Mode.Run e = refl
goes_limit (Mode.Unwind x) e = refl
goes_limit (Mode.Finish a) e = refl
goes_limit (Mode.Ended outcome) e = let h : false ≡ true = e in absurd (cc)
goes_limit Mode.Stuck e = refl

pub limits_are_bounds : LimitsAreBounds
limits_are_bounds p k c args call n =
    let s : State = start c k args in
    let here : State = after_steps p s n in
    let on : outcome_of here.mode ≡ Outcome.Limit → goes here.mode ≡ true = limit_goes p here.frames here.mode (call_keeps p k c args call n).stands in
    record { reached = λ e. (on e, steps_done_on p s n (on e)); otherwise = goes_limit here.mode }

pub line_marks : LineMarks
line_marks p k c args call n = (step_steps p (after_steps p (start c k args) n) call.checked (call_keeps p k c args call n)).marks

pub proper_events : ProperEvents
proper_events p k c args call n = (step_steps p (after_steps p (start c k args) n) call.checked (call_keeps p k c args call n)).proper
