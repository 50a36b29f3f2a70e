-- Worked examples over more than one frame: a call that returns, an exception that is caught, and a loop to its end.
use Rattle.std.proofs.Common.{◌≡◌, ℕ, ◌+◌, Bool, true, false, ◌&&◌, List, [], ◌∷◌, map, refl, sym, ap, ◌∙◌, arith, rules}
use Rattle.std.specs.Prelude.{Option, Some, None, IsTrue, codes, slice_get, if◌then◌else◌}
use Rattle.mon_values.specs.declared.value.Value.{Value, Bool as Truth, Tuple, Function, ExcClass, Iter, Done, Exc as Raised-value}
use Rattle.mon_values.specs.declared.value.Value.TheOpen.{Value-F}
use Rattle.mon_values.specs.declared.value.Value.TheFolds.{fold-roll-Value}
use Rattle.mon_values.specs.declared.value.Value.TheViews as values
use Rattle.mon_values.specs.declared.value.Value.TheViews.{out-Value, the_lemmas}
use Rattle.mon_values.specs.declared.value.Exc.{Exc}
use Rattle.mon_values.specs.Weights.{exc_of}
use Rattle.mon_events.specs.declared.event.Event.{Event}
use Rattle.mon_events.specs.declared.op.Op.{Op}
use Rattle.mon_code.specs.declared.program.Code.{Code}
use Rattle.mon_code.specs.declared.program.Handler.{Handler}
use Rattle.mon_code.specs.declared.program.Location.{Location}
use Rattle.mon_code.specs.Programs.{Parts}
use Rattle.mon_code.specs.Checked.{IsChecked, IsCode, is_constant, constant_step, never}
use Rattle.mon_frames.specs.declared.frame.Frame.{Frame}
use Rattle.mon_frames.specs.declared.call.Origin.TheVariants.{Plain}
use Rattle.mon_frames.specs.Items.{items_at}
use Rattle.mon_frames.specs.Iterating.{iterated_at, over}
use Rattle.mon_frames.specs.Calls.{called}
use Rattle.mon_frames.specs.Views.{FramesView}
use Rattle.mon_recorders.specs.declared.happening.Happening.{Happening}
use Rattle.mon_recorders.specs.declared.report.Outcome.{Outcome}
use Rattle.mon_machine.specs.declared.mode.Mode.{Mode}
use Rattle.mon_machine.specs.State.{State, Move, in_top, goes_on, jumps, start}
use Rattle.mon_machine.specs.Operations.{raised, instance_at, handles, exception_at, is_done_at}
use Rattle.mon_machine.specs.Moves.{calls_at, iterates, for_iter_at}
use Rattle.mon_machine.specs.Events.{instruction_events}
use Rattle.mon_machine.specs.Step.{step, after_ending}
use Rattle.mon_machine.specs.Run.{after_steps}
use Rattle.mon_machine.specs.Laws.{IsCall}
use Rattle.mon_machine.proofs.Runs.{after_steps_sum, after_steps_first}

abbrev location : ℕ → Option ℕ → Bool → Bool → Option Handler → ℕ → ℕ → Location
location argument line is_marked is_safe handler stack handling = record { argument = argument; line = line; is_marked = is_marked; is_safe = is_safe; handler = handler; stack = stack; handling = handling }

-- 1 def g(y):
-- 2     return y
abbrev g : Code
g = record {
  parameters = 1;
  locals = codes "y" ∷ [];
  globals = [];
  constants = [];
  first = 0;
  locations =
      location 0 None false true None 0 0
      ∷ location 0 (Some 2) true false None 0 0
      ∷ location 0 (Some 2) false false None 1 0
      ∷ [];
}

-- 3 def h():
-- 4     return g(True)
abbrev h : Code
h = record {
  parameters = 0;
  locals = [];
  globals = codes "g" ∷ [];
  constants = Truth true ∷ [];
  first = 3;
  locations =
      location 0 None false true None 0 0
      ∷ location 0 (Some 4) true false None 0 0
      ∷ location 0 (Some 4) false false None 1 0
      ∷ location 1 (Some 4) false false None 2 0
      ∷ location 0 (Some 4) false false None 1 0
      ∷ [];
}

-- 5 def t():
-- 6     try:
-- 7         raise ValueError
-- 8     except:
-- 9         return True
abbrev t : Code
t = record {
  parameters = 0;
  locals = [];
  globals = codes "ValueError" ∷ [];
  constants = Truth true ∷ [];
  first = 8;
  locations =
      location 0 None false true None 0 0
      ∷ location 0 (Some 7) true false (Some (record { to = 3; stack = 0; handling = 0 })) 0 0
      ∷ location 1 (Some 7) false false (Some (record { to = 3; stack = 0; handling = 0 })) 1 0
      ∷ location 0 (Some 8) true false None 1 0
      ∷ location 0 (Some 8) false false None 1 1
      ∷ location 0 (Some 9) true false None 0 1
      ∷ location 0 (Some 9) false false None 0 0
      ∷ location 0 (Some 9) false false None 1 0
      ∷ [];
}

-- 10 def w():
-- 11     for x in (True,):
-- 12         pass
-- 13     return True
abbrev w : Code
w = record {
  parameters = 0;
  locals = codes "x" ∷ [];
  globals = [];
  constants = Tuple (Truth true ∷ []) ∷ Truth true ∷ [];
  first = 16;
  locations =
      location 0 None false true None 0 0
      ∷ location 0 (Some 11) true false None 0 0
      ∷ location 0 (Some 11) false false None 1 0
      ∷ location 0 (Some 11) true false None 1 0
      ∷ location 7 (Some 11) false false None 2 0
      ∷ location 0 (Some 12) true false None 2 0
      ∷ location 3 (Some 12) false true None 1 0
      ∷ location 0 (Some 11) true false None 1 0
      ∷ location 1 (Some 13) true false None 0 0
      ∷ location 0 (Some 13) false false None 1 0
      ∷ [];
}

abbrev program : Parts
program = record { names = codes "g" ∷ codes "h" ∷ codes "t" ∷ codes "w" ∷ []; constants = []; codes = g ∷ h ∷ t ∷ w ∷ []; bases = 1 ∷ 3 ∷ 29 ∷ 1 ∷ 6 ∷ 2 ∷ 28 ∷ 29 ∷ 1 ∷ 6 ∷ 32 ∷ 34 ∷ 19 ∷ 36 ∷ 2 ∷ 29 ∷ 1 ∷ 2 ∷ 24 ∷ 25 ∷ 26 ∷ 4 ∷ 21 ∷ 27 ∷ 2 ∷ 29 ∷ [] }

true_constant : IsTrue (is_constant (Truth true))
true_constant = ap is_constant (sym (values.rolls-Bool true)) ∙ fold-roll-Value Bool Bool constant_step never (Value-F.Bool true)

tuple_constant : IsTrue (is_constant (Tuple (Truth true ∷ [])))
tuple_constant = ap is_constant (sym (values.rolls-Tuple (Truth true ∷ []))) ∙ fold-roll-Value Bool Bool constant_step never (Value-F.Tuple (Truth true ∷ [])) ∙ ap (λ (b : Bool). b && true) true_constant

g_is_code : IsCode program.bases g
g_is_code = record {
  parameters = omega arith;
  locals = omega arith;
  constants = tt;
  start = refl;
  each = (
    record { fits = record { has = omega arith; holds = omega arith; next = λ _. refl; jumps = tt; caught = tt }; argument = omega arith; stands = tt; behind = λ w. cc; safe = refl; marked = refl },
    (
      record { fits = record { has = omega arith; holds = omega arith; next = λ _. refl; jumps = tt; caught = tt }; argument = omega arith; stands = tt; behind = λ w. cc; safe = refl; marked = refl },
      (
        record { fits = record { has = omega arith; holds = omega arith; next = λ h. cc; jumps = tt; caught = tt }; argument = tt; stands = tt; behind = λ w. cc; safe = refl; marked = refl },
        tt,
      ),
    ),
  );
}

h_is_code : IsCode program.bases h
h_is_code = record {
  parameters = omega arith;
  locals = omega arith;
  constants = (true_constant, tt);
  start = refl;
  each = (
    record { fits = record { has = omega arith; holds = omega arith; next = λ _. refl; jumps = tt; caught = tt }; argument = omega arith; stands = tt; behind = λ w. cc; safe = refl; marked = refl },
    (
      record { fits = record { has = omega arith; holds = omega arith; next = λ _. refl; jumps = tt; caught = tt }; argument = omega arith; stands = tt; behind = λ w. cc; safe = refl; marked = refl },
      (
        record { fits = record { has = omega arith; holds = omega arith; next = λ _. refl; jumps = tt; caught = tt }; argument = omega arith; stands = tt; behind = λ w. cc; safe = refl; marked = refl },
        (
          record { fits = record { has = omega arith; holds = omega arith; next = λ _. refl; jumps = tt; caught = tt }; argument = tt; stands = tt; behind = λ w. cc; safe = refl; marked = refl },
          (
            record { fits = record { has = omega arith; holds = omega arith; next = λ h. cc; jumps = tt; caught = tt }; argument = tt; stands = tt; behind = λ w. cc; safe = refl; marked = refl },
            tt,
          ),
        ),
      ),
    ),
  );
}

t_is_code : IsCode program.bases t
t_is_code = record {
  parameters = omega arith;
  locals = omega arith;
  constants = (true_constant, tt);
  start = refl;
  each = (
    record { fits = record { has = omega arith; holds = omega arith; next = λ _. refl; jumps = tt; caught = tt }; argument = omega arith; stands = tt; behind = λ w. cc; safe = refl; marked = refl },
    (
      record { fits = record { has = omega arith; holds = omega arith; next = λ _. refl; jumps = tt; caught = ((omega arith, refl), omega arith, omega arith) }; argument = omega arith; stands = tt; behind = λ w. cc; safe = refl; marked = refl },
      (
        record { fits = record { has = omega arith; holds = omega arith; next = λ h. cc; jumps = tt; caught = ((omega arith, refl), omega arith, omega arith) }; argument = omega arith; stands = tt; behind = λ w. cc; safe = refl; marked = refl },
        (
          record { fits = record { has = omega arith; holds = omega arith; next = λ _. refl; jumps = tt; caught = tt }; argument = tt; stands = tt; behind = λ w. cc; safe = refl; marked = refl },
          (
            record { fits = record { has = omega arith; holds = omega arith; next = λ _. refl; jumps = tt; caught = tt }; argument = tt; stands = tt; behind = λ w. cc; safe = refl; marked = refl },
            (
              record { fits = record { has = omega arith; holds = omega arith; next = λ _. refl; jumps = tt; caught = tt }; argument = tt; stands = tt; behind = λ w. cc; safe = refl; marked = refl },
              (
                record { fits = record { has = omega arith; holds = omega arith; next = λ _. refl; jumps = tt; caught = tt }; argument = omega arith; stands = tt; behind = λ w. cc; safe = refl; marked = refl },
                (
                  record { fits = record { has = omega arith; holds = omega arith; next = λ h. cc; jumps = tt; caught = tt }; argument = tt; stands = tt; behind = λ w. cc; safe = refl; marked = refl },
                  tt,
                ),
              ),
            ),
          ),
        ),
      ),
    ),
  );
}

w_is_code : IsCode program.bases w
w_is_code = record {
  parameters = omega arith;
  locals = omega arith;
  constants = (tuple_constant, (true_constant, tt));
  start = refl;
  each = (
    record { fits = record { has = omega arith; holds = omega arith; next = λ _. refl; jumps = tt; caught = tt }; argument = omega arith; stands = tt; behind = λ w. cc; safe = refl; marked = refl },
    (
      record { fits = record { has = omega arith; holds = omega arith; next = λ _. refl; jumps = tt; caught = tt }; argument = omega arith; stands = tt; behind = λ w. cc; safe = refl; marked = refl },
      (
        record { fits = record { has = omega arith; holds = omega arith; next = λ _. refl; jumps = tt; caught = tt }; argument = tt; stands = tt; behind = λ w. cc; safe = refl; marked = refl },
        (
          record { fits = record { has = omega arith; holds = omega arith; next = λ _. refl; jumps = tt; caught = tt }; argument = tt; stands = tt; behind = λ w. cc; safe = refl; marked = refl },
          (
            record { fits = record { has = omega arith; holds = omega arith; next = λ _. refl; jumps = (omega arith, refl); caught = tt }; argument = tt; stands = tt; behind = λ w. cc; safe = refl; marked = refl },
            (
              record { fits = record { has = omega arith; holds = omega arith; next = λ _. refl; jumps = tt; caught = tt }; argument = omega arith; stands = tt; behind = λ w. cc; safe = refl; marked = refl },
              (
                record { fits = record { has = omega arith; holds = omega arith; next = λ h. cc; jumps = (omega arith, refl); caught = tt }; argument = tt; stands = tt; behind = λ w. cc; safe = refl; marked = refl },
                (
                  record { fits = record { has = omega arith; holds = omega arith; next = λ _. refl; jumps = tt; caught = tt }; argument = tt; stands = tt; behind = λ w. cc; safe = refl; marked = refl },
                  (
                    record { fits = record { has = omega arith; holds = omega arith; next = λ _. refl; jumps = tt; caught = tt }; argument = omega arith; stands = tt; behind = λ w. cc; safe = refl; marked = refl },
                    (
                      record { fits = record { has = omega arith; holds = omega arith; next = λ h. cc; jumps = tt; caught = tt }; argument = tt; stands = tt; behind = λ w. cc; safe = refl; marked = refl },
                      tt,
                    ),
                  ),
                ),
              ),
            ),
          ),
        ),
      ),
    ),
  );
}

is_checked : IsChecked program
is_checked = record { named = refl; small = omega arith; constants = tt; codes = (refl, g_is_code, (refl, h_is_code, (refl, t_is_code, (refl, w_is_code, refl)))) }

is_called : (k : ℕ) (c : Code) → slice_get program.codes k ≡ Some c → 0 ≡ c.parameters → IsCall program k c []
is_called k c found none = record { checked = is_checked; found = found; count = none }

-- the premises of the laws can be met
w_is_called : IsCall program 3 w []
w_is_called = is_called 3 w refl refl

-- the layers of values
out_function : (k : ℕ) → out-Value (Function k) ≡ Value-F.Function k
out_function k = search (rules, the_lemmas)

out_class : (k : ℕ) → out-Value (ExcClass k) ≡ Value-F.ExcClass k
out_class k = search (rules, the_lemmas)

out_exc : (e : Exc) → out-Value (Raised-value e) ≡ Value-F.Exc e
out_exc e = search (rules, the_lemmas)

out_tuple : (items : List Value) → out-Value (Tuple items) ≡ Value-F.Tuple items
out_tuple items = search (rules, the_lemmas)

out_iter : (k : ℕ) → out-Value (Iter k) ≡ Value-F.Iter k
out_iter k = search (rules, the_lemmas)

out_truth : (b : Bool) → out-Value (Truth b) ≡ Value-F.Bool b
out_truth b = search (rules, the_lemmas)

out_done : (e : Option Exc) → out-Value (Done e) ≡ Value-F.Done e
out_done e = search (rules, the_lemmas)

-- some steps, and then some more
then_on : (m n : ℕ) (s t u : State) → after_steps program s m ≡ t → after_steps program t n ≡ u → after_steps program s (m + n) ≡ u
then_on m n s t u e f = after_steps_sum program s m n ∙ ap (λ (x : State). after_steps program x n) e ∙ f

step_on : (n : ℕ) (s t u : State) → (step program s).after ≡ t → after_steps program t n ≡ u → after_steps program s (n + 1) ≡ u
step_on n s t u e f = after_steps_first program s n ∙ ap (λ (x : State). after_steps program x n) e ∙ f

abbrev events_of : List Happening → List Event
events_of hs = map (λ (h : Happening). h.event) hs

abbrev alone : Frame → List (List Value) → FramesView
alone f its = record { calls = record { frame = f; origin = Plain } ∷ []; generators = []; iterators = its }

abbrev stands : FramesView → State
stands v = record { frames = v; mode = Mode.Run }

abbrev returned : List (List Value) → State
returned its = record { frames = record { calls = []; generators = []; iterators = its }; mode = Mode.Ended (Outcome.Returned (Truth true)) }

abbrev h_call : Frame
h_call = record { code = 1; index = 3; locals = []; stack = Truth true ∷ Function 0 ∷ []; handling = []; line = Some 4 }

-- its operands are taken
abbrev h_taken : Frame
h_taken = record h_call { stack = [] }

abbrev in_g : State
in_g = stands (record { calls = record { frame = called g 0 (Truth true ∷ []); origin = Plain } ∷ record { frame = h_taken; origin = Plain } ∷ []; generators = []; iterators = [] })

abbrev h_calls : Value-F Value Exc → Move
h_calls layer = calls_at program (alone h_taken []) h_taken (Truth true ∷ []) layer

h_comes : after_steps program (start h 1 []) 3 ≡ stands (alone h_call [])
unfolding after_steps step
h_comes = refl

h_enters : (step program (stands (alone h_call []))).after ≡ in_g
unfolding step
h_enters = ap (λ (layer : Value-F Value Exc). after_ending program (h_calls layer).frames (h_calls layer).ending) (out_function 0)

g_returns : after_steps program in_g 3 ≡ stands (alone (record h_call { index = 4; stack = Truth true ∷ [] }) [])
unfolding after_steps step
g_returns = refl

h_ends : after_steps program (stands (alone (record h_call { index = 4; stack = Truth true ∷ [] }) [])) 1 ≡ returned []
unfolding after_steps step
h_ends = refl

h_tells : events_of (step program (stands (alone h_call []))).events ≡ Event.Instruction ∷ Event.Call ∷ []
unfolding step
h_tells = ap (λ (layer : Value-F Value Exc). events_of (instruction_events program Op.Call 1 6 (Some 4) h_call (h_calls layer))) (out_function 0)

-- the callee's value is the caller's, and then the thread's
h_returns : after_steps program (start h 1 []) 8 ≡ returned []
h_returns = then_on 3 5 (start h 1 []) (stands (alone h_call [])) (returned []) h_comes
    (step_on 4 (stands (alone h_call [])) in_g (returned []) h_enters (then_on 3 1 in_g (stands (alone (record h_call { index = 4; stack = Truth true ∷ [] }) [])) (returned []) g_returns h_ends))

abbrev t_at : ℕ → List Value → ℕ → Frame
t_at index stack line = record { code = 2; index = index; locals = []; stack = stack; handling = []; line = Some line }

abbrev t_class : State
t_class = stands (alone (t_at 2 (ExcClass 14 ∷ []) 7) [])

abbrev t_raised : State
t_raised = record { frames = alone (t_at 2 [] 7) []; mode = Mode.Unwind (exc_of 14 None) }

abbrev t_caught : State
t_caught = stands (alone (t_at 3 (Raised-value (exc_of 14 None) ∷ []) 7) [])

abbrev t_handled : State
t_handled = stands (alone (record (t_at 4 (Raised-value (exc_of 14 None) ∷ []) 8) { handling = exc_of 14 None ∷ [] }) [])

abbrev t_raises : Value-F Value Exc → Move
t_raises layer = in_top (alone (t_at 2 (ExcClass 14 ∷ []) 7) []) (raised (t_at 2 (ExcClass 14 ∷ []) 7) [] (instance_at layer))

t_comes : after_steps program (start t 2 []) 2 ≡ t_class
unfolding after_steps step
t_comes = refl

t_throws : (step program t_class).after ≡ t_raised
unfolding step
t_throws = ap (λ (layer : Value-F Value Exc). after_ending program (t_raises layer).frames (t_raises layer).ending) (out_class 14)

t_tells : events_of (step program t_class).events ≡ Event.Instruction ∷ Event.Raise ∷ []
unfolding step
t_tells = ap (λ (layer : Value-F Value Exc). events_of (instruction_events program Op.RaiseVarargs 1 10 (Some 7) (t_at 2 (ExcClass 14 ∷ []) 7) (t_raises layer))) (out_class 14)

t_catches : (step program t_raised).after ≡ t_caught
unfolding step
t_catches = refl

t_tells_caught : events_of (step program t_raised).events ≡ Event.ExceptionHandled ∷ []
unfolding step
t_tells_caught = refl

t_handles : (step program t_caught).after ≡ t_handled
unfolding step
t_handles =
    let f : Frame = t_at 3 (Raised-value (exc_of 14 None) ∷ []) 8 in
    ap (λ (layer : Value-F Value Exc). let m = in_top (alone f []) (handles f (exception_at layer)) in after_ending program m.frames m.ending) (out_exc (exc_of 14 None))

t_ends : after_steps program t_handled 4 ≡ returned []
unfolding after_steps step
t_ends = refl

-- an exception goes to the handler, which forgets it at its end
t_returns : after_steps program (start t 2 []) 9 ≡ returned []
t_returns = then_on 2 7 (start t 2 []) t_class (returned []) t_comes
    (step_on 6 t_class t_raised (returned []) t_throws (step_on 5 t_raised t_caught (returned []) t_catches (step_on 4 t_caught t_handled (returned []) t_handles t_ends)))

-- the state of the loop at an index, with what its iterator has yet to give
abbrev w_at : ℕ → Option Value → List Value → ℕ → Frame
w_at index x stack line = record { code = 3; index = index; locals = x ∷ []; stack = stack; handling = []; line = Some line }

abbrev one : Value
one = Tuple (Truth true ∷ [])

w_comes : after_steps program (start w 3 []) 2 ≡ stands (alone (w_at 2 None (one ∷ []) 11) [])
unfolding after_steps step
w_comes = refl

w_begins : (step program (stands (alone (w_at 2 None (one ∷ []) 11) []))).after ≡ stands (alone (w_at 3 None (Iter 0 ∷ []) 11) ((Truth true ∷ []) ∷ []))
unfolding step
w_begins =
    let f : Frame = w_at 2 None [] 11 in
    let v : FramesView = alone f [] in
    ap (λ (layer : Value-F Value Exc). let m = iterates v f (iterated_at v one layer) in after_ending program m.frames m.ending) (out_tuple (Truth true ∷ []))
    ∙ ap (λ (layer : Value-F Value Exc). let m = iterates v f (over v (items_at layer)) in after_ending program m.frames m.ending) (out_tuple (Truth true ∷ []))

-- the iterator gives what it has left
w_goes : (x : Option Value) (line : ℕ) (its : List Value) → (step program (stands (alone (w_at 3 x (Iter 0 ∷ []) line) (its ∷ [])))).after
    ≡ (let m = for_iter_at (alone (w_at 3 x (Iter 0 ∷ []) 11) (its ∷ [])) (w_at 3 x (Iter 0 ∷ []) 11) (Value-F.Iter 0) in after_ending program m.frames m.ending)
unfolding step
w_goes x line its =
    let f : Frame = w_at 3 x (Iter 0 ∷ []) 11 in
    ap (λ (layer : Value-F Value Exc). let m = for_iter_at (alone f (its ∷ [])) f layer in after_ending program m.frames m.ending) (out_iter 0)

abbrev w_tests : Value → Option Value → Value-F Value Exc → State
w_tests v x layer =
    let f : Frame = w_at 4 x (v ∷ Iter 0 ∷ []) 11 in
    let m = in_top (alone f ([] ∷ [])) (if is_done_at layer then jumps f 7 (v ∷ []) else goes_on f (v ∷ Iter 0 ∷ [])) in
    after_ending program m.frames m.ending

w_enters : (step program (stands (alone (w_at 4 None (Truth true ∷ Iter 0 ∷ []) 11) ([] ∷ [])))).after ≡ stands (alone (w_at 5 None (Truth true ∷ Iter 0 ∷ []) 11) ([] ∷ []))
unfolding step
w_enters = ap (w_tests (Truth true) None) (out_truth true)

w_leaves : (step program (stands (alone (w_at 4 (Some (Truth true)) (Done None ∷ Iter 0 ∷ []) 11) ([] ∷ [])))).after ≡ stands (alone (w_at 7 (Some (Truth true)) (Done None ∷ []) 11) ([] ∷ []))
unfolding step
w_leaves = ap (w_tests (Done None) (Some (Truth true))) (out_done None)

w_again : after_steps program (stands (alone (w_at 5 None (Truth true ∷ Iter 0 ∷ []) 11) ([] ∷ []))) 2 ≡ stands (alone (w_at 3 (Some (Truth true)) (Iter 0 ∷ []) 12) ([] ∷ []))
unfolding after_steps step
w_again = refl

w_ends : after_steps program (stands (alone (w_at 7 (Some (Truth true)) (Done None ∷ []) 11) ([] ∷ []))) 3 ≡ returned ([] ∷ [])
unfolding after_steps step
w_ends = refl

-- a loop goes over the one item of a tuple, and ends
w_returns : after_steps program (start w 3 []) 12 ≡ returned ([] ∷ [])
w_returns =
    let at = λ (f : Frame) (left : List Value). stands (alone f (left ∷ [])) in
    let end = returned ([] ∷ []) in
    then_on 2 10 (start w 3 []) (stands (alone (w_at 2 None (one ∷ []) 11) [])) end w_comes
    (step_on 9 (stands (alone (w_at 2 None (one ∷ []) 11) [])) (at (w_at 3 None (Iter 0 ∷ []) 11) (Truth true ∷ [])) end w_begins
    (step_on 8 (at (w_at 3 None (Iter 0 ∷ []) 11) (Truth true ∷ [])) (at (w_at 4 None (Truth true ∷ Iter 0 ∷ []) 11) []) end (w_goes None 11 (Truth true ∷ []))
    (step_on 7 (at (w_at 4 None (Truth true ∷ Iter 0 ∷ []) 11) []) (at (w_at 5 None (Truth true ∷ Iter 0 ∷ []) 11) []) end w_enters
    (then_on 2 5 (at (w_at 5 None (Truth true ∷ Iter 0 ∷ []) 11) []) (at (w_at 3 (Some (Truth true)) (Iter 0 ∷ []) 12) []) end w_again
    (step_on 4 (at (w_at 3 (Some (Truth true)) (Iter 0 ∷ []) 12) []) (at (w_at 4 (Some (Truth true)) (Done None ∷ Iter 0 ∷ []) 11) []) end (w_goes (Some (Truth true)) 12 [])
    (step_on 3 (at (w_at 4 (Some (Truth true)) (Done None ∷ Iter 0 ∷ []) 11) []) (at (w_at 7 (Some (Truth true)) (Done None ∷ []) 11) []) end w_leaves w_ends))))))
