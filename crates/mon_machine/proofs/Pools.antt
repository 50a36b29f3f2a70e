-- What a step makes of the pools.
use Rattle.std.proofs.Common.{◌≡◌, ℕ, zero, suc, ◌+◌, ◌≤◌, ◌==◌, nat_lt, Bool, true, false, List, [], ◌∷◌, ◌++◌, length, drop, refl, arith, length-append}
use Rattle.std.specs.Prelude.{Option, Some, None, Result, Ok, Err, slice_get, slice_set, if◌then◌else◌}
use Rattle.std.proofs.lemmas.List.{length-set}
use Rattle.mon_values.specs.declared.value.Value.{Value, None as Nothing, Gen, Done}
use Rattle.mon_values.specs.declared.value.Value.TheOpen.{Value-F}
use Rattle.mon_values.specs.declared.value.Value.TheViews.{out-Value}
use Rattle.mon_values.specs.declared.value.Exc.{Exc}
use Rattle.mon_values.specs.declared.fault.Trouble.{Trouble}
use Rattle.mon_values.specs.Troubles.{trouble}
use Rattle.mon_values.specs.Weights.{made_exc, exc_of}
use Rattle.mon_events.specs.declared.op.Op.{Op}
use Rattle.mon_code.specs.declared.program.Code.{Code}
use Rattle.mon_code.specs.declared.program.Handler.{Handler}
use Rattle.mon_code.specs.declared.program.Location.{Location}
use Rattle.mon_code.specs.Programs.{Parts, op_at, location_at}
use Rattle.mon_frames.specs.declared.frame.Frame.{Frame}
use Rattle.mon_frames.specs.declared.call.By.{By}
use Rattle.mon_frames.specs.declared.call.By.TheVariants as by
use Rattle.mon_frames.specs.declared.call.Call.{Call}
use Rattle.mon_frames.specs.declared.call.Origin.{Origin}
use Rattle.mon_frames.specs.declared.call.Origin.TheVariants.{Plain, Generator as Generated}
use Rattle.mon_frames.specs.declared.generator.Generator.{Generator}
use Rattle.mon_frames.specs.declared.generator.Generator.TheVariants.{NotStarted, Suspended, Running, Finished}
use Rattle.mon_frames.specs.declared.generator.Closing.{Closing}
use Rattle.mon_frames.specs.declared.fault.FrameFault.TheVariants as frame_fault
use Rattle.mon_frames.specs.declared.fault.ResumeFault.{ResumeFault}
use Rattle.mon_frames.specs.declared.fault.ResumeFault.TheVariants as fault
use Rattle.mon_frames.specs.Calls.{called, handler_due}
use Rattle.mon_frames.specs.Items.{items_of}
use Rattle.mon_frames.specs.Iterating.{iterated_at, over, first_left, next_of}
use Rattle.mon_frames.specs.Generators.{with_generators, running, sent_to, is_none, resumed, resumed_in, entered, entered_in, close_number, entered_to_close, closed, closed_in}
use Rattle.mon_frames.specs.Views.{FramesView, handled_in, has_room, on_top, pushed_in, after_leaving}
use Rattle.mon_builtins.specs.declared.given.Given.{Given}
use Rattle.mon_builtins.specs.declared.given.Given.TheVariants as given
use Rattle.mon_builtins.specs.Builtins as builtins
use Rattle.mon_machine.specs.declared.mode.Answer.{Answer}
use Rattle.mon_machine.specs.declared.mode.Ending.{Ending}
use Rattle.mon_machine.specs.declared.mode.Mode.{Mode}
use Rattle.mon_machine.specs.State.{State, FrameMove, Move, with_frame, in_top, start}
use Rattle.mon_machine.specs.Operations.{operation, instance_of, raise_top}
use Rattle.mon_machine.specs.Moves as moves
use Rattle.mon_machine.specs.Giving.{stands_at, takes_value, gives_caller, stop_with, gives_returned, leaves, gives_yielded, yields_from, yields, parks_from, parks}
use Rattle.mon_machine.specs.Step.{Step, after_ending, with_line, executed, at_location, in_code, runs_top, goes_out, unwinds_from, unwinds, finished, finishes_at, finishes_in, finishes, in_mode, step}
use Rattle.mon_machine.specs.Run.{after_steps}
use Rattle.mon_machine.specs.Pools.{PoolsGrowByOne, NumbersSuffice}

-- no more than so many generators, and so many iterators, were added
record Adds (generators iterators : ℕ) (v w : FramesView) : Type 0 where
  g : length w.generators ≤ length v.generators + generators
  i : length w.iterators ≤ length v.iterators + iterators

-- none
same : (v : FramesView) (calls : List Call) (gens : List Generator) (its : List (List Value)) → length gens ≡ length v.generators → length its ≡ length v.iterators → Adds 0 0 v (record { calls = calls; generators = gens; iterators = its })
same v calls gens its e d = record { g = omega (arith, e); i = omega (arith, d) }

kept : (v : FramesView) (calls : List Call) → Adds 0 0 v (record v { calls = calls })
kept v calls = record { g = omega arith; i = omega arith }

more : (a b c d : ℕ) (v w : FramesView) → a ≤ c → b ≤ d → Adds a b v w → Adds c d v w
more a b c d v w h k x = record { g = omega (arith, x.g, h); i = omega (arith, x.i, k) }

joined : (a b c d : ℕ) (v w x : FramesView) → Adds a b v w → Adds c d w x → Adds (a + c) (b + d) v x
joined a b c d v w x h k = record { g = omega (arith, h.g, k.g); i = omega (arith, h.i, k.i) }

-- ---- generators that go on

AddsNone : FramesView → Result FramesView ResumeFault → Type 0
AddsNone v (Ok w) = Adds 0 0 v w
AddsNone v (Err f) = Unit {0}

module _ (v : FramesView) (number : ℕ) (by : By) where
  running_none : (f : Frame) → AddsNone v (running v number by f)
  unfolding AddsNone
  running_none f = pick (has_room v.calls)
    where
      pick : (b : Bool) → AddsNone v (if b then Ok (on_top (with_generators v (slice_set v.generators number Running)) f (Generated number by)) else Err fault.Full)
      pick true = same v _ (slice_set v.generators number Running) v.iterators (length-set v.generators number Running) refl
      pick false = tt

  resumed_none : (x : Value) (g : Option Generator) → AddsNone v (resumed_in v number x by g)
  unfolding AddsNone
  resumed_none x None = kept v v.calls
  resumed_none x (Some Running) = tt
  resumed_none x (Some Finished) = tt
  resumed_none x (Some (Suspended f)) = running_none (sent_to f x)
  resumed_none x (Some (NotStarted f)) = pick (is_none x)
    where
      pick : (b : Bool) → AddsNone v (if b then running v number by (sent_to f x) else Err fault.NotNone)
      pick true = running_none (sent_to f x)
      pick false = tt

  entered_none : (g : Option Generator) → AddsNone v (entered_in v number by g)
  unfolding AddsNone
  entered_none None = kept v v.calls
  entered_none (Some Running) = tt
  entered_none (Some Finished) = tt
  entered_none (Some (NotStarted f)) = running_none f
  entered_none (Some (Suspended f)) = running_none f

AddsNoneClosed : FramesView → Result (Closing × FramesView) ResumeFault → Type 0
AddsNoneClosed v (Ok due) = Adds 0 0 v due.1
AddsNoneClosed v (Err f) = Unit {0}

closed_none : (v : FramesView) (number : ℕ) (g : Option Generator) → AddsNoneClosed v (closed_in v number g)
unfolding AddsNoneClosed AddsNone
closed_none v number None = kept v v.calls
closed_none v number (Some Running) = tt
closed_none v number (Some Finished) = kept v v.calls
closed_none v number (Some (NotStarted f)) = same v v.calls (slice_set v.generators number Finished) v.iterators (length-set v.generators number Finished) refl
closed_none v number (Some (Suspended f)) = pick (running v number (by.Call close_number) f) (running_none v number (by.Call close_number) f)
  where
    pick : (r : Result FramesView ResumeFault) → AddsNone v r → AddsNoneClosed v (entered_to_close r)
    pick (Ok w) h = h
    pick (Err f) h = tt

-- ---- what an instruction makes of the frames

-- from these frames, one iterator at most is added
abbrev Makes : FramesView → Move → Type 0
Makes v m = Adds 0 1 v m.frames

framed : (v : FramesView) (calls : List Call) → Adds 0 1 v (record v { calls = calls })
framed v calls = more 0 0 0 1 v (record v { calls = calls }) (omega arith) (omega arith) (kept v calls)

by_none : (v w : FramesView) → Adds 0 0 v w → Adds 0 1 v w
by_none v w h = more 0 0 0 1 v w (omega arith) (omega arith) h

over_added : (v : FramesView) (f : Frame) (items : Option (List Value)) → Makes v (moves.iterates v f (over v items))
over_added v f None = framed v v.calls
over_added v f (Some items) = record { g = omega arith; i = omega (arith, length-append v.iterators (items ∷ [])) }

iterates_added : (v : FramesView) (f : Frame) (x : Value) (layer : Value-F Value Exc) → Makes v (moves.iterates v f (iterated_at v x layer))
iterates_added v f x (Value-F.Gen number) = framed v _
iterates_added v f x (Value-F.Iter number) = framed v _
iterates_added v f x _ = over_added v f (items_of x)

next_none : (v : FramesView) (number : ℕ) → Adds 0 0 v (next_of v number).1
next_none v number = pick (slice_get v.iterators number)
  where
    pick : (o : Option (List Value)) → Adds 0 0 v (record v { iterators = (first_left v.iterators number o).1 })
    pick None = kept v v.calls
    pick (Some []) = kept v v.calls
    pick (Some (x ∷ left)) = same v v.calls v.generators (slice_set v.iterators number left) refl (length-set v.iterators number left)

loops_added : (v : FramesView) (f : Frame) (r : Result FramesView ResumeFault) → AddsNone v r → Makes v (moves.loops v f r)
unfolding AddsNone
loops_added v f (Ok w) h = by_none v w h
loops_added v f (Err fault.Finished) h = framed v _
loops_added v f (Err fault.Running) h = framed v v.calls
loops_added v f (Err fault.NotNone) h = framed v v.calls
loops_added v f (Err fault.Full) h = framed v v.calls
loops_added v f (Err fault.Memory) h = framed v v.calls

for_generator_added : (v : FramesView) (f : Frame) (number : ℕ) (g : Option Generator) → Makes v (moves.for_generator v f number g)
for_generator_added v f number None = framed v v.calls
for_generator_added v f number (Some g) = loops_added v f (resumed v number Nothing by.For) (resumed_none v number by.For Nothing (slice_get v.generators number))

for_iter_added : (v : FramesView) (f : Frame) (layer : Value-F Value Exc) → Makes v (moves.for_iter_at v f layer)
for_iter_added v f (Value-F.Iter number) = let n = next_none v number in record { g = omega (arith, n.g); i = omega (arith, n.i) }
for_iter_added v f (Value-F.Gen number) = for_generator_added v f number (slice_get v.generators number)
for_iter_added v f _ = framed v v.calls

raise_added : (v : FramesView) (n : ℕ) (f : Frame) → Makes v (moves.raise_varargs v n f)
raise_added v n f = pick (n == 0) (handled_in v.calls)
  where
    pick : (b : Bool) (e : Option Exc) → Makes v (if b then moves.raises_again v e else in_top v (raise_top f f.stack))
    pick true None = framed v v.calls
    pick true (Some e) = framed v v.calls
    pick false e = framed v _

code_added : (p : Parts) (v : FramesView) (args : List Value) (function : ℕ) (c : Option Code) → Makes v (moves.calls_code p v args function c)
code_added p v args function None = framed v v.calls
code_added p v args function (Some c) = pick (length args == c.parameters) (slice_get p.codes function)
  where
    enters : (d : Code) (b : Bool) → Makes v (moves.enters v (if b then Ok (on_top v (called d function args) Plain) else Err frame_fault.Full))
    enters d true = framed v _
    enters d false = framed v v.calls

    pick : (b : Bool) (d : Option Code) → Makes v (if b then moves.enters v (pushed_in v d function args) else moves.refuses v (trouble 5))
    pick true None = framed v v.calls
    pick true (Some d) = enters d (has_room v.calls)
    pick false d = framed v v.calls

answer_added : (v : FramesView) (f : Frame) (r : Result Exc Trouble) → Makes v (moves.as_answer v f r)
answer_added v f (Ok e) = framed v _
answer_added v f (Err t) = framed v v.calls

class_added : (v : FramesView) (f : Frame) (class : ℕ) (args : List Value) → Makes v (moves.calls_class v f class args)
class_added v f class [] = answer_added v f (made_exc (exc_of class None))
class_added v f class (x ∷ []) = answer_added v f (made_exc (exc_of class (Some x)))
class_added v f class (x ∷ y ∷ args) = framed v v.calls

resumes_none : (v : FramesView) (r : Result FramesView ResumeFault) → AddsNone v r → Adds 0 0 v (moves.resumes v r).frames
unfolding AddsNone
resumes_none v (Ok w) h = h
resumes_none v (Err fault.Finished) h = kept v v.calls
resumes_none v (Err fault.Running) h = kept v v.calls
resumes_none v (Err fault.NotNone) h = kept v v.calls
resumes_none v (Err fault.Full) h = kept v v.calls
resumes_none v (Err fault.Memory) h = kept v v.calls

sends_none : (v : FramesView) (builtin number : ℕ) (x : Value) → Adds 0 0 v (moves.sends v builtin number x).frames
sends_none v builtin number x = resumes_none v (resumed v number x (by.Call builtin)) (resumed_none v number (by.Call builtin) x (slice_get v.generators number))

next_generator_none : (v : FramesView) (number : ℕ) (g : Option Generator) → Adds 0 0 v (moves.next_of_generator v number g).frames
next_generator_none v number None = kept v v.calls
next_generator_none v number (Some g) = sends_none v moves.next_number number Nothing

given_none : (v : FramesView) (f : Frame) (g : Given) → Adds 0 0 v (moves.given_move f g v).frames
given_none v f (given.Value x) = kept v _
given_none v f (given.Printed text) = kept v _
given_none v f (given.Raised e) = kept v v.calls
given_none v f (given.Next number) = next_generator_none v number (slice_get v.generators number)

-- a builtin adds an iterator at most
abbrev Due : FramesView → Given × FramesView → Type 0
Due v due = Adds 0 1 v due.1

next_due : (v : FramesView) (layer : Value-F Value Exc) → Due v (builtins.next_at v layer)
next_due v (Value-F.Iter number) = by_none v (next_of v number).1 (next_none v number)
next_due v (Value-F.Gen number) = framed v v.calls
next_due v _ = framed v v.calls

nexts_due : (v : FramesView) (args : List Value) → Due v (builtins.next_due v args)
nexts_due v [] = framed v v.calls
nexts_due v (x ∷ []) = next_due v (out-Value x)
nexts_due v (x ∷ y ∷ args) = framed v v.calls

iter_over_due : (v : FramesView) (items : Option (List Value)) → Due v (builtins.iter_at v (over v items))
iter_over_due v None = framed v v.calls
iter_over_due v (Some items) = record { g = omega arith; i = omega (arith, length-append v.iterators (items ∷ [])) }

iter_due : (v : FramesView) (x : Value) (layer : Value-F Value Exc) → Due v (builtins.iter_at v (iterated_at v x layer))
iter_due v x (Value-F.Gen number) = framed v v.calls
iter_due v x (Value-F.Iter number) = framed v v.calls
iter_due v x _ = iter_over_due v (items_of x)

iters_due : (v : FramesView) (args : List Value) → Due v (builtins.iter_due v args)
iters_due v [] = framed v v.calls
iters_due v (x ∷ []) = iter_due v x (out-Value x)
iters_due v (x ∷ y ∷ args) = framed v v.calls

either_due : (b : Bool) (v : FramesView) (x y : Given × FramesView) → Due v x → Due v y → Due v (if b then x else y)
either_due true v x y h k = h
either_due false v x y h k = k

builtin_added : (number : ℕ) (args : List Value) (names : List (List ℕ)) (v : FramesView) → Due v (builtins.builtin_due number args names v)
builtin_added number args names v =
    let none = framed v v.calls in
    either_due (number == 0) v _ _ none
    (either_due (number == 1) v _ _ none
    (either_due (number == 2) v _ _ none
    (either_due (number == 3) v _ _ none
    (either_due (number == 4) v _ _ none
    (either_due (number == 5) v _ _ none
    (either_due (number == 6) v _ _ none
    (either_due (number == 7) v _ _ none
    (either_due (number == 8) v _ _ none
    (either_due (number == 9) v _ _ (nexts_due v args) (iters_due v args))))))))))

throws_in_added : (v : FramesView) (e : Exc) (r : Result FramesView ResumeFault) → AddsNone v r → Makes v (moves.throws_in v e r)
unfolding AddsNone
throws_in_added v e (Ok w) h = by_none v w h
throws_in_added v e (Err fault.Finished) h = framed v v.calls
throws_in_added v e (Err fault.Running) h = framed v v.calls
throws_in_added v e (Err fault.NotNone) h = framed v v.calls
throws_in_added v e (Err fault.Full) h = framed v v.calls
throws_in_added v e (Err fault.Memory) h = framed v v.calls

instance_added : (v : FramesView) (number : ℕ) (r : Result Exc Trouble) → Makes v (moves.throws_instance v number r)
instance_added v number (Ok e) = throws_in_added v e (entered v number (by.Call moves.throw_number)) (entered_none v number (by.Call moves.throw_number) (slice_get v.generators number))
instance_added v number (Err t) = framed v v.calls

send_added : (v : FramesView) (number : ℕ) (args : List Value) → Makes v (moves.send v number args)
send_added v number [] = framed v v.calls
send_added v number (x ∷ []) = by_none v _ (sends_none v moves.send_number number x)
send_added v number (x ∷ y ∷ args) = framed v v.calls

throw_added : (v : FramesView) (number : ℕ) (args : List Value) → Makes v (moves.throw v number args)
throw_added v number [] = framed v v.calls
throw_added v number (x ∷ []) = instance_added v number (instance_of x)
throw_added v number (x ∷ y ∷ args) = framed v v.calls

closes_added : (v : FramesView) (f : Frame) (r : Result (Closing × FramesView) ResumeFault) → AddsNoneClosed v r → Makes v (moves.closes v f r)
unfolding AddsNoneClosed AddsNone
closes_added v f (Ok due) h = pick due.0
  where
    pick : (closing : Closing) → Makes v (moves.closes_as f closing due.1)
    pick Closing.Closed = record { g = omega (arith, h.g); i = omega (arith, h.i) }
    pick Closing.Entered = by_none v due.1 h
closes_added v f (Err fault) h = framed v v.calls

close_added : (v : FramesView) (f : Frame) (number : ℕ) (args : List Value) → Makes v (moves.close v f number args)
close_added v f number [] = closes_added v f (closed v number) (closed_none v number (slice_get v.generators number))
close_added v f number (x ∷ args) = framed v v.calls

either_makes : (b : Bool) (v : FramesView) (m n : Move) → Makes v m → Makes v n → Makes v (if b then m else n)
either_makes true v m n h k = h
either_makes false v m n h k = k

method_added : (v : FramesView) (f : Frame) (method : ℕ) (o : Option ℕ) (args : List Value) → Makes v (moves.method_on v f method o args)
method_added v f method None args = framed v v.calls
method_added v f method (Some number) args =
    either_makes (method == moves.send_number) v _ _ (send_added v number args) (either_makes (method == moves.throw_number) v _ _ (throw_added v number args) (close_added v f number args))

named_added : (v : FramesView) (f : Frame) (due : Given × FramesView) → Due v due → Makes v (moves.given_move f due.0 due.1)
named_added v f due h = joined 0 1 0 0 v due.1 (moves.given_move f due.0 due.1).frames h (given_none due.1 f due.0)

calls_added : (p : Parts) (v : FramesView) (f : Frame) (args : List Value) (layer : Value-F Value Exc) → Makes v (moves.calls_at p v f args layer)
calls_added p v f args (Value-F.Function function) = code_added p v args function (slice_get p.codes function)
calls_added p v f args (Value-F.Builtin number) =
    either_makes (nat_lt number moves.named_builtins) v _ _ (named_added v f (builtins.builtin_due number args p.names v) (builtin_added number args p.names v))
    (either_makes (nat_lt number 14) v _ _ (method_added v f number (moves.first_generator v args) (drop 1 args)) (framed v v.calls))
calls_added p v f args (Value-F.ExcClass class) = class_added v f class args
calls_added p v f args _ = framed v v.calls

module _ (p : Parts) (v : FramesView) (f : Frame) where
  get_added : (stack : List Value) → Makes v (moves.get_iter v f stack)
  get_added [] = framed v _
  get_added (x ∷ rest) =
      let w : FramesView = with_frame v (moves.with_stack f rest) in
      let h = iterates_added w (moves.with_stack f rest) x (out-Value x) in
      record { g = omega (arith, h.g); i = omega (arith, h.i) }

  for_added : (stack : List Value) → Makes v (moves.for_iter v f stack)
  for_added [] = framed v v.calls
  for_added (x ∷ rest) = for_iter_added v f (out-Value x)

  call_added : (n : ℕ) (callee : Option Value) → Makes v (moves.calls_found p v n f callee)
  call_added n None = framed v v.calls
  call_added n (Some callee) =
      let g : Frame = moves.with_stack f (moves.below_in n f.stack) in
      let w : FramesView = with_frame v g in
      let h = calls_added p w g (moves.args_in n f.stack) (out-Value callee) in
      record { g = omega (arith, h.g); i = omega (arith, h.i) }

  return_added : (stack : List Value) → Makes v (moves.return_value v f stack)
  return_added [] = framed v _
  return_added (x ∷ rest) = framed v _

  yield_added : (stack : List Value) → Makes v (moves.yield_value v f stack)
  yield_added [] = framed v _
  yield_added (x ∷ rest) = framed v _

  move_added : (op : Op) (n : ℕ) → Makes v (moves.move_of p op n f v)
  move_added Op.GetIter n = get_added f.stack
  move_added Op.ForIter n = for_added f.stack
  move_added Op.RaiseVarargs n = raise_added v n f
  move_added Op.Call n = call_added n (moves.callee_in n f.stack)
  move_added Op.ReturnValue n = return_added f.stack
  move_added Op.ReturnGenerator n = framed v _
  move_added Op.YieldValue n = yield_added f.stack
  move_added _ n = framed v v.calls

  effect_added : (c : Code) (op : Op) (n : ℕ) → Makes v (moves.effect p c op n f v)
  effect_added c op n = pick (operation p c op n f)
    where
      pick : (m : Option FrameMove) → Makes v (moves.operated p op n f v m)
      pick None = move_added op n
      pick (Some m) = framed v _

-- ---- what a step makes of them

left_length : (o : Origin) (gens : List Generator) → length (after_leaving o gens) ≡ length gens
left_length Plain gens = refl
left_length (Generated number by) gens = length-set gens number Finished

takes_none : (v : FramesView) (f : Frame) (x : Value) (l : Option Location) → Adds 0 0 v (takes_value v f x l).frames
takes_none v f x None = kept v v.calls
takes_none v f x (Some l) = kept v _

gives_none : (p : Parts) (v : FramesView) (calls : List Call) (x : Value) → Adds 0 0 v (gives_caller p v calls x).frames
gives_none p v [] x = kept v v.calls
gives_none p v (call ∷ calls) x = takes_none v call.frame x (stands_at p call.frame)

returned_none : (p : Parts) (v : FramesView) (o : Origin) (x : Value) → Adds 0 0 v (gives_returned p v o x).frames
returned_none p v Plain x = gives_none p v v.calls x
returned_none p v (Generated number by.For) x = gives_none p v v.calls (Done (Some (stop_with x)))
returned_none p v (Generated number (by.Call builtin)) x = kept v v.calls

yielded_none : (p : Parts) (v : FramesView) (number : ℕ) (by : By) (x : Value) → Adds 0 0 v (gives_yielded p v number by x).frames
yielded_none p v number by.For x = gives_none p v v.calls x
yielded_none p v number (by.Call builtin) x = kept v v.calls

module _ (p : Parts) (gens : List Generator) (its : List (List Value)) where
  abbrev view : List Call → FramesView
  view calls = record { calls = calls; generators = gens; iterators = its }

  leaves_none : (calls : List Call) (x : Value) → Adds 0 0 (view calls) (leaves p (view calls) calls x).frames
  leaves_none [] x = kept (view []) []
  leaves_none (call ∷ []) x = same (view (call ∷ [])) [] (after_leaving call.origin gens) its (left_length call.origin gens) refl
  leaves_none (call ∷ caller ∷ calls) x =
      let w : FramesView = record { calls = caller ∷ calls; generators = after_leaving call.origin gens; iterators = its } in
      joined 0 0 0 0 (view (call ∷ caller ∷ calls)) w (gives_returned p w call.origin x).frames
      (same (view (call ∷ caller ∷ calls)) (caller ∷ calls) (after_leaving call.origin gens) its (left_length call.origin gens) refl) (returned_none p w call.origin x)

  yields_none : (f : Frame) (o : Origin) (below : List Call) (x : Value) → let v = view (record { frame = f; origin = o } ∷ below) in Adds 0 0 v (yields_from p v o below x).frames
  yields_none f Plain below x = kept (view (record { frame = f; origin = Plain } ∷ below)) _
  yields_none f (Generated number by) [] x = same (view (record { frame = f; origin = Generated number by } ∷ [])) [] (slice_set gens number (Suspended f)) its (length-set gens number (Suspended f)) refl
  yields_none f (Generated number by) (caller ∷ calls) x =
      let v = view (record { frame = f; origin = Generated number by } ∷ caller ∷ calls) in
      let w : FramesView = record { calls = caller ∷ calls; generators = slice_set gens number (Suspended f); iterators = its } in
      joined 0 0 0 0 v w (gives_yielded p w number by x).frames (same v (caller ∷ calls) (slice_set gens number (Suspended f)) its (length-set gens number (Suspended f)) refl) (yielded_none p w number by x)

  parks_one : (f : Frame) (o : Origin) (below : List Call) → let v = view (record { frame = f; origin = o } ∷ below) in Adds 1 0 v (parks_from p v o).frames
  parks_one f Plain below =
      let v = view (record { frame = f; origin = Plain } ∷ below) in
      let w : FramesView = record { calls = below; generators = gens ++ NotStarted f ∷ []; iterators = its } in
      joined 1 0 0 0 v w (gives_caller p w below (Gen (length gens))).frames (record { g = omega (arith, length-append gens (NotStarted f ∷ [])); i = omega arith }) (gives_none p w below (Gen (length gens)))
  parks_one f (Generated number by) below = let v = view (record { frame = f; origin = Generated number by } ∷ below) in more 0 0 1 0 v v (omega arith) (omega arith) (kept v v.calls)

  yields_top : (calls : List Call) (x : Value) → Adds 0 0 (view calls) (yields p (view calls) calls x).frames
  yields_top [] x = kept (view []) []
  yields_top (call ∷ calls) x = yields_none call.frame call.origin calls x

  parks_top : (calls : List Call) → Adds 1 0 (view calls) (parks p (view calls) calls).frames
  parks_top [] = more 0 0 1 0 (view []) (view []) (omega arith) (omega arith) (kept (view []) [])
  parks_top (call ∷ calls) = parks_one call.frame call.origin calls

by_one : (v w : FramesView) → Adds 0 0 v w → Adds 1 0 v w
by_one v w h = more 0 0 1 0 v w (omega arith) (omega arith) h

ending_one : (p : Parts) (v : FramesView) (e : Ending) → Adds 1 0 v (after_ending p v e).frames
ending_one p v Ending.Continues = by_one v v (kept v v.calls)
ending_one p v (Ending.Raises x) = by_one v v (kept v v.calls)
ending_one p v (Ending.Reraises x) = by_one v v (kept v v.calls)
ending_one p v (Ending.Returns x) = by_one v _ (leaves_none p v.generators v.iterators v.calls x)
ending_one p v (Ending.Yields x) = by_one v _ (yields_top p v.generators v.iterators v.calls x)
ending_one p v Ending.Parks = parks_top p v.generators v.iterators v.calls
ending_one p v (Ending.ThrowsIn x) = by_one v v (kept v v.calls)
ending_one p v Ending.Misses = by_one v v (kept v v.calls)

abbrev Grows : FramesView → Step → Type 0
Grows v s = Adds 1 1 v s.after.frames

stands : (v : FramesView) (calls : List Call) → Adds 1 1 v (record v { calls = calls })
stands v calls = more 0 0 1 1 v (record v { calls = calls }) (omega arith) (omega arith) (kept v calls)

module _ (p : Parts) (v : FramesView) where
  executed_grows : (c : Code) (op : Op) (l : Location) (f : Frame) → Grows v (executed p c op l f v)
  executed_grows c op l f =
      let g : Frame = with_line l.line f in
      let w : FramesView = with_frame v g in
      let m : Move = moves.effect p c op l.argument g w in
      let h = effect_added p w g c op l.argument in
      let k = ending_one p m.frames m.ending in
      record { g = omega (arith, h.g, k.g); i = omega (arith, h.i, k.i) }

  located_grows : (c : Code) (op : Option Op) (l : Option Location) (f : Frame) → Grows v (at_location p c op l f v)
  located_grows c None l f = stands v v.calls
  located_grows c (Some op) None f = stands v v.calls
  located_grows c (Some op) (Some l) f = executed_grows c op l f

  coded_grows : (c : Option Code) (f : Frame) → Grows v (in_code p c f v)
  coded_grows None f = stands v v.calls
  coded_grows (Some c) f = located_grows c (op_at p.bases c.first f.index) (location_at c f.index) f

  runs_grows : (calls : List Call) → Grows v (runs_top p v calls)
  runs_grows [] = stands v v.calls
  runs_grows (call ∷ calls) = coded_grows (slice_get p.codes call.frame.code) call.frame

  out_grows : (calls : List Call) (o : Origin) (e : Exc) (f : Frame) → Grows v (goes_out p v calls o e f)
  out_grows [] o e f = stands v v.calls
  out_grows (call ∷ calls) (Generated number (by.Call builtin)) e f = stands v v.calls
  out_grows (call ∷ calls) (Generated number by.For) e f = stands v v.calls
  out_grows (call ∷ calls) Plain e f = stands v v.calls

  finish_grows : (a : Answer) (calls : List Call) → Grows v (finishes p v a calls)
  finish_grows a [] = stands v v.calls
  finish_grows a (call ∷ calls) = pick (slice_get p.codes call.frame.code)
    where
      answered : (r : Result Value Exc) → Adds 1 1 v (finished v call.frame r).frames
      answered (Ok x) = stands v _
      answered (Err e) = stands v v.calls

      at : (c : Code) (l : Option Location) → Grows v (finishes_at p v a c call.frame l)
      at c None = stands v v.calls
      at c (Some l) = answered a.result

      pick : (c : Option Code) → Grows v (finishes_in p v a c call.frame)
      pick None = stands v v.calls
      pick (Some c) = at c (location_at c call.frame.index)

unwinds_grows : (p : Parts) (gens : List Generator) (its : List (List Value)) (e : Exc) (calls : List Call) → let v : FramesView = record { calls = calls; generators = gens; iterators = its } in Grows v (unwinds p v e calls)
unwinds_grows p gens its e [] = stands (record { calls = []; generators = gens; iterators = its }) []
unwinds_grows p gens its e (call ∷ calls) = pick (handler_due p call.frame.code call.frame.index)
  where
    pick : (h : Option Handler) → let v : FramesView = record { calls = call ∷ calls; generators = gens; iterators = its } in Grows v (unwinds_from p v call.origin e call.frame h)
    pick (Some h) = stands (record { calls = call ∷ calls; generators = gens; iterators = its }) _
    pick None =
        let w : FramesView = record { calls = calls; generators = after_leaving call.origin gens; iterators = its } in
        let k = out_grows p w calls call.origin e call.frame in
        record { g = omega (arith, k.g, left_length call.origin gens); i = omega (arith, k.i) }

mode_grows : (p : Parts) (v : FramesView) (mode : Mode) → Grows v (in_mode p v mode)
mode_grows p v Mode.Run = runs_grows p v v.calls
mode_grows p v (Mode.Unwind e) = unwinds_grows p v.generators v.iterators e v.calls
mode_grows p v (Mode.Finish a) = finish_grows p v a v.calls
mode_grows p v (Mode.Ended outcome) = stands v v.calls
mode_grows p v Mode.Stuck = stands v v.calls

step_grows : (p : Parts) (s : State) → Grows s.frames (step p s)
unfolding step
step_grows p s = mode_grows p s.frames s.mode

pub grow_by_one : PoolsGrowByOne
unfolding after_steps
grow_by_one p s zero = record { generators = omega arith; iterators = omega arith }
grow_by_one p s (suc n) =
    let h = step_grows p s in
    let k = grow_by_one p (step p s).after n in
    record { generators = omega (arith, h.g, k.generators); iterators = omega (arith, h.i, k.iterators) }

pub numbers_suffice : NumbersSuffice
numbers_suffice p k c args n h =
    let m = grow_by_one p (start c k args) n in
    record { generators = omega (arith, m.generators, h); iterators = omega (arith, m.iterators, h) }
