-- What an instruction makes of all frames: calls and returns, iterators, and what is raised again.
use Rattle.std.specs.Prelude.{ℕ, ◌+◌, ◌==◌, nat_lt, List, [], ◌∷◌, length, take, drop, reverse, Option, Some, None, Result, Ok, Err, slice_get, if◌then◌else◌}
use Rattle.mon_values.specs.declared.value.Value.{Value, None as Nothing, Exc as Raised-value, Done}
use Rattle.mon_values.specs.declared.value.Value.TheOpen.{Value-F}
use Rattle.mon_values.specs.declared.value.Value.TheViews.{out-Value}
use Rattle.mon_values.specs.declared.value.Exc.{Exc}
use Rattle.mon_values.specs.declared.fault.Trouble.{Trouble}
use Rattle.mon_values.specs.Troubles.{trouble, trouble_exc, not_iterable}
use Rattle.mon_values.specs.Weights.{made_exc, exc_of}
use Rattle.mon_events.specs.declared.event.Event.{Event}
use Rattle.mon_events.specs.declared.op.Op.{Op}
use Rattle.mon_code.specs.declared.program.Code.{Code}
use Rattle.mon_code.specs.Programs.{Parts}
use Rattle.mon_frames.specs.declared.frame.Frame.{Frame}
use Rattle.mon_frames.specs.declared.call.By.TheVariants as by
use Rattle.mon_frames.specs.declared.generator.Closing.{Closing}
use Rattle.mon_frames.specs.declared.generator.Generator.{Generator}
use Rattle.mon_frames.specs.declared.fault.FrameFault.{FrameFault}
use Rattle.mon_frames.specs.declared.fault.ResumeFault.{ResumeFault}
use Rattle.mon_frames.specs.declared.fault.ResumeFault.TheVariants as fault
use Rattle.mon_frames.specs.Generators.{resumed, entered, closed}
use Rattle.mon_frames.specs.Iterating.{iterated, next_of}
use Rattle.mon_frames.specs.Views.{FramesView, handled_in, pushed}
use Rattle.mon_builtins.specs.declared.given.Given.{Given}
use Rattle.mon_builtins.specs.declared.given.Given.TheVariants as given
use Rattle.mon_builtins.specs.Builtins.{builtin_due, stop_iteration}
use Rattle.mon_machine.specs.declared.mode.Ending.{Ending}
use Rattle.mon_machine.specs.State.{FrameMove, Move, moved, with_frame, in_top, misses, goes_on}
use Rattle.mon_machine.specs.Operations.{operation, raise_top, instance_of}

-- a frame with this operand stack
abbrev pub with_stack : Frame → List Value → Frame
with_stack f stack = record f { stack = stack }

-- an exception of the machine, raised where the frames stand so
abbrev pub refuses : FramesView → Trouble → Move
refuses v t = moved v (Ending.Raises (trouble_exc t []))

-- goes on in the top frame, with one more value on its stack
abbrev pub pushes : FramesView → Frame → Value → Move
pushes v f x = in_top v (goes_on f (x ∷ f.stack))

abbrev pub iterates : FramesView → Frame → Result (Value × FramesView) Trouble → Move
iterates v f (Ok due) = pushes due.1 f due.0
iterates v f (Err t) = refuses v t

-- the items of a value are gone over, which was taken from the stack
abbrev pub iterates_over : FramesView → Frame → Value → Move
iterates_over v f x = iterates v f (iterated v x)

-- GET_ITER
abbrev pub get_iter : FramesView → Frame → List Value → Move
get_iter v f [] = in_top v (misses f)
get_iter v f (x ∷ rest) = iterates_over (with_frame v (with_stack f rest)) (with_stack f rest) x

-- the end of a loop over an iterator
abbrev pub or_done : Option Value → Value
or_done None = Done None
or_done (Some x) = x

abbrev pub item_of : Frame → Option Value × FramesView → Move
item_of f due = pushes due.1 f (or_done due.0)

-- why a generator that is not finished does not go on
abbrev pub refusal : ResumeFault → Trouble
refusal fault.Running = trouble 9
refusal fault.NotNone = trouble 8
refusal _ = trouble 18

-- the loop's frame waits below that of the generator, or the loop ends
abbrev pub loops : FramesView → Frame → Result FramesView ResumeFault → Move
loops v f (Ok w) = moved w Ending.Continues
loops v f (Err fault.Finished) = pushes v f (Done (Some stop_iteration))
loops v f (Err refused) = refuses v (refusal refused)

-- a number that no generator has is that of nothing to go over
abbrev pub for_generator : FramesView → Frame → ℕ → Option Generator → Move
for_generator v f number None = refuses v not_iterable
for_generator v f number (Some g) = loops v f (resumed v number Nothing by.For)

abbrev pub for_iter_at : FramesView → Frame → Value-F Value Exc → Move
for_iter_at v f (Value-F.Iter number) = item_of f (next_of v number)
for_iter_at v f (Value-F.Gen number) = for_generator v f number (slice_get v.generators number)
for_iter_at v f _ = refuses v not_iterable

-- FOR_ITER: the next value of what is on top, an iterator or a generator, or the end of the loop
abbrev pub for_iter : FramesView → Frame → List Value → Move
for_iter v f [] = moved v Ending.Misses
for_iter v f (over ∷ rest) = for_iter_at v f (out-Value over)

abbrev pub raises_again : FramesView → Option Exc → Move
raises_again v None = refuses v (trouble 21)
raises_again v (Some e) = moved v (Ending.Reraises e)

-- RAISE_VARARGS: what is handled, for 0, and else the top
abbrev pub raise_varargs : FramesView → ℕ → Frame → Move
raise_varargs v n f = if n == 0 then raises_again v (handled_in v.calls) else in_top v (raise_top f f.stack)

-- the callee of a call with so many arguments, below them
abbrev pub callee_in : ℕ → List Value → Option Value
callee_in n stack = slice_get stack n

-- the arguments, the first of which is the lowest
abbrev pub args_in : ℕ → List Value → List Value
args_in n stack = reverse (take n stack)

-- what is below the callee
abbrev pub below_in : ℕ → List Value → List Value
below_in n stack = drop (n + 1) stack

-- A call takes its callee and its arguments first. What follows speaks of the frames after that, and of the top frame among
-- them.

-- a builtin or a class answered with a value, and perhaps with a text
abbrev pub answers : FramesView → Frame → List (List ℕ) → Value → Move
answers v f printed x = record (pushes v f x) { printed = printed; ancillary = Some Event.CReturn }

-- it raised
abbrev pub throws : FramesView → Exc → Move
throws v e = record (moved v (Ending.Raises e)) { ancillary = Some Event.CRaise }

abbrev pub throws_trouble : FramesView → Trouble → Move
throws_trouble v t = throws v (trouble_exc t [])

abbrev pub enters : FramesView → Result FramesView FrameFault → Move
enters v (Ok w) = moved w Ending.Continues
enters v (Err fault) = refuses v (trouble 18)

-- a number that no code has is that of nothing to call
abbrev pub calls_code : Parts → FramesView → List Value → ℕ → Option Code → Move
calls_code p v args function None = throws_trouble v (trouble 4)
calls_code p v args function (Some c) = if length args == c.parameters then enters v (pushed v p function args) else refuses v (trouble 5)

abbrev pub as_answer : FramesView → Frame → Result Exc Trouble → Move
as_answer v f (Ok e) = answers v f [] (Raised-value e)
as_answer v f (Err t) = throws_trouble v t

-- an exception class makes an instance, with at most one argument
abbrev pub calls_class : FramesView → Frame → ℕ → List Value → Move
calls_class v f class [] = as_answer v f (made_exc (exc_of class None))
calls_class v f class (x ∷ []) = as_answer v f (made_exc (exc_of class (Some x)))
calls_class v f class _ = throws_trouble v (trouble 5)

-- the builtins that resume a generator; the one that closes it is `close_number`
abbrev pub next_number : ℕ
next_number = 9

abbrev pub send_number : ℕ
send_number = 11

abbrev pub throw_number : ℕ
throw_number = 12

abbrev pub resumes : FramesView → Result FramesView ResumeFault → Move
resumes v (Ok w) = moved w Ending.Continues
resumes v (Err fault.Finished) = throws v stop_iteration
resumes v (Err refused) = throws_trouble v (refusal refused)

-- a builtin sends a value to a generator
abbrev pub sends : FramesView → ℕ → ℕ → Value → Move
sends v builtin number x = resumes v (resumed v number x (by.Call builtin))

-- `next` of a generator; a number that no generator has is that of a wrong argument
abbrev pub next_of_generator : FramesView → ℕ → Option Generator → Move
next_of_generator v number None = throws_trouble v (trouble 6)
next_of_generator v number (Some g) = sends v next_number number Nothing

-- what a builtin gave
abbrev pub given_move : Frame → Given → FramesView → Move
given_move f (given.Value x) v = answers v f [] x
given_move f (given.Printed text) v = answers v f (text ∷ []) Nothing
given_move f (given.Raised e) v = throws v e
given_move f (given.Next number) v = next_of_generator v number (slice_get v.generators number)

-- the builtins that are called by their names; the others are methods of generators
abbrev pub named_builtins : ℕ
named_builtins = 11

-- g.send(v)
abbrev pub send : FramesView → ℕ → List Value → Move
send v number (x ∷ []) = sends v send_number number x
send v number _ = throws_trouble v (trouble 5)

abbrev pub throws_in : FramesView → Exc → Result FramesView ResumeFault → Move
throws_in v e (Ok w) = moved w (Ending.ThrowsIn e)
throws_in v e (Err fault.Finished) = throws v e
throws_in v e (Err refused) = throws_trouble v (refusal refused)

abbrev pub throws_instance : FramesView → ℕ → Result Exc Trouble → Move
throws_instance v number (Ok e) = throws_in v e (entered v number (by.Call throw_number))
throws_instance v number (Err t) = throws_trouble v t

-- g.throw(e)
abbrev pub throw : FramesView → ℕ → List Value → Move
throw v number (x ∷ []) = throws_instance v number (instance_of x)
throw v number _ = throws_trouble v (trouble 5)

-- GeneratorExit()
abbrev pub generator_exit : Exc
generator_exit = exc_of 2 None

abbrev pub closes_as : Frame → Closing → FramesView → Move
closes_as f Closing.Closed w = answers w f [] Nothing
closes_as f Closing.Entered w = moved w (Ending.ThrowsIn generator_exit)

abbrev pub closes : FramesView → Frame → Result (Closing × FramesView) ResumeFault → Move
closes v f (Ok due) = closes_as f due.0 due.1
closes v f (Err refused) = throws_trouble v (refusal refused)

-- g.close()
abbrev pub close : FramesView → Frame → ℕ → List Value → Move
close v f number [] = closes v f (closed v number)
close v f number _ = throws_trouble v (trouble 5)

-- a method of the generator of this number, with what is behind it
abbrev pub method_of : FramesView → Frame → ℕ → ℕ → List Value → Move
method_of v f method number args =
    if method == send_number then send v number args
    else if method == throw_number then throw v number args
    else close v f number args

-- what is no generator has no method
abbrev pub method_on : FramesView → Frame → ℕ → Option ℕ → List Value → Move
method_on v f method None args = throws_trouble v (trouble 20)
method_on v f method (Some number) args = method_of v f method number args

-- a number, where a generator has it
abbrev pub numbered : ℕ → Option Generator → Option ℕ
numbered number None = None
numbered number (Some g) = Some number

abbrev pub generator_at : FramesView → Value-F Value Exc → Option ℕ
generator_at v (Value-F.Gen number) = numbered number (slice_get v.generators number)
generator_at v _ = None

-- the generator that a first argument is
abbrev pub first_generator : FramesView → List Value → Option ℕ
first_generator v [] = None
first_generator v (x ∷ args) = generator_at v (out-Value x)

abbrev pub calls_builtin : Parts → FramesView → Frame → ℕ → List Value → Move
calls_builtin p v f number args =
    if nat_lt number named_builtins then given_move f (builtin_due number args p.names v).0 (builtin_due number args p.names v).1
    else if nat_lt number 14 then method_on v f number (first_generator v args) (drop 1 args)
    else throws_trouble v (trouble 4)

abbrev pub calls_at : Parts → FramesView → Frame → List Value → Value-F Value Exc → Move
calls_at p v f args (Value-F.Function function) = calls_code p v args function (slice_get p.codes function)
calls_at p v f args (Value-F.Builtin number) = calls_builtin p v f number args
calls_at p v f args (Value-F.ExcClass class) = calls_class v f class args
calls_at p v f args _ = throws_trouble v (trouble 4)

-- a call of this callee
abbrev pub calls : Parts → FramesView → Frame → List Value → Value → Move
calls p v f args callee = calls_at p v f args (out-Value callee)

abbrev pub calls_found : Parts → FramesView → ℕ → Frame → Option Value → Move
calls_found p v n f None = moved v Ending.Misses
calls_found p v n f (Some callee) = calls p (with_frame v (with_stack f (below_in n f.stack))) (with_stack f (below_in n f.stack)) (args_in n f.stack) callee

-- CALL with so many arguments
abbrev pub call : Parts → FramesView → ℕ → Frame → Move
call p v n f = calls_found p v n f (callee_in n f.stack)

-- RETURN_VALUE
abbrev pub return_value : FramesView → Frame → List Value → Move
return_value v f [] = in_top v (misses f)
return_value v f (x ∷ rest) = moved (with_frame v (with_stack f rest)) (Ending.Returns x)

-- YIELD_VALUE: the frame waits at the next index, without the value
abbrev pub yield_value : FramesView → Frame → List Value → Move
yield_value v f [] = in_top v (misses f)
yield_value v f (x ∷ rest) = moved (with_frame v (record f { index = f.index + 1; stack = rest })) (Ending.Yields x)

-- RETURN_GENERATOR: the frame waits at index 1
abbrev pub return_generator : FramesView → Frame → Move
return_generator v f = moved (with_frame v (record f { index = 1 })) Ending.Parks

-- the opcodes that work on all frames
abbrev pub move_of : Parts → Op → ℕ → Frame → FramesView → Move
move_of p Op.GetIter n f v = get_iter v f f.stack
move_of p Op.ForIter n f v = for_iter v f f.stack
move_of p Op.RaiseVarargs n f v = raise_varargs v n f
move_of p Op.Call n f v = call p v n f
move_of p Op.ReturnValue n f v = return_value v f f.stack
move_of p Op.ReturnGenerator n f v = return_generator v f
move_of p Op.YieldValue n f v = yield_value v f f.stack
move_of p _ n f v = moved v Ending.Misses

abbrev pub operated : Parts → Op → ℕ → Frame → FramesView → Option FrameMove → Move
operated p op n f v None = move_of p op n f v
operated p op n f v (Some m) = in_top v m

-- what an instruction with this argument makes of the frames, the top of which is this
abbrev pub effect : Parts → Code → Op → ℕ → Frame → FramesView → Move
effect p c op n f v = operated p op n f v (operation p c op n f)
