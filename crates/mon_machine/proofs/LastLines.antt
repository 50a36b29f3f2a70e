-- A last line is read by events alone.
use Rattle.std.proofs.Common.{◌≡◌, ℕ, zero, suc, ◌+◌, Bool, true, false, ◌==◌, nat_lt, nat_le, List, [], ◌∷◌, ◌++◌, length, map, take, drop, reverse, refl, sym, ap, subst, ◌∙◌}
use Rattle.std.specs.Prelude.{Option, Some, None, Result, Ok, Err, slice_get, slice_set, if◌then◌else◌}
use Rattle.std.specs.Option.{option_map}
use Rattle.std.proofs.lemmas.Option.{slice_get-map}
use Rattle.std.proofs.lemmas.List.{length-map}
use Rattle.mon_values.specs.declared.value.Value.{Value, None as Nothing, Exc as Raised-value, Tuple, Iter, Gen, Done}
use Rattle.mon_values.specs.declared.value.Value.TheOpen.{Value-F}
use Rattle.mon_values.specs.declared.value.Value.TheViews.{out-Value, out-Exc}
use Rattle.mon_values.specs.declared.value.Exc.{Exc}
use Rattle.mon_values.specs.declared.fault.Trouble.{Trouble}
use Rattle.mon_values.specs.declared.operator.ArithOp.{ArithOp}
use Rattle.mon_values.specs.declared.operator.CmpOp.{CmpOp}
use Rattle.mon_values.specs.Arithmetic.{arith_of, negated}
use Rattle.mon_values.specs.Comparing.{compare_of}
use Rattle.mon_values.specs.Indexing.{index_of}
use Rattle.mon_values.specs.Truth.{truth}
use Rattle.mon_values.specs.Troubles.{trouble}
use Rattle.mon_values.specs.Weights.{made, made_exc, exc_of}
use Rattle.mon_events.specs.declared.event.Event.{Event}
use Rattle.mon_events.specs.declared.op.Op.{Op}
use Rattle.mon_code.specs.declared.program.Code.{Code}
use Rattle.mon_code.specs.declared.program.Handler.{Handler}
use Rattle.mon_code.specs.declared.program.Location.{Location}
use Rattle.mon_code.specs.Operators.{arith_op_of, cmp_op_of}
use Rattle.mon_code.specs.Programs.{Parts, op_at, location_at}
use Rattle.mon_frames.specs.declared.frame.Frame.{Frame}
use Rattle.mon_frames.specs.declared.call.By.{By}
use Rattle.mon_frames.specs.declared.call.By.TheVariants as by
use Rattle.mon_frames.specs.declared.call.Call.{Call}
use Rattle.mon_frames.specs.declared.generator.Closing.{Closing}
use Rattle.mon_frames.specs.declared.generator.Generator.{Generator}
use Rattle.mon_frames.specs.declared.generator.Generator.TheVariants.{NotStarted, Suspended, Running, Finished}
use Rattle.mon_frames.specs.declared.fault.FrameFault.TheVariants as frame_fault
use Rattle.mon_frames.specs.declared.fault.ResumeFault.{ResumeFault}
use Rattle.mon_frames.specs.declared.fault.ResumeFault.TheVariants as resume_fault
use Rattle.mon_frames.specs.Generators.{with_generators, running, sent_to, is_none, resumed, resumed_in, entered, entered_in, close_number, entered_to_close, closed, closed_in}
use Rattle.mon_frames.specs.declared.call.Origin.{Origin}
use Rattle.mon_frames.specs.declared.call.Origin.TheVariants.{Plain, Generator as Generated}
use Rattle.mon_frames.specs.Calls.{called, handler_due}
use Rattle.mon_frames.specs.Items.{items_of}
use Rattle.mon_frames.specs.Iterating.{iterated_at, over, next_of}
use Rattle.mon_frames.specs.Views.{FramesView, with_top, last_or, handled_in, has_room, most_frames, on_top, pushed_in, after_leaving}
use Rattle.mon_builtins.specs.declared.given.Given.{Given}
use Rattle.mon_builtins.specs.declared.given.Given.TheVariants as given
use Rattle.mon_builtins.specs.Builtins as builtins
use Rattle.mon_recorders.specs.declared.report.Outcome.{Outcome}
use Rattle.mon_machine.specs.declared.mode.Answer.{Answer}
use Rattle.mon_machine.specs.declared.mode.Mode.{Mode}
use Rattle.mon_machine.specs.declared.mode.Ending.{Ending}
use Rattle.mon_machine.specs.State.{State, FrameMove, Move, moved, with_frame, in_top, misses, goes_on, jumps, in_mode_of}
use Rattle.mon_machine.specs.Operations as spec
use Rattle.mon_machine.specs.Moves as moves
use Rattle.mon_machine.specs.Step.{Step, stuck, finished, finishes_at, finishes_in, finishes, after_ending, with_line, executed, at_location, in_code, runs_top, caught_in, goes_out, unwinds_from, unwinds, in_mode, step}
use Rattle.mon_machine.specs.Giving.{stands_at, takes_value, gives_caller, stop_with, gives_returned, leaves, gives_yielded, yields_from, yields, parks_from, parks}
use Rattle.mon_machine.specs.Run.{after_steps, printed_by}
use Rattle.mon_machine.specs.LastLines.{unlined, unlined_call, unlined_generator, without_lines, unlined_state, LastLinesAreForEvents}

-- ---- in one frame

abbrev bare : FrameMove → FrameMove
bare m = record m { frame = unlined m.frame }

abbrev bare_if : Option FrameMove → Option FrameMove
bare_if None = None
bare_if (Some m) = Some (bare m)

gives : (f : Frame) (rest : List Value) (r : Result Value Trouble) → spec.gives (unlined f) rest r ≡ bare (spec.gives f rest r)
gives f rest (Ok v) = refl
gives f rest (Err t) = refl

load_const : (f : Frame) (v : Option Value) → spec.load_const (unlined f) v ≡ bare (spec.load_const f v)
load_const f None = refl
load_const f (Some v) = refl

load_fast : (f : Frame) (name : List ℕ) (v : Option (Option Value)) → spec.load_fast (unlined f) name v ≡ bare (spec.load_fast f name v)
load_fast f name None = refl
load_fast f name (Some None) = refl
load_fast f name (Some (Some v)) = refl

with_local : (f : Frame) (n : ℕ) (value : Option Value) (rest : List Value) → spec.with_local (unlined f) n value rest ≡ bare (spec.with_local f n value rest)
with_local f n value rest = pick (nat_lt n (length f.locals))
  where
    pick : (b : Bool) → (if b then goes_on (record f { locals = slice_set f.locals n value; line = None }) rest else misses (record f { stack = rest; line = None }))
        ≡ bare (if b then goes_on (record f { locals = slice_set f.locals n value }) rest else misses (record f { stack = rest }))
    pick true = refl
    pick false = refl

store_fast : (f : Frame) (n : ℕ) (stack : List Value) → spec.store_fast (unlined f) n stack ≡ bare (spec.store_fast f n stack)
store_fast f n [] = refl
store_fast f n (v ∷ rest) = with_local f n (Some v) rest

load_found : (f : Frame) (name : List ℕ) (v : Option Value) → spec.load_found (unlined f) name v ≡ bare (spec.load_found f name v)
load_found f name None = refl
load_found f name (Some v) = refl

load_global : (p : Parts) (f : Frame) (name : Option (List ℕ)) → spec.load_global p (unlined f) name ≡ bare (spec.load_global p f name)
load_global p f None = refl
load_global p f (Some name) = load_found f name (spec.global_of p name)

method_at : (f : Frame) (method : ℕ) (o : Value) (rest : List Value) (layer : Value-F Value Exc) → spec.method_at (unlined f) method o rest layer ≡ bare (spec.method_at f method o rest layer)
method_at f method o rest (Value-F.Gen number) = refl
method_at f method o rest _ = refl

load_method : (f : Frame) (method : ℕ) (stack : List Value) → spec.load_method (unlined f) method stack ≡ bare (spec.load_method f method stack)
load_method f method [] = refl
load_method f method (o ∷ rest) = method_at f method o rest (out-Value o)

load_numbered : (f : Frame) (method : ℕ) → spec.load_numbered (unlined f) method ≡ bare (spec.load_numbered f method)
load_numbered f method = pick (nat_lt method 256)
  where
    pick : (b : Bool) → (if b then spec.load_method (unlined f) method f.stack else misses (unlined f)) ≡ bare (if b then spec.load_method f method f.stack else misses f)
    pick true = load_method f method f.stack
    pick false = refl

on_one : (op : Value → Result Value Trouble) (f : Frame) (stack : List Value) → spec.on_one op (unlined f) stack ≡ bare (spec.on_one op f stack)
on_one op f [] = refl
on_one op f (a ∷ rest) = gives f rest (op a)

on_two : (op : Value → Value → Result Value Trouble) (f : Frame) (stack : List Value) → spec.on_two op (unlined f) stack ≡ bare (spec.on_two op f stack)
on_two op f [] = refl
on_two op f (b ∷ []) = refl
on_two op f (b ∷ a ∷ rest) = gives f rest (op a b)

binary_op : (op : Option ArithOp) (f : Frame) → spec.binary_op op (unlined f) ≡ bare (spec.binary_op op f)
binary_op None f = refl
binary_op (Some op) f = on_two (arith_of op) f f.stack

compare_op : (op : Option CmpOp) (f : Frame) → spec.compare_op op (unlined f) ≡ bare (spec.compare_op op f)
compare_op None f = refl
compare_op (Some op) f = on_two (λ a b. spec.as_value (compare_of op a b)) f f.stack

build_tuple : (f : Frame) (n : ℕ) (stack : List Value) → spec.build_tuple (unlined f) n stack ≡ bare (spec.build_tuple f n stack)
build_tuple f n stack = pick (nat_le n (length stack))
  where
    pick : (b : Bool) → (if b then spec.gives (unlined f) (drop n stack) (made (Tuple (reverse (take n stack)))) else misses (unlined f)) ≡ bare (if b then spec.gives f (drop n stack) (made (Tuple (reverse (take n stack)))) else misses f)
    pick true = gives f (drop n stack) (made (Tuple (reverse (take n stack))))
    pick false = refl

unpacked : (f : Frame) (n : ℕ) (rest : List Value) (items : Option (List Value)) → spec.unpacked (unlined f) n rest items ≡ bare (spec.unpacked f n rest items)
unpacked f n rest None = refl
unpacked f n rest (Some items) = pick (length items == n)
  where
    pick : (b : Bool) → (if b then goes_on (unlined f) (items ++ rest) else spec.raises (unlined f) rest (trouble 11)) ≡ bare (if b then goes_on f (items ++ rest) else spec.raises f rest (trouble 11))
    pick true = refl
    pick false = refl

unpack_sequence : (f : Frame) (n : ℕ) (stack : List Value) → spec.unpack_sequence (unlined f) n stack ≡ bare (spec.unpack_sequence f n stack)
unpack_sequence f n [] = refl
unpack_sequence f n (whole ∷ rest) = unpacked f n rest (items_of whole)

copy : (f : Frame) (stack : List Value) → spec.copy (unlined f) stack ≡ bare (spec.copy f stack)
copy f [] = refl
copy f (v ∷ rest) = refl

swap : (f : Frame) (stack : List Value) → spec.swap (unlined f) stack ≡ bare (spec.swap f stack)
swap f [] = refl
swap f (a ∷ []) = refl
swap f (a ∷ b ∷ rest) = refl

pop_top : (f : Frame) (stack : List Value) → spec.pop_top (unlined f) stack ≡ bare (spec.pop_top f stack)
pop_top f [] = refl
pop_top f (v ∷ rest) = refl

branch : (b : Bool) (f : Frame) (to : ℕ) (there here : List Value) → (if b then jumps (unlined f) to there else goes_on (unlined f) here) ≡ bare (if b then jumps f to there else goes_on f here)
branch true f to there here = refl
branch false f to there here = refl

pop_jump_if : (wanted : Bool) (f : Frame) (to : ℕ) (stack : List Value) → spec.pop_jump_if wanted (unlined f) to stack ≡ bare (spec.pop_jump_if wanted f to stack)
pop_jump_if wanted f to [] = refl
pop_jump_if wanted f to (v ∷ rest) = branch (spec.same_truth wanted (truth v)) f to rest rest

pop_jump_if_done : (f : Frame) (to : ℕ) (stack : List Value) → spec.pop_jump_if_done (unlined f) to stack ≡ bare (spec.pop_jump_if_done f to stack)
pop_jump_if_done f to [] = refl
pop_jump_if_done f to (v ∷ []) = refl
pop_jump_if_done f to (v ∷ over ∷ rest) = branch (spec.is_done v) f to (v ∷ rest) (v ∷ over ∷ rest)

reraised : (f : Frame) (rest : List Value) (e : Option Exc) (handling : List Exc) → spec.reraised (unlined f) rest e (spec.forgets (unlined f) handling) ≡ bare (spec.reraised f rest e (spec.forgets f handling))
reraised f rest None handling = refl
reraised f rest (Some e) [] = refl
reraised f rest (Some e) (x ∷ handling) = refl

reraise : (f : Frame) (stack : List Value) → spec.reraise (unlined f) stack ≡ bare (spec.reraise f stack)
reraise f [] = refl
reraise f (v ∷ rest) = reraised f rest (spec.exception_of v) f.handling

handles : (f : Frame) (e : Option Exc) → spec.handles (unlined f) e ≡ bare (spec.handles f e)
handles f None = refl
handles f (Some e) = refl

push_exc_info : (f : Frame) (stack : List Value) → spec.push_exc_info (unlined f) stack ≡ bare (spec.push_exc_info f stack)
push_exc_info f [] = refl
push_exc_info f (v ∷ rest) = handles f (spec.exception_of v)

matched : (f : Frame) (rest : List Value) (b : Option Bool) → spec.matched (unlined f) rest b ≡ bare (spec.matched f rest b)
matched f rest None = refl
matched f rest (Some b) = refl

checked : (f : Frame) (rest : List Value) (of : Value) (e : Option Exc) → spec.checked (unlined f) rest of e ≡ bare (spec.checked f rest of e)
checked f rest of None = refl
checked f rest of (Some e) = matched f rest (spec.matches_of (out-Exc e).class of)

check_exc_match : (f : Frame) (stack : List Value) → spec.check_exc_match (unlined f) stack ≡ bare (spec.check_exc_match f stack)
check_exc_match f [] = refl
check_exc_match f (of ∷ []) = refl
check_exc_match f (of ∷ v ∷ rest) = checked f (v ∷ rest) of (spec.exception_of v)

forgotten : (f : Frame) (handling : List Exc) → spec.forgotten (unlined f) (spec.forgets (unlined f) handling) ≡ bare (spec.forgotten f (spec.forgets f handling))
forgotten f [] = refl
forgotten f (e ∷ handling) = refl

raised : (f : Frame) (rest : List Value) (r : Result Exc Trouble) → spec.raised (unlined f) rest r ≡ bare (spec.raised f rest r)
raised f rest (Ok e) = refl
raised f rest (Err t) = refl

raise_top : (f : Frame) (stack : List Value) → spec.raise_top (unlined f) stack ≡ bare (spec.raise_top f stack)
raise_top f [] = refl
raise_top f (v ∷ rest) = raised f rest (spec.instance_of v)

some : {x y : FrameMove} → x ≡ y → Some x ≡ Some y
some e = ap (λ (m : FrameMove). Some m) e

operation : (p : Parts) (c : Code) (op : Op) (n : ℕ) (f : Frame) → spec.operation p c op n (unlined f) ≡ bare_if (spec.operation p c op n f)
operation p c Op.Nop n f = refl
operation p c Op.Resume n f = refl
operation p c Op.LoadConst n f = some (load_const f (slice_get c.constants n))
operation p c Op.LoadFast n f = some (load_fast f (spec.or_empty (slice_get c.locals n)) (slice_get f.locals n))
operation p c Op.StoreFast n f = some (store_fast f n f.stack)
operation p c Op.DeleteFast n f = some (with_local f n None f.stack)
operation p c Op.LoadGlobal n f = some (load_global p f (slice_get c.globals n))
operation p c Op.LoadMethod n f = some (load_numbered f n)
operation p c Op.BinaryOp n f = some (binary_op (arith_op_of n) f)
operation p c Op.CompareOp n f = some (compare_op (cmp_op_of n) f)
operation p c Op.ContainsOp n f = some (on_two (spec.contains_op n) f f.stack)
operation p c Op.IsOp n f = some (on_two (spec.is_op n) f f.stack)
operation p c Op.UnaryNegative n f = some (on_one negated f f.stack)
operation p c Op.UnaryNot n f = some (on_one spec.unary_not f f.stack)
operation p c Op.BuildTuple n f = some (build_tuple f n f.stack)
operation p c Op.UnpackSequence n f = some (unpack_sequence f n f.stack)
operation p c Op.BinarySubscr n f = some (on_two index_of f f.stack)
operation p c Op.Copy n f = some (copy f f.stack)
operation p c Op.Swap n f = some (swap f f.stack)
operation p c Op.PopTop n f = some (pop_top f f.stack)
operation p c Op.JumpForward n f = refl
operation p c Op.JumpBackward n f = refl
operation p c Op.PopJumpIfFalse n f = some (pop_jump_if false f n f.stack)
operation p c Op.PopJumpIfTrue n f = some (pop_jump_if true f n f.stack)
operation p c Op.PopJumpIfDone n f = some (pop_jump_if_done f n f.stack)
operation p c Op.EndFor n f = some (pop_top f f.stack)
operation p c Op.Reraise n f = some (reraise f f.stack)
operation p c Op.PushExcInfo n f = some (push_exc_info f f.stack)
operation p c Op.CheckExcMatch n f = some (check_exc_match f f.stack)
operation p c Op.PopExcept n f = some (forgotten f f.handling)
operation p c _ n f = refl

-- ---- in all frames

abbrev all : Move → Move
all m = record m { frames = without_lines m.frames }

top : (calls : List Call) (f : Frame) → with_top (map unlined_call calls) (unlined f) ≡ map unlined_call (with_top calls f)
top [] f = refl
top (call ∷ calls) f = refl

framed : (v : FramesView) (f : Frame) → with_frame (without_lines v) (unlined f) ≡ without_lines (with_frame v f)
framed v f = ap (λ (calls : List Call). let w : FramesView = record (without_lines v) { calls = calls } in w) (top v.calls f)

in_own : (v : FramesView) (m : FrameMove) → in_top (without_lines v) (bare m) ≡ all (in_top v m)
in_own v m = ap (λ (w : FramesView). moved w m.ending) (framed v m.frame)

pushes : (v : FramesView) (f : Frame) (x : Value) → moves.pushes (without_lines v) (unlined f) x ≡ all (moves.pushes v f x)
pushes v f x = in_own v (goes_on f (x ∷ f.stack))

gone_over : (v : FramesView) (f : Frame) (items : Option (List Value)) → moves.iterates (without_lines v) (unlined f) (over (without_lines v) items) ≡ all (moves.iterates v f (over v items))
gone_over v f None = refl
gone_over v f (Some items) = pushes (record v { iterators = v.iterators ++ items ∷ [] }) f (Iter (length v.iterators))

iterates_at : (v : FramesView) (f : Frame) (x : Value) (layer : Value-F Value Exc) → moves.iterates (without_lines v) (unlined f) (iterated_at (without_lines v) x layer) ≡ all (moves.iterates v f (iterated_at v x layer))
iterates_at v f x (Value-F.Gen number) = pushes v f x
iterates_at v f x (Value-F.Iter number) = pushes v f x
iterates_at v f x _ = gone_over v f (items_of x)

get_iter : (v : FramesView) (f : Frame) (stack : List Value) → moves.get_iter (without_lines v) (unlined f) stack ≡ all (moves.get_iter v f stack)
get_iter v f [] = in_own v (misses f)
get_iter v f (x ∷ rest) =
    let g : Frame = moves.with_stack f rest in
    ap (λ (w : FramesView). moves.iterates_over w (unlined g) x) (framed v g) ∙ iterates_at (with_frame v g) g x (out-Value x)

set_map : {A B : Type 0} (h : A → B) (xs : List A) (n : ℕ) (y : A) → slice_set (map h xs) n (h y) ≡ map h (slice_set xs n y)
set_map h [] n y = refl
set_map h (x ∷ xs) zero y = refl
set_map h (x ∷ xs) (suc n) y = ap (λ l. h x ∷ l) (set_map h xs n y)

map_added : {A B : Type 0} (h : A → B) (xs : List A) (y : A) → map h xs ++ h y ∷ [] ≡ map h (xs ++ y ∷ [])
map_added h [] y = refl
map_added h (x ∷ xs) y = ap (λ l. h x ∷ l) (map_added h xs y)

-- what a generator that goes on makes of the frames
abbrev bare_due_frames : Result FramesView ResumeFault → Result FramesView ResumeFault
bare_due_frames (Ok w) = Ok (without_lines w)
bare_due_frames (Err fault) = Err fault

module _ (v : FramesView) (number : ℕ) (by : By) where
  abbrev go : FramesView → Frame → Bool → Result FramesView ResumeFault
  go w f b = if b then Ok (on_top (with_generators w (slice_set w.generators number Running)) f (Generated number by)) else Err resume_fault.Full

  running_bare : (f : Frame) → running (without_lines v) number by (unlined f) ≡ bare_due_frames (running v number by f)
  running_bare f = ap (λ (n : ℕ). go (without_lines v) (unlined f) (nat_lt n most_frames)) (length-map v.calls unlined_call) ∙ pick (has_room v.calls)
    where
      pick : (b : Bool) → go (without_lines v) (unlined f) b ≡ bare_due_frames (go v f b)
      pick true = ap (λ (gs : List Generator). let w : FramesView = record (without_lines v) { generators = gs } in let r : Result FramesView ResumeFault = Ok (on_top w (unlined f) (Generated number by)) in r) (set_map unlined_generator v.generators number Running)
      pick false = refl

  resumed_in_bare : (x : Value) (g : Option Generator) → resumed_in (without_lines v) number x by (option_map unlined_generator g) ≡ bare_due_frames (resumed_in v number x by g)
  resumed_in_bare x None = refl
  resumed_in_bare x (Some Running) = refl
  resumed_in_bare x (Some Finished) = refl
  resumed_in_bare x (Some (Suspended f)) = running_bare (sent_to f x)
  resumed_in_bare x (Some (NotStarted f)) = pick (is_none x)
    where
      pick : (b : Bool) → (if b then running (without_lines v) number by (unlined (sent_to f x)) else Err resume_fault.NotNone) ≡ bare_due_frames (if b then running v number by (sent_to f x) else Err resume_fault.NotNone)
      pick true = running_bare (sent_to f x)
      pick false = refl

  resumed_bare : (x : Value) → resumed (without_lines v) number x by ≡ bare_due_frames (resumed v number x by)
  resumed_bare x = ap (λ (g : Option Generator). resumed_in (without_lines v) number x by g) (slice_get-map unlined_generator v.generators number) ∙ resumed_in_bare x (slice_get v.generators number)

  entered_in_bare : (g : Option Generator) → entered_in (without_lines v) number by (option_map unlined_generator g) ≡ bare_due_frames (entered_in v number by g)
  entered_in_bare None = refl
  entered_in_bare (Some Running) = refl
  entered_in_bare (Some Finished) = refl
  entered_in_bare (Some (NotStarted f)) = running_bare f
  entered_in_bare (Some (Suspended f)) = running_bare f

  entered_bare : entered (without_lines v) number by ≡ bare_due_frames (entered v number by)
  entered_bare = ap (λ (g : Option Generator). entered_in (without_lines v) number by g) (slice_get-map unlined_generator v.generators number) ∙ entered_in_bare (slice_get v.generators number)

abbrev bare_closing : Result (Closing × FramesView) ResumeFault → Result (Closing × FramesView) ResumeFault
bare_closing (Ok due) = Ok (due.0, without_lines due.1)
bare_closing (Err fault) = Err fault

entered_to_close_bare : (r : Result FramesView ResumeFault) → entered_to_close (bare_due_frames r) ≡ bare_closing (entered_to_close r)
entered_to_close_bare (Ok w) = refl
entered_to_close_bare (Err fault) = refl

closed_in_bare : (v : FramesView) (number : ℕ) (g : Option Generator) → closed_in (without_lines v) number (option_map unlined_generator g) ≡ bare_closing (closed_in v number g)
closed_in_bare v number None = refl
closed_in_bare v number (Some Running) = refl
closed_in_bare v number (Some Finished) = refl
closed_in_bare v number (Some (NotStarted f)) =
    ap (λ (gs : List Generator). let w : FramesView = record (without_lines v) { generators = gs } in let r : Result (Closing × FramesView) ResumeFault = Ok (Closing.Closed, w) in r) (set_map unlined_generator v.generators number Finished)
closed_in_bare v number (Some (Suspended f)) =
    ap entered_to_close (running_bare v number (by.Call close_number) f) ∙ entered_to_close_bare (running v number (by.Call close_number) f)

closed_bare : (v : FramesView) (number : ℕ) → closed (without_lines v) number ≡ bare_closing (closed v number)
closed_bare v number = ap (λ (g : Option Generator). closed_in (without_lines v) number g) (slice_get-map unlined_generator v.generators number) ∙ closed_in_bare v number (slice_get v.generators number)

loops : (v : FramesView) (f : Frame) (r : Result FramesView ResumeFault) → moves.loops (without_lines v) (unlined f) (bare_due_frames r) ≡ all (moves.loops v f r)
loops v f (Ok w) = refl
loops v f (Err resume_fault.Finished) = pushes v f (Done (Some builtins.stop_iteration))
loops v f (Err resume_fault.Running) = refl
loops v f (Err resume_fault.NotNone) = refl
loops v f (Err resume_fault.Full) = refl
loops v f (Err resume_fault.Memory) = refl

for_generator : (v : FramesView) (f : Frame) (number : ℕ) (g : Option Generator) → moves.for_generator (without_lines v) (unlined f) number (option_map unlined_generator g) ≡ all (moves.for_generator v f number g)
for_generator v f number None = refl
for_generator v f number (Some g) = ap (λ (r : Result FramesView ResumeFault). moves.loops (without_lines v) (unlined f) r) (resumed_bare v number by.For Nothing) ∙ loops v f (resumed v number Nothing by.For)

for_iter_at : (v : FramesView) (f : Frame) (layer : Value-F Value Exc) → moves.for_iter_at (without_lines v) (unlined f) layer ≡ all (moves.for_iter_at v f layer)
for_iter_at v f (Value-F.Iter number) = pushes (next_of v number).1 f (moves.or_done (next_of v number).0)
for_iter_at v f (Value-F.Gen number) = ap (λ (g : Option Generator). moves.for_generator (without_lines v) (unlined f) number g) (slice_get-map unlined_generator v.generators number) ∙ for_generator v f number (slice_get v.generators number)
for_iter_at v f _ = refl

for_iter : (v : FramesView) (f : Frame) (stack : List Value) → moves.for_iter (without_lines v) (unlined f) stack ≡ all (moves.for_iter v f stack)
for_iter v f [] = refl
for_iter v f (x ∷ rest) = for_iter_at v f (out-Value x)

handled : (calls : List Call) → handled_in (map unlined_call calls) ≡ handled_in calls
handled [] = refl
handled (call ∷ calls) = ap (λ (outer : Option Exc). last_or call.frame.handling outer) (handled calls)

raises_again : (v : FramesView) (e : Option Exc) → moves.raises_again (without_lines v) e ≡ all (moves.raises_again v e)
raises_again v None = refl
raises_again v (Some e) = refl

raise_varargs : (v : FramesView) (n : ℕ) (f : Frame) → moves.raise_varargs (without_lines v) n (unlined f) ≡ all (moves.raise_varargs v n f)
raise_varargs v n f = pick (n == 0)
  where
    pick : (b : Bool) → (if b then moves.raises_again (without_lines v) (handled_in (map unlined_call v.calls)) else in_top (without_lines v) (spec.raise_top (unlined f) f.stack))
        ≡ all (if b then moves.raises_again v (handled_in v.calls) else in_top v (spec.raise_top f f.stack))
    pick true = ap (λ (e : Option Exc). moves.raises_again (without_lines v) e) (handled v.calls) ∙ raises_again v (handled_in v.calls)
    pick false = ap (λ (m : FrameMove). in_top (without_lines v) m) (raise_top f f.stack) ∙ in_own v (spec.raise_top f f.stack)

answers : (v : FramesView) (f : Frame) (printed : List (List ℕ)) (x : Value) → moves.answers (without_lines v) (unlined f) printed x ≡ all (moves.answers v f printed x)
answers v f printed x = ap (λ (m : Move). let a : Move = record m { printed = printed; ancillary = Some Event.CReturn } in a) (pushes v f x)

enters : (v : FramesView) (function : ℕ) (args : List Value) (c : Option Code) → moves.enters (without_lines v) (pushed_in (without_lines v) c function args) ≡ all (moves.enters v (pushed_in v c function args))
enters v function args None = refl
enters v function args (Some c) =
    ap (λ (n : ℕ). moves.enters (without_lines v) (if nat_lt n most_frames then Ok (on_top (without_lines v) (called c function args) Plain) else Err frame_fault.Full)) (length-map v.calls unlined_call) ∙ pick (has_room v.calls)
  where
    pick : (b : Bool) → moves.enters (without_lines v) (if b then Ok (on_top (without_lines v) (called c function args) Plain) else Err frame_fault.Full) ≡ all (moves.enters v (if b then Ok (on_top v (called c function args) Plain) else Err frame_fault.Full))
    pick true = refl
    pick false = refl

calls_code : (p : Parts) (v : FramesView) (args : List Value) (function : ℕ) (c : Option Code) → moves.calls_code p (without_lines v) args function c ≡ all (moves.calls_code p v args function c)
calls_code p v args function None = refl
calls_code p v args function (Some c) = pick (length args == c.parameters)
  where
    pick : (b : Bool) → (if b then moves.enters (without_lines v) (pushed_in (without_lines v) (slice_get p.codes function) function args) else moves.refuses (without_lines v) (trouble 5))
        ≡ all (if b then moves.enters v (pushed_in v (slice_get p.codes function) function args) else moves.refuses v (trouble 5))
    pick true = enters v function args (slice_get p.codes function)
    pick false = refl

as_answer : (v : FramesView) (f : Frame) (r : Result Exc Trouble) → moves.as_answer (without_lines v) (unlined f) r ≡ all (moves.as_answer v f r)
as_answer v f (Ok e) = answers v f [] (Raised-value e)
as_answer v f (Err t) = refl

calls_class : (v : FramesView) (f : Frame) (class : ℕ) (args : List Value) → moves.calls_class (without_lines v) (unlined f) class args ≡ all (moves.calls_class v f class args)
calls_class v f class [] = as_answer v f (made_exc (exc_of class None))
calls_class v f class (x ∷ []) = as_answer v f (made_exc (exc_of class (Some x)))
calls_class v f class (x ∷ y ∷ args) = refl

resumes : (v : FramesView) (r : Result FramesView ResumeFault) → moves.resumes (without_lines v) (bare_due_frames r) ≡ all (moves.resumes v r)
resumes v (Ok w) = refl
resumes v (Err resume_fault.Finished) = refl
resumes v (Err resume_fault.Running) = refl
resumes v (Err resume_fault.NotNone) = refl
resumes v (Err resume_fault.Full) = refl
resumes v (Err resume_fault.Memory) = refl

sends : (v : FramesView) (builtin number : ℕ) (x : Value) → moves.sends (without_lines v) builtin number x ≡ all (moves.sends v builtin number x)
sends v builtin number x = ap (λ (r : Result FramesView ResumeFault). moves.resumes (without_lines v) r) (resumed_bare v number (by.Call builtin) x) ∙ resumes v (resumed v number x (by.Call builtin))

next_of_generator : (v : FramesView) (number : ℕ) (g : Option Generator) → moves.next_of_generator (without_lines v) number (option_map unlined_generator g) ≡ all (moves.next_of_generator v number g)
next_of_generator v number None = refl
next_of_generator v number (Some g) = sends v moves.next_number number Nothing

given_move : (v : FramesView) (f : Frame) (g : Given) → moves.given_move (unlined f) g (without_lines v) ≡ all (moves.given_move f g v)
given_move v f (given.Value x) = answers v f [] x
given_move v f (given.Printed text) = answers v f (text ∷ []) Nothing
given_move v f (given.Raised e) = refl
given_move v f (given.Next number) = ap (λ (g : Option Generator). moves.next_of_generator (without_lines v) number g) (slice_get-map unlined_generator v.generators number) ∙ next_of_generator v number (slice_get v.generators number)

-- a builtin changes the iterators alone
abbrev bare_due : Given × FramesView → Given × FramesView
bare_due d = (d.0, without_lines d.1)

next_at : (v : FramesView) (layer : Value-F Value Exc) → builtins.next_at (without_lines v) layer ≡ bare_due (builtins.next_at v layer)
next_at v (Value-F.Iter number) = refl
next_at v (Value-F.Gen number) = refl
next_at v _ = refl

next_due : (v : FramesView) (args : List Value) → builtins.next_due (without_lines v) args ≡ bare_due (builtins.next_due v args)
next_due v [] = refl
next_due v (x ∷ []) = next_at v (out-Value x)
next_due v (x ∷ y ∷ args) = refl

iter_over : (v : FramesView) (items : Option (List Value)) → builtins.iter_at (without_lines v) (over (without_lines v) items) ≡ bare_due (builtins.iter_at v (over v items))
iter_over v None = refl
iter_over v (Some items) = refl

iter_at : (v : FramesView) (x : Value) (layer : Value-F Value Exc) → builtins.iter_at (without_lines v) (iterated_at (without_lines v) x layer) ≡ bare_due (builtins.iter_at v (iterated_at v x layer))
iter_at v x (Value-F.Gen number) = refl
iter_at v x (Value-F.Iter number) = refl
iter_at v x _ = iter_over v (items_of x)

iter_due : (v : FramesView) (args : List Value) → builtins.iter_due (without_lines v) args ≡ bare_due (builtins.iter_due v args)
iter_due v [] = refl
iter_due v (x ∷ []) = iter_at v x (out-Value x)
iter_due v (x ∷ y ∷ args) = refl

one_of : (v : FramesView) (a b c d e f g h k l : Bool) (r s t u w x y z o : Given) (next next' iter iter' : Given × FramesView) → next' ≡ bare_due next → iter' ≡ bare_due iter
    → (let q = without_lines v in if a then (r, q) else if b then (s, q) else if c then (t, q) else if d then (u, q) else if e then (w, q) else if f then (x, q) else if g then (y, q) else if h then (z, q) else if k then (o, q) else if l then next' else iter')
    ≡ bare_due (if a then (r, v) else if b then (s, v) else if c then (t, v) else if d then (u, v) else if e then (w, v) else if f then (x, v) else if g then (y, v) else if h then (z, v) else if k then (o, v) else if l then next else iter)
one_of v true b c d e f g h k l r s t u w x y z o next next' iter iter' m n = refl
one_of v false true c d e f g h k l r s t u w x y z o next next' iter iter' m n = refl
one_of v false false true d e f g h k l r s t u w x y z o next next' iter iter' m n = refl
one_of v false false false true e f g h k l r s t u w x y z o next next' iter iter' m n = refl
one_of v false false false false true f g h k l r s t u w x y z o next next' iter iter' m n = refl
one_of v false false false false false true g h k l r s t u w x y z o next next' iter iter' m n = refl
one_of v false false false false false false true h k l r s t u w x y z o next next' iter iter' m n = refl
one_of v false false false false false false false true k l r s t u w x y z o next next' iter iter' m n = refl
one_of v false false false false false false false false true l r s t u w x y z o next next' iter iter' m n = refl
one_of v false false false false false false false false false true r s t u w x y z o next next' iter iter' m n = m
one_of v false false false false false false false false false false r s t u w x y z o next next' iter iter' m n = n

builtin_due : (v : FramesView) (number : ℕ) (args : List Value) (names : List (List ℕ)) → builtins.builtin_due number args names (without_lines v) ≡ bare_due (builtins.builtin_due number args names v)
builtin_due v number args names =
    one_of v (number == 0) (number == 1) (number == 2) (number == 3) (number == 4) (number == 5) (number == 6) (number == 7) (number == 8) (number == 9) _ _ _ _ _ _ _ _ _ _ _ _ _ (next_due v args) (iter_due v args)

send : (v : FramesView) (number : ℕ) (args : List Value) → moves.send (without_lines v) number args ≡ all (moves.send v number args)
send v number [] = refl
send v number (x ∷ []) = sends v moves.send_number number x
send v number (x ∷ y ∷ args) = refl

throws_in : (v : FramesView) (e : Exc) (r : Result FramesView ResumeFault) → moves.throws_in (without_lines v) e (bare_due_frames r) ≡ all (moves.throws_in v e r)
throws_in v e (Ok w) = refl
throws_in v e (Err resume_fault.Finished) = refl
throws_in v e (Err resume_fault.Running) = refl
throws_in v e (Err resume_fault.NotNone) = refl
throws_in v e (Err resume_fault.Full) = refl
throws_in v e (Err resume_fault.Memory) = refl

throws_instance : (v : FramesView) (number : ℕ) (r : Result Exc Trouble) → moves.throws_instance (without_lines v) number r ≡ all (moves.throws_instance v number r)
throws_instance v number (Ok e) = ap (λ (r : Result FramesView ResumeFault). moves.throws_in (without_lines v) e r) (entered_bare v number (by.Call moves.throw_number)) ∙ throws_in v e (entered v number (by.Call moves.throw_number))
throws_instance v number (Err t) = refl

throw : (v : FramesView) (number : ℕ) (args : List Value) → moves.throw (without_lines v) number args ≡ all (moves.throw v number args)
throw v number [] = refl
throw v number (x ∷ []) = throws_instance v number (spec.instance_of x)
throw v number (x ∷ y ∷ args) = refl

closes_as : (f : Frame) (closing : Closing) (w : FramesView) → moves.closes_as (unlined f) closing (without_lines w) ≡ all (moves.closes_as f closing w)
closes_as f Closing.Closed w = answers w f [] Nothing
closes_as f Closing.Entered w = refl

closes : (v : FramesView) (f : Frame) (r : Result (Closing × FramesView) ResumeFault) → moves.closes (without_lines v) (unlined f) (bare_closing r) ≡ all (moves.closes v f r)
closes v f (Ok due) = closes_as f due.0 due.1
closes v f (Err fault) = refl

close : (v : FramesView) (f : Frame) (number : ℕ) (args : List Value) → moves.close (without_lines v) (unlined f) number args ≡ all (moves.close v f number args)
close v f number [] = ap (λ (r : Result (Closing × FramesView) ResumeFault). moves.closes (without_lines v) (unlined f) r) (closed_bare v number) ∙ closes v f (closed v number)
close v f number (x ∷ args) = refl

method_of : (v : FramesView) (f : Frame) (method number : ℕ) (args : List Value) → moves.method_of (without_lines v) (unlined f) method number args ≡ all (moves.method_of v f method number args)
method_of v f method number args = pick (method == moves.send_number) (method == moves.throw_number)
  where
    pick : (a b : Bool) → (if a then moves.send (without_lines v) number args else if b then moves.throw (without_lines v) number args else moves.close (without_lines v) (unlined f) number args)
        ≡ all (if a then moves.send v number args else if b then moves.throw v number args else moves.close v f number args)
    pick true b = send v number args
    pick false true = throw v number args
    pick false false = close v f number args

method_on : (v : FramesView) (f : Frame) (method : ℕ) (o : Option ℕ) (args : List Value) → moves.method_on (without_lines v) (unlined f) method o args ≡ all (moves.method_on v f method o args)
method_on v f method None args = refl
method_on v f method (Some number) args = method_of v f method number args

numbered : (number : ℕ) (g : Option Generator) → moves.numbered number (option_map unlined_generator g) ≡ moves.numbered number g
numbered number None = refl
numbered number (Some g) = refl

generator_at : (v : FramesView) (layer : Value-F Value Exc) → moves.generator_at (without_lines v) layer ≡ moves.generator_at v layer
generator_at v (Value-F.Gen number) = ap (λ (g : Option Generator). moves.numbered number g) (slice_get-map unlined_generator v.generators number) ∙ numbered number (slice_get v.generators number)
generator_at v _ = refl

first_generator : (v : FramesView) (args : List Value) → moves.first_generator (without_lines v) args ≡ moves.first_generator v args
first_generator v [] = refl
first_generator v (x ∷ args) = generator_at v (out-Value x)

calls_builtin : (p : Parts) (v : FramesView) (f : Frame) (number : ℕ) (args : List Value) → moves.calls_builtin p (without_lines v) (unlined f) number args ≡ all (moves.calls_builtin p v f number args)
calls_builtin p v f number args = pick (nat_lt number moves.named_builtins) (nat_lt number 14)
  where
    pick : (a b : Bool)
        → (if a then moves.given_move (unlined f) (builtins.builtin_due number args p.names (without_lines v)).0 (builtins.builtin_due number args p.names (without_lines v)).1
        else if b then moves.method_on (without_lines v) (unlined f) number (moves.first_generator (without_lines v) args) (drop 1 args) else moves.throws_trouble (without_lines v) (trouble 4))
        ≡ all (if a then moves.given_move f (builtins.builtin_due number args p.names v).0 (builtins.builtin_due number args p.names v).1
        else if b then moves.method_on v f number (moves.first_generator v args) (drop 1 args) else moves.throws_trouble v (trouble 4))
    pick true b = ap (λ (d : Given × FramesView). moves.given_move (unlined f) d.0 d.1) (builtin_due v number args p.names) ∙ given_move (builtins.builtin_due number args p.names v).1 f (builtins.builtin_due number args p.names v).0
    pick false true = ap (λ (o : Option ℕ). moves.method_on (without_lines v) (unlined f) number o (drop 1 args)) (first_generator v args) ∙ method_on v f number (moves.first_generator v args) (drop 1 args)
    pick false false = refl

calls_at : (p : Parts) (v : FramesView) (f : Frame) (args : List Value) (layer : Value-F Value Exc) → moves.calls_at p (without_lines v) (unlined f) args layer ≡ all (moves.calls_at p v f args layer)
calls_at p v f args (Value-F.Function function) = calls_code p v args function (slice_get p.codes function)
calls_at p v f args (Value-F.Builtin number) = calls_builtin p v f number args
calls_at p v f args (Value-F.ExcClass class) = calls_class v f class args
calls_at p v f args _ = refl

calls_found : (p : Parts) (v : FramesView) (n : ℕ) (f : Frame) (callee : Option Value) → moves.calls_found p (without_lines v) n (unlined f) callee ≡ all (moves.calls_found p v n f callee)
calls_found p v n f None = refl
calls_found p v n f (Some callee) =
    let g : Frame = moves.with_stack f (moves.below_in n f.stack) in
    ap (λ (w : FramesView). moves.calls p w (unlined g) (moves.args_in n f.stack) callee) (framed v g) ∙ calls_at p (with_frame v g) g (moves.args_in n f.stack) (out-Value callee)

return_value : (v : FramesView) (f : Frame) (stack : List Value) → moves.return_value (without_lines v) (unlined f) stack ≡ all (moves.return_value v f stack)
return_value v f [] = in_own v (misses f)
return_value v f (x ∷ rest) = ap (λ (w : FramesView). moved w (Ending.Returns x)) (framed v (moves.with_stack f rest))

yield_value : (v : FramesView) (f : Frame) (stack : List Value) → moves.yield_value (without_lines v) (unlined f) stack ≡ all (moves.yield_value v f stack)
yield_value v f [] = in_own v (misses f)
yield_value v f (x ∷ rest) = ap (λ (w : FramesView). moved w (Ending.Yields x)) (framed v (record f { index = f.index + 1; stack = rest }))

return_generator : (v : FramesView) (f : Frame) → moves.return_generator (without_lines v) (unlined f) ≡ all (moves.return_generator v f)
return_generator v f = ap (λ (w : FramesView). moved w Ending.Parks) (framed v (record f { index = 1 }))

move_of : (p : Parts) (op : Op) (n : ℕ) (f : Frame) (v : FramesView) → moves.move_of p op n (unlined f) (without_lines v) ≡ all (moves.move_of p op n f v)
move_of p Op.GetIter n f v = get_iter v f f.stack
move_of p Op.ForIter n f v = for_iter v f f.stack
move_of p Op.RaiseVarargs n f v = raise_varargs v n f
move_of p Op.Call n f v = calls_found p v n f (moves.callee_in n f.stack)
move_of p Op.ReturnValue n f v = return_value v f f.stack
move_of p Op.ReturnGenerator n f v = return_generator v f
move_of p Op.YieldValue n f v = yield_value v f f.stack
move_of p _ n f v = refl

operated : (p : Parts) (op : Op) (n : ℕ) (f : Frame) (v : FramesView) (m : Option FrameMove) → moves.operated p op n (unlined f) (without_lines v) (bare_if m) ≡ all (moves.operated p op n f v m)
operated p op n f v None = move_of p op n f v
operated p op n f v (Some m) = in_own v m

effect : (p : Parts) (c : Code) (op : Op) (n : ℕ) (f : Frame) (v : FramesView) → moves.effect p c op n (unlined f) (without_lines v) ≡ all (moves.effect p c op n f v)
effect p c op n f v = ap (λ (m : Option FrameMove). moves.operated p op n (unlined f) (without_lines v) m) (operation p c op n f) ∙ operated p op n f v (spec.operation p c op n f)

-- ---- in a step

calls_again : (calls : List Call) → map unlined_call (map unlined_call calls) ≡ map unlined_call calls
calls_again [] = refl
calls_again (call ∷ calls) = ap (λ (rest : List Call). unlined_call call ∷ rest) (calls_again calls)

generator_again : (g : Generator) → unlined_generator (unlined_generator g) ≡ unlined_generator g
generator_again (NotStarted f) = refl
generator_again (Suspended f) = refl
generator_again Running = refl
generator_again Finished = refl

generators_again : (gs : List Generator) → map unlined_generator (map unlined_generator gs) ≡ map unlined_generator gs
generators_again [] = refl
generators_again (g ∷ gs) = λ i. generator_again g i ∷ generators_again gs i

again : (v : FramesView) → without_lines (without_lines v) ≡ without_lines v
again v = λ i. record { calls = calls_again v.calls i; generators = generators_again v.generators i; iterators = v.iterators }

same_view : (v : FramesView) (mode : Mode) → unlined_state (in_mode_of (without_lines v) mode) ≡ unlined_state (in_mode_of v mode)
same_view v mode = ap (λ (w : FramesView). in_mode_of w mode) (again v)

same_frame : (v : FramesView) (f : Frame) (mode : Mode) → unlined_state (in_mode_of (with_frame (without_lines v) (unlined f)) mode) ≡ unlined_state (in_mode_of (with_frame v f) mode)
same_frame v f mode = ap (λ (w : FramesView). unlined_state (in_mode_of w mode)) (framed v f) ∙ same_view (with_frame v f) mode

takes : (v : FramesView) (f : Frame) (x : Value) (l : Option Location) → takes_value (without_lines v) (unlined f) x l ≡ unlined_state (takes_value v f x l)
takes v f x None = refl
takes v f x (Some l) = ap (λ (w : FramesView). in_mode_of w Mode.Run) (framed v (record f { index = f.index + 1; stack = x ∷ f.stack }))

gives_to : (p : Parts) (v : FramesView) (calls : List Call) (x : Value) → gives_caller p (without_lines v) (map unlined_call calls) x ≡ unlined_state (gives_caller p v calls x)
gives_to p v [] x = refl
gives_to p v (call ∷ calls) x = takes v call.frame x (stands_at p call.frame)

left : (o : Origin) (gs : List Generator) → after_leaving o (map unlined_generator gs) ≡ map unlined_generator (after_leaving o gs)
left Plain gs = refl
left (Generated number by) gs = set_map unlined_generator gs number Finished

module _ (p : Parts) (its : List (List Value)) where
  abbrev standing : List Call → List Generator → FramesView
  standing calls gs = record { calls = calls; generators = gs; iterators = its }

  returned : (o : Origin) (v : FramesView) (x : Value) → gives_returned p (without_lines v) o x ≡ unlined_state (gives_returned p v o x)
  returned Plain v x = gives_to p v v.calls x
  returned (Generated number by.For) v x = gives_to p v v.calls (Done (Some (stop_with x)))
  returned (Generated number (by.Call builtin)) v x = refl

  leaves_top : (calls : List Call) (gs : List Generator) (x : Value) → leaves p (without_lines (standing calls gs)) (map unlined_call calls) x ≡ unlined_state (leaves p (standing calls gs) calls x)
  leaves_top [] gs x = refl
  leaves_top (call ∷ []) gs x = ap (λ (l : List Generator). in_mode_of (standing [] l) (Mode.Ended (Outcome.Returned x))) (left call.origin gs)
  leaves_top (call ∷ caller ∷ calls) gs x =
      ap (λ (l : List Generator). gives_returned p (standing (map unlined_call (caller ∷ calls)) l) call.origin x) (left call.origin gs) ∙ returned call.origin (standing (caller ∷ calls) (after_leaving call.origin gs)) x

  yielded : (number : ℕ) (by : By) (v : FramesView) (x : Value) → gives_yielded p (without_lines v) number by x ≡ unlined_state (gives_yielded p v number by x)
  yielded number by.For v x = gives_to p v v.calls x
  yielded number (by.Call builtin) v x = refl

  yields_as : (f : Frame) (o : Origin) (below : List Call) (gs : List Generator) (x : Value)
      → let v = standing (record { frame = f; origin = o } ∷ below) gs in yields_from p (without_lines v) o (map unlined_call below) x ≡ unlined_state (yields_from p v o below x)
  yields_as f Plain below gs x = refl
  yields_as f (Generated number by) [] gs x = ap (λ (l : List Generator). in_mode_of (standing [] l) (Mode.Ended (Outcome.Returned x))) (set_map unlined_generator gs number (Suspended f))
  yields_as f (Generated number by) (caller ∷ calls) gs x =
      ap (λ (l : List Generator). gives_yielded p (standing (map unlined_call (caller ∷ calls)) l) number by x) (set_map unlined_generator gs number (Suspended f))
      ∙ yielded number by (standing (caller ∷ calls) (slice_set gs number (Suspended f))) x

  yields_top : (calls : List Call) (gs : List Generator) (x : Value) → yields p (without_lines (standing calls gs)) (map unlined_call calls) x ≡ unlined_state (yields p (standing calls gs) calls x)
  yields_top [] gs x = refl
  yields_top (call ∷ calls) gs x = yields_as call.frame call.origin calls gs x

  parks_as : (f : Frame) (o : Origin) (below : List Call) (gs : List Generator)
      → let v = standing (record { frame = f; origin = o } ∷ below) gs in parks_from p (without_lines v) o ≡ unlined_state (parks_from p v o)
  parks_as f Plain below gs =
      ap (λ (l : List Generator). gives_caller p (standing (map unlined_call below) l) (map unlined_call below) (Gen (length (map unlined_generator gs)))) (map_added unlined_generator gs (NotStarted f))
      ∙ ap (λ (n : ℕ). gives_caller p (standing (map unlined_call below) (map unlined_generator (gs ++ NotStarted f ∷ []))) (map unlined_call below) (Gen n)) (length-map gs unlined_generator)
      ∙ gives_to p (standing below (gs ++ NotStarted f ∷ [])) below (Gen (length gs))
  parks_as f (Generated number by) below gs = refl

  parks_top : (calls : List Call) (gs : List Generator) → parks p (without_lines (standing calls gs)) (map unlined_call calls) ≡ unlined_state (parks p (standing calls gs) calls)
  parks_top [] gs = refl
  parks_top (call ∷ calls) gs = parks_as call.frame call.origin calls gs

ending : (p : Parts) (v : FramesView) (e : Ending) → after_ending p (without_lines v) e ≡ unlined_state (after_ending p v e)
ending p v Ending.Continues = refl
ending p v (Ending.Raises x) = refl
ending p v (Ending.Reraises x) = refl
ending p v (Ending.Returns x) = leaves_top p v.iterators v.calls v.generators x
ending p v (Ending.Yields x) = yields_top p v.iterators v.calls v.generators x
ending p v Ending.Parks = parks_top p v.iterators v.calls v.generators
ending p v (Ending.ThrowsIn x) = refl
ending p v Ending.Misses = refl

record Alike (a b : Step) : Type 0 where
  pub after : unlined_state a.after ≡ unlined_state b.after
  pub printed : a.printed ≡ b.printed

module _ (p : Parts) where
  stuck_alike : (v : FramesView) → Alike (stuck (without_lines v)) (stuck v)
  stuck_alike v = record { after = same_view v Mode.Stuck; printed = refl }

  executed_alike : (c : Code) (op : Op) (l : Location) (f : Frame) (v : FramesView) → Alike (executed p c op l (unlined f) (without_lines v)) (executed p c op l f v)
  executed_alike c op l f v =
      let g : Frame = with_line l.line (unlined f) in
      let h : Frame = with_line l.line f in
      let m : Move = moves.effect p c op l.argument g (with_frame (without_lines v) g) in
      let k : Move = moves.effect p c op l.argument h (with_frame v h) in
      let views : without_lines (with_frame (without_lines v) g) ≡ without_lines (with_frame v h)
      = sym (framed (without_lines v) g) ∙ ap (λ (w : FramesView). with_frame w (unlined f)) (again v) ∙ framed v h in
      let same : all m ≡ all k
      = sym (effect p c op l.argument g (with_frame (without_lines v) g)) ∙ ap (λ (w : FramesView). moves.effect p c op l.argument (unlined f) w) views ∙ effect p c op l.argument h (with_frame v h) in
      record {
        after = sym (ending p m.frames m.ending) ∙ ap (λ (n : Move). after_ending p n.frames n.ending) same ∙ ending p k.frames k.ending;
        printed = ap (λ (n : Move). n.printed) same;
      }

  at_alike : (c : Code) (op : Option Op) (l : Option Location) (f : Frame) (v : FramesView) → Alike (at_location p c op l (unlined f) (without_lines v)) (at_location p c op l f v)
  at_alike c None l f v = stuck_alike v
  at_alike c (Some op) None f v = stuck_alike v
  at_alike c (Some op) (Some l) f v = executed_alike c op l f v

  in_alike : (c : Option Code) (f : Frame) (v : FramesView) → Alike (in_code p c (unlined f) (without_lines v)) (in_code p c f v)
  in_alike None f v = stuck_alike v
  in_alike (Some c) f v = at_alike c (op_at p.bases c.first f.index) (location_at c f.index) f v

  runs_alike : (v : FramesView) (calls : List Call) → Alike (runs_top p (without_lines v) (map unlined_call calls)) (runs_top p v calls)
  runs_alike v [] = stuck_alike v
  runs_alike v (call ∷ calls) = in_alike (slice_get p.codes call.frame.code) call.frame v

  goes_out_alike : (v : FramesView) (calls : List Call) (o : Origin) (e : Exc) (f : Frame) → Alike (goes_out p (without_lines v) (map unlined_call calls) o e (unlined f)) (goes_out p v calls o e f)
  goes_out_alike v [] o e f = record { after = same_view v _; printed = refl }
  goes_out_alike v (call ∷ calls) (Generated number (by.Call builtin)) e f = record { after = same_view v _; printed = refl }
  goes_out_alike v (call ∷ calls) (Generated number by.For) e f = record { after = same_view v _; printed = refl }
  goes_out_alike v (call ∷ calls) Plain e f = record { after = same_view v _; printed = refl }

  unwinds_alike : (f : Frame) (o : Origin) (below : List Call) (gs : List Generator) (its : List (List Value)) (e : Exc) (h : Option Handler)
      → let v : FramesView = record { calls = record { frame = f; origin = o } ∷ below; generators = gs; iterators = its } in Alike (unwinds_from p (without_lines v) o e (unlined f) h) (unwinds_from p v o e f h)
  unwinds_alike f o below gs its e (Some h) = record { after = same_frame (record { calls = record { frame = f; origin = o } ∷ below; generators = gs; iterators = its }) (caught_in h e f) Mode.Run; printed = refl }
  unwinds_alike f o below gs its e None =
      let w : FramesView = record { calls = below; generators = after_leaving o gs; iterators = its } in
      subst (λ (l : List Generator). Alike (goes_out p (record { calls = map unlined_call below; generators = l; iterators = its }) (map unlined_call below) o e (unlined f)) (goes_out p w below o e f)) (sym (left o gs)) (goes_out_alike w below o e f)

  top_alike : (calls : List Call) (gs : List Generator) (its : List (List Value)) (e : Exc)
      → let v : FramesView = record { calls = calls; generators = gs; iterators = its } in Alike (unwinds p (without_lines v) e (map unlined_call calls)) (unwinds p v e calls)
  top_alike [] gs its e = stuck_alike (record { calls = []; generators = gs; iterators = its })
  top_alike (call ∷ calls) gs its e = unwinds_alike call.frame call.origin calls gs its e (handler_due p call.frame.code call.frame.index)

  finished_alike : (v : FramesView) (f : Frame) (r : Result Value Exc) → unlined_state (finished (without_lines v) (unlined f) r) ≡ unlined_state (finished v f r)
  finished_alike v f (Ok x) = same_frame v (record f { index = f.index + 1; stack = x ∷ f.stack }) Mode.Run
  finished_alike v f (Err e) = same_view v (Mode.Unwind e)

  finishes_alike : (v : FramesView) (a : Answer) (calls : List Call) → Alike (finishes p (without_lines v) a (map unlined_call calls)) (finishes p v a calls)
  finishes_alike v a [] = stuck_alike v
  finishes_alike v a (call ∷ calls) = in_some (slice_get p.codes call.frame.code)
    where
      at_some : (c : Code) (l : Option Location) → Alike (finishes_at p (without_lines v) a c (unlined call.frame) l) (finishes_at p v a c call.frame l)
      at_some c None = stuck_alike v
      at_some c (Some l) = record { after = finished_alike v call.frame a.result; printed = refl }

      in_some : (c : Option Code) → Alike (finishes_in p (without_lines v) a c (unlined call.frame)) (finishes_in p v a c call.frame)
      in_some None = stuck_alike v
      in_some (Some c) = at_some c (location_at c call.frame.index)

  mode_alike : (v : FramesView) (mode : Mode) → Alike (in_mode p (without_lines v) mode) (in_mode p v mode)
  mode_alike v Mode.Run = runs_alike v v.calls
  mode_alike v (Mode.Unwind e) = top_alike v.calls v.generators v.iterators e
  mode_alike v (Mode.Finish a) = finishes_alike v a v.calls
  mode_alike v (Mode.Ended outcome) = record { after = same_view v (Mode.Ended outcome); printed = refl }
  mode_alike v Mode.Stuck = stuck_alike v

  step_alike : (s : State) → Alike (step p (unlined_state s)) (step p s)
  unfolding step
  step_alike s = mode_alike s.frames s.mode

  -- ---- and in a run

  next_alike : (s t : State) → unlined_state s ≡ unlined_state t → Alike (step p s) (step p t)
  next_alike s t e = record {
    after = sym (step_alike s).after ∙ ap (λ (w : State). unlined_state (step p w).after) e ∙ (step_alike t).after;
    printed = sym (step_alike s).printed ∙ ap (λ (w : State). (step p w).printed) e ∙ (step_alike t).printed;
  }

  states : (s t : State) (n : ℕ) → unlined_state s ≡ unlined_state t → unlined_state (after_steps p s n) ≡ unlined_state (after_steps p t n)
  unfolding after_steps
  states s t zero e = e
  states s t (suc n) e = states (step p s).after (step p t).after n (next_alike s t e).after

  prints : (s t : State) (n : ℕ) → unlined_state s ≡ unlined_state t → printed_by p s n ≡ printed_by p t n
  unfolding printed_by
  prints s t zero e = refl
  prints s t (suc n) e =
      let here = (next_alike s t e).printed in
      let rest = prints (step p s).after (step p t).after n (next_alike s t e).after in
      λ i. here i ++ rest i

pub last_lines_are_for_events : LastLinesAreForEvents
last_lines_are_for_events p s n =
    let same : unlined_state (unlined_state s) ≡ unlined_state s = same_view s.frames s.mode in
    record { state = states p (unlined_state s) s n same; printed = prints p (unlined_state s) s n same }
