-- What an instruction makes of its own frame: loads, stores, operators, the stack, jumps and handled exceptions.
use Rattle.std.specs.Prelude.{ℕ, ◌==◌, nat_lt, nat_le, Bool, true, false, not, List, [], ◌∷◌, ◌++◌, length, take, drop, reverse, map, Option, Some, None, Result, Ok, Err, slice_get, slice_set, if◌then◌else◌}
use Rattle.mon_values.specs.declared.value.Value.{Value, Bool as Truth, Tuple, Function, Builtin, ExcClass}
use Rattle.mon_values.specs.declared.value.Value.TheOpen.{Value-F}
use Rattle.mon_values.specs.declared.value.Value.TheViews.{out-Value, out-Exc}
use Rattle.mon_values.specs.declared.value.Exc.{Exc}
use Rattle.mon_values.specs.declared.fault.Trouble.{Trouble}
use Rattle.mon_values.specs.declared.operator.ArithOp.{ArithOp}
use Rattle.mon_values.specs.declared.operator.CmpOp.{CmpOp}
use Rattle.mon_values.specs.Arithmetic.{arith_of, negated}
use Rattle.mon_values.specs.Comparing.{compare_of}
use Rattle.mon_values.specs.Containing.{contains_of}
use Rattle.mon_values.specs.Indexing.{index_of}
use Rattle.mon_values.specs.Classes.{classes, builtin_names, is_subclass, Class}
use Rattle.mon_values.specs.Truth.{truth}
use Rattle.mon_values.specs.Troubles.{trouble, trouble_exc, not_iterable}
use Rattle.mon_values.specs.Weights.{made, exc_of}
use Rattle.mon_events.specs.declared.op.Op.{Op}
use Rattle.mon_code.specs.declared.program.Code.{Code}
use Rattle.mon_code.specs.declared.program.ModuleConstant.{ModuleConstant}
use Rattle.mon_code.specs.Programs.{Parts, is_text, first_named}
use Rattle.mon_code.specs.Operators.{arith_op_of, cmp_op_of}
use Rattle.mon_frames.specs.Items.{items_of}
use Rattle.mon_frames.specs.declared.frame.Frame.{Frame}
use Rattle.mon_machine.specs.declared.mode.Ending.{Ending}
use Rattle.mon_machine.specs.State.{FrameMove, ends, misses, goes_on, jumps}

-- an exception of the machine, with this stack left
abbrev pub raises : Frame → List Value → Trouble → FrameMove
raises f stack t = ends (record f { stack = stack }) (Ending.Raises (trouble_exc t []))

-- an answer of the values' tables: pushed, or raised with the operands gone
abbrev pub gives : Frame → List Value → Result Value Trouble → FrameMove
gives f rest (Ok v) = goes_on f (v ∷ rest)
gives f rest (Err t) = raises f rest t

-- LOAD_CONST
abbrev pub load_const : Frame → Option Value → FrameMove
load_const f None = misses f
load_const f (Some v) = goes_on f (v ∷ f.stack)

abbrev pub or_empty : Option (List ℕ) → List ℕ
or_empty None = []
or_empty (Some name) = name

-- LOAD_FAST of a local of this name: an unbound one raises
abbrev pub load_fast : Frame → List ℕ → Option (Option Value) → FrameMove
load_fast f name None = misses f
load_fast f name (Some None) = ends f (Ending.Raises (trouble_exc (trouble 25) name))
load_fast f name (Some (Some v)) = goes_on f (v ∷ f.stack)

abbrev pub with_local : Frame → ℕ → Option Value → List Value → FrameMove
with_local f local value rest = if nat_lt local (length f.locals) then goes_on (record f { locals = slice_set f.locals local value }) rest else misses (record f { stack = rest })

-- STORE_FAST
abbrev pub store_fast : Frame → ℕ → List Value → FrameMove
store_fast f local [] = misses f
store_fast f local (v ∷ rest) = with_local f local (Some v) rest

-- the constant of this name
abbrev pub constant_of : List ModuleConstant → List ℕ → Option Value
constant_of [] name = None
constant_of (c ∷ cs) name = if is_text c.name name then Some c.value else constant_of cs name

abbrev pub or_else : {A : Type 0} → Option A → Option A → Option A
or_else None other = other
or_else (Some x) other = Some x

abbrev pub mapped : {A : Type 0} → (A → Value) → Option A → Option Value
mapped f None = None
mapped f (Some x) = Some (f x)

abbrev pub class_names : List (List ℕ)
class_names = map (λ (c : Class). c.name) classes

-- the builtins that a global name may mean; the others are methods of generators
abbrev pub global_builtins : ℕ
global_builtins = 11

-- what a name means outside a function: what the module calls so, else a builtin, else a class of exceptions
abbrev pub global_of : Parts → List ℕ → Option Value
global_of p name =
    or_else (constant_of p.constants name)
    (or_else (mapped Function (first_named 0 p.names name))
    (or_else (mapped Builtin (first_named 0 (take global_builtins builtin_names) name))
    (mapped ExcClass (first_named 0 class_names name))))

-- LOAD_GLOBAL of this name
abbrev pub load_found : Frame → List ℕ → Option Value → FrameMove
load_found f name None = ends f (Ending.Raises (trouble_exc (trouble 24) name))
load_found f name (Some v) = goes_on f (v ∷ f.stack)

abbrev pub load_global : Parts → Frame → Option (List ℕ) → FrameMove
load_global p f None = misses f
load_global p f (Some name) = load_found f name (global_of p name)

abbrev pub method_at : Frame → ℕ → Value → List Value → Value-F Value Exc → FrameMove
method_at f method o rest (Value-F.Gen number) = goes_on f (o ∷ Builtin method ∷ rest)
method_at f method o rest _ = raises f rest (trouble 20)

-- LOAD_METHOD: generators alone have methods
abbrev pub load_method : Frame → ℕ → List Value → FrameMove
load_method f method [] = misses f
load_method f method (o ∷ rest) = method_at f method o rest (out-Value o)

-- the method is a builtin, of which there are no more than 256
abbrev pub load_numbered : Frame → ℕ → FrameMove
load_numbered f method = if nat_lt method 256 then load_method f method f.stack else misses f

-- an operator of the topmost value
abbrev pub on_one : (Value → Result Value Trouble) → Frame → List Value → FrameMove
on_one op f [] = misses f
on_one op f (a ∷ rest) = gives f rest (op a)

-- an operator of the two topmost values
abbrev pub on_two : (Value → Value → Result Value Trouble) → Frame → List Value → FrameMove
on_two op f [] = misses f
on_two op f (b ∷ []) = misses (record f { stack = [] })
on_two op f (b ∷ a ∷ rest) = gives f rest (op a b)

-- BINARY_OP
abbrev pub binary_op : Option ArithOp → Frame → FrameMove
binary_op None f = misses f
binary_op (Some op) f = on_two (arith_of op) f f.stack

abbrev pub as_value : Result Bool Trouble → Result Value Trouble
as_value (Ok b) = Ok (Truth b)
as_value (Err t) = Err t

-- COMPARE_OP
abbrev pub compare_op : Option CmpOp → Frame → FrameMove
compare_op None f = misses f
compare_op (Some op) f = on_two (λ a b. as_value (compare_of op a b)) f f.stack

-- the argument 1 negates
abbrev pub negated_by : ℕ → Bool → Bool
negated_by n b = if n == 1 then not b else b

abbrev pub contained : ℕ → Result Bool Trouble → Result Value Trouble
contained n (Ok b) = Ok (Truth (negated_by n b))
contained n (Err t) = Err t

-- CONTAINS_OP
abbrev pub contains_op : ℕ → Value → Value → Result Value Trouble
contains_op n item whole = contained n (contains_of item whole)

abbrev pub same_truth : Bool → Bool → Bool
same_truth true b = b
same_truth false b = not b

abbrev pub is_single_at : Value-F Value Exc → Value-F Value Exc → Bool
is_single_at Value-F.None Value-F.None = true
is_single_at (Value-F.Bool a) (Value-F.Bool b) = same_truth a b
is_single_at a b = false

-- a value is None, True or False, by kind and value
abbrev pub is_single : Value → Value → Bool
is_single a single = is_single_at (out-Value a) (out-Value single)

-- IS_OP
abbrev pub is_op : ℕ → Value → Value → Result Value Trouble
is_op n a single = Ok (Truth (negated_by n (is_single a single)))

-- UNARY_NOT
abbrev pub unary_not : Value → Result Value Trouble
unary_not a = Ok (Truth (not (truth a)))

-- BUILD_TUPLE of so many values, the last on top
abbrev pub build_tuple : Frame → ℕ → List Value → FrameMove
build_tuple f n stack = if nat_le n (length stack) then gives f (drop n stack) (made (Tuple (reverse (take n stack)))) else misses f

abbrev pub unpacked : Frame → ℕ → List Value → Option (List Value) → FrameMove
unpacked f n rest None = raises f rest not_iterable
unpacked f n rest (Some items) = if length items == n then goes_on f (items ++ rest) else raises f rest (trouble 11)

-- UNPACK_SEQUENCE into so many values, the first on top
abbrev pub unpack_sequence : Frame → ℕ → List Value → FrameMove
unpack_sequence f n [] = misses f
unpack_sequence f n (whole ∷ rest) = unpacked f n rest (items_of whole)

-- COPY of the top
abbrev pub copy : Frame → List Value → FrameMove
copy f [] = misses f
copy f (v ∷ rest) = goes_on f (v ∷ v ∷ rest)

-- SWAP of the top two
abbrev pub swap : Frame → List Value → FrameMove
swap f (a ∷ b ∷ rest) = goes_on f (b ∷ a ∷ rest)
swap f (a ∷ []) = misses (record f { stack = [] })
swap f [] = misses f

-- POP_TOP, and END_FOR, which pops the end of a loop
abbrev pub pop_top : Frame → List Value → FrameMove
pop_top f [] = misses f
pop_top f (v ∷ rest) = goes_on f rest

-- POP_JUMP_IF_TRUE, and POP_JUMP_IF_FALSE
abbrev pub pop_jump_if : Bool → Frame → ℕ → List Value → FrameMove
pop_jump_if wanted f to [] = misses f
pop_jump_if wanted f to (v ∷ rest) = if same_truth wanted (truth v) then jumps f to rest else goes_on f rest

abbrev pub is_done_at : Value-F Value Exc → Bool
is_done_at (Value-F.Done e) = true
is_done_at _ = false

abbrev pub is_done : Value → Bool
is_done v = is_done_at (out-Value v)

-- POP_JUMP_IF_DONE: the end of a loop takes the place of the iterator below
abbrev pub pop_jump_if_done : Frame → ℕ → List Value → FrameMove
pop_jump_if_done f to (v ∷ over ∷ rest) = if is_done v then jumps f to (v ∷ rest) else goes_on f (v ∷ over ∷ rest)
pop_jump_if_done f to (v ∷ []) = misses (record f { stack = [] })
pop_jump_if_done f to [] = misses f

abbrev pub instance_at : Value-F Value Exc → Result Exc Trouble
instance_at (Value-F.Exc e) = Ok e
instance_at (Value-F.ExcClass class) = Ok (exc_of class None)
instance_at _ = Err (trouble 7)

-- what `raise` raises: an instance, or a class as an instance without argument
abbrev pub instance_of : Value → Result Exc Trouble
instance_of v = instance_at (out-Value v)

abbrev pub raised : Frame → List Value → Result Exc Trouble → FrameMove
raised f rest (Ok e) = ends (record f { stack = rest }) (Ending.Raises e)
raised f rest (Err t) = raises f rest t

-- RAISE_VARARGS 1
abbrev pub raise_top : Frame → List Value → FrameMove
raise_top f [] = misses f
raise_top f (v ∷ rest) = raised f rest (instance_of v)

abbrev pub exception_at : Value-F Value Exc → Option Exc
exception_at (Value-F.Exc e) = Some e
exception_at _ = None

-- the exception that a value is
abbrev pub exception_of : Value → Option Exc
exception_of v = exception_at (out-Value v)

-- the handling list without its last exception, which comes first here
abbrev pub forgets : Frame → List Exc → Option Frame
forgets f [] = None
forgets f (e ∷ es) = Some (record f { handling = es })

abbrev pub reraised : Frame → List Value → Option Exc → Option Frame → FrameMove
reraised f rest None forgot = raises f rest (trouble 7)
reraised f rest (Some e) None = misses (record f { stack = rest })
reraised f rest (Some e) (Some forgot) = ends (record forgot { stack = rest }) (Ending.Reraises e)

-- RERAISE
abbrev pub reraise : Frame → List Value → FrameMove
reraise f [] = misses f
reraise f (v ∷ rest) = reraised f rest (exception_of v) (forgets f f.handling)

abbrev pub handles : Frame → Option Exc → FrameMove
handles f None = raises f f.stack (trouble 7)
handles f (Some e) = goes_on (record f { handling = e ∷ f.handling }) f.stack

-- PUSH_EXC_INFO
abbrev pub push_exc_info : Frame → List Value → FrameMove
push_exc_info f [] = misses f
push_exc_info f (v ∷ rest) = handles f (exception_of v)

abbrev pub forgotten : Frame → Option Frame → FrameMove
forgotten f None = misses f
forgotten f (Some g) = goes_on g g.stack

-- POP_EXCEPT
abbrev pub pop_except : Frame → FrameMove
pop_except f = forgotten f (forgets f f.handling)

abbrev pub class_at : Value-F Value Exc → Option ℕ
class_at (Value-F.ExcClass class) = Some class
class_at _ = None

abbrev pub matches_class : ℕ → Option ℕ → Option Bool
matches_class class None = None
matches_class class (Some of) = Some (is_subclass class of)

abbrev pub either : Option Bool → Option Bool → Option Bool
either None b = None
either (Some a) None = None
either (Some false) (Some b) = Some b
either (Some true) (Some b) = Some true

-- whether a class is of one of these, each of which must be a class
abbrev pub matches_any : ℕ → List Value → Option Bool
matches_any class [] = Some false
matches_any class (v ∷ vs) = either (matches_class class (class_at (out-Value v))) (matches_any class vs)

abbrev pub matches_at : ℕ → Value-F Value Exc → Option Bool
matches_at class (Value-F.Tuple items) = matches_any class items
matches_at class v = matches_class class (class_at v)

-- whether a class is of what a value is, a class or a tuple of classes
abbrev pub matches_of : ℕ → Value → Option Bool
matches_of class of = matches_at class (out-Value of)

abbrev pub matched : Frame → List Value → Option Bool → FrameMove
matched f rest None = raises f rest (trouble 7)
matched f rest (Some b) = goes_on f (Truth b ∷ rest)

abbrev pub checked : Frame → List Value → Value → Option Exc → FrameMove
checked f rest of None = raises f rest (trouble 7)
checked f rest of (Some e) = matched f rest (matches_of (out-Exc e).class of)

-- CHECK_EXC_MATCH: whether the exception below the top is of what is on top, a class or a tuple of classes
abbrev pub check_exc_match : Frame → List Value → FrameMove
check_exc_match f (of ∷ v ∷ rest) = checked f (v ∷ rest) of (exception_of v)
check_exc_match f (of ∷ []) = misses (record f { stack = [] })
check_exc_match f [] = misses f

-- the opcodes that work on their own frame alone, with this argument; nothing, for the others
abbrev pub operation : Parts → Code → Op → ℕ → Frame → Option FrameMove
operation p c Op.Nop n f = Some (goes_on f f.stack)
operation p c Op.Resume n f = Some (goes_on f f.stack)
operation p c Op.LoadConst n f = Some (load_const f (slice_get c.constants n))
operation p c Op.LoadFast n f = Some (load_fast f (or_empty (slice_get c.locals n)) (slice_get f.locals n))
operation p c Op.StoreFast n f = Some (store_fast f n f.stack)
operation p c Op.DeleteFast n f = Some (with_local f n None f.stack)
operation p c Op.LoadGlobal n f = Some (load_global p f (slice_get c.globals n))
operation p c Op.LoadMethod n f = Some (load_numbered f n)
operation p c Op.BinaryOp n f = Some (binary_op (arith_op_of n) f)
operation p c Op.CompareOp n f = Some (compare_op (cmp_op_of n) f)
operation p c Op.ContainsOp n f = Some (on_two (contains_op n) f f.stack)
operation p c Op.IsOp n f = Some (on_two (is_op n) f f.stack)
operation p c Op.UnaryNegative n f = Some (on_one negated f f.stack)
operation p c Op.UnaryNot n f = Some (on_one unary_not f f.stack)
operation p c Op.BuildTuple n f = Some (build_tuple f n f.stack)
operation p c Op.UnpackSequence n f = Some (unpack_sequence f n f.stack)
operation p c Op.BinarySubscr n f = Some (on_two index_of f f.stack)
operation p c Op.Copy n f = Some (copy f f.stack)
operation p c Op.Swap n f = Some (swap f f.stack)
operation p c Op.PopTop n f = Some (pop_top f f.stack)
operation p c Op.JumpForward n f = Some (jumps f n f.stack)
operation p c Op.JumpBackward n f = Some (jumps f n f.stack)
operation p c Op.PopJumpIfFalse n f = Some (pop_jump_if false f n f.stack)
operation p c Op.PopJumpIfTrue n f = Some (pop_jump_if true f n f.stack)
operation p c Op.PopJumpIfDone n f = Some (pop_jump_if_done f n f.stack)
operation p c Op.EndFor n f = Some (pop_top f f.stack)
operation p c Op.Reraise n f = Some (reraise f f.stack)
operation p c Op.PushExcInfo n f = Some (push_exc_info f f.stack)
operation p c Op.CheckExcMatch n f = Some (check_exc_match f f.stack)
operation p c Op.PopExcept n f = Some (pop_except f)
operation p c _ n f = None
