-- How opcodes and operators are written, and what stands behind an opcode.
use Rattle.std.specs.Prelude.{ℕ, List, codes}
use Rattle.mon_events.specs.declared.op.Op.{Op}
use Rattle.mon_values.specs.declared.operator.ArithOp.{ArithOp}
use Rattle.mon_values.specs.declared.operator.CmpOp.{CmpOp}
use Rattle.mon_forms.specs.declared.opcodes.ArgumentKind.{ArgumentKind}

abbrev pub op_name : Op → List ℕ
op_name Op.Nop = codes "NOP"
op_name Op.Resume = codes "RESUME"
op_name Op.LoadConst = codes "LOAD_CONST"
op_name Op.LoadFast = codes "LOAD_FAST"
op_name Op.StoreFast = codes "STORE_FAST"
op_name Op.DeleteFast = codes "DELETE_FAST"
op_name Op.LoadGlobal = codes "LOAD_GLOBAL"
op_name Op.LoadMethod = codes "LOAD_METHOD"
op_name Op.BinaryOp = codes "BINARY_OP"
op_name Op.CompareOp = codes "COMPARE_OP"
op_name Op.ContainsOp = codes "CONTAINS_OP"
op_name Op.IsOp = codes "IS_OP"
op_name Op.UnaryNegative = codes "UNARY_NEGATIVE"
op_name Op.UnaryNot = codes "UNARY_NOT"
op_name Op.BuildTuple = codes "BUILD_TUPLE"
op_name Op.UnpackSequence = codes "UNPACK_SEQUENCE"
op_name Op.BinarySubscr = codes "BINARY_SUBSCR"
op_name Op.Copy = codes "COPY"
op_name Op.Swap = codes "SWAP"
op_name Op.PopTop = codes "POP_TOP"
op_name Op.JumpForward = codes "JUMP_FORWARD"
op_name Op.JumpBackward = codes "JUMP_BACKWARD"
op_name Op.PopJumpIfFalse = codes "POP_JUMP_IF_FALSE"
op_name Op.PopJumpIfTrue = codes "POP_JUMP_IF_TRUE"
op_name Op.GetIter = codes "GET_ITER"
op_name Op.ForIter = codes "FOR_ITER"
op_name Op.PopJumpIfDone = codes "POP_JUMP_IF_DONE"
op_name Op.EndFor = codes "END_FOR"
op_name Op.Call = codes "CALL"
op_name Op.ReturnValue = codes "RETURN_VALUE"
op_name Op.ReturnGenerator = codes "RETURN_GENERATOR"
op_name Op.YieldValue = codes "YIELD_VALUE"
op_name Op.RaiseVarargs = codes "RAISE_VARARGS"
op_name Op.Reraise = codes "RERAISE"
op_name Op.PushExcInfo = codes "PUSH_EXC_INFO"
op_name Op.CheckExcMatch = codes "CHECK_EXC_MATCH"
op_name Op.PopExcept = codes "POP_EXCEPT"

abbrev pub argument_kind : Op → ArgumentKind
argument_kind Op.LoadConst = ArgumentKind.Constant
argument_kind Op.LoadFast = ArgumentKind.Local
argument_kind Op.StoreFast = ArgumentKind.Local
argument_kind Op.DeleteFast = ArgumentKind.Local
argument_kind Op.LoadGlobal = ArgumentKind.Global
argument_kind Op.LoadMethod = ArgumentKind.Method
argument_kind Op.BinaryOp = ArgumentKind.Arithmetic
argument_kind Op.CompareOp = ArgumentKind.Comparison
argument_kind Op.JumpForward = ArgumentKind.Target
argument_kind Op.JumpBackward = ArgumentKind.Target
argument_kind Op.PopJumpIfFalse = ArgumentKind.Target
argument_kind Op.PopJumpIfTrue = ArgumentKind.Target
argument_kind Op.PopJumpIfDone = ArgumentKind.Target
argument_kind Op.Resume = ArgumentKind.Number
argument_kind Op.ContainsOp = ArgumentKind.Number
argument_kind Op.IsOp = ArgumentKind.Number
argument_kind Op.BuildTuple = ArgumentKind.Number
argument_kind Op.UnpackSequence = ArgumentKind.Number
argument_kind Op.Copy = ArgumentKind.Number
argument_kind Op.Swap = ArgumentKind.Number
argument_kind Op.Call = ArgumentKind.Number
argument_kind Op.RaiseVarargs = ArgumentKind.Number
argument_kind _ = ArgumentKind.Nothing

abbrev pub arith_word : ArithOp → List ℕ
arith_word ArithOp.Add = codes "+"
arith_word ArithOp.Sub = codes "-"
arith_word ArithOp.Mul = codes "*"
arith_word ArithOp.FloorDiv = codes "//"
arith_word ArithOp.Mod = codes "%"

abbrev pub cmp_word : CmpOp → List ℕ
cmp_word CmpOp.Eq = codes "=="
cmp_word CmpOp.Ne = codes "!="
cmp_word CmpOp.Lt = codes "<"
cmp_word CmpOp.Le = codes "<="
cmp_word CmpOp.Gt = codes ">"
cmp_word CmpOp.Ge = codes ">="
