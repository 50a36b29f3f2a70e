-- The listing of a program, as bytes: for each code a line with its name, and a line for each of its locations.
use Rattle.std.specs.Prelude.{ℕ, ◌*◌, List, [], ◌++◌, Option, Some, None, slice_get, codes}
use Rattle.std.specs.Fmt.{decimal}
use Rattle.mon_code.specs.Operators.{arith_op_of, cmp_op_of}
use Rattle.mon_code.specs.Programs.{Parts, op_at}
use Rattle.mon_code.specs.declared.program.Code.{Code}
use Rattle.mon_code.specs.declared.program.Location.{Location}
use Rattle.mon_events.specs.declared.op.Op.{Op}
use Rattle.mon_values.specs.Classes.{builtin_name}
use Rattle.mon_values.specs.declared.operator.ArithOp.{ArithOp}
use Rattle.mon_values.specs.declared.operator.CmpOp.{CmpOp}
use Rattle.mon_values.specs.declared.value.Value.{Value}
use Rattle.mon_forms.specs.Opcodes.{op_name, argument_kind, arith_word, cmp_word}
use Rattle.mon_forms.specs.Texts.{each_from, name_text, code_text, value_text}
use Rattle.mon_forms.specs.declared.opcodes.ArgumentKind.{ArgumentKind}

-- a constant by its `repr`; nothing where there is none
abbrev pub constant_text : Parts → Option Value → List ℕ
constant_text p None = []
constant_text p (Some v) = value_text p v

abbrev pub arith_text : Option ArithOp → List ℕ
arith_text None = []
arith_text (Some op) = arith_word op

abbrev pub cmp_text : Option CmpOp → List ℕ
cmp_text None = []
cmp_text (Some op) = cmp_word op

-- an argument of this kind, behind a space; a target is shown by its offset, which is twice its index
abbrev pub argument_text : Parts → Code → ArgumentKind → ℕ → List ℕ
argument_text p c ArgumentKind.Nothing n = []
argument_text p c ArgumentKind.Constant n = codes " " ++ constant_text p (slice_get c.constants n)
argument_text p c ArgumentKind.Local n = codes " " ++ name_text c.locals n
argument_text p c ArgumentKind.Global n = codes " " ++ name_text c.globals n
argument_text p c ArgumentKind.Method n = codes " " ++ builtin_name n
argument_text p c ArgumentKind.Arithmetic n = codes " " ++ arith_text (arith_op_of n)
argument_text p c ArgumentKind.Comparison n = codes " " ++ cmp_text (cmp_op_of n)
argument_text p c ArgumentKind.Target n = codes " " ++ decimal (2 * n)
argument_text p c ArgumentKind.Number n = codes " " ++ decimal n

-- an opcode with its argument
abbrev pub op_text : Parts → Code → Option Op → ℕ → List ℕ
op_text p c None n = []
op_text p c (Some op) n = op_name op ++ argument_text p c (argument_kind op) n

abbrev pub line_text : Option ℕ → List ℕ
line_text None = codes "-"
line_text (Some line) = decimal line

-- the offset of an index, and the line of its instruction
abbrev pub location_front : ℕ → Option ℕ → List ℕ
location_front at line = decimal (2 * at) ++ codes " " ++ line_text line ++ codes " "

abbrev pub location_line : Parts → Code → ℕ → Location → List ℕ
location_line p c at l = location_front at l.line ++ op_text p c (op_at p.bases c.first at) l.argument ++ codes "\n"

abbrev pub code_lines : Parts → ℕ → Code → List ℕ
code_lines p number c = codes "code " ++ code_text p number ++ codes "\n" ++ each_from (location_line p c) 0 c.locations

-- the codes in turn
abbrev pub listing : Parts → List ℕ
listing p = each_from (code_lines p) 0 p.codes
