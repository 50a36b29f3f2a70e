-- Worked examples of the compile scheme.
use Rattle.std.proofs.Common.{◌≡◌, ℕ, true, false, List, [], ◌∷◌, ◌++◌, map, refl}
use Rattle.std.specs.Prelude.{Option, Some, None, codes, pos}
use Rattle.mon_events.specs.declared.op.Op.{Op}
use Rattle.mon_values.specs.declared.value.Value as value
use Rattle.mon_trees.specs.declared.tree.BinaryOperator.{BinaryOperator}
use Rattle.mon_trees.specs.declared.tree.Expression as tree
use Rattle.mon_trees.specs.declared.tree.Expression.TheViews as node
use Rattle.mon_trees.specs.declared.tree.Simple.TheVariants as simple
use Rattle.mon_trees.specs.declared.tree.Statement.{Statement}
use Rattle.mon_trees.specs.declared.tree.Statement as statement
use Rattle.mon_trees.specs.declared.tree.Statement.TheViews as compound
use Rattle.mon_trees.specs.declared.tree.Statement.TheViews.{roll-Handler}
use Rattle.mon_trees.specs.declared.tree.Targets.TheVariants as targets
use Rattle.mon_compile.specs.declared.assembly.Instruction.{Instruction}
use Rattle.mon_compile.specs.declared.assembly.Argument.{Argument}
use Rattle.mon_compile.specs.declared.assembly.Argument.TheVariants.{Number, Constant, Destination}
use Rattle.mon_compile.specs.declared.assembly.Handler.{Handler}
use Rattle.mon_compile.specs.declared.assembly.Label.{Label}
use Rattle.mon_compile.specs.declared.assembly.Label.TheVariants.{At}
use Rattle.mon_compile.specs.Contexts.{none}
use Rattle.mon_compile.specs.Expressions.{Locals}
use Rattle.mon_compile.specs.Statements.{block_code}
use Rattle.mon_compile.specs.Functions.{start_code, end_code}
use Rattle.mon_compile.proofs.CodeOf.{code_of_name, code_of_integer, code_of_yield, lone_yield, code_of_while_statement, code_of_for_statement, code_of_simple_statement, code_of_try_statement, code_of_handler}

-- what a listing shows of an instruction, with its depths and its handler
record Row : Type 0 where
  line : Option ℕ
  op : Op
  argument : Argument
  stack : ℕ
  handling : ℕ
  handler : Option Label

abbrev label_of : Option Handler → Option Label
label_of None = None
label_of (Some h) = Some h.to

abbrev row_of : Instruction → Row
row_of i = record { line = i.spot.line; op = i.op; argument = i.argument; stack = i.spot.stack; handling = i.spot.handling; handler = label_of i.spot.handler }

abbrev rows : Locals → List Statement → List Row
rows locals body = map row_of (start_code false ++ (block_code locals body [] 1 ++ end_code))

-- those of a generator function
abbrev generator_rows : Locals → List Statement → List Row
generator_rows locals body = map row_of (start_code true ++ (block_code locals body [] 3 ++ end_code))

-- outside a `try`
abbrev row : Option ℕ → Op → Argument → ℕ → Row
row line op argument stack = record { line = line; op = op; argument = argument; stack = stack; handling = 0; handler = None }

-- where an exception is handled
abbrev handling_row : Option ℕ → Op → Argument → ℕ → Row
handling_row line op argument stack = record (row line op argument stack) { handling = 1 }

-- where an exception goes to an index
abbrev caught_row : Option ℕ → Op → Argument → ℕ → ℕ → ℕ → Row
caught_row line op argument stack handling to = record (row line op argument stack) { handling = handling; handler = Some (At to) }

-- 2     while n: n -= 1
-- 3     return n
countdown : rows (codes "n" ∷ []) (
    compound.While 2 (tree.Name (codes "n")) (statement.Simple 2 (simple.Augmented (codes "n") BinaryOperator.Subtract (tree.Integer (pos 1))) ∷ [])
    ∷ statement.Simple 3 (simple.Return (Some (tree.Name (codes "n")))) ∷ []) ≡
    row None Op.Resume (Number 0) 0
    ∷ row (Some 2) Op.LoadFast (Number 0) 0
    ∷ row (Some 2) Op.PopJumpIfFalse (Destination (At 8)) 1
    ∷ row (Some 2) Op.LoadFast (Number 0) 0
    ∷ row (Some 2) Op.LoadConst (Constant (value.Int (pos 1))) 1
    ∷ row (Some 2) Op.BinaryOp (Number 1) 2
    ∷ row (Some 2) Op.StoreFast (Number 0) 1
    ∷ row None Op.JumpBackward (Destination (At 1)) 0
    ∷ row (Some 3) Op.LoadFast (Number 0) 0
    ∷ row (Some 3) Op.ReturnValue none 1
    ∷ row None Op.LoadConst (Constant value.None) 0
    ∷ row None Op.ReturnValue none 1
    ∷ []
countdown =
    let n = codes "n" in
    let locals : Locals = n ∷ [] in
    rw (
      code_of_while_statement locals 2 (tree.Name n) (statement.Simple 2 (simple.Augmented n BinaryOperator.Subtract (tree.Integer (pos 1))) ∷ []),
      code_of_simple_statement locals 2 (simple.Augmented n BinaryOperator.Subtract (tree.Integer (pos 1))),
      code_of_simple_statement locals 3 (simple.Return (Some (tree.Name n))),
      code_of_name locals n,
      code_of_integer locals (pos 1),
    ) refl

-- 2     for x in t:
-- 3         break
left_loop : rows (codes "t" ∷ codes "x" ∷ []) (compound.For 2 (targets.Name (codes "x")) (tree.Name (codes "t")) (statement.Simple 3 simple.Break ∷ []) ∷ []) ≡
    row None Op.Resume (Number 0) 0
    ∷ row (Some 2) Op.LoadFast (Number 0) 0
    ∷ row (Some 2) Op.GetIter none 1
    ∷ row (Some 2) Op.ForIter none 1
    ∷ row (Some 2) Op.PopJumpIfDone (Destination (At 9)) 2
    ∷ row (Some 2) Op.StoreFast (Number 1) 2
    ∷ row None Op.PopTop none 1
    ∷ row (Some 3) Op.JumpForward (Destination (At 10)) 0
    ∷ row None Op.JumpBackward (Destination (At 3)) 1
    ∷ row None Op.EndFor none 1
    ∷ row None Op.LoadConst (Constant value.None) 0
    ∷ row None Op.ReturnValue none 1
    ∷ []
left_loop =
    let t = codes "t" in
    let x = codes "x" in
    let locals : Locals = t ∷ x ∷ [] in
    rw (code_of_for_statement locals 2 (targets.Name x) (tree.Name t) (statement.Simple 3 simple.Break ∷ []), code_of_simple_statement locals 3 simple.Break, code_of_name locals t) refl

-- 2     try:
-- 3         return
-- 4     except t as e:
-- 5         pass
named_handler : rows (codes "t" ∷ codes "e" ∷ []) (
    compound.Try 2 (statement.Simple 3 (simple.Return None) ∷ [])
    (roll-Handler (record { line = 4; class = Some (tree.Name (codes "t")); name = Some (codes "e"); body = statement.Simple 5 simple.Pass ∷ [] }) ∷ []) [] ∷ []) ≡
    row None Op.Resume (Number 0) 0
    ∷ row (Some 2) Op.Nop none 0
    ∷ caught_row (Some 3) Op.LoadConst (Constant value.None) 0 0 5
    ∷ row (Some 3) Op.ReturnValue none 1
    ∷ row None Op.JumpForward (Destination (At 18)) 0
    ∷ row None Op.PushExcInfo none 1
    ∷ handling_row (Some 4) Op.LoadFast (Number 0) 1
    ∷ handling_row (Some 4) Op.CheckExcMatch none 2
    ∷ handling_row (Some 4) Op.PopJumpIfFalse (Destination (At 17)) 2
    ∷ handling_row (Some 4) Op.StoreFast (Number 1) 1
    ∷ caught_row (Some 5) Op.Nop none 0 1 14
    ∷ handling_row None Op.PopExcept none 0
    ∷ row None Op.DeleteFast (Number 1) 0
    ∷ row None Op.JumpForward (Destination (At 18)) 0
    ∷ row None Op.PushExcInfo none 1
    ∷ handling_row None Op.DeleteFast (Number 1) 1
    ∷ handling_row None Op.Reraise none 1
    ∷ handling_row None Op.Reraise none 1
    ∷ row None Op.LoadConst (Constant value.None) 0
    ∷ row None Op.ReturnValue none 1
    ∷ []
named_handler =
    let t = codes "t" in
    let e = codes "e" in
    let locals : Locals = t ∷ e ∷ [] in
    let handled = statement.Simple 5 simple.Pass ∷ [] in
    rw (
      code_of_try_statement locals 2 (statement.Simple 3 (simple.Return None) ∷ []) (roll-Handler (record { line = 4; class = Some (tree.Name t); name = Some e; body = handled }) ∷ []) [],
      code_of_simple_statement locals 3 (simple.Return None),
      code_of_handler locals 4 (Some (tree.Name t)) (Some e) handled,
      code_of_simple_statement locals 5 simple.Pass,
      code_of_name locals t,
    ) refl

-- 2     yield n
one_yield : generator_rows (codes "n" ∷ []) (statement.Simple 2 (simple.Expression (node.Yield 2 (Some (tree.Name (codes "n"))))) ∷ []) ≡
    row None Op.ReturnGenerator none 0
    ∷ row None Op.PopTop none 1
    ∷ row None Op.Resume (Number 0) 0
    ∷ row (Some 2) Op.LoadFast (Number 0) 0
    ∷ row (Some 2) Op.YieldValue none 1
    ∷ row None Op.Resume (Number 1) 1
    ∷ row (Some 2) Op.PopTop none 1
    ∷ row None Op.LoadConst (Constant value.None) 0
    ∷ row None Op.ReturnValue none 1
    ∷ []
one_yield =
    let n = codes "n" in
    let locals : Locals = n ∷ [] in
    rw (
      code_of_simple_statement locals 2 (simple.Expression (node.Yield 2 (Some (tree.Name n)))),
      lone_yield 2 (Some (tree.Name n)),
      code_of_yield locals 2 (Some (tree.Name n)),
      code_of_name locals n,
    ) refl

-- 2     try:
-- 3         return n
-- 4     finally:
-- 5         pass
returned_through : rows (codes "n" ∷ []) (compound.Try 2 (statement.Simple 3 (simple.Return (Some (tree.Name (codes "n")))) ∷ []) [] (statement.Simple 5 simple.Pass ∷ []) ∷ []) ≡
    row None Op.Resume (Number 0) 0
    ∷ row (Some 2) Op.Nop none 0
    ∷ caught_row (Some 3) Op.LoadFast (Number 0) 0 0 7
    ∷ row (Some 5) Op.Nop none 1
    ∷ row (Some 3) Op.ReturnValue none 1
    ∷ row (Some 5) Op.Nop none 0
    ∷ row None Op.JumpForward (Destination (At 10)) 0
    ∷ row None Op.PushExcInfo none 1
    ∷ handling_row (Some 5) Op.Nop none 1
    ∷ handling_row None Op.Reraise none 1
    ∷ row None Op.LoadConst (Constant value.None) 0
    ∷ row None Op.ReturnValue none 1
    ∷ []
returned_through =
    let n = codes "n" in
    let locals : Locals = n ∷ [] in
    let returned = statement.Simple 3 (simple.Return (Some (tree.Name n))) ∷ [] in
    let last = statement.Simple 5 simple.Pass ∷ [] in
    rw (
      code_of_try_statement locals 2 returned [] last,
      code_of_simple_statement locals 3 (simple.Return (Some (tree.Name n))),
      code_of_simple_statement locals 5 simple.Pass,
      code_of_name locals n,
    ) refl
