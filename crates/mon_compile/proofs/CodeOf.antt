-- The code of each kind of expression and statement.
use Rattle.std.proofs.Common.{◌≡◌, ℕ, Bool, false, List, map, sym, ap, ◌∙◌}
use Rattle.std.specs.Prelude.{Option, Some, None, ℤ}
use Rattle.mon_values.specs.declared.value.Value as value
use Rattle.mon_trees.specs.declared.tree.Simple.{Simple}
use Rattle.mon_trees.specs.declared.tree.Targets.{Targets}
use Rattle.mon_trees.specs.declared.tree.Expression.{Expression}
use Rattle.mon_trees.specs.declared.tree.Expression as tree
use Rattle.mon_trees.specs.declared.tree.Expression.TheFolds.{fold-roll-Expression}
use Rattle.mon_trees.specs.declared.tree.Expression.TheOpen.{Expression-F}
use Rattle.mon_trees.specs.declared.tree.Expression.TheViews as node
use Rattle.mon_trees.specs.declared.tree.Handler.{Handler}
use Rattle.mon_trees.specs.declared.tree.Statement.{Statement}
use Rattle.mon_trees.specs.declared.tree.Statement as statement
use Rattle.mon_trees.specs.declared.tree.Statement.TheFolds.{fold-roll-Statement, fold-roll-Handler}
use Rattle.mon_trees.specs.declared.tree.Statement.TheOpen.{Statement-F}
use Rattle.mon_trees.specs.declared.tree.Statement.TheViews as compound
use Rattle.mon_trees.specs.declared.tree.Statement.TheViews.{roll-Handler}
use Rattle.mon_compile.specs.Expressions.{Coder, Locals, name_code, constant_code, or_none, yield_code, expression_step, expression_code}
use Rattle.mon_compile.specs.Statements.{is_text_step, is_lone_text, Scheme, ClauseScheme, while_code, for_code, try_code, coder_of, simple_code, statement_step, clause_code, handler_step, statement_code, block_code, handler_code}

pub code_of_name : (locals : Locals) (name : List ℕ) → expression_code locals (tree.Name name) ≡ name_code locals name
code_of_name locals name = ap (expression_code locals) (sym (node.rolls-Name name)) ∙ fold-roll-Expression Coder (expression_step locals) (Expression-F.Name name)

pub code_of_integer : (locals : Locals) (n : ℤ) → expression_code locals (tree.Integer n) ≡ constant_code (value.Int n)
code_of_integer locals n = ap (expression_code locals) (sym (node.rolls-Integer n)) ∙ fold-roll-Expression Coder (expression_step locals) (Expression-F.Integer n)

pub code_of_yield : (locals : Locals) (line : ℕ) (e : Option Expression) → expression_code locals (node.Yield line e) ≡ yield_code (or_none (coder_of locals e))
code_of_yield locals line None = ap (expression_code locals) (sym (node.rolls-Yield line None)) ∙ fold-roll-Expression Coder (expression_step locals) (Expression-F.Yield line None)
code_of_yield locals line (Some e) = ap (expression_code locals) (sym (node.rolls-Yield line (Some e))) ∙ fold-roll-Expression Coder (expression_step locals) (Expression-F.Yield line (Some e))

pub code_of_simple_statement : (locals : Locals) (line : ℕ) (s : Simple) → statement_code locals (statement.Simple line s) ≡ simple_code locals line s
code_of_simple_statement locals line s = ap (statement_code locals) (sym (compound.rolls-Simple line s)) ∙ fold-roll-Statement Scheme ClauseScheme (statement_step locals) (handler_step locals) (Statement-F.Simple line s)

pub code_of_while_statement : (locals : Locals) (line : ℕ) (c : Expression) (a : List Statement) → statement_code locals (compound.While line c a) ≡ while_code line (expression_code locals c) (block_code locals a)
code_of_while_statement locals line c a = ap (statement_code locals) (sym (compound.rolls-While line c a)) ∙ fold-roll-Statement Scheme ClauseScheme (statement_step locals) (handler_step locals) (Statement-F.While line c a)

pub code_of_for_statement : (locals : Locals) (line : ℕ) (t : Targets) (e : Expression) (a : List Statement) → statement_code locals (compound.For line t e a) ≡ for_code locals line t (expression_code locals e) (block_code locals a)
code_of_for_statement locals line t e a = ap (statement_code locals) (sym (compound.rolls-For line t e a)) ∙ fold-roll-Statement Scheme ClauseScheme (statement_step locals) (handler_step locals) (Statement-F.For line t e a)

pub code_of_try_statement : (locals : Locals) (line : ℕ) (a : List Statement) (handlers : List Handler) (f : List Statement) → statement_code locals (compound.Try line a handlers f) ≡ try_code line (block_code locals a) (map (handler_code locals) handlers) (map (statement_code locals) f)
code_of_try_statement locals line a handlers f = ap (statement_code locals) (sym (compound.rolls-Try line a handlers f)) ∙ fold-roll-Statement Scheme ClauseScheme (statement_step locals) (handler_step locals) (Statement-F.Try line a handlers f)

pub code_of_handler : (locals : Locals) (line : ℕ) (class : Option Expression) (name : Option (List ℕ)) (body : List Statement)
    → handler_code locals (roll-Handler (record { line = line; class = class; name = name; body = body })) ≡ clause_code locals line (coder_of locals class) name (block_code locals body)
code_of_handler locals line class name body = fold-roll-Handler Scheme ClauseScheme (statement_step locals) (handler_step locals) (record { line = line; class = class; name = name; body = body })

pub lone_yield : (line : ℕ) (e : Option Expression) → is_lone_text (node.Yield line e) ≡ false
lone_yield line e = ap is_lone_text (sym (node.rolls-Yield line e)) ∙ fold-roll-Expression Bool is_text_step (Expression-F.Yield line e)
