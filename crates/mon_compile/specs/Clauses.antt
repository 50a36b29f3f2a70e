-- What is said of statements, of an `except` clause.
use Rattle.std.specs.Prelude.{ℕ, Bool, List}
use Rattle.mon_trees.specs.declared.tree.Handler.{Handler}
use Rattle.mon_trees.specs.declared.tree.Statement.TheFolds.{fold-Handler}
use Rattle.mon_compile.specs.Functions.{names_step, handler_names_step, statement_yields_step, handler_yields_step}
use Rattle.mon_compile.specs.Faults.{loose_step, loose_handler_step, large_lines_step, large_handler_step}

-- the names that it assigns to
abbrev pub clause_names : Handler → List (List ℕ)
clause_names = fold-Handler (List (List ℕ)) (List (List ℕ)) names_step handler_names_step

-- the lines of its `yield`s
abbrev pub clause_yields : Handler → List ℕ
clause_yields = fold-Handler (List ℕ) (List ℕ) statement_yields_step handler_yields_step

-- those of each `break` and `continue` outside a loop
abbrev pub clause_loose : Handler → Bool → List ℕ
clause_loose = fold-Handler (Bool → List ℕ) (Bool → List ℕ) loose_step loose_handler_step

-- those of what itself has a constant over the limits
abbrev pub clause_large : Handler → List ℕ
clause_large = fold-Handler (List ℕ) (List ℕ) large_lines_step large_handler_step
