-- The readers of statements by what the code's functions read, closed in the same way.
use Rattle.std.specs.Prelude.{ℕ, List, [], ◌∷◌, ◌++◌, Some, None, Bool}
use Rattle.mon_trees.specs.declared.tree.Simple.{Simple}
use Rattle.mon_trees.specs.declared.tree.Simple.TheVariants as simple
use Rattle.mon_trees.specs.declared.tree.Statement.{Statement}
use Rattle.mon_trees.specs.declared.tree.Handler.{Handler}
use Rattle.mon_parser.specs.Grammar.{handler}
use Rattle.mon_parser.specs.Code.{with_front}
use Rattle.mon_parser.specs.Reader.{Reader, then_read, next_at, name_at, more_items, read_expr, read_tuple}
use Rattle.mon_parser.specs.Statements.{maybe, starts_name, read_simple, read_right, read_augmented, read_assignment, read_line, read_statement, read_statements, read_handlers, read_last, read_if, read_while, read_for, read_try, read_as, block_at, body_at, else_at}

unfoldable pub at_simple : ℕ → ℕ → Reader Simple
at_simple b n = read_simple (read_expr b n)

unfoldable pub at_returned : ℕ → ℕ → Reader Simple
at_returned b n ts = then_read (maybe (read_tuple (read_expr b n)) ts) (λ value rest. Some (simple.Return value, rest))

unfoldable pub at_raised : ℕ → ℕ → Reader Simple
at_raised b n ts = then_read (maybe (read_expr b n) ts) (λ value rest. Some (simple.Raise value, rest))

unfoldable pub at_assignment_or_value : ℕ → ℕ → Reader Simple
at_assignment_or_value b n = read_right (read_expr b n)

unfoldable pub at_augmented : ℕ → ℕ → Reader Simple
at_augmented b n = read_augmented (read_expr b n)

unfoldable pub at_assignment : ℕ → ℕ → Reader Simple
at_assignment b n = read_assignment (read_expr b n)

unfoldable pub at_line : ℕ → ℕ → Reader Statement
at_line b n = read_line (read_expr b) n

unfoldable pub at_statement : ℕ → ℕ → Reader Statement
at_statement b n = read_statement (read_expr b) n None

-- behind an `if` or `elif`, a `while`, a `for` and a `try` of this line, with so many nodes left below it
unfoldable pub at_branch : ℕ → ℕ → ℕ → Reader Statement
at_branch b n line = read_if (read_expr b n) (block_at (read_expr b) n) (λ l. read_statement (read_expr b) n (Some l)) line

unfoldable pub at_while : ℕ → ℕ → ℕ → Reader Statement
at_while b n line = read_while (read_expr b n) (block_at (read_expr b) n) line

unfoldable pub at_for : ℕ → ℕ → ℕ → Reader Statement
at_for b n line = read_for (read_expr b n) (block_at (read_expr b) n) line

unfoldable pub at_try : ℕ → ℕ → ℕ → Reader Statement
at_try b n line = read_try (read_expr b n) (block_at (read_expr b) n) line

-- the rest of an `if`, and what stands behind an `elif` as a block
unfoldable pub at_other : ℕ → ℕ → Reader (List Statement)
at_other b n = else_at (read_expr b) n

unfoldable pub at_elif : ℕ → ℕ → ℕ → Reader (List Statement)
at_elif b n line ts = then_read (read_statement (read_expr b) n (Some line) ts) (λ s rest. Some (s ∷ [], rest))

-- what was read, and one handler more
unfoldable pub at_handler : ℕ → ℕ → ℕ → List Handler → Reader (List Handler)
at_handler b n line front ts = then_read (read_expr b n ts) (λ class rest. then_read (read_as rest) (λ name left. then_read (body_at (read_expr b) n left) (λ body end. Some (front ++ handler line (Some class) name body ∷ [], end))))

unfoldable pub at_bare_handler : ℕ → ℕ → ℕ → List Handler → Reader (List Handler)
at_bare_handler b n line front ts = then_read (block_at (read_expr b) n ts) (λ body rest. Some (front ++ handler line None None body ∷ [], rest))

-- what was read, and further handlers or statements
unfoldable pub handlers_from : ℕ → ℕ → List Handler → ℕ → Reader (List Handler)
handlers_from b n front turns ts = with_front front (read_handlers (read_expr b n) (block_at (read_expr b) n) turns ts)

unfoldable pub statements_from : ℕ → ℕ → List Statement → ℕ → Reader (List Statement)
statements_from b n front turns ts = with_front front (read_statements (read_statement (read_expr b) n None) turns ts)

unfoldable pub at_last : ℕ → ℕ → Bool → Reader (List Statement)
at_last b n needed = read_last (block_at (read_expr b) n) needed

unfoldable pub at_body : ℕ → ℕ → Reader (List Statement)
at_body b n = body_at (read_expr b) n

unfoldable pub at_block : ℕ → ℕ → Reader (List Statement)
at_block b n = block_at (read_expr b) n

-- a block of one simple statement
unfoldable pub block_line : ℕ → ℕ → Reader (List Statement)
block_line b n ts = then_read (read_line (read_expr b) n ts) (λ s rest. Some (s ∷ [], rest))

-- what was read, and further names
unfoldable pub names_from : List (List ℕ) → ℕ → Reader (List (List ℕ))
names_from front turns ts = with_front front (more_items starts_name (next_at name_at) turns ts)
