-- The readers of constants and items by what the code's functions read. They are closed, so that a proof about a call does not look into it.
use Rattle.std.specs.Prelude.{ℕ, List}
use Rattle.mon_trees.specs.declared.tree.Constant.{Constant}
use Rattle.mon_trees.specs.declared.tree.ModuleItem.{ModuleItem}
use Rattle.mon_parser.specs.Reader.{Reader, more_items}
use Rattle.mon_parser.specs.Statements.{starts_constant, read_constants, read_constant, read_def, read_item}
use Rattle.mon_parser.specs.Code.{with_front}

unfoldable pub at_constants : ℕ → Reader Constant
at_constants b = read_constants (read_constant b)

-- what was read, and further constants
unfoldable pub further_from : ℕ → List Constant → ℕ → Reader (List Constant)
further_from b front turns ts = with_front front (more_items starts_constant (read_constant b) turns ts)

unfoldable pub at_def : ℕ → ℕ → Reader ModuleItem
at_def b line = read_def b line

unfoldable pub at_item : ℕ → Reader ModuleItem
at_item b = read_item b
