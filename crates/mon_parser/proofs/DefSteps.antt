-- Single steps of the reader of a `def`, as the code takes them.
use Rattle.std.proofs.Common.{◌≡◌, ℕ, ◌<◌, ◌≤◌, List, map, refl, sym, ap, ◌∙◌, arith}
use Rattle.std.specs.Prelude.{Some, None}
use Rattle.mon_lexer.specs.declared.token.Token.{Token}
use Rattle.mon_parser.specs.declared.cursor.Sign.TheVariants as sign
use Rattle.mon_trees.specs.declared.tree.Statement.{Statement}
use Rattle.mon_trees.specs.declared.tree.ModuleItem.{ModuleItem}
use Rattle.mon_trees.specs.declared.tree.ModuleItem.TheVariants as item
use Rattle.mon_parser.specs.Depth.{item_depth, stmt_depth, most}
use Rattle.mon_parser.specs.Reader.{Reader, then_read, next_at, mark_at, name_at, within}
use Rattle.mon_parser.specs.Statements.{read_parameters}
use Rattle.mon_parser.specs.StatementReadings.{at_body}
use Rattle.mon_parser.specs.ItemReadings.{at_def}
use Rattle.mon_parser.proofs.Steps.{within_fits, within_none}

abbrev pub function : ℕ → List ℕ → List (List ℕ) → List Statement → ModuleItem
function line name parameters body = item.Function (record { line = line; name = name; parameters = parameters; body = body })

abbrev pub from_body : ℕ → ℕ → List ℕ → List (List ℕ) → Reader ModuleItem
from_body b l n names ts = then_read (at_body b 255 ts) (λ body end. within item_depth (function l n names body) end)

pub def_step : (b l : ℕ) (ts : List Token) → at_def b l ts ≡ then_read (next_at name_at ts) (λ n rest. then_read (next_at (mark_at sign.OpenRound) rest) (λ is left. then_read (read_parameters left) (λ names end. then_read (next_at (mark_at sign.CloseRound) end) (λ is last. from_body b l n names last))))
unfolding at_def at_body
def_step b l ts = refl

pub function_fits : (l : ℕ) (n : List ℕ) (names : List (List ℕ)) (body same : List Statement) (rest : List Token) → most (map stmt_depth body) < 256 → same ≡ body → within item_depth (function l n names body) rest ≡ Some (function l n names same, rest)
function_fits l n names body same rest h e = within_fits item_depth (function l n names body) rest (omega arith) ∙ ap (λ z. Some (function l n names z, rest)) (sym e)

pub function_deep : (l : ℕ) (n : List ℕ) (names : List (List ℕ)) (body : List Statement) (rest : List Token) → 256 ≤ most (map stmt_depth body) → within item_depth (function l n names body) rest ≡ None
function_deep l n names body rest h = within_none item_depth (function l n names body) rest (omega arith)
