use Rattle.std.proofs.Common.{refl, arith}
use Rattle.mon_parser.proofs.Trees.{too_open}
use Rattle.mon_parser.proofs.Parsing.{tree_refused, tree_whole, tree_left}
use Rattle.mon_parser.proofs.parser.tree_of.Goals as goal

pub returns-then-most_open-gt-BRACKETS : goal.returns-then-most_open-gt-BRACKETS
returns-then-most_open-gt-BRACKETS c = too_open c.args.tokens.now (omega (arith, c.most_open.ensures, c.if-most_open-gt-BRACKETS.true))

pub returns-in_err-tree : goal.returns-in_err-tree
returns-in_err-tree c = tree_refused c.args.tokens.now _ _ _ c.in_err-tree.field-0.0 refl c.new-cursor.ensures c.from_residual.ensures.1 c.in_err-tree.ensures

pub returns-then-is_empty : goal.returns-then-is_empty
returns-then-is_empty c = tree_whole c.args.tokens.now _ _ _ _ refl c.new-cursor.ensures (omega (arith, c.most_open.ensures, c.if-most_open-gt-BRACKETS.false)) c.in_ok-tree.ensures c.if-is_empty.ensures.yes

pub returns-else-is_empty : goal.returns-else-is_empty
returns-else-is_empty c = tree_left c.args.tokens.now _ _ _ _ refl c.new-cursor.ensures c.in_ok-tree.ensures c.if-is_empty.ensures.no
