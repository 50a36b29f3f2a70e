use Rattle.std.proofs.Common.{length, arith}
use Rattle.mon_parser.specs.Reader.{read_expr}
use Rattle.mon_parser.specs.Grammar.{IsExpr}
use Rattle.mon_parser.proofs.Left.{one_tree}
use Rattle.mon_parser.proofs.Knot.{expr_reads}
use Rattle.mon_parser.proofs.laws.expression_derives_once.Goals as goal

pub returns : goal.returns
returns c = λ tokens tree other x y h k. one_tree IsExpr 2 (length tokens) 256 (read_expr (length tokens) 256) (expr_reads (length tokens) 256 (omega arith)) tokens tree other x y (omega arith) h k
