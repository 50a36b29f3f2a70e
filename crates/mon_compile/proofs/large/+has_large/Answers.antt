use Rattle.std.proofs.Common.{arith}
use Rattle.mon_compile.proofs.Constants.{small_fixed, small_named}
use Rattle.mon_compile.proofs.Nodes.{nodes_within}
use Rattle.mon_compile.proofs.large.+has_large.Goals as goal

pub any_large-has_large-requires : goal.any_large-has_large-requires
any_large-has_large-requires t c = (omega (arith, nodes_within _ _ _ c.loop-expression-test.true c.expression-item.is, c.decreases), tt)

pub has_large-returns-in-Single : goal.has_large-returns-in-Single
has_large-returns-in-Single t c = small_fixed c.args.expression.now c.in-Single.is

pub has_large-returns-in-Single-2 : goal.has_large-returns-in-Single-2
has_large-returns-in-Single-2 t c = small_fixed c.args.expression.now c.in-Single.is

pub has_large-returns-in-Name : goal.has_large-returns-in-Name
has_large-returns-in-Name t c = small_named c.args.expression.now c.in-Name.is

pub has_large-returns-in-Name-2 : goal.has_large-returns-in-Name-2
has_large-returns-in-Name-2 t c = small_named c.args.expression.now c.in-Name.is
