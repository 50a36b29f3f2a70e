use Rattle.std.proofs.Common.{◌≡◌, ◌+◌, ◌*◌, ◌≤◌, length, map, drop}
use Rattle.mon_compile.specs.Emission.{emitted}
use Rattle.mon_compile.specs.Expressions as scheme
use Rattle.mon_compile.specs.Nodes.{nodes, all_nodes}
use Rattle.mon_compile.proofs.emitter.Emitter.+expression.Given as goal

abbrev pub invariant-expressions-loop-expression : goal.invariant-expressions-loop-expression
invariant-expressions-loop-expression l =
    record {
      made : emitted l.self (scheme.in_turn (map (scheme.expression_code l.self.locals) (drop l.expression-index l.expressions)) l.up) ≡ emitted l.fn.self (scheme.in_turn (map (scheme.expression_code l.fn.self.locals) l.expressions) l.fn.spot);
      deep : l.up.stack ≤ 2 * length l.self.code;
    }

abbrev pub decreases-expression : goal.decreases-expression
decreases-expression l = 4 * nodes l.expression.now

abbrev pub decreases-yield_value : goal.decreases-yield_value
decreases-yield_value l = 4 * nodes l.value.now + 1

abbrev pub decreases-unary : goal.decreases-unary
decreases-unary l = 4 * nodes l.a.now + 1

abbrev pub decreases-binary : goal.decreases-binary
decreases-binary l = 4 * (nodes l.a.now + nodes l.b.now) + 1

abbrev pub decreases-comparison : goal.decreases-comparison
decreases-comparison l = 4 * (nodes l.a.now + nodes l.b.now) + 2

abbrev pub decreases-identity : goal.decreases-identity
decreases-identity l = 4 * nodes l.a.now + 1

abbrev pub decreases-expressions : goal.decreases-expressions
decreases-expressions l = 4 * all_nodes l.expressions.now + 1

abbrev pub decreases-tuple : goal.decreases-tuple
decreases-tuple l = 4 * all_nodes l.parts.now + 2

abbrev pub decreases-arguments : goal.decreases-arguments
decreases-arguments l = 4 * all_nodes l.args.now + 2

abbrev pub decreases-call : goal.decreases-call
decreases-call l = 4 * (nodes l.f.now + all_nodes l.args.now) + 3

abbrev pub decreases-method_call : goal.decreases-method_call
decreases-method_call l = 4 * (nodes l.object.now + all_nodes l.args.now) + 3

abbrev pub decreases-short : goal.decreases-short
decreases-short l = 4 * (nodes l.a.now + nodes l.b.now) + 1

abbrev pub decreases-conditional : goal.decreases-conditional
decreases-conditional l = 4 * (nodes l.a.now + (nodes l.test.now + nodes l.b.now)) + 1
