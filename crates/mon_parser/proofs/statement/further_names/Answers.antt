use Rattle.std.proofs.Common.{sym, ap, ◌∙◌, arith}
use Rattle.mon_parser.proofs.Giving.{refuses, runs_out}
use Rattle.mon_parser.specs.StatementReadings.{names_from}
use Rattle.mon_parser.proofs.StatementSteps.{names_start, names_alone, names_comma, names_missing, names_more, names_end}
use Rattle.mon_parser.proofs.statement.further_names.Goals as goal

pub loop-turn-init : goal.loop-turn-init
loop-turn-init c = names_start _ _ _

pub returns-then-not-take : goal.returns-then-not-take
returns-then-not-take c = ap (λ n. names_from c.args.names n c.args.cursor.now) (sym c.len-turns.ensures) ∙ c.loop-turn.invariant ∙ names_alone _ _ _ _ _ c.loop-turn-test.true c.if-not-take.ensures.other

pub returns-then-not-starts_name : goal.returns-then-not-starts_name
returns-then-not-starts_name c = ap (λ n. names_from c.args.names n c.args.cursor.now) (sym c.len-turns.ensures) ∙ c.loop-turn.invariant ∙ names_comma _ _ _ _ _ _ c.loop-turn-test.true c.if-not-take.ensures.taken (cc)

pub returns-in_err-name : goal.returns-in_err-name
returns-in_err-name c = refuses _ _ c.in_err-name.field-0.0 _ c.from_residual.ensures.1 (λ e. ap (λ n. names_from c.args.names n c.args.cursor.now) (sym c.len-turns.ensures) ∙ c.loop-turn.invariant ∙ names_missing _ _ _ _ _ _ c.loop-turn-test.true c.if-not-take.ensures.taken (cc) (c.in_err-name.ensures e))

pub returns-in_err-push : goal.returns-in_err-push
returns-in_err-push c = runs_out _ _ _ c.from_residual-in_err-push.ensures.1

pub loop-turn-preserved : goal.loop-turn-preserved
loop-turn-preserved c = c.loop-turn.invariant ∙ names_more _ _ _ _ _ _ _ _ _ c.loop-turn-test.true c.if-not-take.ensures.taken (cc) c.in_ok-name.ensures c.in_ok-push.ensures.ok

pub returns : goal.returns
returns c = ap (λ n. names_from c.args.names n c.args.cursor.now) (sym c.len-turns.ensures) ∙ c.loop-turn.invariant ∙ names_end _ _ _ _ (omega (arith, c.loop-turn-test.false))
