use Rattle.std.proofs.Common.{ap, subst, sym, ◌∙◌, arith, List}
use Rattle.mon_history.specs.Kept.{config_of, IsKept}
use Rattle.mon_control.proofs.Changing.{changes_local, keeps_local}
use Rattle.mon_events.specs.declared.set.EventSet.{EventSet}
use Rattle.mon_control.proofs.changes.set_local.Goals as goal

pub set_row-requires-clause-code : goal.set_row-requires-clause-code
set_row-requires-clause-code c = let k = c.requires.kept.1 in let l = c.requires.kept.2 in omega (arith, k.wide)

pub returns-clause-change : goal.returns-clause-change
returns-clause-change c = ap (λ (z : List (List EventSet)). config_of (record c.args.config.now { local = z })) c.set_row.ensures ∙ changes_local c.requires.kept.0 c.args.config.now c.args.tool c.args.code c.args.set c.requires.low c.requires.kept.2 c.requires.kept.1

pub returns-clause-kept : goal.returns-clause-kept
returns-clause-kept c = λ small codes k. subst (λ (z : List (List EventSet)). IsKept codes (record c.args.config.now { local = z })) (sym c.set_row.ensures) (keeps_local codes c.args.config.now c.args.tool c.args.code c.args.set small k)
