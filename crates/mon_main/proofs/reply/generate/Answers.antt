use Rattle.std.proofs.Common.{◌≡◌, rules, refl}
use Rattle.mon_gen.specs.Summaries.{summary_text}
use Rattle.mon_main.proofs.Generating.{never_refused, plan_fits, sums_up}
use Rattle.mon_main.proofs.reply.generate.Goals as goal

pub unreachable-requires : goal.unreachable-requires
unreachable-requires c = never_refused c.args.loops c.in_ok-tree.tree _ c.in-Err.field-0 c.requires.few c.in_ok-tree.ensures c.in-Err.is c.in_ok-compile_module.ensures.due

pub serial-requires-clause-fits : goal.serial-requires-clause-fits
serial-requires-clause-fits c = plan_fits c.args.loops c.in_ok-tree.tree _ c.in-Ok.compiled _ c.requires.few c.in_ok-tree.ensures c.in-Ok.is c.in_ok-compile_module.ensures.due c.in_ok-plan-in-Ok.ensures

pub returns-clause-due : goal.returns-clause-due
returns-clause-due c =
    let shown : c.into_bytes.result.items ≡ summary_text c.in-Ok.compiled.program c.in_ok-report-in-Ok.report.threads = search rules in
    (refl, sums_up c.args.loops c.in_ok-tree.tree _ c.in-Ok.compiled _ c.in_ok-report-in-Ok.report _ c.requires.few c.in_ok-tree.ensures c.in-Ok.is c.in_ok-compile_module.ensures.due c.in_ok-plan-in-Ok.ensures c.in_ok-report-in-Ok.ensures.report c.in_ok-report-in-Ok.ensures.legal shown)
