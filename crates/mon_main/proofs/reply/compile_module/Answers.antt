use Rattle.std.proofs.Common.{rules, ap, sym, ◌∙◌}
use Rattle.mon_code.specs.Programs.{Parts}
use Rattle.mon_main.proofs.Compiled.{program_is, uncompiled_is}
use Rattle.mon_main.proofs.reply.compile_module.Goals as goal

pub returns-in-Ok-clause-due : goal.returns-in-Ok-clause-due
returns-in-Ok-clause-due c = program_is c.args.tree.now c.in-Ok.program c.in-Ok.ensures.0 c.in-Ok.ensures.1.0

pub returns-in-Ok-clause-bases : goal.returns-in-Ok-clause-bases
returns-in-Ok-clause-bases c = c.in-Ok.ensures.1.1 ∙ sym (ap (λ (p : Parts). p.bases) c.in-Ok.ensures.1.0)

pub returns-in_ok-uncompiled_line-in-Err : goal.returns-in_ok-uncompiled_line-in-Err
returns-in_ok-uncompiled_line-in-Err c = record {
  due = uncompiled_is c.args.tree.now c.in-Err.fault _ (search rules) c.in-Err.ensures c.in_ok-uncompiled_line-in-Err.ensures;
  bases = tt;
  fault = tt;
}
