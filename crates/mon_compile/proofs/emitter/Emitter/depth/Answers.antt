use Rattle.std.proofs.Common.{◌∙◌, sym}
use Rattle.mon_compile.proofs.Loops.{entries}
use Rattle.mon_compile.proofs.emitter.Emitter.depth.Goals as goal

pub returns : goal.returns
returns c = c.depth.ensures ∙ sym (entries c.args.self.now.locals c.args.context.now)
