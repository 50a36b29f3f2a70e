use Rattle.std.proofs.Common.{ap, ◌∙◌}
use Rattle.mon_code.specs.Programs.{Parts}
use Rattle.mon_interp.specs.Moving.{frames_move}
use Rattle.mon_interp.proofs.Results.{if_ok-then}
use Rattle.mon_interp.proofs.Builtins.{named_call, called_stands}
use Rattle.mon_interp.proofs.call.call_named.Goals as goal

pub give-requires : goal.give-requires
give-requires c = called_stands c.args.number c.args.args.now c.as_slice.result.now c.args.frames.now c.call_builtin.new.frames c.in-Ok.ensures.1 c.requires.stands

pub returns-in-Ok : goal.returns-in-Ok
returns-in-Ok c = if_ok-then c.give.result (λ done gives f top. named_call c.args.program.now c.args.frames.now c.call_builtin.new.frames c.args.number c.args.args.now c.as_slice.result.now c.in-Ok.given (frames_move c.give.new.frames done) f c.requires.named (c.as_slice.ensures ∙ ap (λ (p : Parts). p.names) c.program.view_is) c.in-Ok.ensures.0 c.in-Ok.ensures.1 gives top) c.give.ensures
