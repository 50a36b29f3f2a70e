use Rattle.std.proofs.Common.{ap, ◌∙◌}
use Rattle.std.specs.Prelude.{Option}
use Rattle.mon_machine.specs.declared.mode.Ending.{Ending}
use Rattle.mon_interp.specs.Moving.{frame_move, frames_move}
use Rattle.mon_interp.proofs.Results.{if_ok-then}
use Rattle.mon_interp.proofs.Performing.{of_frames}
use Rattle.mon_interp.proofs.perform.perform.Goals as goal

pub returns-in-None : goal.returns-in-None
returns-in-None c = if_ok-then c.move_frames.result (λ done moves f top. of_frames c.args.program.now c.args.code.now c.args.op c.args.argument c.args.frames.now c.top_mut.result.now c.operate.new.frame f (frames_move c.move_frames.new.frames done)
    c.top_mut.ensures.value (c.in_ok-ending.ensures.moves ∙ ap (λ (o : Option Ending). frame_move c.operate.new.frame o) c.in-None.is) (c.in_ok-ending.ensures.rest c.in-None.is) moves top) c.move_frames.ensures
