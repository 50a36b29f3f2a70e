use Rattle.mon_interp.specs.Moving.{frames_move}
use Rattle.mon_interp.proofs.Results.{if_ok-then}
use Rattle.mon_interp.proofs.Instructing.{noted_stands, noted_effect}
use Rattle.mon_interp.proofs.step.act.Goals as goal

pub perform-requires : goal.perform-requires
perform-requires c = noted_stands c.args.frames.now c.instruct_in_place.new.frames c.args.location.line (c.instruct_in_place.ensures.no c.if-instruct_in_place.false) c.requires

pub returns : goal.returns
returns c = if_ok-then c.perform.result (λ done made f top. noted_effect c.args.program.now c.args.code.now c.args.op c.args.location f c.args.frames.now c.instruct_in_place.new.frames (frames_move c.perform.new.frames done) top (c.instruct_in_place.ensures.no c.if-instruct_in_place.false f top) made) c.perform.ensures
