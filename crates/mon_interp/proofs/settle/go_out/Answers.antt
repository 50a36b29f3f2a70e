use Rattle.std.proofs.Common.{rules}
use Rattle.mon_interp.proofs.Results.{on_ok-then}
use Rattle.mon_interp.proofs.Settling.{out_more, outer_for, outer_plain}
use Rattle.mon_interp.proofs.settle.go_out.Goals as goal

pub returns-in-For-clause-events : goal.returns-in-For-clause-events
returns-in-For-clause-events c =
    on_ok-then c.raise_in_top.result
    (λ raised word before f left. out_more c.args.program.now c.args.frames.now c.args.frames.now.calls c.args.origin c.args.exc c.in_ok-exc.exc f word c.args.global before c.args.events.now.items c.raise_in_top.new.events.items
    (outer_for c.args.origin _ _ c.in-Generator.is c.in-For.is) (search rules) (search rules) left raised) c.raise_in_top.ensures.events

pub returns-in-Plain-clause-events : goal.returns-in-Plain-clause-events
returns-in-Plain-clause-events c =
    on_ok-then c.raise_in_top-in-Plain.result
    (λ raised word before f left. out_more c.args.program.now c.args.frames.now c.args.frames.now.calls c.args.origin c.args.exc c.in_ok-exc.exc f word c.args.global before c.args.events.now.items c.raise_in_top-in-Plain.new.events.items
    (outer_plain c.args.origin c.in-Plain.is) (search rules) (search rules) left raised) c.raise_in_top-in-Plain.ensures.events
