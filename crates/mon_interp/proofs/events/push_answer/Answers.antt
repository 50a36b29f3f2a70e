use Rattle.mon_interp.proofs.Asking.{adds_more}
use Rattle.mon_interp.proofs.Results.{on_ok-then}
use Rattle.mon_interp.proofs.events.push_answer.Goals as goal

pub returns-in-Ok : goal.returns-in-Ok
returns-in-Ok c = rw c.in-Ok.is (on_ok-then c.push_end.result (λ h. h c.args.global) c.push_end.ensures)

pub returns-in_ok-push_end-in-Err : goal.returns-in_ok-push_end-in-Err
returns-in_ok-push_end-in-Err c =
    rw c.in-Err.is (on_ok-then c.push_exception.result (λ h. adds_more c.args.word c.args.global c.args.events.now.items c.push_end-in-Err.new.events.items c.push_exception.new.events.items _ _ (c.in_ok-push_end-in-Err.ensures c.args.global) (h c.args.word)) c.push_exception.ensures)
