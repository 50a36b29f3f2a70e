use Rattle.std.proofs.lemmas.Result.{err_from_is_err_and}
use Rattle.mon_forms.proofs.Calling.{call_refused, left_by_memory, call_taken, before_added, script_added}
use Rattle.mon_forms.specs.Calls.{call_of}
use Rattle.mon_forms.specs.Lines.{words_of}
use Rattle.mon_forms.specs.Plans.{with_call}
use Rattle.mon_forms.proofs.draft.Draft.take_call.Goals as goal
use Rattle.mon_forms.proofs.draft.Draft.take_call.Goals.{in-Before+in_ok-push-in-Before, in_default+in_ok-push_to_script-in_default}

pub returns-in_err-call : goal.returns-in_err-call
returns-in_err-call c =
    let p = err_from_is_err_and c.from_residual.result c.from_residual.ensures.1 in
    rw (p.1, p.2)
    (call_refused c.args.self.now c.args.self.now c.in_err-call.field-0.0 (call_of c.args.program.now c.args.kind (words_of c.args.operands.now)) c.in_err-call.ensures)

pub returns-in_err-push-in-Before : goal.returns-in_err-push-in-Before
returns-in_err-push-in-Before c =
    let p = err_from_is_err_and c.from_residual-in_err-push-in-Before.result c.from_residual-in_err-push-in-Before.ensures.1 in
    rw (p.1, p.2) (left_by_memory (record c.args.self.now { before = c.push.new.self }) (with_call c.args.self.now (call_of c.args.program.now c.args.kind (words_of c.args.operands.now))))

pub returns-in_err-push_to_script-in_default : goal.returns-in_err-push_to_script-in_default
returns-in_err-push_to_script-in_default c =
    let p = err_from_is_err_and c.from_residual-in_err-push_to_script-in_default.result c.from_residual-in_err-push_to_script-in_default.ensures.1 in
    rw (p.1, p.2) (left_by_memory c.push_to_script.new.self (with_call c.args.self.now (call_of c.args.program.now c.args.kind (words_of c.args.operands.now))))

pub returns : goal.returns
returns c =
    call_taken c.args.self.now _ c.in_ok-call.call (call_of c.args.program.now c.args.kind (words_of c.args.operands.now)) c.in_ok-call.ensures
    (elim c.match-self.branch [
      | in-Before+in_ok-push-in-Before w ↦
          before_added c.args.self.now c.match-self.self c.in_ok-call.call w.push.new.self w.self-is w.in_ok-push-in-Before.ensures.ok w.in-Before.is
      | in_default+in_ok-push_to_script-in_default w ↦
          script_added c.args.self.now c.match-self.self w.push_to_script.new.self c.in_ok-call.call w.self-is w.in_ok-push_to_script-in_default.ensures w.in_default.not-Before
    ])
