use Rattle.std.proofs.Common.{◌+◌, slice_get, refl, sym, arith}
use Rattle.mon_run.proofs.Adding.{grown_one, left_here, made_longer}
use Rattle.mon_run.proofs.Moving.{names_code, call_fits}
use Rattle.mon_run.proofs.Turning.{on_ok}
use Rattle.mon_run.proofs.script_calls.make_one.Goals as goal

pub make_call-answer-requires-clause-few : goal.make_call-answer-requires-clause-few
make_call-answer-requires-clause-few g c =
    let left = left_here c.args.script.now c.args.round (c.args.round + 1) c.in-Some.call.now refl (sym c.in-Some.ensures.value) in
    omega (arith, left, c.requires.few)

pub make_call-answer-requires-clause-code : goal.make_call-answer-requires-clause-code
make_call-answer-requires-clause-code g c =
    names_code c.args.lent.now.program.now c.args.control.now.codes c.in-Some.call.now c.requires.governs.codes (call_fits c.args.lent.now.program.now c.args.script.now c.args.round c.in-Some.call.now c.requires.fits (sym c.in-Some.ensures.value))

pub returns-clause-made : goal.returns-clause-made
returns-clause-made g c = on_ok _ _ _ (λ m. grown_one _ _ c.args.number _ (slice_get c.args.script.now c.args.round) c.in-Some.call.now (sym c.in-Some.ensures.value) m) c.make_call-answer.ensures.made

pub returns-clause-few : goal.returns-clause-few
returns-clause-few g c =
    let left = left_here c.args.script.now c.args.round (c.args.round + 1) c.in-Some.call.now refl (sym c.in-Some.ensures.value) in
    on_ok _ _ _ (λ m. let more = made_longer _ _ _ _ _ m in omega (arith, left, more)) c.make_call-answer.ensures.made
