use Rattle.std.proofs.Common.{◌<◌, List, length, get_or, ap, subst, rules}
use Rattle.std.proofs.lemmas.Result.{err_from_is_err_and}
use Rattle.mon_forms.specs.Lines.{words_of}
use Rattle.mon_forms.specs.declared.calls.Operand.{Operand}
use Rattle.mon_forms.proofs.Calling.{no_word, faulty_word, word_more}
use Rattle.mon_forms.proofs.draft.call_of.Goals as goal

pub returns-in_default : goal.returns-in_default
returns-in_default c =
    no_word c.args.program.now c.args.kind c.loop-operand.parts c.loop-operand.operand-index (words_of c.loop-operand.rest.now) (words_of c.args.line.now) (search rules) c.in_default.ensures.words c.loop-operand.invariant.0

pub returns-in_err-take : goal.returns-in_err-take
returns-in_err-take c =
    let i = c.loop-operand.operand-index in
    let items = c.operands-operand-items.result.now in
    let p = err_from_is_err_and c.from_residual.result c.from_residual.ensures.1 in
    rw (p.1, p.2)
    (faulty_word c.args.program.now c.args.kind c.loop-operand.parts c.take.new.self c.in_err-take.field-0.0 i (get_or items i Operand.Id) c.in-Some.word.now (words_of c.loop-operand.rest.now) (words_of c.in-Some.more.now) (words_of c.args.line.now)
    (subst (λ (os : List Operand). i < length os) c.operands-operand-items.ensures c.loop-operand-test.true)
    (ap (λ (os : List Operand). get_or os i Operand.Id) c.operands-operand-items.ensures)
    c.in-Some.ensures.words.0 c.loop-operand.invariant.0 c.in_err-take.ensures)

pub loop-operand-preserved : goal.loop-operand-preserved
loop-operand-preserved c =
    let i = c.loop-operand.operand-index in
    let items = c.operands-operand-items.result.now in (
      word_more c.args.program.now c.args.kind c.in_ok-take.field-0 c.loop-operand.parts c.take.new.self i (get_or items i Operand.Id) c.in-Some.word.now (words_of c.loop-operand.rest.now) (words_of c.in-Some.more.now) (words_of c.args.line.now)
          (subst (λ (os : List Operand). i < length os) c.operands-operand-items.ensures c.loop-operand-test.true)
          (ap (λ (os : List Operand). get_or os i Operand.Id) c.operands-operand-items.ensures)
          c.in-Some.ensures.words.0 c.loop-operand.invariant.0 c.in_ok-take.ensures,
      (c.in-Some.ensures.plain c.loop-operand.invariant.1).1,
    )
