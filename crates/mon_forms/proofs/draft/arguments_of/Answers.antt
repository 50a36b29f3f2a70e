use Rattle.mon_forms.proofs.Arguments.{arguments_more}
use Rattle.mon_forms.specs.Lines.{words_of}
use Rattle.mon_forms.proofs.draft.arguments_of.Goals as goal

pub loop-word-preserved : goal.loop-word-preserved
loop-word-preserved c =
    arguments_more c.loop-word.args c.push.new.self c.in_ok-argument_of.field-0 c.in-Some.word.now (words_of c.loop-word.rest.now) (words_of c.in-Some.more.now) (words_of c.args.line.now) c.in-Some.ensures.words.0 c.in_ok-argument_of.ensures c.in_ok-push.ensures.ok c.loop-word.invariant
