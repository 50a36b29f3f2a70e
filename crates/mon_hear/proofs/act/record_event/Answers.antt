use Rattle.std.proofs.Common.{◌++◌, ap, ◌∙◌}
use Rattle.mon_words.specs.Words.{is_bit}
use Rattle.mon_recorders.specs.Happenings.{record_of}
use Rattle.mon_recorders.proofs.Folds.{for_tools_same}
use Rattle.mon_hear.specs.Words.{filter}
use Rattle.mon_hear.proofs.Steps.{on_ok-then}
use Rattle.mon_hear.proofs.act.record_event.Goals as goal

pub returns : goal.returns
returns c = on_ok-then c.push_for_tools.result
    (λ e. e ∙ ap (λ z. c.args.records.now ++ z) (for_tools_same (is_bit c.hearers.result) (λ t. (filter c.args.words.now).hears t c.args.event.now) (record_of c.args.step c.args.event.now) 6 c.hearers.ensures))
    c.push_for_tools.ensures.ok
