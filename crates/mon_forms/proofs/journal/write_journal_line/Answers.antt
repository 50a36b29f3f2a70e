use Rattle.mon_code.specs.Programs.{Parts}
use Rattle.mon_forms.specs.Reports.{answer_text, made_text}
use Rattle.mon_forms.proofs.Written.{written_behind}
use Rattle.mon_forms.proofs.journal.write_journal_line.Goals as goal

pub returns : goal.returns
returns c =
    let line = c.args.line.now in
    written_behind _ c.args.names.now _ _ _ (λ (p : Parts). made_text p line) (answer_text line.reply line.stops) c.in_ok-write_made.ensures c.write_answer.ensures
