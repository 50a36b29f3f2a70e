use Rattle.std.proofs.Common.{◌∙◌}
use Rattle.std.proofs.lemmas.Option.{slice_get_within}
use Rattle.mon_forms.specs.Reports.{record_line}
use Rattle.mon_forms.proofs.Written.{one_more_of, is_item}
use Rattle.mon_forms.proofs.threads.write_records.Goals as goal

pub loop-index-preserved : goal.loop-index-preserved
loop-index-preserved c = λ p names. one_more_of (record_line p) c.args.records.now _ _ _ _ (slice_get_within c.args.records.now _ _ c.delivery.ensures) (is_item c.args.records.now _ _ c.delivery.ensures) (c.in_ok-write_record.ensures p names) ∙ c.loop-index.invariant p names
