use Rattle.std.proofs.Common.{◌∙◌, ap}
use Rattle.mon_code.specs.Programs.{Parts}
use Rattle.mon_forms.specs.Listing.{code_lines}
use Rattle.mon_forms.proofs.Written.{one_more_in}
use Rattle.mon_forms.proofs.listing.write_codes.Goals as goal

pub loop-number-preserved : goal.loop-number-preserved
loop-number-preserved c = one_more_in (code_lines c.args.program.now) c.args.program.now.codes c.as_slice-code-items.result.now (c.as_slice-code-items.ensures ∙ ap (λ (p : Parts). p.codes) c.program.view_is) _ _ _ _ c.loop-number-test.true c.code-item.is c.in_ok-write_code.ensures ∙ c.loop-number.invariant
