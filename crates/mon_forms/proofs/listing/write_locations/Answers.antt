use Rattle.std.proofs.Common.{◌∙◌}
use Rattle.mon_forms.specs.Listing.{location_line}
use Rattle.mon_forms.proofs.Written.{one_more_in, same_default}
use Rattle.mon_forms.proofs.listing.write_locations.Goals as goal

pub loop-at-preserved : goal.loop-at-preserved
loop-at-preserved c = one_more_in (location_line c.args.program.now c.args.code.now) c.args.code.now.locations c.as_slice-location-items.result.now c.as_slice-location-items.ensures _ _ _ _ c.loop-at-test.true (same_default c.as_slice-location-items.result.now _ _ _ c.loop-at-test.true) c.in_ok-write_location.ensures ∙ c.loop-at.invariant
