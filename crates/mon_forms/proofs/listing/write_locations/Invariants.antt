use Rattle.std.proofs.Common.{◌≡◌, ◌++◌, drop, string_bytes}
use Rattle.mon_forms.specs.Listing.{location_line}
use Rattle.mon_forms.specs.Texts.{each_from}
use Rattle.mon_forms.proofs.listing.write_locations.Given as goal

abbrev pub invariant-loop-at : goal.invariant-loop-at
invariant-loop-at l = string_bytes l.out ++ each_from (location_line l.program l.code) l.at (drop l.at l.code.locations) ≡ string_bytes l.initial.out ++ each_from (location_line l.program l.code) 0 l.code.locations
