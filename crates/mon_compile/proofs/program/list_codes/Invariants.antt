use Rattle.std.proofs.Common.{◌≡◌, ◌≤◌, ◌++◌, length, drop}
use Rattle.mon_compile.specs.Answered.{own_codes}
use Rattle.mon_compile.specs.Faults.{most_locations}
use Rattle.mon_compile.specs.Modules as spec
use Rattle.mon_compile.proofs.program.list_codes.Given as goal

abbrev pub invariant-loop-item : goal.invariant-loop-item
invariant-loop-item l = record {
  codes : l.listing.codes ++ own_codes (length l.listing.bases.items) (spec.functions_of (drop l.item-index l.items)) ≡ own_codes 0 (spec.functions_of l.items);
  bases : l.listing.bases.items ++ spec.bases_of (spec.functions_of (drop l.item-index l.items)) ≡ spec.bases_of (spec.functions_of l.items);
  few : length l.listing.bases.items ≤ most_locations;
}
