use Rattle.std.proofs.Common.{◌≡◌, length}
use Rattle.mon_compile.proofs.Flags.{SoFar}
use Rattle.mon_compile.proofs.marking.targets.Given as goal

abbrev pub invariant-loop-at : goal.invariant-loop-at
invariant-loop-at l = record {
  same : length l.flags ≡ length l.locations;
  so_far : SoFar l.code l.locations l.at l.flags;
}
