use Rattle.std.proofs.Common.{◌≡◌, ◌==◌, length, Some}
use denote.Text.{Utf8}
use denote.Shadow.{shadow}
use Rattle.std.specs.List.{slice_split}
use Rattle.mon_events.specs.Names.{with_names, set_of_joined}
use Rattle.mon_events.proofs.names.set_of_joined.Given as goal

abbrev pub invariant-loop-name : goal.invariant-loop-name
invariant-loop-name l =
    shadow (Utf8 l.rest) × (with_names (Some l.set.0) (slice_split (λ b. b == 124) l.rest) ≡ set_of_joined l.words)

abbrev pub decreases-loop-name : goal.decreases-loop-name
decreases-loop-name l = length l.rest
