use Rattle.std.proofs.Common.{List, ℕ, take, ap, ◌∙◌}
use Rattle.mon_code.specs.Programs.{Parts}
use Rattle.mon_values.specs.Printing.{repr_of}
use Rattle.mon_interp.proofs.Results.{if_ok-then}
use Rattle.mon_interp.proofs.shows.cut.Goals as goal

pub returns : goal.returns
returns c = if_ok-then c.of.result (λ cut is. is ∙ ap (λ (l : List (List ℕ)). take 40 (repr_of l c.args.value.now)) (c.as_slice.ensures ∙ ap (λ (p : Parts). p.names) c.program.view_is)) c.of.ensures
