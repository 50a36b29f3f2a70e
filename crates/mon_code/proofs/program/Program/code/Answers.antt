use Rattle.std.proofs.Common.{◌≡◌, ◌+◌, ◌≤◌, length, subst}
use Rattle.std.specs.Prelude.{Some, slice_get}
use Rattle.mon_code.specs.declared.program.Code.{Code}
use Rattle.mon_code.specs.Programs.{Parts}
use Rattle.mon_code.proofs.Codes.{code_within}
use Rattle.mon_code.proofs.program.Program.code.Goals as goal

pub returns-clause-inside : goal.returns-clause-inside
returns-clause-inside c =
    subst (λ (p : Parts). (d : Code) → slice_get p.codes c.args.number ≡ Some d → d.first + length d.locations ≤ length p.bases) c.self.view_is (λ d e. code_within c.self.inside.bases 0 c.self.inside.codes c.args.number d c.self.invariant.codes e)
