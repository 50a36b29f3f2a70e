use Rattle.std.proofs.Common.{◌∙◌, ap, sym, List, ℕ}
use Rattle.std.proofs.Math.Dec.{eqb}
use Rattle.std.specs.Cmp.Lexicographic.{pointwise}
use Rattle.mon_code.proofs.Names.{by_each}
use Rattle.mon_code.proofs.program.is_same.Goals as goal

pub returns : goal.returns
returns c =
    c.eq.ensures
    ∙ ap (λ (l : List ℕ). pointwise eqb l c.chars-2.result.now) c.chars.ensures
    ∙ ap (λ (l : List ℕ). pointwise eqb c.args.a.now l) c.chars-2.ensures
    ∙ sym (by_each c.args.a.now c.args.b.now)
