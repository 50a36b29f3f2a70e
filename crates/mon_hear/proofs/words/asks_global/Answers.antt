use Rattle.std.proofs.Common.{◌∙◌, ℕ, ap, sym}
use Rattle.std.specs.Prelude.{Option}
use Rattle.mon_words.specs.Words.{is_wanted}
use Rattle.mon_hear.proofs.Parting.{global_unasked}
use Rattle.mon_hear.proofs.words.asks_global.Goals as goal

pub returns-in-Some-clause-nothing : goal.returns-in-Some-clause-nothing
returns-in-Some-clause-nothing c = λ e t h. ap (λ (r : Option ℕ). is_wanted c.args.global r t) (sym c.in-Some.ensures.value) ∙ global_unasked c.args.global c.in-Some.rank e t h
