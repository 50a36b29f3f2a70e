use Rattle.std.proofs.Common.{rules, arith, refl, subst, ◌≡◌, ◌-◌, ℕ}
use Rattle.mon_words.specs.Words.{Shows}
use Rattle.mon_words.specs.History.{cell_at}
use Rattle.mon_board.specs.Plain.{standing}
use Rattle.mon_board.proofs.Steps.{retires}
use Rattle.mon_board.proofs.plain.PlainBoard.retire.Goals as goal

pub compare_exchange-found-requires : goal.compare_exchange-found-requires
compare_exchange-found-requires c = (search rules, search rules, retires _ _ _ c.args.location _ _ _ _ (omega arith) (omega arith) c.requires.running.0 c.normal-new.ensures)

pub returns-clause-answer : goal.returns-clause-answer
returns-clause-answer c =
    let v = c.args.self.now.chair.me.0 in let n : ℕ = c.compare_exchange-found.result in
    let l : c.place-place.result - v.threads - 7 ≡ c.args.location = omega arith in
    (n, refl, subst (λ (z : ℕ). Shows (cell_at (standing v) z) n) l (c.compare_exchange-found.ensures.2 c.normal-new.ensures).0)
