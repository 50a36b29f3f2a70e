use Rattle.std.proofs.Common.{rules, arith, ap, sym, subst, refl, ◌≡◌, ◌-◌, ℕ, List}
use Rattle.mon_words.specs.Words.{before_locations, Shows}
use Rattle.mon_gate.specs.Places.{word_number}
use Rattle.mon_words.specs.History.{cell_at, after}
use Rattle.mon_words.specs.declared.history.Mark.{Mark}
use Rattle.mon_gate.proofs.Words.{retires}
use Rattle.mon_gate.proofs.gate.Seat.retire.Goals as goal

pub compare_exchange-found-requires : goal.compare_exchange-found-requires
compare_exchange-found-requires c = (search rules, search rules, retires _ _ _ c.args.location _ _ _ _ c.requires.attached (omega arith) c.requires.within c.normal-new.ensures)

pub returns-clause-answer : goal.returns-clause-answer
returns-clause-answer c =
    let v = c.args.self.now.chair.me.0 in let t = c.compare_exchange-found.ensures.2 c.normal-new.ensures in let n : ℕ = c.compare_exchange-found.result in
    let l : word_number v.threads c.location_place-place.result - before_locations ≡ c.args.location = omega arith in
    let here : Shows (cell_at (after v.first t.0) c.args.location) n = subst (λ (z : ℕ). Shows (cell_at (after v.first t.0) z) n) l t.2 in
    (n, refl, subst (λ (z : List Mark). Shows (cell_at (after v.first z) c.args.location) n) (sym (ap (λ m. m.0.seen) t.3)) here)
