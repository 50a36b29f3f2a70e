use Rattle.std.proofs.Common.{rules, arith, ap, ◌≡◌, ◌<◌, ◌∙◌, ◌-◌, ◌∷◌, ℕ}
use Rattle.mon_board.specs.declared.plain_view.PlainView.{PlainView}
use Rattle.mon_board.proofs.Keeping.{Knows}
use Rattle.mon_board.proofs.Keeping as keeping
use Rattle.mon_board.proofs.Steps.{stores}
use Rattle.mon_board.proofs.plain.PlainBoard.store.Goals as goal

pub store-requires : goal.store-requires
store-requires c = (search rules, search rules, stores _ _ _ _ c.args.number _ _ (omega arith) (omega arith))

known : (v w : PlainView) (i j n : ℕ) → i - v.threads ≡ j → j < 7 → w ≡ record v { written = record { place = i - v.threads; word = n } ∷ v.written } → Knows v → Knows w
known v w i j n spot low is knows = keeping.stored v w j n v.tally (λ l e. absurd (omega arith)) (is ∙ ap (λ (z : ℕ). record v { written = record { place = z; word = n } ∷ v.written }) spot) knows

pub invariant_of-self-2-clause-based : goal.invariant_of-self-2-clause-based
invariant_of-self-2-clause-based c = (known c.args.self.now.chair.me.0 c.store.new.seat.me.0 c.place-place.result c.args.number c.args.word (omega arith) c.requires (ap (λ m. m.0) c.store.ensures.2) record { based = c.args.self.now.based; six = c.args.self.now.six }).based

pub invariant_of-self-2-clause-six : goal.invariant_of-self-2-clause-six
invariant_of-self-2-clause-six c = (known c.args.self.now.chair.me.0 c.store.new.seat.me.0 c.place-place.result c.args.number c.args.word (omega arith) c.requires (ap (λ m. m.0) c.store.ensures.2) record { based = c.args.self.now.based; six = c.args.self.now.six }).six
