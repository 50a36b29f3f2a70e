use Rattle.std.proofs.Common.{rules, arith, ap, ◌≡◌, ◌∙◌, ◌+◌, ◌-◌, ◌%◌, ◌∷◌, ℕ}
use Rattle.mon_words.specs.Words.{cell_of, Allowed}
use Rattle.mon_words.specs.History.{cell_at}
use Rattle.mon_words.specs.Tallies.{rewritten_once}
use Rattle.mon_board.specs.Plain.{standing}
use Rattle.mon_board.specs.declared.plain_view.PlainView.{PlainView}
use Rattle.mon_board.proofs.Keeping.{Knows}
use Rattle.mon_board.proofs.Keeping as keeping
use Rattle.mon_board.proofs.Steps.{rewrites}
use Rattle.mon_board.proofs.plain.PlainBoard.rewrite.Goals as goal

pub store-requires : goal.store-requires
store-requires c = (search rules, search rules, rewrites _ _ _ _ c.args.location _ _ (omega arith) c.requires.within c.requires.base c.requires.allowed)

known : (v w : PlainView) (i l n : ℕ) → i - v.threads ≡ 7 + l → (cell_of n).base ≡ (cell_at (standing v) l).base → Allowed (cell_of n) (n % 256)
    → w ≡ record v { written = record { place = i - v.threads; word = n } ∷ v.written; tally = rewritten_once v.tally } → Knows v → Knows w
known v w i l n spot base allowed is knows =
    keeping.stored v w (7 + l) n (rewritten_once v.tally) (λ k e. let same : l ≡ k = omega arith in (base ∙ ap (λ (z : ℕ). (cell_at (standing v) z).base) same, allowed))
    (is ∙ ap (λ (z : ℕ). record v { written = record { place = z; word = n } ∷ v.written; tally = rewritten_once v.tally }) spot) knows

pub invariant_of-self-2-clause-based : goal.invariant_of-self-2-clause-based
invariant_of-self-2-clause-based c =
    (known c.args.self.now.chair.me.0 c.store.new.seat.me.0 c.place-place.result c.args.location c.args.word (omega arith) c.requires.base c.requires.allowed (ap (λ m. m.0) c.store.ensures.2) record { based = c.args.self.now.based; six = c.args.self.now.six }).based

pub invariant_of-self-2-clause-six : goal.invariant_of-self-2-clause-six
invariant_of-self-2-clause-six c =
    (known c.args.self.now.chair.me.0 c.store.new.seat.me.0 c.place-place.result c.args.location c.args.word (omega arith) c.requires.base c.requires.allowed (ap (λ m. m.0) c.store.ensures.2) record { based = c.args.self.now.based; six = c.args.self.now.six }).six
