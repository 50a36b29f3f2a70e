use Rattle.std.proofs.Common.{rules, arith, ◌+◌, ◌≡◌, ◌∙◌, ap, ℕ}
use Rattle.mon_words.specs.Words.{before_locations}
use Rattle.mon_words.specs.History.{cell_at}
use Rattle.mon_words.specs.Tallies.{rewritten_once}
use Rattle.mon_words.specs.declared.tally.Tally.{Tally}
use Rattle.mon_gate.specs.Places.{word_number}
use Rattle.mon_gate.specs.Plays.{standing}
use Rattle.mon_gate.specs.declared.view.View.{View}
use Rattle.mon_gate.proofs.Stops.{rewrites}
use Rattle.mon_gate.proofs.Storing.{Knows, with_word, rewritten}
use Rattle.mon_gate.proofs.gate.Stopped.rewrite.Goals as goal

pub store-requires : goal.store-requires
store-requires c = (
  search rules,
  search rules,
  rewrites _ _ _ (before_locations + c.args.location) _ _ _ c.args.self.now.phase (omega arith) (omega arith)
      (λ l e. let same : c.args.location ≡ l = omega arith in (c.requires.base ∙ ap (λ (z : ℕ). (cell_at (standing c.args.self.now.chair.me.0) z).base) same, c.requires.allowed)),
)

pub invariant_of-self : goal.invariant_of-self
invariant_of-self c =
    let v : View = c.args.self.now.chair.me.0 in
    let t : Tally = rewritten_once v.tally in
    let spot : word_number v.threads c.location_place-place.result ≡ before_locations + c.args.location = omega arith in
    let view : c.store.new.seat.me.0 ≡ with_word v (before_locations + c.args.location) c.args.word t = ap (λ m. m.0) c.store.ensures.2 ∙ ap (λ (z : ℕ). with_word v z c.args.word t) spot in
    let k : Knows c.store.new.seat.me.0 = rewritten v c.store.new.seat.me.0 c.args.location c.args.word t c.requires.base view record { based = c.args.self.now.based; six = c.args.self.now.six } in
    record { bare = search rules; phase = search rules; based = k.based; six = k.six }
