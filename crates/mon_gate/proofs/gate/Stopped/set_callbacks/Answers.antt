use Rattle.std.proofs.Common.{rules, arith, ◌+◌, ◌≡◌, ◌∙◌, ap, ℕ}
use Rattle.mon_gate.specs.Places.{word_number}
use Rattle.mon_gate.specs.declared.view.View.{View}
use Rattle.mon_gate.proofs.Stops.{stores}
use Rattle.mon_gate.proofs.Storing.{Knows, with_word, with_callbacks}
use Rattle.mon_gate.proofs.gate.Stopped.set_callbacks.Goals as goal

pub store-requires : goal.store-requires
store-requires c = (search rules, search rules, stores _ _ _ (1 + c.args.tool) _ _ _ c.args.self.now.phase (omega arith) (omega arith) (λ l e. absurd (omega arith)))

pub invariant_of-self : goal.invariant_of-self
invariant_of-self c =
    let v : View = c.args.self.now.chair.me.0 in
    let spot : word_number v.threads c.callbacks_place-place.result ≡ 1 + c.args.tool = omega arith in
    let view : c.store.new.seat.me.0 ≡ with_word v (1 + c.args.tool) c.args.word v.tally = ap (λ m. m.0) c.store.ensures.2 ∙ ap (λ (z : ℕ). with_word v z c.args.word v.tally) spot in
    let k : Knows c.store.new.seat.me.0 = with_callbacks v c.store.new.seat.me.0 c.args.tool c.args.word c.requires.within view record { based = c.args.self.now.based; six = c.args.self.now.six } in
    record { bare = search rules; phase = search rules; based = k.based; six = k.six }
