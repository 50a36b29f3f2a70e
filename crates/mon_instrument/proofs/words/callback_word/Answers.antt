use Rattle.std.proofs.Common.{rules, arith, sym, ◌∙◌, ◌≡◌, ◌%◌, ◌/◌, ℕ, Bool, length, get_or}
use Rattle.mon_events.specs.Events.{bit}
use Rattle.mon_events.specs.Events.{event_at}
use Rattle.mon_history.specs.Kept.{config_of, no_tool, tool_at}
use Rattle.mon_history.specs.Stands.{policy_bit}
use Rattle.mon_history.specs.declared.calls.Policy.{Policy}
use Rattle.mon_events.proofs.Bits.{packed_none}
use Rattle.mon_instrument.proofs.Packing.{room64, grown_true64, grown_false}
use Rattle.mon_instrument.proofs.Numbers.{any_default, bit_back}
use Rattle.mon_instrument.proofs.words.callback_word.Goals as goal
use Rattle.mon_instrument.proofs.words.callback_word.Goals.{then-has_bit, else-has_bit}

pub loop-place-init : goal.loop-place-init
loop-place-init c = packed_none (λ k. policy_bit ((config_of c.args.config.now).calls c.args.tool (event_at (k / 2))) (k % 2))

pub overflow_add-word : goal.overflow_add-word
overflow_add-word c =
    let r = room64 (λ k. policy_bit ((config_of c.args.config.now).calls c.args.tool (event_at (k / 2))) (k % 2)) c.loop-place.place c.loop-place.word c.loop-place-test.true c.loop-place.invariant in omega arith

pub loop-place-preserved : goal.loop-place-preserved
loop-place-preserved c =
    let f : ℕ → Bool = λ k. policy_bit ((config_of c.args.config.now).calls c.args.tool (event_at (k / 2))) (k % 2) in
    let six : length c.args.config.now.tools ≡ 6 = search rules in
    let e : get_or c.args.config.now.tools c.args.tool c.index-config-tool.result ≡ tool_at c.args.config.now c.args.tool = any_default c.args.config.now.tools c.args.tool c.index-config-tool.result no_tool (omega (arith, c.requires.low)) in
    let b : bit (event_at (c.loop-place.place / 2)) ≡ c.loop-place.place / 2 = bit_back (c.loop-place.place / 2) (omega (arith, c.loop-place-test.true)) in
    let t : c.has_bit.result ≡ f c.loop-place.place = c.has_bit.ensures ∙ (λ i. policy_bit (get_or (e i).policies (sym b i) Policy.Nothing) (c.loop-place.place % 2)) in
    elim c.if-has_bit.branch [
      | then-has_bit w ↦ grown_true64 f c.loop-place.place c.loop-place.word _ c.loop-place-test.true c.loop-place.invariant (sym t ∙ w.if-has_bit.true) w.word-is
      | else-has_bit w ↦ grown_false f c.loop-place.place c.loop-place.word _ c.loop-place.invariant (sym t ∙ w.if-has_bit.false) w.word-is
    ]
