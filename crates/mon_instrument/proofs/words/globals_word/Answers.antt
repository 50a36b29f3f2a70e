use Rattle.std.proofs.Common.{rules, arith, sym, ◌∙◌, ◌≡◌, ap, ◌%◌, ◌/◌, ℕ, Bool, length}
use Rattle.mon_events.specs.Sets.{packed, has}
use Rattle.mon_history.specs.Stands.{global_event}
use Rattle.mon_history.specs.Kept.{config_of, no_tool}
use Rattle.mon_events.proofs.Bits.{packed_none}
use Rattle.mon_instrument.proofs.Packing.{room64, grown_true64, grown_false}
use Rattle.mon_instrument.proofs.Numbers.{any_default}
use Rattle.mon_instrument.proofs.words.globals_word.Goals as goal
use Rattle.mon_instrument.proofs.words.globals_word.Goals.{then-has, else-has}

pub overflow_add-word : goal.overflow_add-word
overflow_add-word c = let r = room64 (λ k. (config_of c.args.config.now).wants (k % 6) (global_event (k / 6))) c.loop-place.place c.loop-place.word (omega (arith, c.loop-place-test.true)) c.loop-place.invariant in omega arith

pub loop-place-init : goal.loop-place-init
loop-place-init c = packed_none (λ k. (config_of c.args.config.now).wants (k % 6) (global_event (k / 6)))

pub loop-place-preserved : goal.loop-place-preserved
loop-place-preserved c =
    let f : ℕ → Bool = λ k. (config_of c.args.config.now).wants (k % 6) (global_event (k / 6)) in
    let six : length c.args.config.now.tools ≡ 6 = search rules in
    let e = any_default c.args.config.now.tools (c.loop-place.place % 6) c.index-config-place.result no_tool (omega arith) in
    let b = c.global_at.ensures in
    let t : c.has.result ≡ f c.loop-place.place = c.has.ensures ∙ (λ i. has (e i).wants.0 (b i)) in
    elim c.if-has.branch [
      | then-has w ↦ grown_true64 f c.loop-place.place c.loop-place.word _ (omega (arith, c.loop-place-test.true)) c.loop-place.invariant (sym t ∙ w.if-has.true) w.word-is
      | else-has w ↦ grown_false f c.loop-place.place c.loop-place.word _ c.loop-place.invariant (sym t ∙ w.if-has.false) w.word-is
    ]

pub returns : goal.returns
returns c = let a = c.loop-place.auto.place-end in let b = c.loop-place-test.false in let e : c.loop-place.place ≡ 30 = omega arith in c.loop-place.invariant ∙ ap (packed (λ k. (config_of c.args.config.now).wants (k % 6) (global_event (k / 6)))) e
