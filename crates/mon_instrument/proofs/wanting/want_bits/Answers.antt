use Rattle.std.proofs.Common.{arith, sym, ◌∙◌}
use Rattle.mon_events.specs.Sets.{slot_of, tool_of}
use Rattle.mon_history.specs.Kept.{config_of}
use Rattle.mon_history.specs.Stands.{wants_bit}
use Rattle.mon_events.proofs.Bits.{packed_none}
use Rattle.mon_instrument.proofs.Packing.{room, grown_true, grown_false, whole_word}
use Rattle.mon_instrument.proofs.wanting.want_bits.Goals as goal
use Rattle.mon_instrument.proofs.wanting.want_bits.Goals.{then-wants_at, else-wants_at}

pub overflow_add-word : goal.overflow_add-word
overflow_add-word c = let r = room (λ k. wants_bit (config_of c.args.config.now) c.args.site.now (slot_of k) (tool_of k)) c.loop-place.place c.loop-place.word c.loop-place-test.true c.loop-place.invariant in omega arith

pub loop-place-preserved : goal.loop-place-preserved
loop-place-preserved c = elim c.if-wants_at.branch [
  | then-wants_at w ↦ grown_true (λ k. wants_bit (config_of c.args.config.now) c.args.site.now (slot_of k) (tool_of k)) c.loop-place.place c.loop-place.word _ c.loop-place-test.true c.loop-place.invariant (sym c.wants_at.ensures ∙ w.if-wants_at.true) w.word-is
  | else-wants_at w ↦ grown_false (λ k. wants_bit (config_of c.args.config.now) c.args.site.now (slot_of k) (tool_of k)) c.loop-place.place c.loop-place.word _ c.loop-place.invariant (sym c.wants_at.ensures ∙ w.if-wants_at.false) w.word-is
]

pub returns-clause-small : goal.returns-clause-small
returns-clause-small c = let a = c.loop-place.auto.place-end in let b = c.loop-place-test.false in (whole_word (λ k. wants_bit (config_of c.args.config.now) c.args.site.now (slot_of k) (tool_of k)) c.loop-place.place c.loop-place.word c.loop-place.invariant (omega arith)).1

pub returns-clause-value : goal.returns-clause-value
returns-clause-value c = let a = c.loop-place.auto.place-end in let b = c.loop-place-test.false in (whole_word (λ k. wants_bit (config_of c.args.config.now) c.args.site.now (slot_of k) (tool_of k)) c.loop-place.place c.loop-place.word c.loop-place.invariant (omega arith)).0

pub loop-place-init : goal.loop-place-init
loop-place-init c = packed_none (λ k. wants_bit (config_of c.args.config.now) c.args.site.now (slot_of k) (tool_of k))
