use Rattle.std.proofs.Common.{◌≡◌, ◌≤◌, ◌+◌, ℕ, sym, ap, ◌∙◌, arith, get_or, get_or-set_other}
use Rattle.mon_words.specs.Halted.{Halt}
use Rattle.mon_history.specs.Kept.{config_of}
use Rattle.mon_instrument.proofs.Walks.{worded_none, worded_more}
use Rattle.mon_instrument.proofs.words.change_words.Goals as goal

pub loop-tool-init : goal.loop-tool-init
loop-tool-init g c = (
  c.change_global.ensures.rest,
  worded_none (config_of c.args.config.now) c.globals_word.result (g.S.Halted.halt c.args.s.now) (g.S.Halted.halt c.change_global.new.s) c.globals_word.ensures c.change_global.ensures.halt,
  λ t low. ap (λ (z : Halt). get_or z.board.callbacks t 0) c.change_global.ensures.halt,
)

pub change_callbacks-requires-clause-stands : goal.change_callbacks-requires-clause-stands
change_callbacks-requires-clause-stands g c = c.loop-tool.invariant.2 c.loop-tool.tool (omega arith) ∙ ap (λ z. get_or z c.loop-tool.tool 0) c.requires.callbacks

pub loop-tool-preserved : goal.loop-tool-preserved
loop-tool-preserved g c = (
  c.change_callbacks.ensures.rest ∙ c.loop-tool.invariant.0,
  worded_more (config_of c.args.config.now) c.loop-tool.tool (c.loop-tool.tool + 1) c.callback_word-word.result (g.S.Halted.halt c.args.s.now) (g.S.Halted.halt c.loop-tool.s) (g.S.Halted.halt c.change_callbacks.new.s) (omega arith) c.loop-tool-test.true c.requires.six c.callback_word-word.ensures c.change_callbacks.ensures.halt c.loop-tool.invariant.1,
  λ t low. ap (λ (z : Halt). get_or z.board.callbacks t 0) c.change_callbacks.ensures.halt ∙ (get_or-set_other (g.S.Halted.halt c.loop-tool.s).board.callbacks c.loop-tool.tool t c.callback_word-word.result 0 (λ q. absurd (omega (arith, q, low))) ∙ c.loop-tool.invariant.2 t (omega arith)),
)
