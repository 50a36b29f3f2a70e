use Rattle.std.proofs.Common.{◌≡◌, ◌<◌, ◌++◌, ℕ, [], get_or, IsTrue, length}
use Rattle.mon_words.specs.History.{after}
use Rattle.mon_words.specs.Told.{Grows}
use Rattle.mon_words.specs.Words.{is_bit}
use Rattle.mon_words.specs.declared.tally.Load.{Load}
use Rattle.mon_recorders.specs.Happenings.{for_tools}
use Rattle.mon_hear.proofs.words.load_callbacks.Given as goal

abbrev pub invariant-loop-tool : goal.invariant-loop-tool
invariant-loop-tool g l = record {
  grows : Grows (g.H.Handle.told l.fn.handle) (g.H.Handle.told l.handle) [];
  same : (g.H.Handle.told l.handle).tally.retirements ≡ (g.H.Handle.told l.fn.handle).tally.retirements;
  loaded : (g.H.Handle.told l.handle).tally.loads ≡ (g.H.Handle.told l.fn.handle).tally.loads ++ for_tools (is_bit l.tools) Load.Callbacks l.tool;
  rest : g.H.Handle.rest l.handle ≡ g.H.Handle.rest l.fn.handle;
  value : (t : ℕ) → t < l.tool → IsTrue (is_bit l.tools t) → get_or l.callbacks t 0 ≡ get_or (after (g.H.Handle.told l.fn.handle).first (g.H.Handle.told l.fn.handle).seen).callbacks t 0;
  six : length l.callbacks ≡ 6;
}
