use Rattle.std.proofs.Common.{◌++◌, [], ℕ, List, IsTrue, get_or, refl, sym, ap, ◌∙◌, arith, append-nil}
use Rattle.std.proofs.lemmas.List.{length-set}
use Rattle.mon_words.specs.declared.tally.Load.{Load}
use Rattle.mon_recorders.proofs.Folds.{for_tools_none, for_tools_more}
use Rattle.mon_words.specs.Words.{is_bit}
use Rattle.mon_words.proofs.Growing.{grows_refl, grows_trans}
use Rattle.mon_hear.proofs.Steps.{words_stay, next_value, one_more_load}
use Rattle.mon_hear.proofs.words.load_callbacks.Goals as goal

pub loop-tool-init : goal.loop-tool-init
loop-tool-init g c = record {
  grows = grows_refl _;
  same = refl;
  loaded = sym (ap (λ z. (g.H.Handle.told c.args.handle.now).tally.loads ++ z) (for_tools_none _ _) ∙ append-nil _);
  rest = refl;
  value = λ t h. absurd (omega arith);
  six = refl;
}

pub loop-tool-preserved : goal.loop-tool-preserved
loop-tool-preserved g c = let i = c.loop-tool.invariant in let o = c.load_one.ensures in
    let w = words_stay (g.H.Handle.told c.args.handle.now) (g.H.Handle.told c.loop-tool.handle) [] i.grows in
    record {
      grows = grows_trans _ (g.H.Handle.told c.loop-tool.handle) _ [] [] i.grows o.grows;
      same = o.same ∙ i.same;
      loaded = one_more_load _ (g.H.Handle.told c.loop-tool.handle).tally.loads _ _ _ _ o.loaded i.loaded (for_tools_more (is_bit c.args.tools) Load.Callbacks c.loop-tool.tool);
      rest = o.rest ∙ i.rest;
      value = next_value c.loop-tool.callbacks _ (λ t. IsTrue (is_bit c.args.tools t)) c.loop-tool.tool c.load_one.result (omega (arith, i.six, c.loop-tool-test.true)) i.value (λ p. o.value p ∙ ap (λ (l : List ℕ). get_or l c.loop-tool.tool 0) w.callbacks);
      six = length-set _ _ _ ∙ i.six;
    }
