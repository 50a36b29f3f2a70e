use Rattle.std.proofs.Common.{[], sym, ◌∙◌}
use Rattle.mon_hear.proofs.Steps.{words_stay}
use Rattle.mon_hear.proofs.Asking.{passed_unwinding}
use Rattle.mon_hear.proofs.pass.pass_unwinding.Goals as goal

pub returns-then-global-eq0-clause-passed : goal.returns-then-global-eq0-clause-passed
returns-then-global-eq0-clause-passed g c = let o = c.load_global-global.ensures in
    λ _ i es rs p. passed_unwinding i es (g.H.Handle.told c.args.handle.now) (g.H.Handle.told c.load_global-global.new.handle) rs c.requires.owns p (sym c.if-global-eq0.true ∙ o.value) o.grows

pub returns-else-global-eq0-clause-word : goal.returns-else-global-eq0-clause-word
returns-else-global-eq0-clause-word g c = let o = c.load_global-global.ensures in
    λ word is. sym is ∙ (o.value ∙ sym (words_stay (g.H.Handle.told c.args.handle.now) (g.H.Handle.told c.load_global-global.new.handle) [] o.grows).global)
