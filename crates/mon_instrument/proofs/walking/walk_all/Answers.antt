use Rattle.std.proofs.Common.{true, ◌≡◌, suc, length, ◌+◌, ap, ◌∙◌, refl, subst, arith}
use Rattle.mon_code.specs.Programs.{Parts}
use Rattle.mon_code.proofs.Codes.{codes_few}
use Rattle.mon_history.specs.Kept.{config_of}
use Rattle.mon_code.specs.Sites.{sites_of}
use Rattle.mon_instrument.specs.Due.{walked_cell, Walked}
use Rattle.mon_instrument.specs.Codes.{start}
use Rattle.mon_instrument.proofs.Codes.{codes_all, start_le}
use Rattle.mon_instrument.proofs.Walks.{walked_none, walked_more, laid_on}
use Rattle.mon_instrument.proofs.walking.walk_all.Goals as goal

pub loop-number-init : goal.loop-number-init
loop-number-init g c = (refl, walked_none (walked_cell (config_of c.args.config.now) (sites_of c.args.program.now) c.args.all) (λ _. true) 0 0 (g.S.Halted.halt c.args.s.now) (omega arith))

pub overflow_cast-number : goal.overflow_cast-number
overflow_cast-number g c = let is = c.locations.ensures.checked in omega (arith, codes_few c.args.program.now.bases 0 c.args.program.now.codes is.codes, is.small, c.loop-number-test.true, c.len-number-end.ensures, ap (λ (z : Parts). length z.codes) c.program.view_is)

pub walk_code-requires-clause-laid : goal.walk_code-requires-clause-laid
walk_code-requires-clause-laid g c = laid_on (sites_of c.args.program.now) (walked_cell (config_of c.args.config.now) (sites_of c.args.program.now) c.args.all) (λ _. true) 0 (start c.args.program.now.codes c.loop-number.number)
    (g.S.Halted.halt c.args.s.now) (g.S.Halted.halt c.loop-number.s) (λ _ _. refl) c.requires.laid c.loop-number.invariant.1

pub loop-number-preserved : goal.loop-number-preserved
loop-number-preserved g c =
    let cs = c.args.program.now.codes in (
      c.walk_code.ensures.rest ∙ c.loop-number.invariant.0,
      walked_more (walked_cell (config_of c.args.config.now) (sites_of c.args.program.now) c.args.all) (λ _. true) 0 (start cs c.loop-number.number) (start cs (c.loop-number.number + 1))
          (g.S.Halted.halt c.args.s.now) (g.S.Halted.halt c.loop-number.s) (g.S.Halted.halt c.walk_code.new.s) (omega arith) (start_le cs c.loop-number.number (c.loop-number.number + 1) (omega arith)) c.loop-number.invariant.1
          (let e : suc c.loop-number.number ≡ c.loop-number.number + 1 = omega arith in
          subst (λ z. Walked (walked_cell (config_of c.args.config.now) (sites_of c.args.program.now) c.args.all) (λ _. true) (start cs c.loop-number.number) (start cs z) (g.S.Halted.halt c.loop-number.s) (g.S.Halted.halt c.walk_code.new.s)) e c.walk_code.ensures.told),
    )

pub returns-clause-told : goal.returns-clause-told
returns-clause-told g c =
    let p = c.args.program.now in
    let n : c.loop-number.number ≡ length p.codes = omega (arith, c.loop-number-test.false, c.loop-number.auto.number-end, c.len-number-end.ensures, ap (λ (z : Parts). length z.codes) c.program.view_is) in
    subst (λ z. Walked (walked_cell (config_of c.args.config.now) (sites_of p) c.args.all) (λ _. true) 0 z (g.S.Halted.halt c.args.s.now) (g.S.Halted.halt c.loop-number.s)) (ap (start p.codes) n ∙ codes_all p c.locations.ensures.checked) c.loop-number.invariant.1
