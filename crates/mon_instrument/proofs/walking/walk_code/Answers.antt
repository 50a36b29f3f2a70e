use Rattle.std.proofs.Common.{true, rules, ◌≡◌, ◌<◌, suc, length, ◌+◌, ap, sym, ◌∙◌, refl, subst, arith, Some, None, slice_get}
use Rattle.mon_history.specs.Kept.{config_of}
use Rattle.mon_code.specs.Sites.{sites_of}
use Rattle.mon_history.proofs.Replays.{item_at}
use Rattle.mon_instrument.specs.Due.{walked_cell, Walked}
use Rattle.mon_instrument.specs.Codes.{start}
use Rattle.mon_instrument.proofs.Codes.{start_next, none_some}
use Rattle.mon_code.proofs.Sites.{sites_long}
use Rattle.mon_instrument.proofs.Walks.{walked_none, code_more}
use Rattle.mon_instrument.proofs.walking.walk_code.Goals as goal

pub loop-index-init : goal.loop-index-init
loop-index-init g c = (refl, walked_none (walked_cell (config_of c.args.config.now) (sites_of c.args.program.now) c.args.all) (λ _. true) (start c.args.program.now.codes c.args.number) (start c.args.program.now.codes c.args.number + 0) (g.S.Halted.halt c.args.s.now) (omega arith))

pub refresh-requires-clause-within : goal.refresh-requires-clause-within
refresh-requires-clause-within g c =
    let e : length (g.S.Halted.halt c.loop-index.s).board.cells ≡ length c.loop-index.invariant.1.cells = ap (λ z. length z.board.cells) c.loop-index.invariant.1.is in
    let n : c.loop-index.index < length c.in-Some.code.now.locations = omega (arith, c.loop-index-test.true, ap length c.as_slice-location-items.ensures) in
    let found : slice_get c.args.program.now.codes c.args.number ≡ Some c.in-Some.code.now = search rules in
    let inside = c.code.ensures.inside c.in-Some.code.now found in
    omega (arith, c.loop-index.invariant.1.wide, c.requires.laid.wide, sites_long c.args.program.now c.locations.ensures.checked)

pub loop-index-preserved : goal.loop-index-preserved
loop-index-preserved g c =
    let p = c.args.program.now in let code = c.in-Some.code.now in
    let found : slice_get p.codes c.args.number ≡ Some code = search rules in (
      c.refresh.ensures.rest ∙ c.loop-index.invariant.0,
      code_more p (config_of c.args.config.now) c.args.all c.args.number c.loop-index.index code c.as_slice-location-items.result.now _ (g.S.Halted.halt c.args.s.now) (g.S.Halted.halt c.loop-index.s) (g.S.Halted.halt c.refresh.new.s)
          c.locations.ensures.checked found c.as_slice-location-items.ensures c.loop-index-test.true (c.code.ensures.inside code found) c.requires.laid c.loop-index.invariant.1 c.refresh.ensures.told,
    )

pub returns-in-None-clause-told : goal.returns-in-None-clause-told
returns-in-None-clause-told g c = let x = item_at c.args.program.now.codes c.args.number c.requires.number in let e : slice_get c.args.program.now.codes c.args.number ≡ None = search rules in absurd (none_some x.0 (sym e ∙ x.1))

pub returns-after-loop-index-clause-told : goal.returns-after-loop-index-clause-told
returns-after-loop-index-clause-told g c =
    let p = c.args.program.now in let code = c.in-Some.code.now in
    let found : slice_get p.codes c.args.number ≡ Some code = search rules in
    let long = ap length c.as_slice-location-items.ensures in
    let e : start p.codes c.args.number + c.loop-index.index ≡ start p.codes (suc c.args.number) = omega (arith, start_next p.codes c.args.number code found, c.loop-index-test.false, c.loop-index.auto.index-end) in
    subst (λ z. Walked (walked_cell (config_of c.args.config.now) (sites_of p) c.args.all) (λ _. true) (start p.codes c.args.number) z (g.S.Halted.halt c.args.s.now) (g.S.Halted.halt c.loop-index.s)) e c.loop-index.invariant.1
