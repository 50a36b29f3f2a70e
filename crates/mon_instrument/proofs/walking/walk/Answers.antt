use Rattle.std.proofs.Common.{refl, ◌≤◌, ◌<◌, suc, length, ap, sym, subst, arith, cond, Bool, true}
use Rattle.mon_words.specs.History.{cell_at}
use Rattle.mon_history.specs.Kept.{config_of}
use Rattle.mon_code.specs.Sites.{site_at, sites_of}
use Rattle.mon_instrument.specs.Due.{walked_cell, is_reached, reached_cell, Walked, IsReach}
use Rattle.mon_instrument.specs.Codes.{start}
use Rattle.mon_instrument.specs.declared.walking.Reach.{Reach}
use Rattle.mon_instrument.proofs.Codes.{codes_all, start_le, reached_in, reached_out}
use Rattle.mon_instrument.proofs.Walks.{walked_part, walked_nowhere}
use Rattle.mon_instrument.proofs.walking.walk.Goals as goal

pub returns-in-Code-clause-told : goal.returns-in-Code-clause-told
returns-in-Code-clause-told g c =
    let p = c.args.program.now in let C = config_of c.args.config.now in let k = c.in-Code.code in let is = c.locations.ensures.checked in
    let h = g.S.Halted.halt c.args.s.now in
    let low : k < length p.codes = subst (λ (r : Reach). IsReach (length p.codes) r) c.in-Code.is c.requires.reach in
    let fits : start p.codes (suc k) ≤ length (sites_of p) = omega (arith, start_le p.codes (suc k) (length p.codes) (omega arith), codes_all p is) in
    subst (λ (r : Reach). Walked (reached_cell C (sites_of p) r c.args.all) (λ l. is_reached r (site_at (sites_of p) l)) 0 (length (sites_of p)) h (g.S.Halted.halt c.walk_code.new.s)) (sym c.in-Code.is)
    (walked_part (walked_cell C (sites_of p) c.args.all) (reached_cell C (sites_of p) (Reach.Code k) c.args.all) (λ _. true) (λ l. is_reached (Reach.Code k) (site_at (sites_of p) l)) (start p.codes k) (start p.codes (suc k)) (length (sites_of p)) h (g.S.Halted.halt c.walk_code.new.s) (start_le p.codes k (suc k) (omega arith)) fits
    (λ l a b. sym (ap (λ (t : Bool). cond t (walked_cell C (sites_of p) c.args.all l (cell_at h.board l)) (cell_at h.board l)) (reached_in p l k is (omega (arith, fits)) a b)))
    (λ l n out. ap (λ (t : Bool). cond t (walked_cell C (sites_of p) c.args.all l (cell_at h.board l)) (cell_at h.board l)) (reached_out p l k is n out))
    (λ l a b. sym (reached_in p l k is (omega (arith, fits)) a b)) (λ l n out. reached_out p l k is n out)
    c.walk_code.ensures.told)

pub returns-in-Nowhere-clause-told : goal.returns-in-Nowhere-clause-told
returns-in-Nowhere-clause-told g c =
    let p = c.args.program.now in let C = config_of c.args.config.now in let h = g.S.Halted.halt c.args.s.now in
    subst (λ (r : Reach). Walked (reached_cell C (sites_of p) r c.args.all) (λ l. is_reached r (site_at (sites_of p) l)) 0 (length (sites_of p)) h h) (sym c.in-Nowhere.is)
    (walked_nowhere (reached_cell C (sites_of p) Reach.Nowhere c.args.all) (λ l. is_reached Reach.Nowhere (site_at (sites_of p) l)) (length (sites_of p)) h (λ _ _. refl) (λ _. refl))

pub returns-in-Everywhere-clause-told : goal.returns-in-Everywhere-clause-told
returns-in-Everywhere-clause-told g c =
    let p = c.args.program.now in let C = config_of c.args.config.now in let h = g.S.Halted.halt c.args.s.now in
    subst (λ (r : Reach). Walked (reached_cell C (sites_of p) r c.args.all) (λ l. is_reached r (site_at (sites_of p) l)) 0 (length (sites_of p)) h (g.S.Halted.halt c.walk_all.new.s)) (sym c.in-Everywhere.is) c.walk_all.ensures.told
