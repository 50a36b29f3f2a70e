use Rattle.std.proofs.Common.{rules, ◌≡◌, ℕ, ◌+◌, sym, ap, ◌∙◌, get_or, Some, slice_get}
use Rattle.mon_code.specs.declared.program.Code.{Code}
use Rattle.mon_code.specs.Programs.{Parts}
use Rattle.mon_code.specs.Sites.{site_at, site_in, sites_of}
use Rattle.mon_code.proofs.Sites.{site_there, some_same}
use Rattle.mon_code.proofs.program.Program.site.Goals as goal

pub returns : goal.returns
returns c =
    let p : Parts = c.args.self.now in
    let k : ℕ = c.place-code.result.0 in
    let i : ℕ = c.place-code.result.1 in
    let found : slice_get p.codes k ≡ Some c.in-Some.found.now = search rules in
    let at : slice_get c.in-Some.found.now.locations i ≡ Some c.in-Some-get.at.now = search rules in
    let same : c.place-code.ensures.found ≡ c.in-Some.found.now = some_same _ _ (sym c.place-code.ensures.is ∙ found) in
    let n : c.in-Some.found.now.first + i ≡ c.args.location = ap (λ (x : Code). x.first + i) (sym same) ∙ c.place-code.ensures.number_is in
    c.new.ensures ∙ (ap (site_in k i c.in-Some-get.at.now) (c.requires.base ∙ ap (λ z. get_or p.bases z 0) (sym n))
    ∙ (sym (site_there p k c.in-Some.found.now i c.in-Some-get.at.now c.locations.ensures.checked found at) ∙ ap (site_at (sites_of p)) n))
