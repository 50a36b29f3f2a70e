-- Where the locations of a program stand.
use Rattle.std.proofs.Common.{◌≡◌, ℕ, zero, suc, ◌+◌, ◌-◌, ◌*◌, ◌<◌, ◌≤◌, ◌++◌, List, [], ◌∷◌, length, get_or, Some, None, slice_get, eqb, true, false, eq-eqb, ne_eqb, refl, sym, ap, ◌∙◌, subst, arith, length-append}
use mathlib.Core.Logic.{dite}
use native.Mathlib.Decide.{dec_le}
use Rattle.mon_code.specs.declared.program.Code.{Code}
use Rattle.mon_code.specs.declared.program.Location.{Location}
use Rattle.mon_code.specs.Checked.{AllCodes, IsChecked}
use Rattle.mon_code.specs.Programs.{Parts}
use Rattle.mon_code.specs.declared.site.Site.{Site}
use Rattle.mon_code.specs.Sites.{site_at, site_in, sites_of}
use Rattle.mon_code.proofs.Sites.{sites_long, site_there}
use Rattle.mon_instrument.specs.Codes.{start}
use Rattle.mon_words.specs.History.{cell_at}
use Rattle.mon_words.specs.declared.history.Board.{Board}
use Rattle.mon_history.proofs.Replays.{item_at}
use Rattle.mon_instrument.specs.Due.{IsLaidOut}

pub none_some : {A : Type 0} (x : A) → None ≡ Some x → ⊥
none_some x e = absurd (cc)

pub start_next : (cs : List Code) (k : ℕ) (c : Code) → slice_get cs k ≡ Some c → start cs (suc k) ≡ start cs k + length c.locations
start_next [] k c e = absurd (cc)
start_next (d ∷ cs) zero c e = let q : d ≡ c = cc in let l : length d.locations ≡ length c.locations = ap (λ (x : Code). length x.locations) q in first cs l
  where
    first : (xs : List Code) → length d.locations ≡ length c.locations → length d.locations + start xs 0 ≡ 0 + length c.locations
    first xs l = omega arith
start_next (d ∷ cs) (suc k) c e = omega (arith, start_next cs k c e)

-- a code begins where the codes before it end
pub starts : (bases : List ℕ) (from : ℕ) (cs : List Code) (k : ℕ) (c : Code) → AllCodes bases from cs → slice_get cs k ≡ Some c → c.first ≡ from + start cs k
starts bases from [] k c h e = absurd (cc)
starts bases from (d ∷ cs) zero c h e = let q : d ≡ c = cc in let f : d.first ≡ c.first = ap (λ (x : Code). x.first) q in omega (arith, h.0)
starts bases from (d ∷ cs) (suc k) c h e = omega (arith, starts bases (from + length d.locations) cs k c h.2 e)

pub starts_end : (bases : List ℕ) (from : ℕ) (cs : List Code) → AllCodes bases from cs → from + start cs (length cs) ≡ length bases
starts_end bases from [] h = omega (arith, h)
starts_end bases from (c ∷ cs) h = omega (arith, starts_end bases (from + length c.locations) cs h.2)

has_item : {A : Type 0} (xs : List A) (k : ℕ) (x : A) → slice_get xs k ≡ Some x → k < length xs
has_item [] k x e = absurd (cc)
has_item (y ∷ ys) zero x e = omega arith
has_item (y ∷ ys) (suc k) x e = omega (arith, has_item ys k x e)

-- each location belongs to a code
pub owner : (bases : List ℕ) (from : ℕ) (cs : List Code) (m : ℕ) → AllCodes bases from cs → m < start cs (length cs)
    → (k : ℕ) × (c : Code) × (at : ℕ) × (l : Location) × (slice_get cs k ≡ Some c) × (slice_get c.locations at ≡ Some l) × (m ≡ start cs k + at)
owner bases from [] m h g = absurd (omega arith)
owner bases from (c ∷ cs) m h g = dite (dec_le (suc m) (length c.locations))
    (λ low. let x = item_at c.locations m low in (0, c, m, x.0, refl, x.1, omega arith))
    (λ up. let n : ℕ = m - length c.locations in
    let r = owner bases (from + length c.locations) cs n h.2 (omega arith) in
    (suc r.0, r.1, r.2, r.3, r.4, r.5, omega (arith, r.6)))

-- the codes before one end before it
pub start_le : (cs : List Code) (j k : ℕ) → j ≤ k → start cs j ≤ start cs k
start_le cs zero k h = omega arith
start_le [] (suc j) zero h = omega arith
start_le [] (suc j) (suc k) h = omega arith
start_le (c ∷ cs) (suc j) zero h = absurd (omega arith)
start_le (c ∷ cs) (suc j) (suc k) h = omega (arith, start_le cs j k (omega arith))

-- a board that is laid out has the base opcodes of the sites
pub site_read : (p : Parts) (k : ℕ) (c : Code) (at : ℕ) (l : Location) (b : Board) → IsChecked p → slice_get p.codes k ≡ Some c → slice_get c.locations at ≡ Some l → c.first + at < length p.bases
    → IsLaidOut (sites_of p) b → site_in k at l (cell_at b (c.first + at)).base ≡ site_at (sites_of p) (c.first + at)
site_read p k c at l b is e g h laid =
    let s = site_there p k c at l is e g in
    let q : (cell_at b (c.first + at)).base ≡ get_or p.bases (c.first + at) 0 = laid.bases (c.first + at) (omega (arith, sites_long p is)) ∙ ap (λ (x : Site). x.base) s in
    ap (site_in k at l) q ∙ sym s

pub codes_all : (p : Parts) → IsChecked p → start p.codes (length p.codes) ≡ length (sites_of p)
codes_all p is = omega (arith, starts_end p.bases 0 p.codes is.codes, sites_long p is)

-- the code of a location's site is the one that has the location
pub owned : (p : Parts) (m : ℕ) → IsChecked p → m < length (sites_of p) → (k : ℕ) × ((site_at (sites_of p) m).code ≡ k) × (start p.codes k ≤ m) × (m < start p.codes (suc k))
owned p m is h =
    let o = owner p.bases 0 p.codes m is.codes (omega (arith, codes_all p is)) in
    let f = starts p.bases 0 p.codes o.0 o.1 is.codes o.4 in
    let n : o.1.first + o.2 ≡ m = omega (arith, f, o.6) in
    let s = site_there p o.0 o.1 o.2 o.3 is o.4 o.5 in
    (o.0, ap (λ z. (site_at (sites_of p) z).code) (sym n) ∙ ap (λ (x : Site). x.code) s, omega (arith, o.6), omega (arith, o.6, start_next p.codes o.0 o.1 o.4, has_item o.1.locations o.2 o.3 o.5))

pub reached_in : (p : Parts) (m code : ℕ) → IsChecked p → m < length (sites_of p) → start p.codes code ≤ m → m < start p.codes (suc code) → eqb (site_at (sites_of p) m).code code ≡ true
reached_in p m code is h low high =
    let o = owned p m is h in
    let k : o.0 ≡ code = dite (dec_le (suc o.0) code)
    (λ a. let g = start_le p.codes (suc o.0) code a in absurd (omega (arith, o.3)))
    (λ a. dite (dec_le (suc code) o.0) (λ b. let g = start_le p.codes (suc code) o.0 b in absurd (omega (arith, o.2))) (λ b. omega arith)) in
    eq-eqb (site_at (sites_of p) m).code code (o.1 ∙ k)

pub reached_out : (p : Parts) (m code : ℕ) → IsChecked p → m < length (sites_of p) → (start p.codes code ≤ m → m < start p.codes (suc code) → ⊥) → eqb (site_at (sites_of p) m).code code ≡ false
reached_out p m code is h out =
    let o = owned p m is h in
    ne_eqb (site_at (sites_of p) m).code code (λ e. let k : o.0 ≡ code = sym o.1 ∙ e in
    out (subst (λ z. start p.codes z ≤ m) k o.2) (subst (λ z. m < start p.codes (suc z)) k o.3))
