-- Where the sites of a program stand.
use Rattle.std.proofs.Common.{◌≡◌, ℕ, zero, suc, ◌+◌, ◌-◌, ◌<◌, ◌≤◌, ◌++◌, List, [], ◌∷◌, length, get_or, Some, slice_get, refl, ap, ◌∙◌, arith, length-append}
use Rattle.mon_code.specs.declared.program.Code.{Code}
use Rattle.mon_code.specs.declared.program.Location.{Location}
use Rattle.mon_code.specs.Checked.{AllCodes, IsChecked}
use Rattle.mon_code.specs.Programs.{Parts}
use Rattle.mon_code.proofs.Codes.{code_within}
use Rattle.mon_code.specs.Sites.{or_site, site_at, site_in, sites_in, sites_from, sites_of}

pub some_same : {A : Type 0} (x y : A) → Some x ≡ Some y → x ≡ y
some_same x y e = cc

in_long : (bases : List ℕ) (code first at : ℕ) (ls : List Location) → length (sites_in bases code first at ls) ≡ length ls
in_long bases code first at [] = refl
in_long bases code first at (l ∷ ls) = omega (arith, in_long bases code first (at + 1) ls)

from_long : (bases : List ℕ) (code from : ℕ) (cs : List Code) → AllCodes bases from cs → from + length (sites_from bases code cs) ≡ length bases
from_long bases code from [] h = omega (arith, h)
from_long bases code from (c ∷ cs) h =
    omega (arith, from_long bases (code + 1) (from + length c.locations) cs h.2, in_long bases code c.first 0 c.locations, length-append (sites_in bases code c.first 0 c.locations) (sites_from bases (code + 1) cs))

-- there is a site for each location
pub sites_long : (p : Parts) → IsChecked p → length (sites_of p) ≡ length p.bases
sites_long p is = let l = from_long p.bases 0 0 p.codes is.codes in omega arith

get_front : {A : Type 0} (xs ys : List A) (k : ℕ) → k < length xs → slice_get (xs ++ ys) k ≡ slice_get xs k
get_front [] ys k h = absurd (omega arith)
get_front (x ∷ xs) ys zero h = refl
get_front (x ∷ xs) ys (suc k) h = get_front xs ys k (omega arith)

get_behind : {A : Type 0} (xs ys : List A) (n k : ℕ) → n ≡ length xs + k → slice_get (xs ++ ys) n ≡ slice_get ys k
get_behind [] ys n k e = ap (slice_get ys) (let f : n ≡ k = omega arith in f)
get_behind (x ∷ xs) ys zero k e = absurd (omega arith)
get_behind (x ∷ xs) ys (suc n) k e = get_behind xs ys n k (omega arith)

in_there : (bases : List ℕ) (code first at : ℕ) (ls : List Location) (k : ℕ) (l : Location) → slice_get ls k ≡ Some l
    → slice_get (sites_in bases code first at ls) k ≡ Some (site_in code (at + k) l (get_or bases (first + (at + k)) 0))
in_there bases code first at [] k l e = absurd (cc)
in_there bases code first at (m ∷ ls) zero l e =
    let q : m ≡ l = cc in
    let z : at ≡ at + 0 = omega arith in
    λ i. Some (site_in code (z i) (q i) (get_or bases (first + z i) 0))
in_there bases code first at (m ∷ ls) (suc k) l e =
    let z : at + 1 + k ≡ at + suc k = omega arith in
    in_there bases code first (at + 1) ls k l e ∙ ap (λ j. Some (site_in code j l (get_or bases (first + j) 0))) z

has_item : {A : Type 0} (xs : List A) (k : ℕ) (x : A) → slice_get xs k ≡ Some x → k < length xs
has_item [] k x e = absurd (cc)
has_item (y ∷ ys) zero x e = omega arith
has_item (y ∷ ys) (suc k) x e = omega (arith, has_item ys k x e)

from_there : (bases : List ℕ) (from code : ℕ) (cs : List Code) (k : ℕ) (c : Code) (at : ℕ) (l : Location) → AllCodes bases from cs → slice_get cs k ≡ Some c → slice_get c.locations at ≡ Some l
    → (n : ℕ) → n + from ≡ c.first + at → slice_get (sites_from bases code cs) n ≡ Some (site_in (code + k) at l (get_or bases (c.first + at) 0))
from_there bases from code [] k c at l h e g n s = absurd (cc)
from_there bases from code (d ∷ cs) zero c at l h e g n s =
    let q : d ≡ c = cc in
    let g' : slice_get d.locations at ≡ Some l = ap (λ (x : Code). slice_get x.locations at) q ∙ g in
    let m = has_item d.locations at l g' in
    let f : d.first ≡ c.first = ap (λ (x : Code). x.first) q in
    let z : code ≡ code + 0 = omega arith in
    let y : 0 + at ≡ at = omega arith in
    let n' : n ≡ at = omega (arith, h.0) in
    ap (slice_get (sites_in bases code d.first 0 d.locations ++ sites_from bases (code + 1) cs)) n'
    ∙ (get_front (sites_in bases code d.first 0 d.locations) (sites_from bases (code + 1) cs) at (omega (arith, in_long bases code d.first 0 d.locations))
    ∙ (in_there bases code d.first 0 d.locations at l g' ∙ (λ i. Some (site_in (z i) (y i) l (get_or bases (f i + y i) 0)))))
from_there bases from code (d ∷ cs) (suc k) c at l h e g n s =
    let z : code + 1 + k ≡ code + suc k = omega arith in
    let b = begins bases (from + length d.locations) cs k c h.2 e in
    let m : ℕ = c.first + at - (from + length d.locations) in
    get_behind (sites_in bases code d.first 0 d.locations) (sites_from bases (code + 1) cs) n m (omega (arith, in_long bases code d.first 0 d.locations))
    ∙ (from_there bases (from + length d.locations) (code + 1) cs k c at l h.2 e g m (omega arith) ∙ ap (λ j. Some (site_in j at l (get_or bases (c.first + at) 0))) z)
  where
    begins : (bases : List ℕ) (from : ℕ) (cs : List Code) (k : ℕ) (c : Code) → AllCodes bases from cs → slice_get cs k ≡ Some c → from ≤ c.first
    begins bases from [] k c h e = absurd (cc)
    begins bases from (d ∷ cs) zero c h e = let q : d ≡ c = cc in let f : d.first ≡ c.first = ap (λ (x : Code). x.first) q in omega (arith, h.0)
    begins bases from (d ∷ cs) (suc k) c h e = omega (arith, begins bases (from + length d.locations) cs k c h.2 e)

-- the site of a location of a program
pub site_there : (p : Parts) (k : ℕ) (c : Code) (at : ℕ) (l : Location) → IsChecked p → slice_get p.codes k ≡ Some c → slice_get c.locations at ≡ Some l
    → site_at (sites_of p) (c.first + at) ≡ site_in k at l (get_or p.bases (c.first + at) 0)
site_there p k c at l is e g =
    let z : 0 + k ≡ k = omega arith in
    ap or_site (from_there p.bases 0 0 p.codes k c at l is.codes e g (c.first + at) (omega arith)) ∙ (λ i. site_in (z i) at l (get_or p.bases (c.first + at) 0))

-- it is one of them
pub site_within : (p : Parts) (k : ℕ) (c : Code) (at : ℕ) (l : Location) → IsChecked p → slice_get p.codes k ≡ Some c → slice_get c.locations at ≡ Some l → c.first + at < length (sites_of p)
site_within p k c at l is e g = omega (arith, code_within p.bases 0 p.codes k c is.codes e, sites_long p is, has_item c.locations at l g)
