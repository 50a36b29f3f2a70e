-- Where the codes of a program stand.
use Rattle.std.proofs.Common.{◌≡◌, ℕ, zero, suc, ◌+◌, ◌-◌, ◌<◌, ◌≤◌, List, [], ◌∷◌, length, get_or, drop, arith, sym, ap, ◌∙◌, subst}
use Rattle.std.specs.Prelude.{Some, slice_get}
use Rattle.std.proofs.lemmas.List.{drop_all, drop_more}
use Rattle.std.proofs.lemmas.Option.{slice_get-get_or}
use Rattle.mon_code.specs.declared.program.Code.{Code}
use Rattle.mon_code.specs.declared.program.Location.{Location}
use Rattle.mon_code.specs.Checked.{AllCodes, IsChecked, table_of}
use Rattle.mon_code.specs.Depths.{Records}
use Rattle.mon_code.specs.Programs.{Parts, StandsAt}

-- codes in turn end where the base opcodes do
pub codes_end : (bases : List ℕ) (from : ℕ) (cs : List Code) → AllCodes bases from cs → from ≤ length bases
codes_end bases from [] h = omega arith
codes_end bases from (c ∷ cs) h = omega (arith, codes_end bases (from + length c.locations) cs h.2)

-- a code of them stands within the base opcodes
pub code_within : (bases : List ℕ) (from : ℕ) (cs : List Code) (k : ℕ) (c : Code) → AllCodes bases from cs → slice_get cs k ≡ Some c → c.first + length c.locations ≤ length bases
code_within bases from [] k c h e = absurd (cc)
code_within bases from (d ∷ cs) zero c h e =
    let same : d ≡ c = cc in
    let first : c.first ≡ from = ap (λ (x : Code). x.first) (sym same) ∙ h.0 in
    let long : length d.locations ≡ length c.locations = ap (λ (x : Code). length x.locations) same in
    omega (arith, codes_end bases (from + length d.locations) cs h.2)
code_within bases from (d ∷ cs) (suc k) c h e = code_within bases (from + length d.locations) cs k c h.2 e

-- a code has a location
some_location : (ls : List Location) → Records (table_of ls) 0 0 0 → 0 < length ls
some_location [] e = absurd cc
some_location (l ∷ ls) e = omega arith

pub codes_few : (bases : List ℕ) (from : ℕ) (cs : List Code) → AllCodes bases from cs → from + length cs ≤ length bases
codes_few bases from [] h = omega (arith, h)
codes_few bases from (c ∷ cs) h = omega (arith, some_location c.locations h.1.start, codes_few bases (from + length c.locations) cs h.2)

-- so there are no more codes than locations
pub few_names : (p : Parts) → IsChecked p → length p.names ≤ 65536
few_names p is = omega (arith, is.named, is.small, codes_few p.bases 0 p.codes is.codes)

-- the codes from one on begin with a location behind which the given number lies so far
abbrev pub Ahead : List ℕ → List Code → ℕ → ℕ → ℕ → Type 0
Ahead bases codes k number left = (from : ℕ) × AllCodes bases from (drop k codes) × (number ≡ from + left)

here : (bases : List ℕ) (codes : List Code) (k : ℕ) (c : Code) (number left : ℕ) → k < length codes → c ≡ get_or codes k c → Ahead bases codes k number left
    → (from : ℕ) × AllCodes bases from (c ∷ drop (k + 1) codes) × (number ≡ from + left)
here bases codes k c number left h e a =
    (a.0, subst (λ z. AllCodes bases a.0 z) (drop_more codes k c h ∙ ap (λ (x : Code). x ∷ drop (k + 1) codes) (sym e)) a.1, a.2)

pub ahead_first : (bases : List ℕ) (codes others : List Code) (number : ℕ) → others ≡ codes → AllCodes bases 0 codes → Ahead bases others 0 number number
ahead_first bases codes others number e all = (0, subst (λ z. AllCodes bases 0 z) (sym e) all, omega arith)

pub ahead_next : (bases : List ℕ) (codes : List Code) (k : ℕ) (c : Code) (number left count : ℕ) → k < length codes → c ≡ get_or codes k c → count ≡ length c.locations → count ≤ left → Ahead bases codes k number left
    → Ahead bases codes (k + 1) number (left - count)
ahead_next bases codes k c number left count h e n m a =
    let x = here bases codes k c number left h e a in
    (x.0 + length c.locations, x.1.2, omega (arith, x.2, n, m))

-- a code's locations are few
pub count_fits : (bases : List ℕ) (codes : List Code) (k : ℕ) (c : Code) (number left count : ℕ) → k < length codes → c ≡ get_or codes k c → count ≡ length c.locations → length bases ≤ 65536 → Ahead bases codes k number left → count ≤ 65536
count_fits bases codes k c number left count h e n small a =
    let x = here bases codes k c number left h e a in
    omega (arith, n, small, codes_end bases (x.0 + length c.locations) (drop (k + 1) codes) x.1.2)

pub stands_here : (p : Parts) (codes : List Code) (k : ℕ) (c : Code) (number left count : ℕ) → codes ≡ p.codes → k < length codes → c ≡ get_or codes k c → count ≡ length c.locations → left < count → Ahead p.bases codes k number left
    → StandsAt p number k left
stands_here p codes k c number left count same h e n m a =
    let x = here p.bases codes k c number left h e a in
    record {
      found = c;
      is = ap (λ z. slice_get z k) (sym same) ∙ slice_get-get_or codes k c h ∙ ap (λ (y : Code). Some y) (sym e);
      number_is = omega (arith, x.1.0, x.2);
      within = omega (arith, m, n);
    }

-- there is a code for each number below that of the locations
pub none_left : (bases : List ℕ) (codes : List Code) (k number left : ℕ) → length codes ≤ k → number < length bases → Ahead bases codes k number left → ⊥
none_left bases codes k number left h m a =
    let ends : AllCodes bases a.0 [] = subst (λ z. AllCodes bases a.0 z) (drop_all k codes h) a.1 in
    absurd (omega (arith, m, ends, a.2))
