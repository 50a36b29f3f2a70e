-- The locations of a program by their numbers.
use Rattle.std.proofs.Common.{◌≡◌, ℕ, zero, suc, ◌+◌, ◌^◌, ◌<◌, List, [], ◌∷◌, ◌++◌, length, map, refl, sym, ap, ◌∙◌, arith, length-append}
use Rattle.std.specs.Prelude.{Some, option_map, slice_get, slice_index_or, if◌then◌else◌}
use Rattle.std.proofs.lemmas.Option.{same_Some, none-some, get_or_from_slice_get, slice_get-map}
use Rattle.mon_code.specs.declared.program.Code.{Code}
use Rattle.mon_code.specs.declared.program.Location.{Location}
use Rattle.mon_code.specs.Programs.{Parts, location_at}
use Rattle.mon_code.specs.Checked.{IsChecked, AllCodes}
use Rattle.mon_words.specs.Words.{cell_of}
use Rattle.mon_words.specs.History.{cell_at, no_cell}
use Rattle.mon_words.specs.declared.history.Board.{Board}
use Rattle.mon_words.specs.declared.history.Cell.{Cell}
use Rattle.mon_machine.specs.Serial.{WantsLine, HasLineWants, of_locations, of_codes}

length_locations : {X : Type 0} (g : ℕ → Location → X) (from : ℕ) (ls : List Location) → length (of_locations g from ls) ≡ length ls
length_locations g from [] = refl
length_locations g from (l ∷ ls) = ap suc (length_locations g (from + 1) ls)

location_of : {X : Type 0} (g : ℕ → Location → X) (from : ℕ) (ls : List Location) (i : ℕ) (l : Location) → slice_get ls i ≡ Some l → slice_get (of_locations g from ls) i ≡ Some (g (from + i) l)
location_of g from [] i l e = absurd (none-some l e)
location_of g from (x ∷ ls) zero l e =
    let here : from ≡ from + 0 = omega arith in
    ap (λ (y : Location). Some (g from y)) (same_Some x l e) ∙ ap (λ (n : ℕ). Some (g n l)) here
location_of g from (x ∷ ls) (suc i) l e =
    let there : from + 1 + i ≡ from + suc i = omega arith in
    location_of g (from + 1) ls i l e ∙ ap (λ (n : ℕ). Some (g n l)) there

-- an element of the first of two lists, and of the second
in_first : {X : Type 0} (xs ys : List X) (i : ℕ) (x : X) → slice_get xs i ≡ Some x → slice_get (xs ++ ys) i ≡ Some x
in_first [] ys i x e = absurd (none-some x e)
in_first (y ∷ xs) ys zero x e = e
in_first (y ∷ xs) ys (suc i) x e = in_first xs ys i x e

in_second : {X : Type 0} (xs ys : List X) (i : ℕ) → slice_get (xs ++ ys) (length xs + i) ≡ slice_get ys i
in_second [] ys i = let e : 0 + i ≡ i = omega arith in ap (λ (n : ℕ). slice_get ys n) e
in_second (x ∷ xs) ys i =
    let e : suc (length xs) + i ≡ suc (length xs + i) = omega arith in
    ap (λ (n : ℕ). slice_get (x ∷ (xs ++ ys)) n) e ∙ in_second xs ys i

code_of : {X : Type 0} (g : ℕ → Location → X) (bases : List ℕ) (from : ℕ) (cs : List Code) (k i : ℕ) (c : Code) (l : Location) → AllCodes bases from cs → slice_get cs k ≡ Some c → slice_get c.locations i ≡ Some l
    → (n : ℕ) × (from + n ≡ c.first + i) × (slice_get (of_codes g from cs) n ≡ Some (g (c.first + i) l))
code_of g bases from [] k i c l a e h = absurd (none-some c e)
code_of g bases from (x ∷ cs) zero i c l a e h =
    let is : x ≡ c = same_Some x c e in
    let first : c.first ≡ from = ap (λ (d : Code). d.first) (sym is) ∙ a.0 in
    let there : slice_get x.locations i ≡ Some l = ap (λ (d : Code). slice_get d.locations i) is ∙ h in (
      i,
      ap (λ (n : ℕ). n + i) (sym first),
      in_first (of_locations g from x.locations) (of_codes g (from + length x.locations) cs) i (g (from + i) l) (location_of g from x.locations i l there) ∙ ap (λ (n : ℕ). Some (g (n + i) l)) (sym first),
    )
code_of g bases from (x ∷ cs) (suc k) i c l a e h =
    let rest = code_of g bases (from + length x.locations) cs k i c l a.2 e h in
    let number : from + length x.locations + rest.0 ≡ c.first + i = rest.1 in (
      length x.locations + rest.0,
      omega (arith, number),
      ap (λ (n : ℕ). slice_get (of_locations g from x.locations ++ of_codes g (from + length x.locations) cs) (n + rest.0)) (sym (length_locations g from x.locations))
          ∙ in_second (of_locations g from x.locations) (of_codes g (from + length x.locations) cs) rest.0 ∙ rest.2,
    )

-- one thing for each location of a checked program stands at the location's number
pub of_codes_at : {X : Type 0} (g : ℕ → Location → X) (p : Parts) (k i : ℕ) (c : Code) (l : Location) → IsChecked p → slice_get p.codes k ≡ Some c → location_at c i ≡ Some l → slice_get (of_codes g 0 p.codes) (c.first + i) ≡ Some (g (c.first + i) l)
of_codes_at g p k i c l checked found stands =
    let at = code_of g p.bases 0 p.codes k i c l checked.codes found stands in
    let number : at.0 ≡ c.first + i = omega (arith, at.1) in
    ap (λ (n : ℕ). slice_get (of_codes g 0 p.codes) n) (sym number) ∙ at.2

length_codes : {X : Type 0} (g : ℕ → Location → X) (bases : List ℕ) (from : ℕ) (cs : List Code) → AllCodes bases from cs → from + length (of_codes g from cs) ≡ length bases
length_codes g bases from [] a = omega (arith, a)
length_codes g bases from (c ∷ cs) a =
    omega (arith, length-append (of_locations g from c.locations) (of_codes g (from + length c.locations) cs), length_locations g from c.locations, length_codes g bases (from + length c.locations) cs a.2)

-- and there is one for each base opcode
pub length_of_codes : {X : Type 0} (g : ℕ → Location → X) (p : Parts) → IsChecked p → length (of_codes g 0 p.codes) ≡ length p.bases
length_of_codes g p checked = omega (arith, length_codes g p.bases 0 p.codes checked.codes)

-- a board of words that want LINE for one tool at the marked locations, and all of whose bits are live
pub wants_of_words : (p : Parts) (tool : ℕ) (word : ℕ → Location → ℕ) (b : Board) → IsChecked p → tool < 6
    → ((number : ℕ) (l : Location) → ((cell_of (word number l)).want ≡ (if l.is_marked then 2 ^ tool else 0)) × ((cell_of (word number l)).live ≡ 16777215))
    → b.cells ≡ map cell_of (of_codes word 0 p.codes) → HasLineWants p tool b
wants_of_words p tool word b checked within each made = record { within = within; cells = cells }
  where
    cells : (k i : ℕ) (c : Code) (l : Location) → slice_get p.codes k ≡ Some c → location_at c i ≡ Some l → WantsLine tool b (c.first + i) l
    cells k i c l found stands =
        let words = of_codes word 0 p.codes in
        let n : ℕ = c.first + i in
        let here : slice_get (map cell_of words) n ≡ Some (cell_of (word n l)) = slice_get-map cell_of words n ∙ ap (option_map cell_of) (of_codes_at word p k i c l checked found stands) in
        let is : cell_at b n ≡ cell_of (word n l) = ap (λ (cs : List Cell). slice_index_or cs n no_cell) made ∙ get_or_from_slice_get (map cell_of words) n (cell_of (word n l)) no_cell here in
        record { want = ap (λ (x : Cell). x.want) is ∙ (each n l).0; live = ap (λ (x : Cell). x.live) is ∙ (each n l).1 }
