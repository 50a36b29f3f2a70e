-- The first words of a program.
use Rattle.std.proofs.Common.{◌≡◌, ℕ, zero, suc, ◌+◌, ◌*◌, ◌/◌, ◌%◌, ◌<◌, List, [], ◌∷◌, map, length, get_or, refl, sym, subst, arith}
use Rattle.std.proofs.lemmas.List.{length-map}
use Rattle.mon_words.specs.Words.{cell_of, first_word, first_words, need, Allowed}
use Rattle.mon_words.specs.History.{base_in}
use Rattle.mon_words.specs.Standing.{board_of, IsFirst}
use Rattle.mon_words.specs.declared.history.Cell.{Cell}

parts : (b : ℕ) → b < 256 → let n = b + b * 256 + 0 * 65536 + 16777215 * 1099511627776 in (n / 256 % 256 ≡ b) × (n / 65536 % 16777216 ≡ 0) × (n / 1099511627776 ≡ 16777215) × (n % 256 ≡ b)
parts b h = (omega arith, omega arith, omega arith, omega arith)

abbrev first_cell : ℕ → Cell
first_cell b = record { base = b; want = 0; live = 16777215 }

cell_is : (b : ℕ) → b < 256 → cell_of (first_word b) ≡ first_cell b
cell_is b h = let p = parts b h in λ i. record { base = p.0 i; want = p.1 i; live = p.2 i }

allowed : (b : ℕ) → b < 256 → Allowed (cell_of (first_word b)) (first_word b % 256)
allowed b h = let none : need (first_cell b) ≡ 0 = refl in
    subst (λ (c : Cell). Allowed c (first_word b % 256)) (sym (cell_is b h)) (0, omega arith, omega arith, (parts b h).3)

abbrev Bytes : List ℕ → Type 0
Bytes bases = (n : ℕ) → get_or bases n 0 < 256

bases_of : (bases : List ℕ) → Bytes bases → map base_in (map cell_of (map first_word bases)) ≡ bases
bases_of [] h = refl
bases_of (b ∷ bs) h = let here : base_in (cell_of (first_word b)) ≡ b = (parts b (h zero)).0 in let rest = bases_of bs (λ n. h (suc n)) in λ i. here i ∷ rest i

pub first-bases : (bases : List ℕ) → Bytes bases → map base_in (board_of (first_words bases)).cells ≡ bases
first-bases bases h = bases_of bases h

allowed_at : (bases : List ℕ) → Bytes bases → (l : ℕ) → l < length bases → Allowed (cell_of (get_or (map first_word bases) l 0)) (get_or (map first_word bases) l 0 % 256)
allowed_at [] h l low = absurd (omega arith)
allowed_at (b ∷ bs) h zero low = allowed b (h zero)
allowed_at (b ∷ bs) h (suc l) low = allowed_at bs (λ n. h (suc n)) l (omega arith)

pub first-is : (bases : List ℕ) → Bytes bases → IsFirst (first_words bases)
first-is bases h = let n = length-map bases first_word in record {
  long = omega arith;
  allowed = λ l low. let behind : 7 + l ≡ suc (suc (suc (suc (suc (suc (suc l)))))) = omega arith in
      subst (λ (i : ℕ). Allowed (cell_of (get_or (first_words bases) i 0)) (get_or (first_words bases) i 0 % 256)) (sym behind) (allowed_at bases h l (omega arith));
}
