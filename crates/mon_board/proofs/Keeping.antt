-- What the one seat knows of the board that stands, after a step.
use Rattle.std.proofs.Common.{◌≡◌, ℕ, ◌+◌, ◌<◌, ◌%◌, ◌⊎◌, ⊎_elim, List, [], ◌∷◌, ◌++◌, map, length, refl, sym, ap, ◌∙◌, subst, arith}
use Rattle.mon_words.specs.Words.{cell_of, clear, Allowed}
use Rattle.mon_words.specs.History.{cell_at, clear_at, after, base_in}
use Rattle.mon_words.specs.Standing.{overlay, put_word}
use Rattle.mon_words.specs.declared.history.Cell.{Cell}
use Rattle.mon_words.specs.declared.history.Board.{Board}
use Rattle.mon_words.specs.declared.history.Mark.{Mark}
use Rattle.mon_words.specs.declared.history.Mark.TheVariants.{Off, Put}
use Rattle.mon_words.specs.declared.tally.Tally.{Tally}
use Rattle.mon_words.proofs.Histories.{after-off, after-put}
use Rattle.mon_words.proofs.Standing.{bases_length, bases_set, kinds, put-size, put-bases, put-cells}
use Rattle.mon_board.specs.Plain.{standing, put_of}
use Rattle.mon_board.specs.declared.plain_view.PlainView.{PlainView}

pub record Knows (v : PlainView) : Type 0 where
  pub based : map base_in (standing v).cells ≡ map base_in v.first.cells
  pub six : length (standing v).callbacks ≡ 6

-- the board that stands has the locations of the first one
pub same_cells : (xs ys : List Cell) → map base_in xs ≡ map base_in ys → length xs ≡ length ys
same_cells xs ys e = omega (arith, bases_length xs, bases_length ys, ap length e)

pub disabled : (v w : PlainView) (t l k : ℕ) (y : Tally) → v.written ≡ [] → w ≡ record v { seen = v.seen ++ Off t l k ∷ []; tally = y } → Knows v → Knows w
disabled v w t l k y running is knows =
    let board : Board = after v.first v.seen in
    let old : standing v ≡ board = ap (overlay board) running in
    let new : standing (record v { seen = v.seen ++ Off t l k ∷ []; tally = y }) ≡ clear_at board l k = (λ i. overlay (after-off v.first v.seen t l k i) v.written) ∙ ap (overlay (clear_at board l k)) running in
    subst Knows (sym is) record {
      based = ap (λ (b : Board). map base_in b.cells) new ∙ (bases_set board.cells l (clear (cell_at board l) k) refl ∙ (ap (λ (b : Board). map base_in b.cells) (sym old) ∙ knows.based));
      six = ap (λ (b : Board). length b.callbacks) (new ∙ refl) ∙ (ap (λ (b : Board). length b.callbacks) (sym old) ∙ knows.six);
    }

pub stored : (v w : PlainView) (j n : ℕ) (y : Tally) → ((l : ℕ) → j ≡ 7 + l → ((cell_of n).base ≡ (cell_at (standing v) l).base) × Allowed (cell_of n) (n % 256)) → w ≡ record v { written = record { place = j; word = n } ∷ v.written; tally = y } → Knows v → Knows w
stored v w j n y fine is knows = let b : Board = standing v in
    let bases : map base_in (put_word b j n).cells ≡ map base_in b.cells = ⊎_elim
    (λ (e : j ≡ 0). ap (λ (z : ℕ). map base_in (put_word b z n).cells) e)
    (λ (h : ((t : ℕ) × (t < 6) × (j ≡ 1 + t)) ⊎ ((l : ℕ) × (j ≡ 7 + l))). ⊎_elim
    (λ (c : (t : ℕ) × (t < 6) × (j ≡ 1 + t)). ap (λ (z : ℕ). map base_in (put_word b z n).cells) c.2 ∙ ap (map base_in) (put-cells b c.0 n c.1))
    (λ (c : (l : ℕ) × (j ≡ 7 + l)). ap (λ (z : ℕ). map base_in (put_word b z n).cells) c.1 ∙ put-bases b c.0 n (fine c.0 c.1).0) h)
    (kinds j) in
    subst Knows (sym is) record { based = bases ∙ knows.based; six = (put-size b j n).1 ∙ knows.six }

pub released : (v w : PlainView) → w ≡ record v { seen = v.seen ++ put_of v ∷ []; noted = []; written = [] } → Knows v → Knows w
released v w is knows = subst Knows (sym is) (subst (λ (b : Board). (map base_in b.cells ≡ map base_in v.first.cells) × (length b.callbacks ≡ 6) → Knows (record v { seen = v.seen ++ put_of v ∷ []; noted = []; written = [] }))
    (after-put v.first v.seen (stops_of (put_of v)) (standing v))
    (λ h. record { based = h.0; six = h.1 }) (knows.based, knows.six))
  where
    stops_of : Mark → List ℕ
    stops_of (Off t l k) = []
    stops_of (Put stops b) = stops
