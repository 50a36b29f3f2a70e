-- Words that stand for a board with the base opcodes of the first one.
use Rattle.std.proofs.Common.{◌≡◌, ℕ, zero, suc, List, [], ◌∷◌, map, get_or, refl, sym, ap, ◌∙◌}
use Rattle.mon_words.specs.Words.{cell_of, Shows}
use Rattle.mon_words.specs.History.{no_cell, cell_at, base_in}
use Rattle.mon_words.specs.declared.history.Cell.{Cell}
use Rattle.mon_words.specs.declared.history.Board.{Board}

base_at : (b : List Cell) (l : ℕ) → get_or (map base_in b) l 0 ≡ base_in (get_or b l no_cell)
base_at [] l = refl
base_at (c ∷ cs) zero = refl
base_at (c ∷ cs) (suc l) = base_at cs l

pub shown_base : (b c : Board) (l n : ℕ) → map base_in b.cells ≡ map base_in c.cells → Shows (cell_at b l) n → (cell_of n).base ≡ (cell_at c l).base
shown_base b c l n e h = ap base_in h.0 ∙ (sym (base_at b.cells l) ∙ (ap (λ (z : List ℕ). get_or z l 0) e ∙ base_at c.cells l))
