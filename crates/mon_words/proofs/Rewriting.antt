-- What stands in a stopped world after some words were rewritten.
use Rattle.std.proofs.Common.{◌≡◌, ℕ, List, [], ◌∷◌, ◌++◌, set, refl, sym, ap, ◌∙◌, arith}
use Rattle.mon_words.specs.Words.{cell_of}
use Rattle.mon_words.specs.Standing.{overlay, rewrites}
use Rattle.mon_words.specs.Halted.{Halt, Lawful, cells_after, rewritten}
use Rattle.mon_words.specs.declared.history.Board.{Board}
use Rattle.mon_words.specs.declared.history.Cell.{Cell}
use Rattle.mon_words.specs.declared.history.Written.{Written}
use Rattle.mon_words.proofs.Standing.{by_kind, rewrites-location, rewrites-other}

cells_after-one : (cells : List Cell) (ws : List (ℕ × ℕ)) (w : ℕ × ℕ) → cells_after cells (ws ++ w ∷ []) ≡ set (cells_after cells ws) w.0 (cell_of w.1)
cells_after-one cells [] w = refl
cells_after-one cells (v ∷ vs) w = cells_after-one (set cells v.0 (cell_of v.1)) vs w

-- a halt whose words were stored over what the history leaves
pub overlay-cells : (b : Board) (ws : List Written) → (overlay b ws).cells ≡ cells_after b.cells (rewrites ws)
overlay-cells b [] = refl
overlay-cells b (w ∷ ws) = let rest = overlay-cells b ws in
    by_kind (λ (c : Board). c.cells ≡ cells_after b.cells (rewrites (w ∷ ws))) (overlay b ws) w.place w.word
    (λ e. rest ∙ sym (ap (cells_after b.cells) (rewrites-other ws w.place w.word (omega arith))))
    (λ t low e. rest ∙ sym (ap (cells_after b.cells) (rewrites-other ws w.place w.word (omega arith))))
    (λ l e. let one : rewrites (w ∷ ws) ≡ rewrites ws ++ (l, w.word) ∷ [] = ap (λ (p : ℕ). rewrites (record { place = p; word = w.word } ∷ ws)) e ∙ rewrites-location ws l w.word in
    ap (λ (c : List Cell). set c l (cell_of w.word)) rest ∙ sym (ap (cells_after b.cells) one ∙ cells_after-one b.cells (rewrites ws) (l, w.word)))

pub lawful-rewritten : (h : Halt) (location word : ℕ) → Lawful h → Lawful (rewritten h location word)
lawful-rewritten h location word l =
    ap (λ (c : List Cell). set c location (cell_of word)) l ∙ sym (cells_after-one _ h.written (location, word))
