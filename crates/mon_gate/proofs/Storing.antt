-- What a stopped controller knows of the board that stands, after it stored a word.
use Rattle.std.proofs.Common.{◌≡◌, ℕ, ◌+◌, ◌<◌, ◌∷◌, map, length, sym, ap, ◌∙◌, subst}
use Rattle.mon_words.specs.Words.{cell_of, before_locations}
use Rattle.mon_words.specs.declared.tally.Tally.{Tally}
use Rattle.mon_words.specs.History.{cell_at, base_in}
use Rattle.mon_words.proofs.Standing.{put-size, put-bases, put-cells}
use Rattle.mon_gate.specs.Plays.{standing}
use Rattle.mon_gate.specs.declared.view.View.{View}

abbrev pub with_word : View → ℕ → ℕ → Tally → View
with_word v j n t = record v { written = record { place = j; word = n } ∷ v.written; tally = t }

pub record Knows (v : View) : Type 0 where
  pub based : map base_in (standing v).cells ≡ map base_in v.first.cells
  pub six : length (standing v).callbacks ≡ 6

pub rewritten : (v w : View) (l n : ℕ) (t : Tally) → (cell_of n).base ≡ (cell_at (standing v) l).base → w ≡ with_word v (before_locations + l) n t → Knows v → Knows w
rewritten v w l n t base is k = subst Knows (sym is) record { based = put-bases (standing v) l n base ∙ k.based; six = (put-size (standing v) (before_locations + l) n).1 ∙ k.six }

pub with_callbacks : (v w : View) (t n : ℕ) → t < 6 → w ≡ with_word v (1 + t) n v.tally → Knows v → Knows w
with_callbacks v w t n low is k = subst Knows (sym is) record { based = ap (map base_in) (put-cells (standing v) t n low) ∙ k.based; six = (put-size (standing v) (1 + t) n).1 ∙ k.six }
