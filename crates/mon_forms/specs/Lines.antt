-- The lines of a plan, and the words of a line.
use Rattle.std.specs.Prelude.{ℕ, ◌-◌, ◌==◌, Bool, true, false, ◌&&◌, ◌||◌, nat_le, List, [], ◌∷◌, if◌then◌else◌}
use Rattle.std.specs.List.{list_all, slice_split}

-- without the CR at the end of a line, if it has one
abbrev pub without_return : List ℕ → List ℕ
without_return [] = []
without_return (c ∷ []) = if c == 13 then [] else c ∷ []
without_return (c ∷ d ∷ cs) = c ∷ without_return (d ∷ cs)

-- an LF ends each part but the last, which is no line where it is empty
abbrev pub ended : List (List ℕ) → List (List ℕ)
ended [] = []
ended ([] ∷ []) = []
ended ((c ∷ cs) ∷ []) = (c ∷ cs) ∷ []
ended (line ∷ next ∷ rest) = without_return line ∷ ended (next ∷ rest)

abbrev pub lines_of : List ℕ → List (List ℕ)
lines_of text = ended (slice_split (λ b. b == 10) text)

-- a space or a tab
abbrev pub is_blank : ℕ → Bool
is_blank c = c == 32 || c == 9

abbrev pub without_empty : List (List ℕ) → List (List ℕ)
without_empty [] = []
without_empty ([] ∷ words) = without_empty words
without_empty ((c ∷ cs) ∷ words) = (c ∷ cs) ∷ without_empty words

-- the words of a line, which spaces and tabs part
abbrev pub words_of : List ℕ → List (List ℕ)
words_of line = without_empty (slice_split is_blank line)

-- the word with this number, counted from 0, or an empty one
abbrev pub word_at : ℕ → List (List ℕ) → List ℕ
word_at at [] = []
word_at at (word ∷ words) = if at == 0 then word else word_at (at - 1) words

abbrev pub begins_with : ℕ → List ℕ → Bool
begins_with mark [] = false
begins_with mark (c ∷ cs) = c == mark

-- a line without words, or a comment, which begins with `#`
abbrev pub is_skipped : List (List ℕ) → Bool
is_skipped [] = true
is_skipped (word ∷ words) = begins_with 35 word

-- printable ASCII, or a tab
abbrev pub is_plain : ℕ → Bool
is_plain c = nat_le 32 c && nat_le c 126 || c == 9

abbrev pub is_plain_line : List ℕ → Bool
is_plain_line line = list_all is_plain line
