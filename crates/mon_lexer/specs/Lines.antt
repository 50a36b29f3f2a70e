-- The lines of a text, which is given by its bytes in UTF-8 or by its characters. An LF, a CR LF or a CR ends a line.
-- What stands behind the last of these is the last line, and may be empty.
use Rattle.std.specs.Prelude.{◌≡◌, ℕ, Bool, true, false, not, ◌&&◌, List, [], ◌∷◌, ◌++◌, ◌==◌, map, chars, IsUtf8, All}
use Rattle.std.specs.List.{list_all}
use Rattle.mon_lexer.specs.Characters.{begins_with}

-- neither an LF nor a CR
abbrev pub is_in_line : ℕ → Bool
is_in_line c = not (c == 10) && not (c == 13)

abbrev pub IsLine : List ℕ → Type 0
IsLine l = list_all is_in_line l ≡ true

-- what ends a line, and what follows
pub data EndsLine : List ℕ → List ℕ → Type 0 where
  feed : {rest : List ℕ} → EndsLine (10 ∷ []) rest
  return_and_feed : {rest : List ℕ} → EndsLine (13 ∷ 10 ∷ []) rest
  return_alone : {rest : List ℕ} → begins_with 10 rest ≡ false → EndsLine (13 ∷ []) rest

pub data HasLines : List ℕ → List (List ℕ) → Type 0 where
  last : {l : List ℕ} → IsLine l → HasLines l (l ∷ [])
  more : {l mark rest : List ℕ} {ls : List (List ℕ)} → IsLine l → EndsLine mark rest → HasLines rest ls → HasLines (l ++ (mark ++ rest)) (l ∷ ls)

-- the lines with an LF between each two
abbrev pub joined_behind : List (List ℕ) → List ℕ
joined_behind [] = []
joined_behind (l ∷ ls) = 10 ∷ (l ++ joined_behind ls)

abbrev pub joined : List (List ℕ) → List ℕ
joined [] = []
joined (l ∷ ls) = l ++ joined_behind ls

-- a text has exactly one list of lines
abbrev pub LinesOnce : Type 0
LinesOnce = (text : List ℕ) → (ls : List (List ℕ)) × HasLines text ls × ((other : List (List ℕ)) → HasLines text other → other ≡ ls)

-- each line of a text in UTF-8 is in UTF-8, and the lines of its characters are the characters of its lines
abbrev pub LinesOfCharacters : Type 0
LinesOfCharacters = (bytes : List ℕ) (ls : List (List ℕ)) → IsUtf8 bytes → HasLines bytes ls → All IsUtf8 ls × HasLines (chars bytes) (map chars ls)
