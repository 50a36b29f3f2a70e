-- What a text spells, case by case: its lines, the tokens in them, logical lines with their indentation, and items.
use Rattle.std.specs.Prelude.{◌≡◌, ℕ, suc, ◌+◌, ◌≤◌, ◌==◌, Bool, true, false, List, [], ◌∷◌, ◌++◌, length, map, chars, Some}
use Rattle.std.specs.List.{list_all}
use Rattle.std.specs.Str.{is_utf8}
use Rattle.mon_lexer.specs.Characters.{without_mark, is_blank, is_inside_line}
use Rattle.mon_lexer.specs.Reading.{line_past}
use Rattle.mon_lexer.specs.Lines.{HasLines, joined}
use Rattle.mon_lexer.specs.Lexemes.{IsNext}
use Rattle.mon_lexer.specs.Top.{last_line, lexfault}
use Rattle.mon_lexer.specs.declared.token.LexFault.{LexFault}
use Rattle.mon_lexer.specs.Pieces.{Placed}
use Rattle.mon_lexer.specs.Layout.{open_after, indentation, is_deeper, is_mixed, top_of, first_line}
use Rattle.mon_lexer.specs.declared.piece.Piece.{Piece}
use Rattle.mon_lexer.specs.declared.piece.Piece.TheVariants.{Blank, Joined, Comment, LineEnd, Word}
use Rattle.mon_lexer.specs.declared.token.Kind.{Kind}
use Rattle.mon_lexer.specs.declared.token.Kind.TheVariants as kind
use Rattle.mon_lexer.specs.declared.token.Token.{Token}
use Rattle.mon_lexer.specs.declared.token.Item.{Item}

abbrev pub at : ℕ → Piece → Placed
at line p = record { line = line; piece = p }

abbrev pub token : Kind → ℕ → Token
token k line = record { kind = k; line = line }

-- the text ends there, or a line does
abbrev pub is_at_line_end : List ℕ → Bool
is_at_line_end [] = true
is_at_line_end (c ∷ cs) = c == 10

-- Characters, each line end one LF, from a line on, and what stands there: tokens, and what is between them. The end of the text ends a line.
pub data Cut : ℕ → List ℕ → List Placed → Type 0 where
  text_end : {line : ℕ} → Cut line [] (at line LineEnd ∷ [])
  blank : {line c : ℕ} {cs : List ℕ} {ps : List Placed} → is_blank c ≡ true → Cut line cs ps → Cut line (c ∷ cs) (at line (Blank c) ∷ ps)
  comment : {line : ℕ} (cs : List ℕ) {behind : List ℕ} {ps : List Placed} → list_all is_inside_line cs ≡ true → is_at_line_end behind ≡ true → Cut line behind ps → Cut line (35 ∷ (cs ++ behind)) (at line Comment ∷ ps)
  joins : {line : ℕ} {cs : List ℕ} {ps : List Placed} → Cut (line + 1) cs ps → Cut line (92 ∷ 10 ∷ cs) (at line Joined ∷ ps)
  line_end : {line : ℕ} {cs : List ℕ} {ps : List Placed} → Cut (line + 1) cs ps → Cut line (10 ∷ cs) (at line LineEnd ∷ ps)
  word : {line : ℕ} {cs w behind : List ℕ} {k : Kind} {ps : List Placed} → IsNext cs w k behind → Cut (line_past w line) behind ps → Cut line cs (at line (Word k) ∷ ps)

-- white space: no token, and no end of a line
abbrev pub is_white : Placed → Bool
is_white p = elim p.piece [ Blank c ↦ true | Joined ↦ true | Comment ↦ true | _ ↦ false ]

-- The tokens of a logical line, up to the line end that ends it, and what follows. While `depth` brackets are open, line ends are white space.
pub data Tokens : ℕ → List Placed → List Token → List Placed → Type 0 where
  stops : {depth : ℕ} → Tokens depth [] [] []
  ends : {line : ℕ} {ps : List Placed} → Tokens 0 (at line LineEnd ∷ ps) (token kind.Newline line ∷ []) ps
  goes_on : {depth line : ℕ} {ps rest : List Placed} {ts : List Token} → Tokens (suc depth) ps ts rest → Tokens (suc depth) (at line LineEnd ∷ ps) ts rest
  over_white : {depth : ℕ} {p : Placed} {ps rest : List Placed} {ts : List Token} → is_white p ≡ true → Tokens depth ps ts rest → Tokens depth (p ∷ ps) ts rest
  a_token : {depth line : ℕ} {k : Kind} {ps rest : List Placed} {ts : List Token} → Tokens (open_after depth (Word k)) ps ts rest → Tokens depth (at line (Word k) ∷ ps) (token k line ∷ ts) rest

-- a logical line, with the line on which it begins
pub record LogicalLine : Type 0 where
  pub line : ℕ
  pub indentation : List ℕ
  pub tokens : List Token

-- Logical lines: a line of white space alone is skipped, and another begins with white space, its indentation, and a token.
pub data Logical : List Placed → List LogicalLine → Type 0 where
  none : {w : List Placed} → list_all is_white w ≡ true → Logical w []
  skipped : (w : List Placed) (line : ℕ) {ps : List Placed} {ls : List LogicalLine} → list_all is_white w ≡ true → Logical ps ls → Logical (w ++ at line LineEnd ∷ ps) ls
  a_line : (w : List Placed) {ps rest : List Placed} {line : ℕ} {k : Kind} {ts : List Token} {ls : List LogicalLine} → list_all is_white w ≡ true → Tokens 0 (at line (Word k) ∷ ps) ts rest → Logical rest ls
      → Logical (w ++ at line (Word k) ∷ ps) (record { line = first_line (w ++ at line (Word k) ∷ []); indentation = indentation w; tokens = ts } ∷ ls)

-- Indentations are closed, with a Dedent token each, until the top of the open ones is equal.
pub data Closes (line : ℕ) (w : List ℕ) : List (List ℕ) → List Token → List (List ℕ) → Type 0 where
  level : {below : List (List ℕ)} → Closes line w (w ∷ below) [] (w ∷ below)
  close : {top : List ℕ} {below stack : List (List ℕ)} {ts : List Token} → (top ≡ w → ⊥) → Closes line w below ts stack → Closes line w (top ∷ below) (token kind.Dedent line ∷ ts) stack

-- What an indentation shows, and the open ones behind: it is not mixed, and it is deeper, level, or closes some.
pub data Indents (line : ℕ) (w : List ℕ) (stack : List (List ℕ)) : List Token → List (List ℕ) → Type 0 where
  deeper : is_mixed w ≡ false → is_deeper w (top_of stack) ≡ true → Indents line w stack (token kind.Indent line ∷ []) (w ∷ stack)
  not_deeper : {ts : List Token} {new : List (List ℕ)} → is_mixed w ≡ false → is_deeper w (top_of stack) ≡ false → Closes line w stack ts new → Indents line w stack ts new

-- at the end all are closed, on the last line
pub data AllClosed (last : ℕ) : List (List ℕ) → List Token → Type 0 where
  nothing : AllClosed last [] []
  bottom : {w : List ℕ} → AllClosed last (w ∷ []) []
  close_top : {top next : List ℕ} {below : List (List ℕ)} {ts : List Token} → AllClosed last (next ∷ below) ts → AllClosed last (top ∷ next ∷ below) (token kind.Dedent last ∷ ts)

-- Logical lines, the tokens that they add to the item that is open, and the items that they begin: a line without indentation begins one.
pub data Holds (last : ℕ) : List (List ℕ) → List LogicalLine → List Token → List Item → Type 0 where
  no_line : {stack : List (List ℕ)} {ts : List Token} → AllClosed last stack ts → Holds last stack [] ts []
  indented : {stack new : List (List ℕ)} {line c : ℕ} {cs : List ℕ} {shown ts more : List Token} {ls : List LogicalLine} {found : List Item}
      → Indents line (c ∷ cs) stack shown new → Holds last new ls more found
      → Holds last stack (record { line = line; indentation = c ∷ cs; tokens = ts } ∷ ls) (shown ++ (ts ++ more)) found
  an_item : {stack new : List (List ℕ)} {line : ℕ} {shown ts more : List Token} {ls : List LogicalLine} {found : List Item}
      → Indents line [] stack shown new → Holds last new ls more found
      → Holds last stack (record { line = line; indentation = []; tokens = ts } ∷ ls) shown (record { tokens = ts ++ more } ∷ found)

-- The first logical line has no indentation.
pub data Begins (last : ℕ) : List LogicalLine → List Item → Type 0 where
  empty : Begins last [] []
  first_item : {line : ℕ} {ts : List Token} {ls : List LogicalLine} {found : List Item}
      → Holds last ([] ∷ []) (record { line = line; indentation = []; tokens = ts } ∷ ls) [] found → Begins last (record { line = line; indentation = []; tokens = ts } ∷ ls) found

-- A text of up to 262,144 bytes in UTF-8 spells these items. Its lines are counted from 1.
pub record Spells (bytes : List ℕ) (items : List Item) : Type 0 where
  pub small : length bytes ≤ 262144
  pub utf8 : is_utf8 bytes ≡ true
  pub lines : List (List ℕ)
  pub in_lines : HasLines bytes lines
  pub pieces : List Placed
  pub cut : Cut 1 (without_mark (joined (map chars lines))) pieces
  pub logical : List LogicalLine
  pub in_logical : Logical pieces logical
  pub begins : Begins (last_line (without_mark (joined (map chars lines)))) logical items

-- a text spells at most one list of items, and none where it has a fault
abbrev pub SpellsOnce : Type 0
SpellsOnce = ((bytes : List ℕ) (some other : List Item) → Spells bytes some → Spells bytes other → some ≡ other)
    × ((bytes : List ℕ) (items : List Item) (f : LexFault) → Spells bytes items → lexfault bytes ≡ Some f → ⊥)
