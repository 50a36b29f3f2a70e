-- Tokens by the characters that spell them, and which of them stands at a place: the longest.
use Rattle.std.specs.Prelude.{◌≡◌, ℕ, ◌≤◌, Bool, true, false, ◌&&◌, pos, List, [], ◌∷◌, ◌++◌, ◌==◌, nat_le, length, find, Option, Some, None, option_map}
use Rattle.std.specs.Char.{is_ascii_digit}
use Rattle.std.specs.List.{list_all}
use Rattle.std.specs.Str.{bytes_eq}
use Rattle.mon_lexer.specs.Characters.{is_letter, is_name_char, is_number_char, is_quote, begins}
use Rattle.mon_lexer.specs.Numbers.{is_digit_of, worth, number_of}
use Rattle.mon_lexer.specs.Texts.{simple}
use Rattle.mon_lexer.specs.Words.{operators}
use Rattle.mon_lexer.specs.Pieces.{keyword}
use Rattle.mon_lexer.specs.declared.token.Operator.{Operator}
use Rattle.mon_lexer.specs.declared.token.Kind.{Kind}
use Rattle.mon_lexer.specs.declared.token.Kind.TheVariants as kind

-- a letter or `_`, then letters, digits and `_`
abbrev pub is_name : List ℕ → Bool
is_name [] = false
is_name (c ∷ cs) = is_letter c && list_all is_name_char cs

-- a digit, then letters, digits, `_` and `.`: what may be a number
abbrev pub is_digit_run : List ℕ → Bool
is_digit_run [] = false
is_digit_run (c ∷ cs) = is_ascii_digit c && list_all is_number_char cs

unfoldable pub operator_named : List ℕ → Option Operator
operator_named w = option_map (λ o. o.1) (find (λ o. bytes_eq o.0 w) operators)

-- so many hexadecimal digits, which spell no surrogate
pub record IsHex (n : ℕ) (ds : List ℕ) : Type 0 where
  pub size : length ds ≡ n
  pub digits : list_all (λ d. is_digit_of 16 d) ds ≡ true
  pub no_surrogate : (nat_le 0xD800 (worth 16 0 ds) && nat_le (worth 16 0 ds) 0xDFFF) ≡ false

-- an escape, from behind its backslash, and what it stands for
pub data IsEscape : List ℕ → List ℕ → Type 0 where
  line_end : IsEscape (10 ∷ []) []
  letter : {c d : ℕ} → simple c ≡ Some d → IsEscape (c ∷ []) (d ∷ [])
  hex_two : {ds : List ℕ} → IsHex 2 ds → IsEscape (120 ∷ ds) (worth 16 0 ds ∷ [])
  hex_four : {ds : List ℕ} → IsHex 4 ds → IsEscape (117 ∷ ds) (worth 16 0 ds ∷ [])

-- what stands behind the opening of a text, to the end of its closing, and the value: the first closing ends it, and between single quotes no line ends
pub data Inside (closing : List ℕ) : List ℕ → List ℕ → Type 0 where
  closes : Inside closing closing []
  plain : {c : ℕ} {cs v : List ℕ} → begins closing (c ∷ cs) ≡ false → (c == 92) ≡ false → (c == 10 && length closing == 1) ≡ false → Inside closing cs v → Inside closing (c ∷ cs) (c ∷ v)
  escaped : {e s cs v : List ℕ} → IsEscape e s → Inside closing cs v → Inside closing (92 ∷ (e ++ cs)) (s ++ v)

-- one quote opens a text and one closes it, or three of the same do
pub data IsText : List ℕ → List ℕ → Type 0 where
  short : {q : ℕ} {cs v : List ℕ} → is_quote q ≡ true → Inside (q ∷ []) cs v → IsText (q ∷ cs) v
  long : {q : ℕ} {cs v : List ℕ} → is_quote q ≡ true → Inside (q ∷ q ∷ q ∷ []) cs v → IsText (q ∷ q ∷ q ∷ cs) v

pub data IsToken : List ℕ → Kind → Type 0 where
  keyword_is : {w : List ℕ} {k : _} → is_name w ≡ true → keyword w ≡ Some k → IsToken w (kind.Keyword k)
  name_is : {w : List ℕ} → is_name w ≡ true → keyword w ≡ None → IsToken w (kind.Name w)
  number_is : {w : List ℕ} {v : ℕ} → is_digit_run w ≡ true → number_of w ≡ Some v → IsToken w (kind.Number (pos v))
  text_is : {w v : List ℕ} → IsText w v → IsToken w (kind.Text v)
  operator_is : {w : List ℕ} {o : Operator} → operator_named w ≡ Some o → IsToken w (kind.Operator o)

-- what a token may be spelled by: a run that begins with a digit is a number or wrong, and three quotes open a text
pub data Lexeme : List ℕ → Type 0 where
  a_name : {w : List ℕ} → is_name w ≡ true → Lexeme w
  a_digit_run : {w : List ℕ} → is_digit_run w ≡ true → Lexeme w
  a_text : {w v : List ℕ} → IsText w v → Lexeme w
  an_opening : {q : ℕ} → is_quote q ≡ true → Lexeme (q ∷ q ∷ q ∷ [])
  an_operator : {w : List ℕ} {o : Operator} → operator_named w ≡ Some o → Lexeme w

-- this token is the next one of a text, and these characters spell it: no longer token begins there
pub record IsNext (text word : List ℕ) (k : Kind) (behind : List ℕ) : Type 0 where
  pub here : text ≡ word ++ behind
  pub token : IsToken word k
  pub longest : (longer rest : List ℕ) → Lexeme longer → text ≡ longer ++ rest → length longer ≤ length word
