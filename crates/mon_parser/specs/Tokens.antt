-- Tokens by their names, and what the operators' tokens stand for.
use Rattle.std.specs.Prelude.{ℕ, ◌+◌, ◌-◌, max, pos, List, [], ◌∷◌, Option, Some, None}
use Rattle.mon_lexer.specs.declared.token.Token.{Token}
use Rattle.mon_lexer.specs.declared.token.Kind.{Kind}
use Rattle.mon_lexer.specs.declared.token.Kind.TheVariants as kind
use Rattle.mon_lexer.specs.declared.token.Keyword.{Keyword}
use Rattle.mon_lexer.specs.declared.token.Operator.{Operator}
use Rattle.mon_lexer.specs.declared.token.Operator.TheVariants as operator
use Rattle.mon_lexer.specs.declared.token.Keyword.TheVariants as word
use Rattle.mon_trees.specs.declared.tree.BinaryOperator.{BinaryOperator}
use Rattle.mon_trees.specs.declared.tree.BinaryOperator.TheVariants.{Add, Subtract, Multiply, FloorDivide, Remainder}
use Rattle.mon_trees.specs.declared.tree.Comparison.{Comparison}
use Rattle.mon_trees.specs.declared.tree.Comparison.TheVariants as comparison
use Rattle.mon_trees.specs.declared.tree.Method.{Method}
use Rattle.mon_trees.specs.declared.tree.Method.TheVariants as method
use Rattle.mon_trees.specs.declared.tree.Single.{Single}
use Rattle.mon_trees.specs.declared.tree.Single.TheVariants as single

-- the tokens of a kind on a line: keywords, operators, names, numbers without a sign, and texts
abbrev pub mark : Kind → ℕ → Token
mark k line = record { kind = k; line = line }

abbrev pub key : Keyword → ℕ → Token
key k line = mark (kind.Keyword k) line

abbrev pub symbol : Operator → ℕ → Token
symbol o line = mark (kind.Operator o) line

abbrev pub name : List ℕ → ℕ → Token
name n line = mark (kind.Name n) line

abbrev pub int : ℕ → ℕ → Token
int n line = mark (kind.Number (pos n)) line

abbrev pub text : List ℕ → ℕ → Token
text s line = mark (kind.Text s) line

-- the line of the first token
abbrev pub first_line : List Token → ℕ
first_line [] = 0
first_line (t ∷ ts) = t.line

-- the operators that join the parts of a sum, and of a term
abbrev pub sum_op : Kind → Option BinaryOperator
sum_op (kind.Operator operator.Plus) = Some Add
sum_op (kind.Operator operator.Minus) = Some Subtract
sum_op _ = None

abbrev pub term_op : Kind → Option BinaryOperator
term_op (kind.Operator operator.Star) = Some Multiply
term_op (kind.Operator operator.FloorDivide) = Some FloorDivide
term_op (kind.Operator operator.Percent) = Some Remainder
term_op _ = None

-- the operator of an augmented assignment
abbrev pub augmented_op : Kind → Option BinaryOperator
augmented_op (kind.Operator operator.PlusAssign) = Some Add
augmented_op (kind.Operator operator.MinusAssign) = Some Subtract
augmented_op (kind.Operator operator.StarAssign) = Some Multiply
augmented_op (kind.Operator operator.FloorDivideAssign) = Some FloorDivide
augmented_op (kind.Operator operator.PercentAssign) = Some Remainder
augmented_op _ = None

-- the comparisons of one token
abbrev pub cmp_op : Kind → Option Comparison
cmp_op (kind.Operator operator.Equal) = Some comparison.Equal
cmp_op (kind.Operator operator.NotEqual) = Some comparison.NotEqual
cmp_op (kind.Operator operator.Less) = Some comparison.Less
cmp_op (kind.Operator operator.LessEqual) = Some comparison.LessEqual
cmp_op (kind.Operator operator.Greater) = Some comparison.Greater
cmp_op (kind.Operator operator.GreaterEqual) = Some comparison.GreaterEqual
cmp_op (kind.Keyword word.In) = Some comparison.In
cmp_op _ = None

abbrev pub single_of : Kind → Option Single
single_of (kind.Keyword word.None) = Some single.None
single_of (kind.Keyword word.True) = Some single.True
single_of (kind.Keyword word.False) = Some single.False
single_of _ = None

-- the names that ask a generator: "send", "throw" and "close"
abbrev pub method_word : Method → List ℕ
method_word method.Send = 115 ∷ 101 ∷ 110 ∷ 100 ∷ []
method_word method.Throw = 116 ∷ 104 ∷ 114 ∷ 111 ∷ 119 ∷ []
method_word method.Close = 99 ∷ 108 ∷ 111 ∷ 115 ∷ 101 ∷ []

-- how many brackets are open behind a token, where some are open before it
abbrev pub open_after : ℕ → Kind → ℕ
open_after n (kind.Operator operator.OpenRound) = n + 1
open_after n (kind.Operator operator.OpenSquare) = n + 1
open_after n (kind.Operator operator.CloseRound) = n - 1
open_after n (kind.Operator operator.CloseSquare) = n - 1
open_after n _ = n

-- how many are open at once, at most
abbrev pub most_open : ℕ → List Token → ℕ
most_open n [] = n
most_open n (t ∷ ts) = max n (most_open (open_after n t.kind) ts)
