-- A pass over tokens that counts brackets.
use Rattle.std.proofs.Common.{◌≡◌, ℕ, ◌+◌, ◌<◌, ◌≤◌, max, List, ◌∷◌, length, get_or, drop, sym, ap, ◌∙◌, arith}
use Rattle.std.proofs.lemmas.List.{drop_more, drop_all}
use Rattle.mon_lexer.specs.declared.token.Token.{Token}
use Rattle.mon_lexer.specs.declared.token.Kind.{Kind}
use Rattle.mon_lexer.specs.declared.token.Kind.TheVariants as kind
use Rattle.mon_lexer.specs.declared.token.Operator.TheVariants as operator
use Rattle.mon_parser.specs.Tokens.{most_open, open_after}
use Rattle.mon_parser.proofs.Nested.{n_most}

pub after_most : (n : ℕ) (k : Kind) → open_after n k ≤ n + 1
after_most n (kind.Operator operator.OpenRound) = omega arith
after_most n (kind.Operator operator.OpenSquare) = omega arith
after_most n (kind.Operator operator.CloseRound) = omega arith
after_most n (kind.Operator operator.CloseSquare) = omega arith
after_most n _ = omega arith

pub scan_more : (tokens : List Token) (i before new most greatest whole : ℕ) (token : Token) → i < length tokens → token ≡ get_or tokens i token → new ≡ open_after before token.kind → greatest ≡ max most new → before ≤ most → max most (most_open before (drop i tokens)) ≡ whole → max greatest (most_open new (drop (i + 1) tokens)) ≡ whole
scan_more tokens i before new most greatest whole token h e n g o w =
    let here : drop i tokens ≡ token ∷ drop (i + 1) tokens = drop_more tokens i token h ∙ ap (λ z. z ∷ drop (i + 1) tokens) (sym e) in
    let scanned : most_open before (drop i tokens) ≡ max before (most_open (open_after before token.kind) (drop (i + 1) tokens)) = ap (λ z. most_open before z) here in
    let next : most_open new (drop (i + 1) tokens) ≡ most_open (open_after before token.kind) (drop (i + 1) tokens) = ap (λ k. most_open k (drop (i + 1) tokens)) n in
    omega (arith, scanned, next, n_most new (drop (i + 1) tokens))

pub scan_ends : (tokens : List Token) (i before most whole : ℕ) → length tokens ≤ i → before ≤ most → max most (most_open before (drop i tokens)) ≡ whole → most ≡ whole
scan_ends tokens i before most whole h o w =
    let last : most_open before (drop i tokens) ≡ before = ap (λ z. most_open before z) (drop_all i tokens h) in
    omega (arith, last)
