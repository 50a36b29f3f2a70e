-- With what an expression begins.
use Rattle.std.proofs.Common.{◌≡◌, ◌<◌, List, [], ◌∷◌, ◌++◌, refl, arith}
use Rattle.std.specs.Prelude.{Option, Some, None, ⊤, Bool, true, false}
use Rattle.mon_lexer.specs.declared.token.Token.{Token}
use Rattle.mon_lexer.specs.declared.token.Kind.{Kind}
use Rattle.mon_lexer.specs.declared.token.Kind.TheVariants as kind
use Rattle.mon_lexer.specs.declared.token.Operator.TheVariants as operator
use Rattle.mon_lexer.specs.declared.token.Keyword.TheVariants as word
use Rattle.mon_parser.specs.declared.cursor.Sign.TheVariants as sign
use Rattle.mon_trees.specs.declared.tree.Single.{Single}
use Rattle.mon_trees.specs.declared.tree.Expression.{Expression}
use Rattle.mon_parser.specs.Tokens.{single_of}
use Rattle.mon_parser.specs.Reader.{binds, mark_at, starts, starts_kind, is_comma, is_comma_kind, next_at}
use Rattle.mon_parser.specs.Grammar.{IsRhs, rhs_yield, rhs_yield_value, rhs_tuple, IsTuple, tuple_one, tuple_tuple, tuple_comma, IsExprs, exprs_one, exprs_more, IsExpr, expr_or, expr_if, IsOr, or_one, or_more, IsAnd, and_one, and_more, IsNot, not_not, not_compare}
use Rattle.mon_parser.proofs.Left.{Stops}
use Rattle.mon_parser.proofs.Items.{NoComma}
use Rattle.mon_parser.proofs.Prefix.{Begins}
use Rattle.mon_parser.proofs.Prefixes.{NoAtom, begins_more, compare_begins}

-- a table that has nothing with which an expression begins
pub record NoStart (at : Kind → Option ⊤) : Type 0 where
  pub atom : NoAtom at
  pub minus : at (kind.Operator operator.Minus) ≡ None
  pub negation : at (kind.Keyword word.Not) ≡ None

pub not_begins : (at : Kind → Option ⊤) → NoStart at → {ts : List Token} {e : Expression} → IsNot ts e → Begins at ts
not_begins at free (not_not l d) = free.negation
not_begins at free (not_compare d) = compare_begins at free.atom free.minus d

pub and_begins : (at : Kind → Option ⊤) → NoStart at → {ts : List Token} {e : Expression} → IsAnd ts e → Begins at ts
and_begins at free (and_one d) = not_begins at free d
and_begins at free (and_more {ts = ts} l d x) = begins_more at ts _ (and_begins at free d)

pub or_begins : (at : Kind → Option ⊤) → NoStart at → {ts : List Token} {e : Expression} → IsOr ts e → Begins at ts
or_begins at free (or_one d) = and_begins at free d
or_begins at free (or_more {ts = ts} l d x) = begins_more at ts _ (or_begins at free d)

pub expr_begins : (at : Kind → Option ⊤) → NoStart at → {ts : List Token} {e : Expression} → IsExpr ts e → Begins at ts
expr_begins at free (expr_or d) = or_begins at free d
expr_begins at free (expr_if {ts = ts} l m d x y) = begins_more at ts _ (or_begins at free d)

pub exprs_begin : (at : Kind → Option ⊤) → NoStart at → {ts : List Token} {es : List Expression} → IsExprs ts es → Begins at ts
exprs_begin at free (exprs_one d) = expr_begins at free d
exprs_begin at free (exprs_more {ts = ts} l d x) = begins_more at ts _ (expr_begins at free d)

pub tuple_begins : (at : Kind → Option ⊤) → NoStart at → {ts : List Token} {e : Expression} → IsTuple ts e → Begins at ts
tuple_begins at free (tuple_one d) = expr_begins at free d
tuple_begins at free (tuple_tuple {ts = ts} l d x) = begins_more at ts _ (expr_begins at free d)
tuple_begins at free (tuple_comma {ts = ts} l d) = begins_more at ts _ (exprs_begin at free d)

pub rhs_begins : (at : Kind → Option ⊤) → NoStart at → at (kind.Keyword word.Yield) ≡ None → {ts : List Token} {e : Expression} → IsRhs ts e → Begins at ts
rhs_begins at free y (rhs_yield l) = y
rhs_begins at free y (rhs_yield_value l d) = y
rhs_begins at free y (rhs_tuple d) = tuple_begins at free d

-- such a table says nothing of the first token
pub begins_none : (at : Kind → Option ⊤) (ts rest : List Token) → Begins at ts → next_at at (ts ++ rest) ≡ None
unfolding next_at
begins_none at [] rest h = absurd h
begins_none at (t ∷ ts) rest h = rw h refl

-- the tokens with which no expression begins
abbrev pub by_start : Bool → Option ⊤
by_start true = None
by_start false = Some tt

abbrev pub no_start : Kind → Option ⊤
no_start k = by_start (starts_kind k)

by_start_none : (c : Bool) → by_start c ≡ None → c ≡ true
by_start_none true e = refl
by_start_none false e = cc

single_starts : (k : Kind) (s : Single) → single_of k ≡ Some s → no_start k ≡ None
single_starts (kind.Keyword word.None) s e = refl
single_starts (kind.Keyword word.True) s e = refl
single_starts (kind.Keyword word.False) s e = refl
single_starts _ s e = cc

pub starts_free : NoStart no_start
starts_free = record { atom = record { name = λ n. refl; int = λ n. refl; text = λ s. refl; single = single_starts; bracket = refl }; minus = refl; negation = refl }

pub starts_here : (ts rest : List Token) → Begins no_start ts → starts (ts ++ rest) ≡ true
unfolding starts
starts_here [] rest h = absurd h
starts_here (t ∷ ts) rest h = by_start_none (starts_kind t.kind) h

pub expr_starts : (ts rest : List Token) (e : Expression) → IsExpr ts e → starts (ts ++ rest) ≡ true
expr_starts ts rest e d = starts_here ts rest (expr_begins no_start starts_free d)

pub tuple_starts : (ts rest : List Token) (e : Expression) → IsTuple ts e → starts (ts ++ rest) ≡ true
tuple_starts ts rest e d = starts_here ts rest (tuple_begins no_start starts_free d)

-- no expression begins with a closing bracket, and no tuple with a yield
abbrev pub close_at : Kind → Option ⊤
close_at = mark_at sign.CloseRound

single_close : (k : Kind) (s : Single) → single_of k ≡ Some s → close_at k ≡ None
single_close (kind.Operator operator.CloseRound) s e = cc
single_close _ s e = refl

close_free : NoStart close_at
close_free = record { atom = record { name = λ n. refl; int = λ n. refl; text = λ s. refl; single = single_close; bracket = refl }; minus = refl; negation = refl }

pub rhs_no_close : (ts rest : List Token) (e : Expression) → IsRhs ts e → next_at close_at (ts ++ rest) ≡ None
rhs_no_close ts rest e d = begins_none close_at ts rest (rhs_begins close_at close_free refl d)

-- where the next token binds less than a comma, no expression begins and no comma comes
none_starts : (k : Kind) → binds k < 1 → starts_kind k ≡ false
none_starts (kind.Name n) h = absurd (omega (arith, h))
none_starts (kind.Number n) h = absurd (omega (arith, h))
none_starts (kind.Text n) h = absurd (omega (arith, h))
none_starts (kind.Operator operator.OpenRound) h = absurd (omega (arith, h))
none_starts (kind.Operator operator.Minus) h = absurd (omega (arith, h))
none_starts (kind.Keyword word.Not) h = absurd (omega (arith, h))
none_starts (kind.Keyword word.None) h = absurd (omega (arith, h))
none_starts (kind.Keyword word.True) h = absurd (omega (arith, h))
none_starts (kind.Keyword word.False) h = absurd (omega (arith, h))
none_starts _ h = refl

pub stops_none : (rest : List Token) → Stops 1 rest → starts rest ≡ false
unfolding starts
stops_none [] s = refl
stops_none (t ∷ ts) s = none_starts t.kind s

none_comma : (k : Kind) → binds k < 1 → (is_comma_kind k ≡ false) × (mark_at sign.Comma k ≡ None)
none_comma (kind.Operator operator.Comma) h = absurd (omega (arith, h))
none_comma _ h = (refl, refl)

pub stops_comma : (rest : List Token) → Stops 1 rest → is_comma rest ≡ false
unfolding is_comma
stops_comma [] s = refl
stops_comma (t ∷ ts) s = (none_comma t.kind s).0

pub none_no_comma : (rest : List Token) → Stops 1 rest → NoComma rest
none_no_comma [] s = tt
none_no_comma (t ∷ ts) s = (none_comma t.kind s).1
