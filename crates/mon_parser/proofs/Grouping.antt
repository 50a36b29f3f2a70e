-- The four levels whose operators group to the left: each reads its derivations, and nothing else, if the level below does.
use Rattle.std.proofs.Common.{◌≡◌, ℕ, ◌+◌, ◌<◌, ◌≤◌, max, List, refl, ap, arith}
use Rattle.std.specs.Prelude.{Option, Some, None}
use Rattle.mon_lexer.specs.declared.token.Token.{Token}
use Rattle.mon_lexer.specs.declared.token.Kind.{Kind}
use Rattle.mon_lexer.specs.declared.token.Kind.TheVariants as kind
use Rattle.mon_lexer.specs.declared.token.Operator.TheVariants as operator
use Rattle.mon_lexer.specs.declared.token.Keyword.TheVariants as word
use Rattle.mon_parser.specs.declared.levels.Level.TheVariants as level
use Rattle.mon_parser.specs.declared.levels.Op.{Op}
use Rattle.mon_parser.specs.declared.levels.Op.TheVariants as op
use Rattle.mon_trees.specs.declared.tree.BinaryOperator.{BinaryOperator}
use Rattle.mon_trees.specs.declared.tree.Expression.{Expression}
use Rattle.mon_parser.specs.Tokens.{sum_op, term_op}
use Rattle.mon_parser.specs.Depth.{expr_depth}
use Rattle.mon_parser.specs.Reader.{Reader, binds, binary_op, level_op, op_node, read_unary, read_term, read_sum, read_not, read_and, read_or}
use Rattle.mon_parser.specs.Grammar.{IsOr, or_one, or_more, IsAnd, and_one, and_more, IsNot, IsSum, sum_one, sum_more, IsTerm, term_one, term_more, IsUnary}
use Rattle.mon_parser.proofs.Depths.{depth_or, depth_and, depth_binary}
use Rattle.mon_parser.proofs.Left.{Left, one, more, IsLevel, Reads, Sound, left_reads, left_sound}

op_grows : (o : Op) (a b : Expression) → expr_depth (op_node o a b) ≡ 1 + max (expr_depth a) (expr_depth b)
op_grows op.Or a b = depth_or a b
op_grows op.And a b = depth_and a b
op_grows (op.Binary o) a b = depth_binary o a b

-- where the operators of a level stand
or_at : (k : Kind) (o : Op) → level_op level.Or k ≡ Some o → (binds k ≡ 3) × (k ≡ kind.Keyword word.Or) × (o ≡ op.Or)
or_at (kind.Keyword word.Or) o e = (refl, refl, cc)
or_at _ o e = cc

or_below : (k : Kind) → binds k < 3 → level_op level.Or k ≡ None
or_below (kind.Keyword word.Or) h = absurd (omega (arith, h))
or_below _ h = refl

and_at : (k : Kind) (o : Op) → level_op level.And k ≡ Some o → (binds k ≡ 4) × (k ≡ kind.Keyword word.And) × (o ≡ op.And)
and_at (kind.Keyword word.And) o e = (refl, refl, cc)
and_at _ o e = cc

and_below : (k : Kind) → binds k < 4 → level_op level.And k ≡ None
and_below (kind.Keyword word.And) h = absurd (omega (arith, h))
and_below _ h = refl

binary_is : (r : Option BinaryOperator) (o : Op) → binary_op r ≡ Some o → (b : BinaryOperator) × (r ≡ Some b) × (o ≡ op.Binary b)
binary_is None o e = cc
binary_is (Some b) o e = (b, refl, cc)

sum_at : (k : Kind) (b : BinaryOperator) → sum_op k ≡ Some b → binds k ≡ 6
sum_at (kind.Operator operator.Plus) b e = refl
sum_at (kind.Operator operator.Minus) b e = refl
sum_at _ b e = cc

sum_below : (k : Kind) → binds k < 6 → level_op level.Sum k ≡ None
sum_below (kind.Operator operator.Plus) h = absurd (omega (arith, h))
sum_below (kind.Operator operator.Minus) h = absurd (omega (arith, h))
sum_below _ h = refl

term_at : (k : Kind) (b : BinaryOperator) → term_op k ≡ Some b → binds k ≡ 7
term_at (kind.Operator operator.Star) b e = refl
term_at (kind.Operator operator.FloorDivide) b e = refl
term_at (kind.Operator operator.Percent) b e = refl
term_at _ b e = cc

term_below : (k : Kind) → binds k < 7 → level_op level.Term k ≡ None
term_below (kind.Operator operator.Star) h = absurd (omega (arith, h))
term_below (kind.Operator operator.FloorDivide) h = absurd (omega (arith, h))
term_below (kind.Operator operator.Percent) h = absurd (omega (arith, h))
term_below _ h = refl

or_level : IsLevel 3 (level_op level.Or) op_node
or_level = record { grows = op_grows; at = λ k o e. (or_at k o e).0; below = or_below }

and_level : IsLevel 4 (level_op level.And) op_node
and_level = record { grows = op_grows; at = λ k o e. (and_at k o e).0; below = and_below }

sum_level : IsLevel 6 (level_op level.Sum) op_node
sum_level = record { grows = op_grows; at = λ k o e. let i = binary_is (sum_op k) o e in sum_at k i.0 i.1; below = sum_below }

term_level : IsLevel 7 (level_op level.Term) op_node
term_level = record { grows = op_grows; at = λ k o e. let i = binary_is (term_op k) o e in term_at k i.0 i.1; below = term_below }

-- a level of the grammar is such a level
to_or : {ts : List Token} {t : Expression} → IsOr ts t → Left IsAnd (level_op level.Or) op_node ts t
to_or (or_one d) = one d
to_or (or_more l d x) = more (kind.Keyword word.Or) l op.Or (to_or d) refl x

of_or : {ts : List Token} {t : Expression} → Left IsAnd (level_op level.Or) op_node ts t → IsOr ts t
of_or (one d) = or_one d
of_or (more {ts = ts} {us = us} {a = a} {b = b} k l o d e x) = let i = or_at k o e in rw (i.1, i.2) (or_more l (of_or d) x)

to_and : {ts : List Token} {t : Expression} → IsAnd ts t → Left IsNot (level_op level.And) op_node ts t
to_and (and_one d) = one d
to_and (and_more l d x) = more (kind.Keyword word.And) l op.And (to_and d) refl x

of_and : {ts : List Token} {t : Expression} → Left IsNot (level_op level.And) op_node ts t → IsAnd ts t
of_and (one d) = and_one d
of_and (more {ts = ts} {us = us} {a = a} {b = b} k l o d e x) = let i = and_at k o e in rw (i.1, i.2) (and_more l (of_and d) x)

to_sum : {ts : List Token} {t : Expression} → IsSum ts t → Left IsTerm (level_op level.Sum) op_node ts t
to_sum (sum_one d) = one d
to_sum (sum_more k l {op = o} d e x) = more k l (op.Binary o) (to_sum d) (ap binary_op e) x

of_sum : {ts : List Token} {t : Expression} → Left IsTerm (level_op level.Sum) op_node ts t → IsSum ts t
of_sum (one d) = sum_one d
of_sum (more {ts = ts} {us = us} {a = a} {b = b} k l o d e x) = let i = binary_is (sum_op k) o e in rw i.2 (sum_more k l (of_sum d) i.1 x)

to_term : {ts : List Token} {t : Expression} → IsTerm ts t → Left IsUnary (level_op level.Term) op_node ts t
to_term (term_one d) = one d
to_term (term_more k l {op = o} d e x) = more k l (op.Binary o) (to_term d) (ap binary_op e) x

of_term : {ts : List Token} {t : Expression} → Left IsUnary (level_op level.Term) op_node ts t → IsTerm ts t
of_term (one d) = term_one d
of_term (more {ts = ts} {us = us} {a = a} {b = b} k l o d e x) = let i = binary_is (term_op k) o e in rw i.2 (term_more k l (of_term d) i.1 x)

pub term_reads : (expr : ℕ → Reader Expression) (b n : ℕ) → n ≤ 256 → Reads IsUnary 8 b n (read_unary expr n) → Reads IsTerm 7 b n (read_term expr n)
term_reads expr b n m r ts t d = left_reads IsUnary (level_op level.Term) op_node (read_unary expr n) 7 b n term_level r m ts t (to_term d)

pub sum_reads : (expr : ℕ → Reader Expression) (b n : ℕ) → n ≤ 256 → Reads IsTerm 7 b n (read_term expr n) → Reads IsSum 6 b n (read_sum expr n)
sum_reads expr b n m r ts t d = left_reads IsTerm (level_op level.Sum) op_node (read_term expr n) 6 b n sum_level r m ts t (to_sum d)

pub and_reads : (expr : ℕ → Reader Expression) (b n : ℕ) → n ≤ 256 → Reads IsNot 5 b n (read_not expr n) → Reads IsAnd 4 b n (read_and expr n)
and_reads expr b n m r ts t d = left_reads IsNot (level_op level.And) op_node (read_not expr n) 4 b n and_level r m ts t (to_and d)

pub or_reads : (expr : ℕ → Reader Expression) (b n : ℕ) → n ≤ 256 → Reads IsAnd 4 b n (read_and expr n) → Reads IsOr 3 b n (read_or expr n)
or_reads expr b n m r ts t d = left_reads IsAnd (level_op level.Or) op_node (read_and expr n) 3 b n or_level r m ts t (to_or d)

pub term_sound : (expr : ℕ → Reader Expression) (n : ℕ) → Sound IsUnary (read_unary expr n) → Sound IsTerm (read_term expr n)
term_sound expr n s ts t rest e = let x = left_sound IsUnary (level_op level.Term) op_node (read_unary expr n) s ts t rest e in (x.0, x.1, of_term x.2)

pub sum_sound : (expr : ℕ → Reader Expression) (n : ℕ) → Sound IsTerm (read_term expr n) → Sound IsSum (read_sum expr n)
sum_sound expr n s ts t rest e = let x = left_sound IsTerm (level_op level.Sum) op_node (read_term expr n) s ts t rest e in (x.0, x.1, of_sum x.2)

pub and_sound : (expr : ℕ → Reader Expression) (n : ℕ) → Sound IsNot (read_not expr n) → Sound IsAnd (read_and expr n)
and_sound expr n s ts t rest e = let x = left_sound IsNot (level_op level.And) op_node (read_not expr n) s ts t rest e in (x.0, x.1, of_and x.2)

pub or_sound : (expr : ℕ → Reader Expression) (n : ℕ) → Sound IsAnd (read_and expr n) → Sound IsOr (read_or expr n)
or_sound expr n s ts t rest e = let x = left_sound IsAnd (level_op level.Or) op_node (read_and expr n) s ts t rest e in (x.0, x.1, of_or x.2)
