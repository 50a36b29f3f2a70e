-- While the tokens of a derivation pass, as many more brackets are open as its nesting says, and after them none more.
use Rattle.std.proofs.Common.{◌≡◌, ℕ, ◌+◌, ◌-◌, ◌≤◌, max, List, [], ◌∷◌, ◌++◌, refl, sym, ap, ◌∙◌, arith, append_assoc, append-nil, subst}
use Rattle.std.specs.Prelude.{Some}
use Rattle.mon_lexer.specs.declared.token.Token.{Token}
use Rattle.mon_lexer.specs.declared.token.Kind.{Kind}
use Rattle.mon_lexer.specs.declared.token.Kind.TheVariants as kind
use Rattle.mon_lexer.specs.declared.token.Operator.TheVariants as operator
use Rattle.mon_lexer.specs.declared.token.Keyword.TheVariants as word
use Rattle.mon_trees.specs.declared.tree.BinaryOperator.{BinaryOperator}
use Rattle.mon_trees.specs.declared.tree.Comparison.{Comparison}
use Rattle.mon_trees.specs.declared.tree.Single.{Single}
use Rattle.mon_trees.specs.declared.tree.Method.{Method}
use Rattle.mon_trees.specs.declared.tree.Constant.{Constant}
use Rattle.mon_trees.specs.declared.tree.Expression.{Expression}
use Rattle.mon_trees.specs.declared.tree.Targets.{Targets}
use Rattle.mon_trees.specs.declared.tree.Simple.{Simple}
use Rattle.mon_trees.specs.declared.tree.Statement.{Statement}
use Rattle.mon_trees.specs.declared.tree.Handler.{Handler}
use Rattle.mon_trees.specs.declared.tree.ModuleItem.{ModuleItem}
use Rattle.mon_parser.specs.Tokens.{mark, key, symbol, name, int, text, most_open, sum_op, term_op, augmented_op, cmp_op, single_of}
use Rattle.mon_parser.specs.Depth.{item_depth}
use Rattle.mon_parser.specs.Derives.{Derives}
use Rattle.mon_parser.specs.Nesting.{consts_nest, const_list_nest, const_nest, rhs_nest, tuple_nest, exprs_nest, expr_nest, or_nest, and_nest, not_nest, compare_nest, sum_nest, term_nest, unary_nest, postfix_nest, args_nest, atom_nest, simple_nest, block_nest, stmts_nest, stmt_nest, else_nest, finally_nest, handlers_nest, except_nest, bare_nest, item_nest}
use Rattle.mon_parser.specs.Grammar.{IsTexts, texts_one, texts_more, IsNames, names_one, names_more, IsTargets, targets_one, targets_tuple, targets_comma, IsParams, params_none, params_some, params_comma, IsSingle, single_word, IsCmp, cmp_one, cmp_not_in, IsMethod, method_send, method_throw, method_close, IsConsts, consts_one, consts_tuple, consts_comma, IsConstList, const_list_one, const_list_more, IsConst, const_int, const_negative, const_texts, const_single, const_empty, const_group, IsRhs, rhs_yield, rhs_yield_value, rhs_tuple, IsTuple, tuple_one, tuple_tuple, tuple_comma, IsExprs, exprs_one, exprs_more, IsExpr, expr_or, expr_if, IsOr, or_one, or_more, IsAnd, and_one, and_more, IsNot, not_not, not_compare, IsCompare, compare_sum, compare_cmp, compare_is, compare_is_not, IsSum, sum_one, sum_more, IsTerm, term_one, term_more, IsUnary, unary_minus, unary_postfix, IsPostfix, postfix_atom, postfix_call, postfix_subscript, postfix_method, IsArgs, args_none, args_some, args_comma, IsAtom, atom_name, atom_int, atom_texts, atom_single, atom_empty, atom_group, IsSimple, simple_pass, simple_break, simple_continue, simple_return, simple_return_value, simple_raise, simple_raise_value, simple_augmented, simple_assign, simple_rhs, IsBlock, block_simple, block_stmts, IsStmts, stmts_one, stmts_more, IsStmt, stmt_simple, stmt_if, stmt_while, stmt_for, stmt_try, stmt_try_both, stmt_try_finally, IsElse, else_none, else_block, else_elif, IsFinally, finally_block, IsHandlers, handlers_one, handlers_more, handlers_bare, IsExcept, except_plain, except_as, IsBare, bare_block, IsItem, item_def, item_const, item_texts}

record Nested (k : ℕ) (ts : List Token) : Type 0 where
  opens : (n : ℕ) (rest : List Token) → most_open n (ts ++ rest) ≡ max (n + k) (most_open n rest)

pub n_most : (n : ℕ) (ts : List Token) → n ≤ most_open n ts
n_most n [] = omega arith
n_most n (t ∷ ts) = omega arith

none : Nested 0 []
none = record { opens = λ n rest. omega (arith, n_most n rest) }

both : {j k : ℕ} {ts us : List Token} → Nested j ts → Nested k us → Nested (max j k) (ts ++ us)
both {j} {k} {ts} {us} a b = record { opens = λ n rest. ap (λ z. most_open n z) (append_assoc ts us rest) ∙ omega (arith, a.opens n (us ++ rest), b.opens n rest) }

-- a token that is no bracket
abbrev Plain : Token → Type 0
Plain t = (n : ℕ) (rest : List Token) → most_open n (t ∷ rest) ≡ max n (most_open n rest)

ahead : {k : ℕ} {us : List Token} (t : Token) → Plain t → Nested k us → Nested k (t ∷ us)
ahead {k} {us} t p a = record { opens = λ n rest. p n (us ++ rest) ∙ omega (arith, a.opens n rest) }

alone : (t : Token) → Plain t → Nested 0 (t ∷ [])
alone t p = ahead t p none

between : {j k : ℕ} {ts us : List Token} (t : Token) → Plain t → Nested j ts → Nested k us → Nested (max j k) (ts ++ t ∷ us)
between t p a b = both a (ahead t p b)

equal : {j : ℕ} {ts : List Token} (k : ℕ) → j ≡ k → Nested j ts → Nested k ts
equal {j} {ts} k e a = subst (λ z. Nested z ts) e a

ended : {k : ℕ} {ts : List Token} (t : Token) → Plain t → Nested k ts → Nested k (ts ++ t ∷ [])
ended {k} t p a = equal k (omega arith) (between t p a none)

-- what stands in brackets
closed : (k n m : ℕ) (close : Token) (ts rest : List Token) → ((rest : List Token) → most_open (n + 1) (close ∷ rest) ≡ max (n + 1) (most_open (n + 1 - 1) rest)) → Nested k ts → max n (most_open (n + 1) ((ts ++ close ∷ []) ++ rest)) ≡ max (n + (1 + k)) (most_open n rest)
closed k n m close ts rest c a =
    let back : n + 1 - 1 ≡ n = omega arith in
    let same : most_open (n + 1 - 1) rest ≡ most_open n rest = ap (λ z. most_open z rest) back in
    ap (λ z. max n (most_open (n + 1) z)) (append_assoc ts (close ∷ []) rest) ∙ omega (arith, a.opens (n + 1) (close ∷ rest), c rest, same)

round : {k : ℕ} {ts : List Token} (l m : ℕ) → Nested k ts → Nested (1 + k) (symbol operator.OpenRound l ∷ (ts ++ symbol operator.CloseRound m ∷ []))
round {k} {ts} l m a = record { opens = λ n rest. closed k n m (symbol operator.CloseRound m) ts rest (λ rest. refl) a }

square : {k : ℕ} {ts : List Token} (l m : ℕ) → Nested k ts → Nested (1 + k) (symbol operator.OpenSquare l ∷ (ts ++ symbol operator.CloseSquare m ∷ []))
square {k} {ts} l m a = record { opens = λ n rest. closed k n m (symbol operator.CloseSquare m) ts rest (λ rest. refl) a }

-- the tokens of the tables are no brackets
sum_plain : (k : Kind) (l : ℕ) (op : BinaryOperator) → sum_op k ≡ Some op → Plain (mark k l)
sum_plain (kind.Operator operator.Plus) l op e = λ n rest. refl
sum_plain (kind.Operator operator.Minus) l op e = λ n rest. refl
sum_plain _ l op e = λ n rest. cc

term_plain : (k : Kind) (l : ℕ) (op : BinaryOperator) → term_op k ≡ Some op → Plain (mark k l)
term_plain (kind.Operator operator.Star) l op e = λ n rest. refl
term_plain (kind.Operator operator.FloorDivide) l op e = λ n rest. refl
term_plain (kind.Operator operator.Percent) l op e = λ n rest. refl
term_plain _ l op e = λ n rest. cc

augmented_plain : (k : Kind) (l : ℕ) (op : BinaryOperator) → augmented_op k ≡ Some op → Plain (mark k l)
augmented_plain (kind.Operator operator.OpenRound) l op e = λ n rest. cc
augmented_plain (kind.Operator operator.CloseRound) l op e = λ n rest. cc
augmented_plain (kind.Operator operator.OpenSquare) l op e = λ n rest. cc
augmented_plain (kind.Operator operator.CloseSquare) l op e = λ n rest. cc
augmented_plain _ l op e = λ n rest. refl

cmp_plain : (k : Kind) (l : ℕ) (c : Comparison) → cmp_op k ≡ Some c → Plain (mark k l)
cmp_plain (kind.Operator operator.OpenRound) l c e = λ n rest. cc
cmp_plain (kind.Operator operator.CloseRound) l c e = λ n rest. cc
cmp_plain (kind.Operator operator.OpenSquare) l c e = λ n rest. cc
cmp_plain (kind.Operator operator.CloseSquare) l c e = λ n rest. cc
cmp_plain _ l c e = λ n rest. refl

single_plain : (k : Kind) (l : ℕ) (s : Single) → single_of k ≡ Some s → Plain (mark k l)
single_plain (kind.Keyword word.None) l s e = λ n rest. refl
single_plain (kind.Keyword word.True) l s e = λ n rest. refl
single_plain (kind.Keyword word.False) l s e = λ n rest. refl
single_plain _ l s e = λ n rest. cc

-- the symbols without brackets
texts_nested : {ts : List Token} {s : List ℕ} → IsTexts ts s → Nested 0 ts
texts_nested (texts_one {s = s} l) = alone (text s l) (λ n rest. refl)
texts_nested (texts_more {s = s} l d) = ahead (text s l) (λ n rest. refl) (texts_nested d)

names_nested : {ts : List Token} {ns : List (List ℕ)} → IsNames ts ns → Nested 0 ts
names_nested (names_one {n = a} l) = alone (name a l) (λ n rest. refl)
names_nested (names_more {n = a} l m d) = ahead (name a l) (λ n rest. refl) (ahead (symbol operator.Comma m) (λ n rest. refl) (names_nested d))

targets_nested : {ts : List Token} {to : Targets} → IsTargets ts to → Nested 0 ts
targets_nested (targets_one {n = a} l) = alone (name a l) (λ n rest. refl)
targets_nested (targets_tuple {n = a} l m d) = ahead (name a l) (λ n rest. refl) (ahead (symbol operator.Comma m) (λ n rest. refl) (names_nested d))
targets_nested (targets_comma m d) = ended (symbol operator.Comma m) (λ n rest. refl) (names_nested d)

params_nested : {ts : List Token} {ns : List (List ℕ)} → IsParams ts ns → Nested 0 ts
params_nested params_none = none
params_nested (params_some d) = names_nested d
params_nested (params_comma m d) = ended (symbol operator.Comma m) (λ n rest. refl) (names_nested d)

single_nested : {ts : List Token} {s : Single} → IsSingle ts s → Nested 0 ts
single_nested (single_word {k = k} l {s = s} e) = alone (mark k l) (single_plain k l s e)

cmp_nested : {ts : List Token} {c : Comparison} → IsCmp ts c → Nested 0 ts
cmp_nested (cmp_one {k = k} l {c = c} e) = alone (mark k l) (cmp_plain k l c e)
cmp_nested (cmp_not_in l m) = ahead (key word.Not l) (λ n rest. refl) (alone (key word.In m) (λ n rest. refl))

method_nested : {ts : List Token} {m : Method} → IsMethod ts m → Nested 0 ts
method_nested (method_send l) = alone _ (λ n rest. refl)
method_nested (method_throw l) = alone _ (λ n rest. refl)
method_nested (method_close l) = alone _ (λ n rest. refl)

mutual
  consts_nested : {ts : List Token} {c : Constant} (d : IsConsts ts c) → Nested (consts_nest d) ts
  consts_nested (consts_one d) = const_nested d
  consts_nested (consts_tuple l d x) = between (symbol operator.Comma l) (λ n rest. refl) (const_nested d) (const_list_nested x)
  consts_nested (consts_comma l d) = ended (symbol operator.Comma l) (λ n rest. refl) (const_list_nested d)

  const_list_nested : {ts : List Token} {cs : List Constant} (d : IsConstList ts cs) → Nested (const_list_nest d) ts
  const_list_nested (const_list_one d) = const_nested d
  const_list_nested (const_list_more l d x) = between (symbol operator.Comma l) (λ n rest. refl) (const_nested d) (const_list_nested x)

  const_nested : {ts : List Token} {c : Constant} (d : IsConst ts c) → Nested (const_nest d) ts
  const_nested (const_int {n = z} l) = alone (int z l) (λ n rest. refl)
  const_nested (const_negative {n = z} l m) = ahead (symbol operator.Minus l) (λ n rest. refl) (alone (int z m) (λ n rest. refl))
  const_nested (const_texts d) = texts_nested d
  const_nested (const_single d) = single_nested d
  const_nested (const_empty l m) = round l m none
  const_nested (const_group l m d) = round l m (consts_nested d)

mutual
  rhs_nested : {ts : List Token} {e : Expression} (d : IsRhs ts e) → Nested (rhs_nest d) ts
  rhs_nested (rhs_yield l) = alone (key word.Yield l) (λ n rest. refl)
  rhs_nested (rhs_yield_value l d) = ahead (key word.Yield l) (λ n rest. refl) (tuple_nested d)
  rhs_nested (rhs_tuple d) = tuple_nested d

  tuple_nested : {ts : List Token} {e : Expression} (d : IsTuple ts e) → Nested (tuple_nest d) ts
  tuple_nested (tuple_one d) = expr_nested d
  tuple_nested (tuple_tuple l d x) = between (symbol operator.Comma l) (λ n rest. refl) (expr_nested d) (exprs_nested x)
  tuple_nested (tuple_comma l d) = ended (symbol operator.Comma l) (λ n rest. refl) (exprs_nested d)

  exprs_nested : {ts : List Token} {es : List Expression} (d : IsExprs ts es) → Nested (exprs_nest d) ts
  exprs_nested (exprs_one d) = expr_nested d
  exprs_nested (exprs_more l d x) = between (symbol operator.Comma l) (λ n rest. refl) (expr_nested d) (exprs_nested x)

  expr_nested : {ts : List Token} {e : Expression} (d : IsExpr ts e) → Nested (expr_nest d) ts
  expr_nested (expr_or d) = or_nested d
  expr_nested (expr_if l m d x y) = between (key word.If l) (λ n rest. refl) (or_nested d) (between (key word.Else m) (λ n rest. refl) (or_nested x) (expr_nested y))

  or_nested : {ts : List Token} {e : Expression} (d : IsOr ts e) → Nested (or_nest d) ts
  or_nested (or_one d) = and_nested d
  or_nested (or_more l d x) = between (key word.Or l) (λ n rest. refl) (or_nested d) (and_nested x)

  and_nested : {ts : List Token} {e : Expression} (d : IsAnd ts e) → Nested (and_nest d) ts
  and_nested (and_one d) = not_nested d
  and_nested (and_more l d x) = between (key word.And l) (λ n rest. refl) (and_nested d) (not_nested x)

  not_nested : {ts : List Token} {e : Expression} (d : IsNot ts e) → Nested (not_nest d) ts
  not_nested (not_not l d) = ahead (key word.Not l) (λ n rest. refl) (not_nested d)
  not_nested (not_compare d) = compare_nested d

  compare_nested : {ts : List Token} {e : Expression} (d : IsCompare ts e) → Nested (compare_nest d) ts
  compare_nested (compare_sum d) = sum_nested d
  compare_nested (compare_cmp d o x) = equal (max (sum_nest d) (sum_nest x)) (omega arith) (both (sum_nested d) (both (cmp_nested o) (sum_nested x)))
  compare_nested (compare_is l d x) = equal (sum_nest d) (omega arith) (between (key word.Is l) (λ n rest. refl) (sum_nested d) (single_nested x))
  compare_nested (compare_is_not l m d x) = equal (sum_nest d) (omega arith) (between (key word.Is l) (λ n rest. refl) (sum_nested d) (ahead (key word.Not m) (λ n rest. refl) (single_nested x)))

  sum_nested : {ts : List Token} {e : Expression} (d : IsSum ts e) → Nested (sum_nest d) ts
  sum_nested (sum_one d) = term_nested d
  sum_nested (sum_more k l {op = op} d o x) = between (mark k l) (sum_plain k l op o) (sum_nested d) (term_nested x)

  term_nested : {ts : List Token} {e : Expression} (d : IsTerm ts e) → Nested (term_nest d) ts
  term_nested (term_one d) = unary_nested d
  term_nested (term_more k l {op = op} d o x) = between (mark k l) (term_plain k l op o) (term_nested d) (unary_nested x)

  unary_nested : {ts : List Token} {e : Expression} (d : IsUnary ts e) → Nested (unary_nest d) ts
  unary_nested (unary_minus l d) = ahead (symbol operator.Minus l) (λ n rest. refl) (unary_nested d)
  unary_nested (unary_postfix d) = postfix_nested d

  postfix_nested : {ts : List Token} {e : Expression} (d : IsPostfix ts e) → Nested (postfix_nest d) ts
  postfix_nested (postfix_atom d) = atom_nested d
  postfix_nested (postfix_call l m d x) = both (postfix_nested d) (round l m (args_nested x))
  postfix_nested (postfix_subscript l m d x) = both (postfix_nested d) (square l m (expr_nested x))
  postfix_nested (postfix_method k l m d o x) = equal (max (postfix_nest d) (1 + args_nest x)) (omega arith) (between (symbol operator.Dot k) (λ n rest. refl) (postfix_nested d) (both (method_nested o) (round l m (args_nested x))))

  args_nested : {ts : List Token} {es : List Expression} (d : IsArgs ts es) → Nested (args_nest d) ts
  args_nested args_none = none
  args_nested (args_some d) = exprs_nested d
  args_nested (args_comma l d) = ended (symbol operator.Comma l) (λ n rest. refl) (exprs_nested d)

  atom_nested : {ts : List Token} {e : Expression} (d : IsAtom ts e) → Nested (atom_nest d) ts
  atom_nested (atom_name {n = a} l) = alone (name a l) (λ n rest. refl)
  atom_nested (atom_int {n = z} l) = alone (int z l) (λ n rest. refl)
  atom_nested (atom_texts d) = texts_nested d
  atom_nested (atom_single d) = single_nested d
  atom_nested (atom_empty l m) = round l m none
  atom_nested (atom_group l m d) = round l m (rhs_nested d)

simple_nested : {ts : List Token} {s : Simple} (d : IsSimple ts s) → Nested (simple_nest d) ts
simple_nested (simple_pass l) = alone (key word.Pass l) (λ n rest. refl)
simple_nested (simple_break l) = alone (key word.Break l) (λ n rest. refl)
simple_nested (simple_continue l) = alone (key word.Continue l) (λ n rest. refl)
simple_nested (simple_return l) = alone (key word.Return l) (λ n rest. refl)
simple_nested (simple_return_value l d) = ahead (key word.Return l) (λ n rest. refl) (tuple_nested d)
simple_nested (simple_raise l) = alone (key word.Raise l) (λ n rest. refl)
simple_nested (simple_raise_value l d) = ahead (key word.Raise l) (λ n rest. refl) (expr_nested d)
simple_nested (simple_augmented {n = a} k {op = op} l m o d) = ahead (name a l) (λ n rest. refl) (ahead (mark k m) (augmented_plain k m op o) (rhs_nested d))
simple_nested (simple_assign l d x) = equal (rhs_nest x) (omega arith) (between (symbol operator.Assign l) (λ n rest. refl) (targets_nested d) (rhs_nested x))
simple_nested (simple_rhs d) = rhs_nested d

mutual
  block_nested : {ts : List Token} {ss : List Statement} (d : IsBlock ts ss) → Nested (block_nest d) ts
  block_nested (block_simple l d) = ended (mark kind.Newline l) (λ n rest. refl) (simple_nested d)
  block_nested (block_stmts l m k d) = ahead (mark kind.Newline l) (λ n rest. refl) (ahead (mark kind.Indent m) (λ n rest. refl) (ended (mark kind.Dedent k) (λ n rest. refl) (stmts_nested d)))

  stmts_nested : {ts : List Token} {ss : List Statement} (d : IsStmts ts ss) → Nested (stmts_nest d) ts
  stmts_nested (stmts_one d) = stmt_nested d
  stmts_nested (stmts_more d x) = both (stmt_nested d) (stmts_nested x)

  stmt_nested : {ts : List Token} {s : Statement} (d : IsStmt ts s) → Nested (stmt_nest d) ts
  stmt_nested (stmt_simple l d) = ended (mark kind.Newline l) (λ n rest. refl) (simple_nested d)
  stmt_nested (stmt_if l m d x y) = ahead (key word.If l) (λ n rest. refl) (between (symbol operator.Colon m) (λ n rest. refl) (expr_nested d) (both (block_nested x) (else_nested y)))
  stmt_nested (stmt_while l m d x) = ahead (key word.While l) (λ n rest. refl) (between (symbol operator.Colon m) (λ n rest. refl) (expr_nested d) (block_nested x))
  stmt_nested (stmt_for l m k d x y) = ahead (key word.For l) (λ n rest. refl) (equal (max (tuple_nest x) (block_nest y)) (omega arith) (between (key word.In m) (λ n rest. refl) (targets_nested d) (between (symbol operator.Colon k) (λ n rest. refl) (tuple_nested x) (block_nested y))))
  stmt_nested (stmt_try l m d x) = ahead (key word.Try l) (λ n rest. refl) (ahead (symbol operator.Colon m) (λ n rest. refl) (both (block_nested d) (handlers_nested x)))
  stmt_nested (stmt_try_both l m d x y) = ahead (key word.Try l) (λ n rest. refl) (ahead (symbol operator.Colon m) (λ n rest. refl) (both (block_nested d) (both (handlers_nested x) (finally_nested y))))
  stmt_nested (stmt_try_finally l m d x) = ahead (key word.Try l) (λ n rest. refl) (ahead (symbol operator.Colon m) (λ n rest. refl) (both (block_nested d) (finally_nested x)))

  else_nested : {ts : List Token} {ss : List Statement} (d : IsElse ts ss) → Nested (else_nest d) ts
  else_nested else_none = none
  else_nested (else_block l m d) = ahead (key word.Else l) (λ n rest. refl) (ahead (symbol operator.Colon m) (λ n rest. refl) (block_nested d))
  else_nested (else_elif l m d x y) = ahead (key word.Elif l) (λ n rest. refl) (between (symbol operator.Colon m) (λ n rest. refl) (expr_nested d) (both (block_nested x) (else_nested y)))

  finally_nested : {ts : List Token} {ss : List Statement} (d : IsFinally ts ss) → Nested (finally_nest d) ts
  finally_nested (finally_block l m d) = ahead (key word.Finally l) (λ n rest. refl) (ahead (symbol operator.Colon m) (λ n rest. refl) (block_nested d))

  handlers_nested : {ts : List Token} {hs : List Handler} (d : IsHandlers ts hs) → Nested (handlers_nest d) ts
  handlers_nested (handlers_one d) = except_nested d
  handlers_nested (handlers_more d x) = both (except_nested d) (handlers_nested x)
  handlers_nested (handlers_bare d) = bare_nested d

  except_nested : {ts : List Token} {h : Handler} (d : IsExcept ts h) → Nested (except_nest d) ts
  except_nested (except_plain l m d x) = ahead (key word.Except l) (λ n rest. refl) (between (symbol operator.Colon m) (λ n rest. refl) (expr_nested d) (block_nested x))
  except_nested (except_as {n = a} l m k j d x) = ahead (key word.Except l) (λ n rest. refl) (between (key word.As m) (λ n rest. refl) (expr_nested d) (ahead (name a k) (λ n rest. refl) (ahead (symbol operator.Colon j) (λ n rest. refl) (block_nested x))))

  bare_nested : {ts : List Token} {h : Handler} (d : IsBare ts h) → Nested (bare_nest d) ts
  bare_nested (bare_block l m d) = ahead (key word.Except l) (λ n rest. refl) (ahead (symbol operator.Colon m) (λ n rest. refl) (block_nested d))

item_nested : {ts : List Token} {tree : ModuleItem} (d : IsItem ts tree) → Nested (item_nest d) ts
item_nested (item_def {ts = ts} {us = us} {n = a} l m k j i d x) =
    let group = round k j (params_nested d) in
    let whole : List Token = (symbol operator.OpenRound k ∷ (ts ++ symbol operator.CloseRound j ∷ [])) ++ (symbol operator.Colon i ∷ us) in
    let spelled : whole ≡ symbol operator.OpenRound k ∷ (ts ++ symbol operator.CloseRound j ∷ (symbol operator.Colon i ∷ us)) = ap (λ z. symbol operator.OpenRound k ∷ z) (append_assoc ts (symbol operator.CloseRound j ∷ []) (symbol operator.Colon i ∷ us)) in
    ahead (key word.Def l) (λ n rest. refl) (ahead (name a m) (λ n rest. refl) (subst (λ z. Nested (max 1 (block_nest x)) z) spelled (equal (max 1 (block_nest x)) (omega arith) (between (symbol operator.Colon i) (λ n rest. refl) group (block_nested x)))))
item_nested (item_const {n = a} l m k d) = ahead (name a l) (λ n rest. refl) (ahead (symbol operator.Assign m) (λ n rest. refl) (ended (mark kind.Newline k) (λ n rest. refl) (consts_nested d)))
item_nested (item_texts l d) = ended (mark kind.Newline l) (λ n rest. refl) (texts_nested d)

pub nested_open : (tokens : List Token) (tree : ModuleItem) (d : IsItem tokens tree) → most_open 0 tokens ≡ item_nest d
nested_open tokens tree d = ap (λ z. most_open 0 z) (sym (append-nil tokens)) ∙ (item_nested d).opens 0 [] ∙ omega arith

pub limits_nest : (tokens : List Token) (tree : ModuleItem) (d : IsItem tokens tree) → (Derives tokens tree → (item_nest d ≤ 100) × (item_depth tree ≤ 256)) × ((item_nest d ≤ 100) × (item_depth tree ≤ 256) → Derives tokens tree)
limits_nest tokens tree d =
    let same = nested_open tokens tree d in
    (λ h. (subst (λ k. k ≤ 100) same h.brackets, h.nodes), λ h. record { derivation = d; brackets = subst (λ k. k ≤ 100) (sym same) h.0; nodes = h.1 })
