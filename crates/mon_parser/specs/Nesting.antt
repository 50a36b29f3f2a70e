-- How many brackets of a derivation stand within each other, at most: what stands in brackets counts one more than by itself.
use Rattle.std.specs.Prelude.{ℕ, ◌+◌, max, List}
use Rattle.mon_lexer.specs.declared.token.Token.{Token}
use Rattle.mon_trees.specs.declared.tree.Constant.{Constant}
use Rattle.mon_trees.specs.declared.tree.Expression.{Expression}
use Rattle.mon_trees.specs.declared.tree.Simple.{Simple}
use Rattle.mon_trees.specs.declared.tree.Statement.{Statement}
use Rattle.mon_trees.specs.declared.tree.Handler.{Handler}
use Rattle.mon_trees.specs.declared.tree.ModuleItem.{ModuleItem}
use Rattle.mon_parser.specs.Grammar.{IsConsts, consts_one, consts_tuple, consts_comma, IsConstList, const_list_one, const_list_more, IsConst, const_empty, const_group, IsRhs, rhs_yield, rhs_yield_value, rhs_tuple, IsTuple, tuple_one, tuple_tuple, tuple_comma, IsExprs, exprs_one, exprs_more, IsExpr, expr_or, expr_if, IsOr, or_one, or_more, IsAnd, and_one, and_more, IsNot, not_not, not_compare, IsCompare, compare_sum, compare_cmp, compare_is, compare_is_not, IsSum, sum_one, sum_more, IsTerm, term_one, term_more, IsUnary, unary_minus, unary_postfix, IsPostfix, postfix_atom, postfix_call, postfix_subscript, postfix_method, IsArgs, args_none, args_some, args_comma, IsAtom, atom_empty, atom_group, IsSimple, simple_return_value, simple_raise_value, simple_augmented, simple_assign, simple_rhs, IsBlock, block_simple, block_stmts, IsStmts, stmts_one, stmts_more, IsStmt, stmt_simple, stmt_if, stmt_while, stmt_for, stmt_try, stmt_try_both, stmt_try_finally, IsElse, else_none, else_block, else_elif, IsFinally, finally_block, IsHandlers, handlers_one, handlers_more, handlers_bare, IsExcept, except_plain, except_as, IsBare, bare_block, IsItem, item_def, item_const, item_texts}

abbrev mutual
  pub consts_nest : {ts : List Token} {c : Constant} → IsConsts ts c → ℕ
  consts_nest (consts_one d) = const_nest d
  consts_nest (consts_tuple l d x) = max (const_nest d) (const_list_nest x)
  consts_nest (consts_comma l d) = const_list_nest d

  pub const_list_nest : {ts : List Token} {cs : List Constant} → IsConstList ts cs → ℕ
  const_list_nest (const_list_one d) = const_nest d
  const_list_nest (const_list_more l d x) = max (const_nest d) (const_list_nest x)

  pub const_nest : {ts : List Token} {c : Constant} → IsConst ts c → ℕ
  const_nest (const_empty l m) = 1
  const_nest (const_group l m d) = 1 + consts_nest d
  const_nest _ = 0

abbrev mutual
  pub rhs_nest : {ts : List Token} {e : Expression} → IsRhs ts e → ℕ
  rhs_nest (rhs_yield l) = 0
  rhs_nest (rhs_yield_value l d) = tuple_nest d
  rhs_nest (rhs_tuple d) = tuple_nest d

  pub tuple_nest : {ts : List Token} {e : Expression} → IsTuple ts e → ℕ
  tuple_nest (tuple_one d) = expr_nest d
  tuple_nest (tuple_tuple l d x) = max (expr_nest d) (exprs_nest x)
  tuple_nest (tuple_comma l d) = exprs_nest d

  pub exprs_nest : {ts : List Token} {es : List Expression} → IsExprs ts es → ℕ
  exprs_nest (exprs_one d) = expr_nest d
  exprs_nest (exprs_more l d x) = max (expr_nest d) (exprs_nest x)

  pub expr_nest : {ts : List Token} {e : Expression} → IsExpr ts e → ℕ
  expr_nest (expr_or d) = or_nest d
  expr_nest (expr_if l m d x y) = max (or_nest d) (max (or_nest x) (expr_nest y))

  pub or_nest : {ts : List Token} {e : Expression} → IsOr ts e → ℕ
  or_nest (or_one d) = and_nest d
  or_nest (or_more l d x) = max (or_nest d) (and_nest x)

  pub and_nest : {ts : List Token} {e : Expression} → IsAnd ts e → ℕ
  and_nest (and_one d) = not_nest d
  and_nest (and_more l d x) = max (and_nest d) (not_nest x)

  pub not_nest : {ts : List Token} {e : Expression} → IsNot ts e → ℕ
  not_nest (not_not l d) = not_nest d
  not_nest (not_compare d) = compare_nest d

  pub compare_nest : {ts : List Token} {e : Expression} → IsCompare ts e → ℕ
  compare_nest (compare_sum d) = sum_nest d
  compare_nest (compare_cmp d o x) = max (sum_nest d) (sum_nest x)
  compare_nest (compare_is l d x) = sum_nest d
  compare_nest (compare_is_not l m d x) = sum_nest d

  pub sum_nest : {ts : List Token} {e : Expression} → IsSum ts e → ℕ
  sum_nest (sum_one d) = term_nest d
  sum_nest (sum_more k l d o x) = max (sum_nest d) (term_nest x)

  pub term_nest : {ts : List Token} {e : Expression} → IsTerm ts e → ℕ
  term_nest (term_one d) = unary_nest d
  term_nest (term_more k l d o x) = max (term_nest d) (unary_nest x)

  pub unary_nest : {ts : List Token} {e : Expression} → IsUnary ts e → ℕ
  unary_nest (unary_minus l d) = unary_nest d
  unary_nest (unary_postfix d) = postfix_nest d

  pub postfix_nest : {ts : List Token} {e : Expression} → IsPostfix ts e → ℕ
  postfix_nest (postfix_atom d) = atom_nest d
  postfix_nest (postfix_call l m d x) = max (postfix_nest d) (1 + args_nest x)
  postfix_nest (postfix_subscript l m d x) = max (postfix_nest d) (1 + expr_nest x)
  postfix_nest (postfix_method k l m d o x) = max (postfix_nest d) (1 + args_nest x)

  pub args_nest : {ts : List Token} {es : List Expression} → IsArgs ts es → ℕ
  args_nest args_none = 0
  args_nest (args_some d) = exprs_nest d
  args_nest (args_comma l d) = exprs_nest d

  pub atom_nest : {ts : List Token} {e : Expression} → IsAtom ts e → ℕ
  atom_nest (atom_empty l m) = 1
  atom_nest (atom_group l m d) = 1 + rhs_nest d
  atom_nest _ = 0

abbrev pub simple_nest : {ts : List Token} {s : Simple} → IsSimple ts s → ℕ
simple_nest (simple_return_value l d) = tuple_nest d
simple_nest (simple_raise_value l d) = expr_nest d
simple_nest (simple_augmented k l m o d) = rhs_nest d
simple_nest (simple_assign l d x) = rhs_nest x
simple_nest (simple_rhs d) = rhs_nest d
simple_nest _ = 0

abbrev mutual
  pub block_nest : {ts : List Token} {ss : List Statement} → IsBlock ts ss → ℕ
  block_nest (block_simple l d) = simple_nest d
  block_nest (block_stmts l m n d) = stmts_nest d

  pub stmts_nest : {ts : List Token} {ss : List Statement} → IsStmts ts ss → ℕ
  stmts_nest (stmts_one d) = stmt_nest d
  stmts_nest (stmts_more d x) = max (stmt_nest d) (stmts_nest x)

  pub stmt_nest : {ts : List Token} {s : Statement} → IsStmt ts s → ℕ
  stmt_nest (stmt_simple l d) = simple_nest d
  stmt_nest (stmt_if l m d x y) = max (expr_nest d) (max (block_nest x) (else_nest y))
  stmt_nest (stmt_while l m d x) = max (expr_nest d) (block_nest x)
  stmt_nest (stmt_for l m n d x y) = max (tuple_nest x) (block_nest y)
  stmt_nest (stmt_try l m d x) = max (block_nest d) (handlers_nest x)
  stmt_nest (stmt_try_both l m d x y) = max (block_nest d) (max (handlers_nest x) (finally_nest y))
  stmt_nest (stmt_try_finally l m d x) = max (block_nest d) (finally_nest x)

  pub else_nest : {ts : List Token} {ss : List Statement} → IsElse ts ss → ℕ
  else_nest else_none = 0
  else_nest (else_block l m d) = block_nest d
  else_nest (else_elif l m d x y) = max (expr_nest d) (max (block_nest x) (else_nest y))

  pub finally_nest : {ts : List Token} {ss : List Statement} → IsFinally ts ss → ℕ
  finally_nest (finally_block l m d) = block_nest d

  pub handlers_nest : {ts : List Token} {hs : List Handler} → IsHandlers ts hs → ℕ
  handlers_nest (handlers_one d) = except_nest d
  handlers_nest (handlers_more d x) = max (except_nest d) (handlers_nest x)
  handlers_nest (handlers_bare d) = bare_nest d

  pub except_nest : {ts : List Token} {h : Handler} → IsExcept ts h → ℕ
  except_nest (except_plain l m d x) = max (expr_nest d) (block_nest x)
  except_nest (except_as l m k j d x) = max (expr_nest d) (block_nest x)

  pub bare_nest : {ts : List Token} {h : Handler} → IsBare ts h → ℕ
  bare_nest (bare_block l m d) = block_nest d

-- the brackets of parameters count too
abbrev pub item_nest : {ts : List Token} {tree : ModuleItem} → IsItem ts tree → ℕ
item_nest (item_def l m k j i d x) = max 1 (block_nest x)
item_nest (item_const l m k d) = consts_nest d
item_nest (item_texts l d) = 0
