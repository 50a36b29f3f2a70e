-- The grammar. `IsSum tokens tree` says that the tokens derive from the symbol `sum`, with this tree: the tokens are those of
-- the parts, in order. There is one constructor for each alternative, in the order of the grammar that is written above it.
use Rattle.std.specs.Prelude.{◌≡◌, ℕ, pos, neg_ℤ, List, [], ◌∷◌, ◌++◌, Option, Some, None}
use Rattle.mon_lexer.specs.declared.token.Token.{Token}
use Rattle.mon_lexer.specs.declared.token.Kind.{Kind}
use Rattle.mon_lexer.specs.declared.token.Kind.TheVariants.{Newline, Indent, Dedent}
use Rattle.mon_lexer.specs.declared.token.Operator.TheVariants.{OpenRound, CloseRound, OpenSquare, CloseSquare, Comma, Colon, Dot, Assign, Minus}
use Rattle.mon_lexer.specs.declared.token.Keyword.TheVariants as word
use Rattle.mon_parser.specs.Tokens.{mark, key, symbol, name, int, text, first_line, sum_op, term_op, augmented_op, cmp_op, single_of, method_word}
use Rattle.mon_trees.specs.declared.tree.BinaryOperator.{BinaryOperator}
use Rattle.mon_trees.specs.declared.tree.Comparison.{Comparison}
use Rattle.mon_trees.specs.declared.tree.Comparison.TheVariants.{NotIn}
use Rattle.mon_trees.specs.declared.tree.Single.{Single}
use Rattle.mon_trees.specs.declared.tree.Method.{Method}
use Rattle.mon_trees.specs.declared.tree.Method.TheVariants.{Send, Throw, Close}
use Rattle.mon_trees.specs.declared.tree.Expression.{Expression}
use Rattle.mon_trees.specs.declared.tree.Expression as tree
use Rattle.mon_trees.specs.declared.tree.Expression.TheViews as node
use Rattle.mon_trees.specs.declared.tree.Constant.{Constant}
use Rattle.mon_trees.specs.declared.tree.Constant as const
use Rattle.mon_trees.specs.declared.tree.Constant.TheViews as consts
use Rattle.mon_trees.specs.declared.tree.Targets.{Targets}
use Rattle.mon_trees.specs.declared.tree.Targets.TheVariants as targets
use Rattle.mon_trees.specs.declared.tree.Simple.{Simple}
use Rattle.mon_trees.specs.declared.tree.Simple.TheVariants as simple
use Rattle.mon_trees.specs.declared.tree.Statement.{Statement}
use Rattle.mon_trees.specs.declared.tree.Statement as stmt
use Rattle.mon_trees.specs.declared.tree.Statement.TheViews as compound
use Rattle.mon_trees.specs.declared.tree.Handler.{Handler}
use Rattle.mon_trees.specs.declared.tree.Statement.TheViews.{roll-Handler}
use Rattle.mon_trees.specs.declared.tree.ModuleItem.{ModuleItem}
use Rattle.mon_trees.specs.declared.tree.ModuleItem.TheVariants as item

-- a clause of a `try`
abbrev pub handler : ℕ → Option Expression → Option (List ℕ) → List Statement → Handler
handler line class name body = roll-Handler (record { line = line; class = class; name = name; body = body })

-- texts = TEXT {TEXT}
pub data IsTexts : List Token → List ℕ → Type 0 where
  texts_one : {s : List ℕ} (l : ℕ) → IsTexts (text s l ∷ []) s
  texts_more : {ts : List Token} {s u : List ℕ} (l : ℕ) → IsTexts ts u → IsTexts (text s l ∷ ts) (s ++ u)

-- NAME {"," NAME}
pub data IsNames : List Token → List (List ℕ) → Type 0 where
  names_one : {n : List ℕ} (l : ℕ) → IsNames (name n l ∷ []) (n ∷ [])
  names_more : {ts : List Token} {n : List ℕ} {ns : List (List ℕ)} (l m : ℕ) → IsNames ts ns → IsNames (name n l ∷ (symbol Comma m ∷ ts)) (n ∷ ns)

-- targets = NAME {"," NAME} [","]      (with no comma a name, with a comma a tuple)
pub data IsTargets : List Token → Targets → Type 0 where
  targets_one : {n : List ℕ} (l : ℕ) → IsTargets (name n l ∷ []) (targets.Name n)
  targets_tuple : {ts : List Token} {n : List ℕ} {ns : List (List ℕ)} (l m : ℕ) → IsNames ts ns → IsTargets (name n l ∷ (symbol Comma m ∷ ts)) (targets.Tuple (n ∷ ns))
  targets_comma : {ts : List Token} {ns : List (List ℕ)} (m : ℕ) → IsNames ts ns → IsTargets (ts ++ symbol Comma m ∷ []) (targets.Tuple ns)

-- the parameters of a `def`: [NAME {"," NAME} [","]]
pub data IsParams : List Token → List (List ℕ) → Type 0 where
  params_none : IsParams [] []
  params_some : {ts : List Token} {ns : List (List ℕ)} → IsNames ts ns → IsParams ts ns
  params_comma : {ts : List Token} {ns : List (List ℕ)} (m : ℕ) → IsNames ts ns → IsParams (ts ++ symbol Comma m ∷ []) ns

-- single = "None" | "True" | "False"
pub data IsSingle : List Token → Single → Type 0 where
  single_word : {k : Kind} (l : ℕ) {s : Single} → single_of k ≡ Some s → IsSingle (mark k l ∷ []) s

-- cmp = "==" | "!=" | "<" | "<=" | ">" | ">=" | "in" | "not" "in"
pub data IsCmp : List Token → Comparison → Type 0 where
  cmp_one : {k : Kind} (l : ℕ) {c : Comparison} → cmp_op k ≡ Some c → IsCmp (mark k l ∷ []) c
  cmp_not_in : (l m : ℕ) → IsCmp (key word.Not l ∷ (key word.In m ∷ [])) NotIn

-- method = "send" | "throw" | "close"
pub data IsMethod : List Token → Method → Type 0 where
  method_send : (l : ℕ) → IsMethod (name (method_word Send) l ∷ []) Send
  method_throw : (l : ℕ) → IsMethod (name (method_word Throw) l ∷ []) Throw
  method_close : (l : ℕ) → IsMethod (name (method_word Close) l ∷ []) Close

mutual
  -- consts = const {"," const} [","]     (with no comma its one part, with a comma a tuple)
  pub data IsConsts : List Token → Constant → Type 0 where
    consts_one : {ts : List Token} {c : Constant} → IsConst ts c → IsConsts ts c
    consts_tuple : {ts us : List Token} {c : Constant} {cs : List Constant} (l : ℕ) → IsConst ts c → IsConstList us cs → IsConsts (ts ++ symbol Comma l ∷ us) (consts.Tuple (c ∷ cs))
    consts_comma : {ts : List Token} {cs : List Constant} (l : ℕ) → IsConstList ts cs → IsConsts (ts ++ symbol Comma l ∷ []) (consts.Tuple cs)

  -- const {"," const}
  pub data IsConstList : List Token → List Constant → Type 0 where
    const_list_one : {ts : List Token} {c : Constant} → IsConst ts c → IsConstList ts (c ∷ [])
    const_list_more : {ts us : List Token} {c : Constant} {cs : List Constant} (l : ℕ) → IsConst ts c → IsConstList us cs → IsConstList (ts ++ symbol Comma l ∷ us) (c ∷ cs)

  -- const = ["-"] INT | texts | "None" | "True" | "False" | "(" [consts] ")"
  pub data IsConst : List Token → Constant → Type 0 where
    const_int : {n : ℕ} (l : ℕ) → IsConst (int n l ∷ []) (const.Integer (pos n))
    const_negative : {n : ℕ} (l m : ℕ) → IsConst (symbol Minus l ∷ (int n m ∷ [])) (const.Integer (neg_ℤ (pos n)))
    const_texts : {ts : List Token} {s : List ℕ} → IsTexts ts s → IsConst ts (const.Text s)
    const_single : {ts : List Token} {s : Single} → IsSingle ts s → IsConst ts (const.Single s)
    const_empty : (l m : ℕ) → IsConst (symbol OpenRound l ∷ (symbol CloseRound m ∷ [])) const.Empty
    const_group : {ts : List Token} {c : Constant} (l m : ℕ) → IsConsts ts c → IsConst (symbol OpenRound l ∷ (ts ++ symbol CloseRound m ∷ [])) c

mutual
  -- rhs = "yield" [tuple] | tuple
  pub data IsRhs : List Token → Expression → Type 0 where
    rhs_yield : (l : ℕ) → IsRhs (key word.Yield l ∷ []) (node.Yield l None)
    rhs_yield_value : {ts : List Token} {e : Expression} (l : ℕ) → IsTuple ts e → IsRhs (key word.Yield l ∷ ts) (node.Yield l (Some e))
    rhs_tuple : {ts : List Token} {e : Expression} → IsTuple ts e → IsRhs ts e

  -- tuple = expr {"," expr} [","]        (with no comma its one part, with a comma a tuple)
  pub data IsTuple : List Token → Expression → Type 0 where
    tuple_one : {ts : List Token} {e : Expression} → IsExpr ts e → IsTuple ts e
    tuple_tuple : {ts us : List Token} {e : Expression} {es : List Expression} (l : ℕ) → IsExpr ts e → IsExprs us es → IsTuple (ts ++ symbol Comma l ∷ us) (node.Tuple (e ∷ es))
    tuple_comma : {ts : List Token} {es : List Expression} (l : ℕ) → IsExprs ts es → IsTuple (ts ++ symbol Comma l ∷ []) (node.Tuple es)

  -- expr {"," expr}
  pub data IsExprs : List Token → List Expression → Type 0 where
    exprs_one : {ts : List Token} {e : Expression} → IsExpr ts e → IsExprs ts (e ∷ [])
    exprs_more : {ts us : List Token} {e : Expression} {es : List Expression} (l : ℕ) → IsExpr ts e → IsExprs us es → IsExprs (ts ++ symbol Comma l ∷ us) (e ∷ es)

  -- expr = or ["if" or "else" expr]
  pub data IsExpr : List Token → Expression → Type 0 where
    expr_or : {ts : List Token} {e : Expression} → IsOr ts e → IsExpr ts e
    expr_if : {ts us vs : List Token} {a c b : Expression} (l m : ℕ) → IsOr ts a → IsOr us c → IsExpr vs b → IsExpr (ts ++ key word.If l ∷ (us ++ key word.Else m ∷ vs)) (node.If a c b)

  -- or = and {"or" and}
  pub data IsOr : List Token → Expression → Type 0 where
    or_one : {ts : List Token} {e : Expression} → IsAnd ts e → IsOr ts e
    or_more : {ts us : List Token} {a b : Expression} (l : ℕ) → IsOr ts a → IsAnd us b → IsOr (ts ++ key word.Or l ∷ us) (node.Or a b)

  -- and = not {"and" not}
  pub data IsAnd : List Token → Expression → Type 0 where
    and_one : {ts : List Token} {e : Expression} → IsNot ts e → IsAnd ts e
    and_more : {ts us : List Token} {a b : Expression} (l : ℕ) → IsAnd ts a → IsNot us b → IsAnd (ts ++ key word.And l ∷ us) (node.And a b)

  -- not = "not" not | compare
  pub data IsNot : List Token → Expression → Type 0 where
    not_not : {ts : List Token} {e : Expression} (l : ℕ) → IsNot ts e → IsNot (key word.Not l ∷ ts) (node.Not e)
    not_compare : {ts : List Token} {e : Expression} → IsCompare ts e → IsNot ts e

  -- compare = sum [cmp sum | "is" ["not"] single]
  pub data IsCompare : List Token → Expression → Type 0 where
    compare_sum : {ts : List Token} {e : Expression} → IsSum ts e → IsCompare ts e
    compare_cmp : {ts ops us : List Token} {a b : Expression} {c : Comparison} → IsSum ts a → IsCmp ops c → IsSum us b → IsCompare (ts ++ (ops ++ us)) (node.Compare c a b)
    compare_is : {ts us : List Token} {a : Expression} {s : Single} (l : ℕ) → IsSum ts a → IsSingle us s → IsCompare (ts ++ key word.Is l ∷ us) (node.Is a s)
    compare_is_not : {ts us : List Token} {a : Expression} {s : Single} (l m : ℕ) → IsSum ts a → IsSingle us s → IsCompare (ts ++ key word.Is l ∷ (key word.Not m ∷ us)) (node.IsNot a s)

  -- sum = term {("+" | "-") term}
  pub data IsSum : List Token → Expression → Type 0 where
    sum_one : {ts : List Token} {e : Expression} → IsTerm ts e → IsSum ts e
    sum_more : {ts us : List Token} {a b : Expression} (k : Kind) (l : ℕ) {op : BinaryOperator} → IsSum ts a → sum_op k ≡ Some op → IsTerm us b → IsSum (ts ++ mark k l ∷ us) (node.Binary op a b)

  -- term = unary {("*" | "//" | "%") unary}
  pub data IsTerm : List Token → Expression → Type 0 where
    term_one : {ts : List Token} {e : Expression} → IsUnary ts e → IsTerm ts e
    term_more : {ts us : List Token} {a b : Expression} (k : Kind) (l : ℕ) {op : BinaryOperator} → IsTerm ts a → term_op k ≡ Some op → IsUnary us b → IsTerm (ts ++ mark k l ∷ us) (node.Binary op a b)

  -- unary = "-" unary | postfix
  pub data IsUnary : List Token → Expression → Type 0 where
    unary_minus : {ts : List Token} {e : Expression} (l : ℕ) → IsUnary ts e → IsUnary (symbol Minus l ∷ ts) (node.Negative e)
    unary_postfix : {ts : List Token} {e : Expression} → IsPostfix ts e → IsUnary ts e

  -- postfix = atom {"(" args ")" | "[" expr "]" | "." method "(" args ")"}
  pub data IsPostfix : List Token → Expression → Type 0 where
    postfix_atom : {ts : List Token} {e : Expression} → IsAtom ts e → IsPostfix ts e
    postfix_call : {ts us : List Token} {f : Expression} {args : List Expression} (l m : ℕ) → IsPostfix ts f → IsArgs us args → IsPostfix (ts ++ symbol OpenRound l ∷ (us ++ symbol CloseRound m ∷ [])) (node.Call f args)
    postfix_subscript : {ts us : List Token} {a i : Expression} (l m : ℕ) → IsPostfix ts a → IsExpr us i → IsPostfix (ts ++ symbol OpenSquare l ∷ (us ++ symbol CloseSquare m ∷ [])) (node.Subscript a i)
    postfix_method : {ts ns us : List Token} {a : Expression} {method : Method} {args : List Expression} (k l m : ℕ) → IsPostfix ts a → IsMethod ns method → IsArgs us args → IsPostfix (ts ++ symbol Dot k ∷ (ns ++ symbol OpenRound l ∷ (us ++ symbol CloseRound m ∷ []))) (node.Method a method args)

  -- args = [expr {"," expr} [","]]
  pub data IsArgs : List Token → List Expression → Type 0 where
    args_none : IsArgs [] []
    args_some : {ts : List Token} {es : List Expression} → IsExprs ts es → IsArgs ts es
    args_comma : {ts : List Token} {es : List Expression} (l : ℕ) → IsExprs ts es → IsArgs (ts ++ symbol Comma l ∷ []) es

  -- atom = NAME | INT | texts | single | "(" ")" | "(" rhs ")"
  pub data IsAtom : List Token → Expression → Type 0 where
    atom_name : {n : List ℕ} (l : ℕ) → IsAtom (name n l ∷ []) (tree.Name n)
    atom_int : {n : ℕ} (l : ℕ) → IsAtom (int n l ∷ []) (tree.Integer (pos n))
    atom_texts : {ts : List Token} {s : List ℕ} → IsTexts ts s → IsAtom ts (tree.Text s)
    atom_single : {ts : List Token} {s : Single} → IsSingle ts s → IsAtom ts (tree.Single s)
    atom_empty : (l m : ℕ) → IsAtom (symbol OpenRound l ∷ (symbol CloseRound m ∷ [])) tree.Empty
    atom_group : {ts : List Token} {e : Expression} (l m : ℕ) → IsRhs ts e → IsAtom (symbol OpenRound l ∷ (ts ++ symbol CloseRound m ∷ [])) e

-- simple = "pass" | "break" | "continue" | "return" [tuple] | "raise" [expr] | NAME augop rhs | targets "=" rhs | rhs
pub data IsSimple : List Token → Simple → Type 0 where
  simple_pass : (l : ℕ) → IsSimple (key word.Pass l ∷ []) simple.Pass
  simple_break : (l : ℕ) → IsSimple (key word.Break l ∷ []) simple.Break
  simple_continue : (l : ℕ) → IsSimple (key word.Continue l ∷ []) simple.Continue
  simple_return : (l : ℕ) → IsSimple (key word.Return l ∷ []) (simple.Return None)
  simple_return_value : {ts : List Token} {e : Expression} (l : ℕ) → IsTuple ts e → IsSimple (key word.Return l ∷ ts) (simple.Return (Some e))
  simple_raise : (l : ℕ) → IsSimple (key word.Raise l ∷ []) (simple.Raise None)
  simple_raise_value : {ts : List Token} {e : Expression} (l : ℕ) → IsExpr ts e → IsSimple (key word.Raise l ∷ ts) (simple.Raise (Some e))
  simple_augmented : {ts : List Token} {n : List ℕ} (k : Kind) {op : BinaryOperator} {e : Expression} (l m : ℕ) → augmented_op k ≡ Some op → IsRhs ts e → IsSimple (name n l ∷ (mark k m ∷ ts)) (simple.Augmented n op e)
  simple_assign : {ts us : List Token} {to : Targets} {e : Expression} (l : ℕ) → IsTargets ts to → IsRhs us e → IsSimple (ts ++ symbol Assign l ∷ us) (simple.Assign to e)
  simple_rhs : {ts : List Token} {e : Expression} → IsRhs ts e → IsSimple ts (simple.Expression e)

mutual
  -- block = simple Newline | Newline Indent stmt {stmt} Dedent
  pub data IsBlock : List Token → List Statement → Type 0 where
    block_simple : {ts : List Token} {s : Simple} (l : ℕ) → IsSimple ts s → IsBlock (ts ++ mark Newline l ∷ []) (stmt.Simple (first_line ts) s ∷ [])
    block_stmts : {ts : List Token} {ss : List Statement} (l m n : ℕ) → IsStmts ts ss → IsBlock (mark Newline l ∷ (mark Indent m ∷ (ts ++ mark Dedent n ∷ []))) ss

  -- stmt {stmt}
  pub data IsStmts : List Token → List Statement → Type 0 where
    stmts_one : {ts : List Token} {s : Statement} → IsStmt ts s → IsStmts ts (s ∷ [])
    stmts_more : {ts us : List Token} {s : Statement} {ss : List Statement} → IsStmt ts s → IsStmts us ss → IsStmts (ts ++ us) (s ∷ ss)

  -- stmt = simple Newline | if | while | for | try
  -- if = "if" expr ":" block {"elif" expr ":" block} ["else" ":" block]
  -- while = "while" expr ":" block
  -- for = "for" targets "in" tuple ":" block
  -- try = "try" ":" block ( handlers ["finally" ":" block] | "finally" ":" block )
  pub data IsStmt : List Token → Statement → Type 0 where
    stmt_simple : {ts : List Token} {s : Simple} (l : ℕ) → IsSimple ts s → IsStmt (ts ++ mark Newline l ∷ []) (stmt.Simple (first_line ts) s)
    stmt_if : {ts us vs : List Token} {test : Expression} {body orelse : List Statement} (l m : ℕ) → IsExpr ts test → IsBlock us body → IsElse vs orelse → IsStmt (key word.If l ∷ (ts ++ symbol Colon m ∷ (us ++ vs))) (compound.If l test body orelse)
    stmt_while : {ts us : List Token} {test : Expression} {body : List Statement} (l m : ℕ) → IsExpr ts test → IsBlock us body → IsStmt (key word.While l ∷ (ts ++ symbol Colon m ∷ us)) (compound.While l test body)
    stmt_for : {ts us vs : List Token} {to : Targets} {over : Expression} {body : List Statement} (l m n : ℕ) → IsTargets ts to → IsTuple us over → IsBlock vs body → IsStmt (key word.For l ∷ (ts ++ key word.In m ∷ (us ++ symbol Colon n ∷ vs))) (compound.For l to over body)
    stmt_try : {ts us : List Token} {body : List Statement} {handlers : List Handler} (l m : ℕ) → IsBlock ts body → IsHandlers us handlers → IsStmt (key word.Try l ∷ (symbol Colon m ∷ (ts ++ us))) (compound.Try l body handlers [])
    stmt_try_both : {ts us vs : List Token} {body last : List Statement} {handlers : List Handler} (l m : ℕ) → IsBlock ts body → IsHandlers us handlers → IsFinally vs last → IsStmt (key word.Try l ∷ (symbol Colon m ∷ (ts ++ (us ++ vs)))) (compound.Try l body handlers last)
    stmt_try_finally : {ts vs : List Token} {body last : List Statement} (l m : ℕ) → IsBlock ts body → IsFinally vs last → IsStmt (key word.Try l ∷ (symbol Colon m ∷ (ts ++ vs))) (compound.Try l body [] last)

  -- {"elif" expr ":" block} ["else" ":" block]       (an `elif` is an `if` in the else part)
  pub data IsElse : List Token → List Statement → Type 0 where
    else_none : IsElse [] []
    else_block : {ts : List Token} {ss : List Statement} (l m : ℕ) → IsBlock ts ss → IsElse (key word.Else l ∷ (symbol Colon m ∷ ts)) ss
    else_elif : {ts us vs : List Token} {test : Expression} {body orelse : List Statement} (l m : ℕ) → IsExpr ts test → IsBlock us body → IsElse vs orelse → IsElse (key word.Elif l ∷ (ts ++ symbol Colon m ∷ (us ++ vs))) (compound.If l test body orelse ∷ [])

  -- "finally" ":" block
  pub data IsFinally : List Token → List Statement → Type 0 where
    finally_block : {ts : List Token} {ss : List Statement} (l m : ℕ) → IsBlock ts ss → IsFinally (key word.Finally l ∷ (symbol Colon m ∷ ts)) ss

  -- handlers = except {except} [bare] | bare
  pub data IsHandlers : List Token → List Handler → Type 0 where
    handlers_one : {ts : List Token} {h : Handler} → IsExcept ts h → IsHandlers ts (h ∷ [])
    handlers_more : {ts us : List Token} {h : Handler} {hs : List Handler} → IsExcept ts h → IsHandlers us hs → IsHandlers (ts ++ us) (h ∷ hs)
    handlers_bare : {ts : List Token} {h : Handler} → IsBare ts h → IsHandlers ts (h ∷ [])

  -- except = "except" expr ["as" NAME] ":" block
  pub data IsExcept : List Token → Handler → Type 0 where
    except_plain : {ts us : List Token} {class : Expression} {body : List Statement} (l m : ℕ) → IsExpr ts class → IsBlock us body → IsExcept (key word.Except l ∷ (ts ++ symbol Colon m ∷ us)) (handler l (Some class) None body)
    except_as : {ts us : List Token} {class : Expression} {n : List ℕ} {body : List Statement} (l m k j : ℕ) → IsExpr ts class → IsBlock us body → IsExcept (key word.Except l ∷ (ts ++ key word.As m ∷ (name n k ∷ (symbol Colon j ∷ us)))) (handler l (Some class) (Some n) body)

  -- bare = "except" ":" block
  pub data IsBare : List Token → Handler → Type 0 where
    bare_block : {ts : List Token} {body : List Statement} (l m : ℕ) → IsBlock ts body → IsBare (key word.Except l ∷ (symbol Colon m ∷ ts)) (handler l None None body)

-- item = def | NAME "=" consts Newline | texts Newline
-- def = "def" NAME "(" [NAME {"," NAME} [","]] ")" ":" block
pub data IsItem : List Token → ModuleItem → Type 0 where
  item_def : {ts us : List Token} {n : List ℕ} {parameters : List (List ℕ)} {body : List Statement} (l m k j i : ℕ) → IsParams ts parameters → IsBlock us body → IsItem (key word.Def l ∷ (name n m ∷ (symbol OpenRound k ∷ (ts ++ symbol CloseRound j ∷ (symbol Colon i ∷ us))))) (item.Function (record { line = l; name = n; parameters = parameters; body = body }))
  item_const : {ts : List Token} {n : List ℕ} {value : Constant} (l m k : ℕ) → IsConsts ts value → IsItem (name n l ∷ (symbol Assign m ∷ (ts ++ mark Newline k ∷ []))) (item.Constant l n value)
  item_texts : {ts : List Token} {s : List ℕ} (l : ℕ) → IsTexts ts s → IsItem (ts ++ mark Newline l ∷ []) (item.Text s)
