-- The code of a statement in its context.
use Rattle.std.specs.Prelude.{ℕ, ◌+◌, Bool, true, false, if◌then◌else◌, List, [], ◌∷◌, ◌++◌, length, map, Option, Some, None}
use Rattle.mon_events.specs.declared.op.Op.{Op}
use Rattle.mon_trees.specs.declared.tree.Expression.{Expression}
use Rattle.mon_trees.specs.declared.tree.Expression.TheOpen.{Expression-F}
use Rattle.mon_trees.specs.declared.tree.Expression.TheFolds.{fold-Expression}
use Rattle.mon_trees.specs.declared.tree.Simple.{Simple}
use Rattle.mon_trees.specs.declared.tree.Simple.TheVariants as simple
use Rattle.mon_trees.specs.declared.tree.Targets.{Targets}
use Rattle.mon_trees.specs.declared.tree.Statement.{Statement}
use Rattle.mon_trees.specs.declared.tree.Statement.TheOpen.{Statement-F, Handler-F}
use Rattle.mon_trees.specs.declared.tree.Statement.TheFolds.{fold-Statement, fold-Handler}
use Rattle.mon_trees.specs.declared.tree.Handler.{Handler}
use Rattle.mon_compile.specs.declared.assembly.Argument.TheVariants.{Number, Destination}
use Rattle.mon_compile.specs.declared.assembly.Label.{Label}
use Rattle.mon_compile.specs.declared.assembly.Label.TheVariants.{At}
use Rattle.mon_compile.specs.Contexts.{FromAt, While, For, Try, Except, ExceptAs, Finally, Raised, Returning, Context, Spot, put, none, at_line, no_line, above, beside, bare, in_loop, left_by_return, left_by_break}
use Rattle.mon_compile.specs.Expressions.{Coder, Locals, expression_code, store_code, number_of_local, binary_number, or_none}

abbrev pub Scheme : Type 0
Scheme = Context → FromAt

-- a clause by where its statement ends, and whether it is a bare one
pub record ClauseScheme : Type 0 where
  pub is_bare : Bool
  pub code : Label → Scheme

abbrev pub block : List Scheme → Scheme
block [] context at = []
block (s ∷ rest) context at = let code = s context at in code ++ block rest context (at + length code)

-- leave all entries
abbrev pub leave_all : Context → FromAt
leave_all [] at = []
leave_all (e ∷ outer) at = let code = left_by_return e outer at in code ++ leave_all outer (at + length code)

-- leave the entries up to and with the loop's; JUMP_FORWARD to its y
abbrev pub leave_loop : ℕ → Scheme
leave_loop line [] at = []
leave_loop line (While x y ∷ outer) at = put (at_line line outer) Op.JumpForward (Destination y) ∷ []
leave_loop line (For x y ∷ outer) at = put (above 1 (no_line outer)) Op.PopTop none ∷ (put (at_line line outer) Op.JumpForward (Destination y) ∷ [])
leave_loop line (e ∷ outer) at = let code = left_by_break e outer at in code ++ leave_loop line outer (at + length code)

-- leave the entries inside the loop's; JUMP_BACKWARD to its x
abbrev pub next_turn : ℕ → Scheme
next_turn line [] at = []
next_turn line (While x y ∷ outer) at = put (at_line line (While x y ∷ outer)) Op.JumpBackward (Destination (At x)) ∷ []
next_turn line (For x y ∷ outer) at = put (at_line line (For x y ∷ outer)) Op.JumpBackward (Destination (At x)) ∷ []
next_turn line (e ∷ outer) at = let code = left_by_break e outer at in code ++ next_turn line outer (at + length code)

-- outside a loop both are faults, and have no code
abbrev pub break_code : ℕ → Scheme
break_code line context at = if in_loop context then leave_loop line context at else []

abbrev pub continue_code : ℕ → Scheme
continue_code line context at = if in_loop context then next_turn line context at else []

-- E(e); leave all entries; RETURN_VALUE
abbrev pub return_code : ℕ → Coder → Scheme
return_code line e context at =
    let value = e (at_line line context) at in
    value ++ (leave_all context (at + length value) ++ (put (above 1 (at_line line [])) Op.ReturnValue none ∷ []))

-- E(e); then one instruction
abbrev pub ending_code : ℕ → Coder → Op → ℕ → Scheme
ending_code line e op number context at = e (at_line line context) at ++ (put (above 1 (at_line line context)) op (Number number) ∷ [])

-- E(e); the store
abbrev pub assign_code : Locals → ℕ → Targets → Coder → Scheme
assign_code locals line t e context at = e (at_line line context) at ++ store_code locals t (at_line line context)

-- LOAD_FAST n; E(e); BINARY_OP op; STORE_FAST n
abbrev pub augmented_code : ℕ → ℕ → ℕ → Coder → Scheme
augmented_code line n op e context at =
    let s = at_line line context in
    put s Op.LoadFast (Number n) ∷ (e (above 1 s) (at + 1) ++ (put (above 2 s) Op.BinaryOp (Number op) ∷ (put (above 1 s) Op.StoreFast (Number n) ∷ [])))

abbrev pub single_code : ℕ → Op → Scheme
single_code line op context at = put (at_line line context) op none ∷ []

-- E(c); POP_JUMP_IF_FALSE x; A; x:
abbrev pub if_code : ℕ → Coder → Scheme → Scheme
if_code line c a context at =
    let test = c (at_line line context) at in
    let from = at + length test + 1 in
    let body = a context from in
    let x = from + length body in
    test ++ (put (above 1 (at_line line context)) Op.PopJumpIfFalse (Destination (At x)) ∷ body)

-- E(c); POP_JUMP_IF_FALSE x; A; JUMP_FORWARD y (-); x: B; y:
abbrev pub if_else_code : ℕ → Coder → Scheme → Scheme → Scheme
if_else_code line c a b context at =
    let test = c (at_line line context) at in
    let from = at + length test + 1 in
    let body = a context from in
    let x = from + length body + 1 in
    let other = b context x in
    let y = x + length other in
    test ++ (put (above 1 (at_line line context)) Op.PopJumpIfFalse (Destination (At x)) ∷ (body ++ (put (no_line context) Op.JumpForward (Destination (At y)) ∷ other)))

-- Where a destination stands behind the part that jumps to it, the length of the part comes first. No length depends on
-- a destination, so index 0 stands for it there.

-- x: E(c); POP_JUMP_IF_FALSE y; A with While; JUMP_BACKWARD x (-); y:
abbrev pub while_code : ℕ → Coder → Scheme → Scheme
while_code line c a context x =
    let test = c (at_line line context) x in
    let from = x + length test + 1 in
    let y = from + length (a (While x (At 0) ∷ context) from) + 1 in
    test ++ (put (above 1 (at_line line context)) Op.PopJumpIfFalse (Destination (At y)) ∷ (a (While x (At y) ∷ context) from ++ (put (no_line context) Op.JumpBackward (Destination (At x)) ∷ [])))

-- E(e); GET_ITER; x: FOR_ITER; POP_JUMP_IF_DONE z; store t; A with For; JUMP_BACKWARD x (-); z: END_FOR (-); y:
abbrev pub for_code : Locals → ℕ → Targets → Coder → Scheme → Scheme
for_code locals line t e a context at =
    let s = at_line line context in
    let whole = e s at in
    let x = at + length whole + 1 in
    let store = store_code locals t (above 1 s) in
    let from = x + 2 + length store in
    let z = from + length (a (For x (At 0) ∷ context) from) + 1 in
    let y = z + 1 in
    whole ++ (put (above 1 s) Op.GetIter none ∷ (put (above 1 s) Op.ForIter none ∷ (put (above 2 s) Op.PopJumpIfDone (Destination (At z)) ∷ (store ++ (a (For x (At y) ∷ context) from
    ++ (put (above 1 (bare s)) Op.JumpBackward (Destination (At x)) ∷ (put (above 1 (bare s)) Op.EndFor none ∷ [])))))))

-- the spot of a clause: the exception is on the stack and on the handling list
abbrev pub in_clause : Spot → Spot
in_clause s = above 1 (beside 1 s)

-- B with Except; POP_EXCEPT (-); JUMP_FORWARD y (-)
abbrev pub except_body : Scheme → Label → Scheme
except_body b y context at = b (Except ∷ context) at ++ (put (beside 1 (no_line context)) Op.PopExcept none ∷ (put (no_line context) Op.JumpForward (Destination y) ∷ []))

-- E(T); CHECK_EXC_MATCH; POP_JUMP_IF_FALSE z; POP_TOP; B with Except; POP_EXCEPT (-); JUMP_FORWARD y (-); z:
abbrev pub except_code : ℕ → Coder → Scheme → Label → Scheme
except_code line t b y context at =
    let s = in_clause (at_line line context) in
    let class = t s at in
    let from = at + length class + 3 in
    let body = except_body b y context from in
    let z = from + length body in
    class ++ (put (above 1 s) Op.CheckExcMatch none ∷ (put (above 1 s) Op.PopJumpIfFalse (Destination (At z)) ∷ (put s Op.PopTop none ∷ body)))

-- B with Except(n, c); POP_EXCEPT (-); DELETE_FAST n (-); JUMP_FORWARD y (-); c: PUSH_EXC_INFO (-); DELETE_FAST n (-); RERAISE (-)
abbrev pub except_as_body : ℕ → Scheme → Label → Scheme
except_as_body n b y context at =
    let c = at + length (b (ExceptAs n (At 0) ∷ context) at) + 3 in
    let s = no_line context in
    b (ExceptAs n (At c) ∷ context) at
    ++ (put (beside 1 s) Op.PopExcept none ∷ (put s Op.DeleteFast (Number n) ∷ (put s Op.JumpForward (Destination y)
    ∷ (put (above 1 s) Op.PushExcInfo none ∷ (put (in_clause s) Op.DeleteFast (Number n) ∷ (put (in_clause s) Op.Reraise none ∷ []))))))

-- E(T); CHECK_EXC_MATCH; POP_JUMP_IF_FALSE z; STORE_FAST n; then as above; z:
abbrev pub except_as_code : ℕ → Coder → ℕ → Scheme → Label → Scheme
except_as_code line t n b y context at =
    let s = in_clause (at_line line context) in
    let class = t s at in
    let from = at + length class + 3 in
    let body = except_as_body n b y context from in
    let z = from + length body in
    class ++ (put (above 1 s) Op.CheckExcMatch none ∷ (put (above 1 s) Op.PopJumpIfFalse (Destination (At z)) ∷ (put s Op.StoreFast (Number n) ∷ body)))

-- POP_TOP; B with Except; POP_EXCEPT (-); JUMP_FORWARD y (-)
abbrev pub bare_code : ℕ → Scheme → Label → Scheme
bare_code line b y context at = put (in_clause (at_line line context)) Op.PopTop none ∷ except_body b y context (at + 1)

-- each clause; RERAISE (-) unless the last clause is bare (a bare clause is the last)
abbrev pub clauses_code : List ClauseScheme → Label → Scheme
clauses_code [] y context at = put (in_clause (no_line context)) Op.Reraise none ∷ []
clauses_code (c ∷ cs) y context at =
    let code = c.code y context at in
    if c.is_bare then code else code ++ clauses_code cs y context (at + length code)

-- A with Try(h); JUMP_FORWARD y (-); h: PUSH_EXC_INFO (-); the clauses; y:
abbrev pub handlers_code : Scheme → List ClauseScheme → Scheme
handlers_code a clauses context at =
    let h = at + length (a (Try (At 0) ∷ context) at) + 1 in
    let y = h + 1 + length (clauses_code clauses (At 0) context (h + 1)) in
    a (Try (At h) ∷ context) at ++ (put (no_line context) Op.JumpForward (Destination (At y)) ∷ (put (above 1 (no_line context)) Op.PushExcInfo none ∷ clauses_code clauses (At y) context (h + 1)))

-- the body with Finally(F, h); F; JUMP_FORWARD y (-); h: PUSH_EXC_INFO (-); F with Raised; RERAISE (-); y:
abbrev pub finally_code : Scheme → Scheme → Scheme
finally_code body f context at =
    let entry = Finally (f (Returning ∷ context)) (f context) in
    let from = at + length (body (entry (At 0) ∷ context) at) in
    let usual = f context from in
    let h = from + length usual + 1 in
    let raised = f (Raised ∷ context) (h + 1) in
    let y = h + 1 + length raised + 1 in
    body (entry (At h) ∷ context) at
    ++ (usual ++ (put (no_line context) Op.JumpForward (Destination (At y)) ∷ (put (above 1 (no_line context)) Op.PushExcInfo none ∷ (raised ++ (put (in_clause (no_line context)) Op.Reraise none ∷ [])))))

-- the body of a `try` that has a last part: A, or the whole handlers part
abbrev pub guarded : Scheme → List ClauseScheme → Scheme
guarded a [] = a
guarded a (c ∷ cs) = handlers_code a (c ∷ cs)

-- NOP, then the parts; no statement in the last part says that there is none
abbrev pub try_code : ℕ → Scheme → List ClauseScheme → List Scheme → Scheme
try_code line a clauses [] context at = put (at_line line context) Op.Nop none ∷ handlers_code a clauses context (at + 1)
try_code line a clauses (f ∷ fs) context at = put (at_line line context) Op.Nop none ∷ finally_code (guarded a clauses) (block (f ∷ fs)) context (at + 1)

-- no statement behind `else` says that there is no `else`
abbrev pub branch_code : ℕ → Coder → Scheme → List Scheme → Scheme
branch_code line c a [] = if_code line c a
branch_code line c a (b ∷ bs) = if_else_code line c a (block (b ∷ bs))

abbrev pub is_text_step : Expression-F Bool → Bool
is_text_step (Expression-F.Text t) = true
is_text_step _ = false

abbrev pub is_lone_text : Expression → Bool
is_lone_text = fold-Expression Bool is_text_step

-- an expression by itself; a lone text has no code
abbrev pub lone_code : ℕ → Bool → Coder → Scheme
lone_code line true e context at = []
lone_code line false e context at = ending_code line e Op.PopTop 0 context at

abbrev pub coder_of : Locals → Option Expression → Option Coder
coder_of locals None = None
coder_of locals (Some e) = Some (expression_code locals e)

abbrev pub raise_code : ℕ → Option Coder → Scheme
raise_code line None context at = put (at_line line context) Op.RaiseVarargs (Number 0) ∷ []
raise_code line (Some e) context at = ending_code line e Op.RaiseVarargs 1 context at

abbrev pub simple_code : Locals → ℕ → Simple → Scheme
simple_code locals line simple.Pass = single_code line Op.Nop
simple_code locals line simple.Break = break_code line
simple_code locals line simple.Continue = continue_code line
simple_code locals line (simple.Return e) = return_code line (or_none (coder_of locals e))
simple_code locals line (simple.Raise e) = raise_code line (coder_of locals e)
simple_code locals line (simple.Augmented n op e) = augmented_code line (number_of_local locals n) (binary_number op) (expression_code locals e)
simple_code locals line (simple.Assign t e) = assign_code locals line t (expression_code locals e)
simple_code locals line (simple.Expression e) = lone_code line (is_lone_text e) (expression_code locals e)

abbrev pub statement_step : Locals → Statement-F Scheme ClauseScheme → Scheme
statement_step locals (Statement-F.Simple line s) = simple_code locals line s
statement_step locals (Statement-F.If line c a b) = branch_code line (expression_code locals c) (block a) b
statement_step locals (Statement-F.While line c a) = while_code line (expression_code locals c) (block a)
statement_step locals (Statement-F.For line t e a) = for_code locals line t (expression_code locals e) (block a)
statement_step locals (Statement-F.Try line a clauses f) = try_code line (block a) clauses f

-- a clause without a class is bare
abbrev pub clause_code : Locals → ℕ → Option Coder → Option (List ℕ) → Scheme → ClauseScheme
clause_code locals line None name b = record { is_bare = true; code = bare_code line b }
clause_code locals line (Some t) None b = record { is_bare = false; code = except_code line t b }
clause_code locals line (Some t) (Some n) b = record { is_bare = false; code = except_as_code line t (number_of_local locals n) b }

abbrev pub handler_step : Locals → Handler-F Scheme ClauseScheme → ClauseScheme
handler_step locals h = clause_code locals h.line (coder_of locals h.class) h.name (block h.body)

abbrev pub statement_code : Locals → Statement → Scheme
statement_code locals = fold-Statement Scheme ClauseScheme (statement_step locals) (handler_step locals)

abbrev pub handler_code : Locals → Handler → ClauseScheme
handler_code locals = fold-Handler Scheme ClauseScheme (statement_step locals) (handler_step locals)

abbrev pub block_code : Locals → List Statement → Scheme
block_code locals body = block (map (statement_code locals) body)
