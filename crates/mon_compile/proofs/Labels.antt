-- Each statement has the labels of its context and no others.
use Rattle.std.proofs.Common.{◌≡◌, ℕ, Bool, true, false, List, [], ◌∷◌, map, refl, sym, subst}
use Rattle.std.specs.Prelude.{Option, Some, None}
use Rattle.mon_events.specs.declared.op.Op.{Op}
use Rattle.mon_values.specs.declared.value.Value as value
use Rattle.mon_trees.specs.declared.tree.Expression.{Expression}
use Rattle.mon_trees.specs.declared.tree.Simple.{Simple}
use Rattle.mon_trees.specs.declared.tree.Simple.TheVariants as simple
use Rattle.mon_trees.specs.declared.tree.Statement.{Statement}
use Rattle.mon_trees.specs.declared.tree.Statement.TheViews.{roll-Statement, roll-Handler}
use Rattle.mon_trees.specs.declared.tree.Statement.TheOpen.{Statement-F, Handler-F}
use Rattle.mon_trees.specs.declared.tree.Statement.TheFolds.{ind-Statement, ind-Handler, fold-roll-Statement, fold-roll-Handler, map-Statement, map-Handler}
use Rattle.mon_trees.specs.declared.tree.Handler.{Handler}
use Rattle.mon_compile.specs.declared.assembly.Label.{Label}
use Rattle.mon_compile.specs.Expressions.{Coder, Locals, expression_code, constant_code, number_of_local, binary_number}
use Rattle.mon_compile.specs.Statements.{Scheme, ClauseScheme, block, guarded, is_lone_text, lone_code, coder_of, simple_code, statement_step, clause_code, handler_step, statement_code, handler_code}
use Rattle.mon_compile.proofs.ExpressionLabels.{Moving, expression_moving}
use Rattle.mon_compile.proofs.ContextLabels.{break_code_moved, continue_code_moved}
use Rattle.mon_compile.proofs.StatementLabels.{Carrying, AllCarrying, ClauseCarrying, AllClauses, block_carrying, ending_carrying, assign_carrying, augmented_carrying, single_carrying, return_carrying, branch_carrying, while_carrying, for_carrying, try_carrying, except_carrying, except_as_carrying, bare_carrying, guarded_carrying}

lone_carrying : (g : Label → Label) (line : ℕ) (is_lone : Bool) (e : Coder) → Moving g e → Carrying g (lone_code line is_lone e)
lone_carrying g line true e m context fix at = refl
lone_carrying g line false e m context fix at = ending_carrying g line e Op.PopTop 0 m context fix at

simple_carrying : (g : Label → Label) (locals : Locals) (line : ℕ) (s : Simple) → Carrying g (simple_code locals line s)
simple_carrying g locals line simple.Pass context fix at = single_carrying g line Op.Nop context fix at
simple_carrying g locals line simple.Break context fix at = break_code_moved g line context at
simple_carrying g locals line simple.Continue context fix at = continue_code_moved g fix line context at
simple_carrying g locals line (simple.Return None) context fix at = return_carrying g line (constant_code value.None) (λ s at. refl) context fix at
simple_carrying g locals line (simple.Return (Some e)) context fix at = return_carrying g line (expression_code locals e) (expression_moving g fix locals e) context fix at
simple_carrying g locals line (simple.Raise None) context fix at = single_carrying g line Op.RaiseVarargs context fix at
simple_carrying g locals line (simple.Raise (Some e)) context fix at = ending_carrying g line (expression_code locals e) Op.RaiseVarargs 1 (expression_moving g fix locals e) context fix at
simple_carrying g locals line (simple.Augmented n op e) context fix at = augmented_carrying g line (number_of_local locals n) (binary_number op) (expression_code locals e) (expression_moving g fix locals e) context fix at
simple_carrying g locals line (simple.Assign t e) context fix at = assign_carrying g locals line t (expression_code locals e) (expression_moving g fix locals e) context fix at
simple_carrying g locals line (simple.Expression e) context fix at = lone_carrying g line (is_lone_text e) (expression_code locals e) (expression_moving g fix locals e) context fix at

clause_carrying : (g : Label → Label) (locals : Locals) (line : ℕ) (class : Option Expression) (name : Option (List ℕ)) (b : Scheme) → Carrying g b → ClauseCarrying g (clause_code locals line (coder_of locals class) name b).code
clause_carrying g locals line None name b m y context fix at = bare_carrying g line b m y context fix at
clause_carrying g locals line (Some e) None b m y context fix at = except_carrying g line (expression_code locals e) b (expression_moving g fix locals e) m y context fix at
clause_carrying g locals line (Some e) (Some n) b m y context fix at = except_as_carrying g line (expression_code locals e) (number_of_local locals n) b (expression_moving g fix locals e) m y context fix at

-- what the induction keeps of a statement, and of a clause
abbrev Part : (Label → Label) → Locals → Type 0
Part g locals = (s : Statement) × Carrying g (statement_code locals s)

abbrev ClausePart : (Label → Label) → Locals → Type 0
ClausePart g locals = (c : Handler) × ClauseCarrying g (handler_code locals c).code

abbrev codes : (g : Label → Label) (locals : Locals) → List (Part g locals) → List Scheme
codes g locals parts = map (statement_code locals) (map (λ e. e.0) parts)

abbrev clause_codes : (g : Label → Label) (locals : Locals) → List (ClausePart g locals) → List ClauseScheme
clause_codes g locals parts = map (handler_code locals) (map (λ e. e.0) parts)

codes_carrying : (g : Label → Label) (locals : Locals) (parts : List (Part g locals)) → AllCarrying g (codes g locals parts)
codes_carrying g locals [] = tt
codes_carrying g locals (e ∷ parts) = (e.1, codes_carrying g locals parts)

clauses_all : (g : Label → Label) (locals : Locals) (parts : List (ClausePart g locals)) → AllClauses g (clause_codes g locals parts)
clauses_all g locals [] = tt
clauses_all g locals (e ∷ parts) = (e.1, clauses_all g locals parts)

body_carrying : (g : Label → Label) (locals : Locals) (parts : List (Part g locals)) → Carrying g (block (codes g locals parts))
body_carrying g locals parts = block_carrying g (codes g locals parts) (codes_carrying g locals parts)

-- one layer, with the code of each part in its place
abbrev opened : (g : Label → Label) (locals : Locals) → Statement-F (Part g locals) (ClausePart g locals) → Statement-F Scheme ClauseScheme
opened g locals y = map-Statement Statement Handler Scheme ClauseScheme (statement_code locals) (handler_code locals) (map-Statement (Part g locals) (ClausePart g locals) Statement Handler (λ e. e.0) (λ e. e.0) y)

abbrev opened_clause : (g : Label → Label) (locals : Locals) → Handler-F (Part g locals) (ClausePart g locals) → Handler-F Scheme ClauseScheme
opened_clause g locals y = map-Handler Statement Handler Scheme ClauseScheme (statement_code locals) (handler_code locals) (map-Handler (Part g locals) (ClausePart g locals) Statement Handler (λ e. e.0) (λ e. e.0) y)

layer : (g : Label → Label) (locals : Locals) (y : Statement-F (Part g locals) (ClausePart g locals)) → Carrying g (statement_step locals (opened g locals y))
layer g locals (Statement-F.Simple line s) context fix at = simple_carrying g locals line s context fix at
layer g locals (Statement-F.If line c a b) context fix at =
    branch_carrying g line (expression_code locals c) (block (codes g locals a)) (codes g locals b) (expression_moving g fix locals c) (body_carrying g locals a) (codes_carrying g locals b) context fix at
layer g locals (Statement-F.While line c a) context fix at = while_carrying g line (expression_code locals c) (block (codes g locals a)) (expression_moving g fix locals c) (body_carrying g locals a) context fix at
layer g locals (Statement-F.For line t e a) context fix at = for_carrying g locals line t (expression_code locals e) (block (codes g locals a)) (expression_moving g fix locals e) (body_carrying g locals a) context fix at
layer g locals (Statement-F.Try line a clauses f) context fix at =
    try_carrying g line (block (codes g locals a)) (clause_codes g locals clauses) (codes g locals f) (body_carrying g locals a) (clauses_all g locals clauses) (codes_carrying g locals f) context fix at

clause_layer : (g : Label → Label) (locals : Locals) (y : Handler-F (Part g locals) (ClausePart g locals)) → ClauseCarrying g (handler_step locals (opened_clause g locals y)).code
clause_layer g locals y = clause_carrying g locals y.line y.class y.name (block (codes g locals y.body)) (body_carrying g locals y.body)

abbrev ClauseClaim : (Label → Label) → Locals → Handler → Type 0
ClauseClaim g locals c = ClauseCarrying g (handler_code locals c).code

abbrev Claim : (Label → Label) → Locals → Statement → Type 0
Claim g locals s = Carrying g (statement_code locals s)

statement_roll : (g : Label → Label) (locals : Locals) (x : Statement-F Statement Handler) (y : Statement-F (Part g locals) (ClausePart g locals)) → map-Statement (Part g locals) (ClausePart g locals) Statement Handler (λ e. e.0) (λ e. e.0) y ≡ x
    → Claim g locals (roll-Statement x)
statement_roll g locals x y is =
    let unrolled : statement_code locals (roll-Statement x) ≡ statement_step locals (map-Statement Statement Handler Scheme ClauseScheme (statement_code locals) (handler_code locals) x)
    = fold-roll-Statement Scheme ClauseScheme (statement_step locals) (handler_step locals) x in
    let inner : Carrying g (statement_step locals (map-Statement Statement Handler Scheme ClauseScheme (statement_code locals) (handler_code locals) x))
    = subst (λ (z : Statement-F Statement Handler). Carrying g (statement_step locals (map-Statement Statement Handler Scheme ClauseScheme (statement_code locals) (handler_code locals) z))) is (layer g locals y) in
    subst (λ (f : Scheme). Carrying g f) (sym unrolled) inner

clause_roll : (g : Label → Label) (locals : Locals) (x : Handler-F Statement Handler) (y : Handler-F (Part g locals) (ClausePart g locals)) → map-Handler (Part g locals) (ClausePart g locals) Statement Handler (λ e. e.0) (λ e. e.0) y ≡ x
    → ClauseClaim g locals (roll-Handler x)
clause_roll g locals x y is =
    let unrolled : handler_code locals (roll-Handler x) ≡ handler_step locals (map-Handler Statement Handler Scheme ClauseScheme (statement_code locals) (handler_code locals) x)
    = fold-roll-Handler Scheme ClauseScheme (statement_step locals) (handler_step locals) x in
    let inner : ClauseCarrying g (handler_step locals (map-Handler Statement Handler Scheme ClauseScheme (statement_code locals) (handler_code locals) x)).code
    = subst (λ (z : Handler-F Statement Handler). ClauseCarrying g (handler_step locals (map-Handler Statement Handler Scheme ClauseScheme (statement_code locals) (handler_code locals) z)).code) is (clause_layer g locals y) in
    subst (λ (c : ClauseScheme). ClauseCarrying g c.code) (sym unrolled) inner

pub statement_carrying : (g : Label → Label) (locals : Locals) (s : Statement) → Carrying g (statement_code locals s)
statement_carrying g locals = ind-Statement (Claim g locals) (ClauseClaim g locals) (statement_roll g locals) (clause_roll g locals)

pub handler_carrying : (g : Label → Label) (locals : Locals) (c : Handler) → ClauseCarrying g (handler_code locals c).code
handler_carrying g locals = ind-Handler (Claim g locals) (ClauseClaim g locals) (statement_roll g locals) (clause_roll g locals)

pub all_carry : (g : Label → Label) (locals : Locals) (body : List Statement) → AllCarrying g (map (statement_code locals) body)
all_carry g locals [] = tt
all_carry g locals (s ∷ body) = (statement_carrying g locals s, all_carry g locals body)

pub body_carries : (g : Label → Label) (locals : Locals) (body : List Statement) → Carrying g (block (map (statement_code locals) body))
body_carries g locals body = block_carrying g (map (statement_code locals) body) (all_carry g locals body)

pub clauses_carry : (g : Label → Label) (locals : Locals) (clauses : List Handler) → AllClauses g (map (handler_code locals) clauses)
clauses_carry g locals [] = tt
clauses_carry g locals (c ∷ clauses) = (handler_carrying g locals c, clauses_carry g locals clauses)

pub guarded_carries : (g : Label → Label) (locals : Locals) (body : List Statement) (clauses : List Handler) → Carrying g (guarded (block (map (statement_code locals) body)) (map (handler_code locals) clauses))
guarded_carries g locals body clauses = guarded_carrying g (block (map (statement_code locals) body)) (map (handler_code locals) clauses) (body_carries g locals body) (clauses_carry g locals clauses)
