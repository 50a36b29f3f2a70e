-- The code of a function fits into the depths that it records.
use Rattle.std.proofs.Common.{◌≡◌, ℕ, ◌+◌, ◌<◌, Bool, true, false, List, [], ◌∷◌, ◌++◌, length, map, refl, sym, ap, subst, arith, append_assoc, length-append}
use Rattle.std.specs.Prelude.{Option, Some, None, slice_get}
use Rattle.mon_events.specs.declared.op.Op.{Op}
use Rattle.mon_code.specs.Depths.{Table, Records}
use Rattle.mon_values.specs.declared.value.Value as value
use Rattle.mon_trees.specs.declared.tree.Expression.{Expression}
use Rattle.mon_trees.specs.declared.tree.Function.{Function}
use Rattle.mon_trees.specs.declared.tree.Handler.{Handler}
use Rattle.mon_trees.specs.declared.tree.Simple.{Simple}
use Rattle.mon_trees.specs.declared.tree.Simple.TheVariants as simple
use Rattle.mon_trees.specs.declared.tree.Statement.{Statement}
use Rattle.mon_trees.specs.declared.tree.Statement.TheViews.{roll-Statement, roll-Handler}
use Rattle.mon_trees.specs.declared.tree.Statement.TheOpen.{Statement-F, Handler-F}
use Rattle.mon_trees.specs.declared.tree.Statement.TheFolds.{ind-Statement, fold-roll-Statement, fold-roll-Handler, map-Statement, map-Handler}
use Rattle.mon_compile.specs.declared.assembly.Instruction.{Instruction}
use Rattle.mon_compile.specs.declared.assembly.Argument.TheVariants.{Number, Constant}
use Rattle.mon_compile.specs.Contexts.{none, above, no_line}
use Rattle.mon_compile.specs.Expressions.{Coder, Locals, expression_code, constant_code, number_of_local, binary_number}
use Rattle.mon_compile.specs.Statements.{Scheme, ClauseScheme, block, is_lone_text, lone_code, coder_of, simple_code, statement_step, clause_code, handler_step, statement_code, block_code, handler_code}
use Rattle.mon_compile.specs.Functions.{locals_of, is_generator, start_code, end_code, function_code}
use Rattle.mon_compile.specs.Placed.{depth_in, table_of, AllFit, IsFitted}
use Rattle.mon_compile.proofs.Fit.{Stands, Good, records_as, join, fits_plain, fits_last}
use Rattle.mon_compile.proofs.ExpressionDepths.{Sound, expression_sound, constant_sound}
use Rattle.mon_compile.proofs.ContextDepths.{Keeps, break_keeps, continue_keeps}
use Rattle.mon_compile.proofs.StatementDepths.{AllKeep, block_keeps, ending_keeps, raise_keeps, raise_again_keeps, assign_keeps, augmented_keeps, pass_keeps, return_keeps, branch_keeps, while_keeps, for_keeps, try_keeps, ClauseKeeps, AllClausesKeep, except_keeps, except_as_keeps, bare_keeps}
use Rattle.mon_compile.proofs.Labels.{all_carry, body_carries, clauses_carry}

lone_keeps : (t : Table) (line : ℕ) (is_lone : Bool) (e : Coder) → Sound t e → Keeps t (lone_code line is_lone e)
lone_keeps t line true e m c f k at p w = record { fits = tt; start = w }
lone_keeps t line false e m c f k at p w = ending_keeps t line e Op.PopTop 0 refl m c f k at p w

simple_keeps : (t : Table) (locals : Locals) (line : ℕ) (s : Simple) → Keeps t (simple_code locals line s)
simple_keeps t locals line simple.Pass = pass_keeps t line
simple_keeps t locals line simple.Break = break_keeps t line
simple_keeps t locals line simple.Continue = continue_keeps t line
simple_keeps t locals line (simple.Return None) = return_keeps t line (constant_code value.None) (constant_sound t value.None)
simple_keeps t locals line (simple.Return (Some e)) = return_keeps t line (expression_code locals e) (expression_sound t locals e)
simple_keeps t locals line (simple.Raise None) = raise_again_keeps t line
simple_keeps t locals line (simple.Raise (Some e)) = raise_keeps t line (expression_code locals e) (expression_sound t locals e)
simple_keeps t locals line (simple.Augmented n op e) = augmented_keeps t line (number_of_local locals n) (binary_number op) (expression_code locals e) (expression_sound t locals e)
simple_keeps t locals line (simple.Assign target e) = assign_keeps t locals line target (expression_code locals e) (expression_sound t locals e)
simple_keeps t locals line (simple.Expression e) = lone_keeps t line (is_lone_text e) (expression_code locals e) (expression_sound t locals e)

abbrev ClauseClaim : Table → ClauseScheme → Type 0
ClauseClaim t c = ClauseKeeps t c.is_bare c.code

clause_keeps : (t : Table) (locals : Locals) (line : ℕ) (class : Option Expression) (name : Option (List ℕ)) (body : List Statement) → Keeps t (block_code locals body)
    → ClauseClaim t (clause_code locals line (coder_of locals class) name (block_code locals body))
clause_keeps t locals line None name body m = bare_keeps t line (block_code locals body) m
clause_keeps t locals line (Some e) None body m = except_keeps t line (expression_code locals e) (block_code locals body) (expression_sound t locals e) m
clause_keeps t locals line (Some e) (Some n) body m =
    except_as_keeps t line (expression_code locals e) (number_of_local locals n) (block_code locals body) (expression_sound t locals e) (λ g. body_carries g locals body) m

-- what the induction keeps of a statement, and of a clause
abbrev Part : Table → Locals → Type 0
Part t locals = (s : Statement) × Keeps t (statement_code locals s)

abbrev ClausePart : Table → Locals → Type 0
ClausePart t locals = (c : Handler) × ClauseClaim t (handler_code locals c)

abbrev trees : (t : Table) (locals : Locals) → List (Part t locals) → List Statement
trees t locals parts = map (λ e. e.0) parts

abbrev clauses_of : (t : Table) (locals : Locals) → List (ClausePart t locals) → List Handler
clauses_of t locals parts = map (λ e. e.0) parts

abbrev codes : (t : Table) (locals : Locals) → List (Part t locals) → List Scheme
codes t locals parts = map (statement_code locals) (trees t locals parts)

abbrev clause_codes : (t : Table) (locals : Locals) → List (ClausePart t locals) → List ClauseScheme
clause_codes t locals parts = map (handler_code locals) (clauses_of t locals parts)

codes_keep : (t : Table) (locals : Locals) (parts : List (Part t locals)) → AllKeep t (codes t locals parts)
codes_keep t locals [] = tt
codes_keep t locals (e ∷ parts) = (e.1, codes_keep t locals parts)

clause_codes_keep : (t : Table) (locals : Locals) (parts : List (ClausePart t locals)) → AllClausesKeep t (clause_codes t locals parts)
clause_codes_keep t locals [] = tt
clause_codes_keep t locals (e ∷ parts) = (e.1, clause_codes_keep t locals parts)

body_keeps : (t : Table) (locals : Locals) (parts : List (Part t locals)) → Keeps t (block (codes t locals parts))
body_keeps t locals parts = block_keeps t (codes t locals parts) (codes_keep t locals parts)

abbrev opened : (t : Table) (locals : Locals) → Statement-F (Part t locals) (ClausePart t locals) → Statement-F Scheme ClauseScheme
opened t locals y = map-Statement Statement Handler Scheme ClauseScheme (statement_code locals) (handler_code locals) (map-Statement (Part t locals) (ClausePart t locals) Statement Handler (λ e. e.0) (λ e. e.0) y)

abbrev opened_clause : (t : Table) (locals : Locals) → Handler-F (Part t locals) (ClausePart t locals) → Handler-F Scheme ClauseScheme
opened_clause t locals y = map-Handler Statement Handler Scheme ClauseScheme (statement_code locals) (handler_code locals) (map-Handler (Part t locals) (ClausePart t locals) Statement Handler (λ e. e.0) (λ e. e.0) y)

layer : (t : Table) (locals : Locals) (y : Statement-F (Part t locals) (ClausePart t locals)) → Keeps t (statement_step locals (opened t locals y))
layer t locals (Statement-F.Simple line s) = simple_keeps t locals line s
layer t locals (Statement-F.If line e a b) =
    branch_keeps t line (expression_code locals e) (block (codes t locals a)) (codes t locals b) (expression_sound t locals e) (body_keeps t locals a) (codes_keep t locals b)
layer t locals (Statement-F.While line e a) =
    while_keeps t line (expression_code locals e) (block (codes t locals a)) (expression_sound t locals e) (λ g. body_carries g locals (trees t locals a)) (body_keeps t locals a)
layer t locals (Statement-F.For line target e a) =
    for_keeps t locals line target (expression_code locals e) (block (codes t locals a)) (expression_sound t locals e) (λ g. body_carries g locals (trees t locals a)) (body_keeps t locals a)
layer t locals (Statement-F.Try line a clauses last) =
    try_keeps t line (block (codes t locals a)) (clause_codes t locals clauses) (codes t locals last)
    (λ g. body_carries g locals (trees t locals a)) (λ g. clauses_carry g locals (clauses_of t locals clauses)) (λ g. all_carry g locals (trees t locals last))
    (body_keeps t locals a) (clause_codes_keep t locals clauses) (codes_keep t locals last)

clause_layer : (t : Table) (locals : Locals) (y : Handler-F (Part t locals) (ClausePart t locals)) → ClauseClaim t (handler_step locals (opened_clause t locals y))
clause_layer t locals y = clause_keeps t locals y.line y.class y.name (trees t locals y.body) (body_keeps t locals y.body)

pub statement_keeps : (t : Table) (locals : Locals) (s : Statement) → Keeps t (statement_code locals s)
statement_keeps t locals = ind-Statement (λ s. Keeps t (statement_code locals s)) (λ c. ClauseClaim t (handler_code locals c))
    (λ x y is.
    let unrolled : statement_code locals (roll-Statement x) ≡ statement_step locals (map-Statement Statement Handler Scheme ClauseScheme (statement_code locals) (handler_code locals) x)
    = fold-roll-Statement Scheme ClauseScheme (statement_step locals) (handler_step locals) x in
    let inner : Keeps t (statement_step locals (map-Statement Statement Handler Scheme ClauseScheme (statement_code locals) (handler_code locals) x))
    = subst (λ (z : Statement-F Statement Handler). Keeps t (statement_step locals (map-Statement Statement Handler Scheme ClauseScheme (statement_code locals) (handler_code locals) z))) is (layer t locals y) in
    subst (λ (f : Scheme). Keeps t f) (sym unrolled) inner)
    (λ x y is.
    let unrolled : handler_code locals (roll-Handler x) ≡ handler_step locals (map-Handler Statement Handler Scheme ClauseScheme (statement_code locals) (handler_code locals) x)
    = fold-roll-Handler Scheme ClauseScheme (statement_step locals) (handler_step locals) x in
    let inner : ClauseClaim t (handler_step locals (map-Handler Statement Handler Scheme ClauseScheme (statement_code locals) (handler_code locals) x))
    = subst (λ (z : Handler-F Statement Handler). ClauseClaim t (handler_step locals (map-Handler Statement Handler Scheme ClauseScheme (statement_code locals) (handler_code locals) z))) is (clause_layer t locals y) in
    subst (λ (c : ClauseScheme). ClauseClaim t c) (sym unrolled) inner)

all_keep : (t : Table) (locals : Locals) (body : List Statement) → AllKeep t (map (statement_code locals) body)
all_keep t locals [] = tt
all_keep t locals (s ∷ body) = (statement_keeps t locals s, all_keep t locals body)

-- a code agrees with the table that is read from it
abbrev Agrees : Table → ℕ → List Instruction → Type 0
Agrees t at [] = Unit {0}
Agrees t at (i ∷ code) = Records t at i.spot.stack i.spot.handling × Agrees t (at + 1) code

agrees_as : (t : Table) (n n' : ℕ) (code : List Instruction) → Agrees t n code → n ≡ n' → Agrees t n' code
agrees_as t n n' code a e = rw (← e) a

agrees_before : (t : Table) (at : ℕ) (a b : List Instruction) (s h : ℕ) → Agrees t at (a ++ b) → Records t (at + length a) s h → Stands t at a s h
agrees_before t at [] b s h g r = records_as t (at + 0) at s s h h r (omega arith) refl refl
agrees_before t at (i ∷ a) b s h g r = (g.0, agrees_before t (at + 1) a b s h g.1 (records_as t (at + length (i ∷ a)) (at + 1 + length a) s s h h r (omega arith) refl refl))

agrees_behind : (t : Table) (at : ℕ) (a b : List Instruction) → Agrees t at (a ++ b) → Agrees t (at + length a) b
agrees_behind t at [] b g = agrees_as t at (at + 0) b g (omega arith)
agrees_behind t at (i ∷ a) b g = agrees_as t (at + 1 + length a) (at + length (i ∷ a)) b (agrees_behind t (at + 1) a b g.1) (omega arith)

get_seam : (front : List Instruction) (i : Instruction) (code : List Instruction) → slice_get (front ++ (i ∷ code)) (length front) ≡ Some i
get_seam [] i code = refl
get_seam (x ∷ front) i code = get_seam front i code

agrees_self : (front code : List Instruction) → Agrees (table_of (front ++ code)) (length front) code
agrees_self front [] = tt
agrees_self front (i ∷ code) =
    let t = table_of (front ++ (i ∷ code)) in
    let same : (front ++ (i ∷ [])) ++ code ≡ front ++ (i ∷ code) = append_assoc front (i ∷ []) code in
    let more : Agrees (table_of ((front ++ (i ∷ [])) ++ code)) (length (front ++ (i ∷ []))) code = agrees_self (front ++ (i ∷ [])) code in
    let there : Agrees t (length (front ++ (i ∷ []))) code = subst (λ l. Agrees (table_of l) (length (front ++ (i ∷ []))) code) same more in
    (ap depth_in (get_seam front i code), agrees_as t (length (front ++ (i ∷ []))) (length front + 1) code there (length-append front (i ∷ [])))

end_fits : (t : Table) (at : ℕ) → Agrees t at end_code → AllFit t at end_code
end_fits t at a = (fits_plain t at 0 1 (no_line []) Op.LoadConst (Constant value.None) 0 refl a.1.0 tt, (fits_last t (at + 1) 1 0 (above 1 (no_line [])) Op.ReturnValue none 0 0 refl refl tt, tt))

-- the start leads on to what stands behind it
start_fits : (t : Table) (generates : Bool) (rest : List Instruction) → Agrees t 0 (start_code generates ++ rest) → Records t (length (start_code generates)) 0 0 → AllFit t 0 (start_code generates)
start_fits t true rest a next =
    (fits_plain t 0 0 1 (no_line []) Op.ReturnGenerator none 0 refl a.1.0 tt, (fits_plain t 1 1 0 (above 1 (no_line [])) Op.PopTop none 0 refl a.1.1.0 tt, (fits_plain t 2 0 0 (no_line []) Op.Resume (Number 0) 0 refl next tt, tt)))
start_fits t false rest a next = (fits_plain t 0 0 0 (no_line []) Op.Resume (Number 0) 0 refl next tt, tt)

start_records : (t : Table) (generates : Bool) (rest : List Instruction) → Agrees t 0 (start_code generates ++ rest) → Records t 0 0 0
start_records t true rest a = a.0
start_records t false rest a = a.0

start_length : (generates : Bool) → 0 < length (start_code generates)
start_length true = omega arith
start_length false = omega arith

pub code_fitted : (locals : Locals) (generates : Bool) (body : List Statement) → IsFitted (start_code generates ++ (block_code locals body [] (length (start_code generates)) ++ end_code))
code_fitted locals generates body =
    let start = start_code generates in
    let n = length start in
    let code = block_code locals body [] n in
    let whole = start ++ (code ++ end_code) in
    let t = table_of whole in
    let a : Agrees t 0 whole = agrees_self [] whole in
    let a2 : Agrees t n (code ++ end_code) = agrees_as t (0 + n) n (code ++ end_code) (agrees_behind t 0 start (code ++ end_code) a) (omega arith) in
    let a3 = agrees_behind t n code end_code a2 in
    let g : Good t n 0 0 code = block_keeps t (map (statement_code locals) body) (all_keep t locals body) [] tt (λ g fix. refl) n (start_length generates) (agrees_before t n code end_code 0 0 a2 a3.0) in
    record {
      start = start_records t generates (code ++ end_code) a;
      each = join t 0 start (code ++ end_code) (start_fits t generates (code ++ end_code) a g.start)
          (fits_from t n (0 + n) (code ++ end_code) (join t n code end_code g.fits (end_fits t (n + length code) a3)) (omega arith));
    }
  where
    fits_from : (t : Table) (n n' : ℕ) (code : List Instruction) → AllFit t n code → n ≡ n' → AllFit t n' code
    fits_from t n n' code f e = rw (← e) f

pub function_fitted : (f : Function) → IsFitted (function_code f)
function_fitted f = code_fitted (locals_of f) (is_generator f) f.body
