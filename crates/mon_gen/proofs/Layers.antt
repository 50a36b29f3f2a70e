-- The statements of a generated program, under folds: one layer down.
use Rattle.std.proofs.Common.{◌≡◌, ℕ, ◌+◌, Bool, true, false, pos, List, [], ◌∷◌, ◌++◌, map, length, nat_lt, ◌||◌, Some, None, refl, sym, ap, ◌∙◌, codes}
use Rattle.mon_compile.specs.Expressions.{Coder, Locals, constant_code, name_code, call_code, expression_code, expression_step}
use Rattle.mon_compile.specs.Faults.{loose_of, loose_step, loose_handler_step, is_large, large_step, has_large, large_lines_of, large_lines_step, large_handler_step, where_so}
use Rattle.mon_compile.specs.Functions.{joined, names_of, names_step, handler_names_step, yields_in, yields_step, yields_of, statement_yields_step, handler_yields_step}
use Rattle.mon_compile.specs.Statements.{Scheme, ClauseScheme, statement_code, statement_step, handler_step, assign_code, augmented_code, return_code, for_code, block}
use Rattle.mon_compile.specs.Expressions.{binary_number, number_of_local}
use Rattle.mon_trees.specs.declared.tree.BinaryOperator.{BinaryOperator}
use Rattle.mon_trees.specs.declared.tree.Expression.{Expression}
use Rattle.mon_trees.specs.declared.tree.Expression as expression
use Rattle.mon_trees.specs.declared.tree.Expression.TheFolds.{fold-Expression, fold-roll-Expression}
use Rattle.mon_trees.specs.declared.tree.Expression.TheOpen.{Expression-F}
use Rattle.mon_trees.specs.declared.tree.Expression.TheViews as node
use Rattle.mon_trees.specs.declared.tree.Simple.{Simple}
use Rattle.mon_trees.specs.declared.tree.Simple.TheVariants as simple
use Rattle.mon_trees.specs.declared.tree.Statement.{Statement}
use Rattle.mon_trees.specs.declared.tree.Statement as statement
use Rattle.mon_trees.specs.declared.tree.Statement.TheFolds.{fold-Statement, fold-roll-Statement}
use Rattle.mon_trees.specs.declared.tree.Statement.TheOpen.{Statement-F, Handler-F}
use Rattle.mon_trees.specs.declared.tree.Statement.TheViews as compound
use Rattle.mon_trees.specs.declared.tree.Targets.TheVariants as targets
use Rattle.mon_values.specs.declared.value.Value as value
use Rattle.mon_values.specs.declared.value.Value.TheFolds.{fold-roll-Value}
use Rattle.mon_values.specs.declared.value.Value.TheOpen.{Value-F}
use Rattle.mon_values.specs.declared.value.Value.TheViews as values
use Rattle.mon_values.specs.Weights.{weight, depth, most_weight, most_depth, weight_step, exc_weight_step, depth_step, exc_depth_step}
use Rattle.mon_gen.specs.Generated.{add, additions, assign, call, give_back}

-- expressions

at_name : (A : Type 0) (step : Expression-F A → A) (n : List ℕ) → fold-Expression A step (expression.Name n) ≡ step (Expression-F.Name n)
at_name A step n = ap (fold-Expression A step) (sym (node.rolls-Name n)) ∙ fold-roll-Expression A step (Expression-F.Name n)

at_integer : (A : Type 0) (step : Expression-F A → A) (k : ℕ) → fold-Expression A step (expression.Integer (pos k)) ≡ step (Expression-F.Integer (pos k))
at_integer A step k = ap (fold-Expression A step) (sym (node.rolls-Integer (pos k))) ∙ fold-roll-Expression A step (Expression-F.Integer (pos k))

at_call : (A : Type 0) (step : Expression-F A → A) (f : List ℕ) → fold-Expression A step (call f) ≡ step (Expression-F.Call (step (Expression-F.Name f)) (step (Expression-F.Name (codes "n")) ∷ []))
at_call A step f =
    ap (fold-Expression A step) (sym (node.rolls-Call (expression.Name f) (expression.Name (codes "n") ∷ [])))
    ∙ (fold-roll-Expression A step (Expression-F.Call (expression.Name f) (expression.Name (codes "n") ∷ []))
    ∙ (ap (λ (a : A). step (Expression-F.Call a (fold-Expression A step (expression.Name (codes "n")) ∷ []))) (at_name A step f)
    ∙ ap (λ (a : A). step (Expression-F.Call (step (Expression-F.Name f)) (a ∷ []))) (at_name A step (codes "n"))))

-- statements

at_line : (S H : Type 0) (step : Statement-F S H → S) (clause : Handler-F S H → H) (line : ℕ) (s : Simple) → fold-Statement S H step clause (statement.Simple line s) ≡ step (Statement-F.Simple line s)
at_line S H step clause line s = ap (fold-Statement S H step clause) (sym (compound.rolls-Simple line s)) ∙ fold-roll-Statement S H step clause (Statement-F.Simple line s)

at_loop : (S H : Type 0) (step : Statement-F S H → S) (clause : Handler-F S H → H) (line : ℕ)
    → fold-Statement S H step clause (additions line)
    ≡ step (Statement-F.For line (targets.Name (codes "i")) (call (codes "range")) (step (Statement-F.Simple (line + 1) (simple.Augmented (codes "t") BinaryOperator.Add (expression.Name (codes "i")))) ∷ []))
at_loop S H step clause line =
    let body : Statement = add (line + 1) (codes "t") (expression.Name (codes "i")) in
    ap (fold-Statement S H step clause) (sym (compound.rolls-For line (targets.Name (codes "i")) (call (codes "range")) (body ∷ [])))
    ∙ (fold-roll-Statement S H step clause (Statement-F.For line (targets.Name (codes "i")) (call (codes "range")) (body ∷ []))
    ∙ ap (λ (s : S). step (Statement-F.For line (targets.Name (codes "i")) (call (codes "range")) (s ∷ []))) (at_line S H step clause (line + 1) (simple.Augmented (codes "t") BinaryOperator.Add (expression.Name (codes "i")))))

-- the names that they assign to

pub assigned : (line : ℕ) (n : List ℕ) (k : ℕ) → names_of (assign line n k) ≡ n ∷ []
assigned line n k = at_line (List (List ℕ)) (List (List ℕ)) names_step handler_names_step line (simple.Assign (targets.Name n) (expression.Integer (pos k)))

pub added : (line : ℕ) (n : List ℕ) (e : Expression) → names_of (add line n e) ≡ n ∷ []
added line n e = at_line (List (List ℕ)) (List (List ℕ)) names_step handler_names_step line (simple.Augmented n BinaryOperator.Add e)

pub returned : (line : ℕ) (n : List ℕ) → names_of (give_back line n) ≡ []
returned line n = at_line (List (List ℕ)) (List (List ℕ)) names_step handler_names_step line (simple.Return (Some (expression.Name n)))

pub looped : (line : ℕ) → names_of (additions line) ≡ codes "i" ∷ codes "t" ∷ []
looped line = at_loop (List (List ℕ)) (List (List ℕ)) names_step handler_names_step line

-- each kind of line is of no fault

pub record IsSilent (g : Statement → List ℕ) : Type 0 where
  pub assigns : (line : ℕ) (n : List ℕ) (k : ℕ) → g (assign line n k) ≡ []
  pub adds : (line : ℕ) (n f : List ℕ) → g (add line n (call f)) ≡ []
  pub returns : (line : ℕ) (n : List ℕ) → g (give_back line n) ≡ []
  pub loops : (line : ℕ) → g (additions line) ≡ []

pub silent_loose : IsSilent (λ s. loose_of s false)
silent_loose = record {
  assigns = λ line n k. ap (λ (l : Bool → List ℕ). l false) (at_line (Bool → List ℕ) (Bool → List ℕ) loose_step loose_handler_step line (simple.Assign (targets.Name n) (expression.Integer (pos k))));
  adds = λ line n f. ap (λ (l : Bool → List ℕ). l false) (at_line (Bool → List ℕ) (Bool → List ℕ) loose_step loose_handler_step line (simple.Augmented n BinaryOperator.Add (call f)));
  returns = λ line n. ap (λ (l : Bool → List ℕ). l false) (at_line (Bool → List ℕ) (Bool → List ℕ) loose_step loose_handler_step line (simple.Return (Some (expression.Name n))));
  loops = λ line. ap (λ (l : Bool → List ℕ). l false) (at_loop (Bool → List ℕ) (Bool → List ℕ) loose_step loose_handler_step line);
}

name_yields : (n : List ℕ) → yields_in (expression.Name n) ≡ []
name_yields n = at_name (List ℕ) yields_step n

call_yields : (f : List ℕ) → yields_in (call f) ≡ []
call_yields f = at_call (List ℕ) yields_step f

pub silent_yields : IsSilent yields_of
silent_yields = record {
  assigns = λ line n k. at_line (List ℕ) (List ℕ) statement_yields_step handler_yields_step line (simple.Assign (targets.Name n) (expression.Integer (pos k))) ∙ at_integer (List ℕ) yields_step k;
  adds = λ line n f. at_line (List ℕ) (List ℕ) statement_yields_step handler_yields_step line (simple.Augmented n BinaryOperator.Add (call f)) ∙ call_yields f;
  returns = λ line n. at_line (List ℕ) (List ℕ) statement_yields_step handler_yields_step line (simple.Return (Some (expression.Name n))) ∙ name_yields n;
  loops = λ line. at_loop (List ℕ) (List ℕ) statement_yields_step handler_yields_step line ∙ (ap (λ (l : List ℕ). l ++ ((yields_in (expression.Name (codes "i"))) ++ [])) (call_yields (codes "range")) ∙ ap (λ (l : List ℕ). l ++ []) (name_yields (codes "i")));
}

-- an integer is small

int_weight : (k : ℕ) → weight (value.Int (pos k)) ≡ 1
int_weight k = ap weight (sym (values.rolls-Int (pos k))) ∙ fold-roll-Value ℕ ℕ weight_step exc_weight_step (Value-F.Int (pos k))

int_depth : (k : ℕ) → depth (value.Int (pos k)) ≡ 0
int_depth k = ap depth (sym (values.rolls-Int (pos k))) ∙ fold-roll-Value ℕ ℕ depth_step exc_depth_step (Value-F.Int (pos k))

int_small : (k : ℕ) → is_large (value.Int (pos k)) ≡ false
int_small k =
    ap (λ (w : ℕ). nat_lt most_weight w || nat_lt most_depth (depth (value.Int (pos k)))) (int_weight k)
    ∙ ap (λ (d : ℕ). nat_lt most_depth d) (int_depth k)

name_small : (n : List ℕ) → has_large (expression.Name n) ≡ false
name_small n = at_name Bool large_step n

call_small : (f : List ℕ) → has_large (call f) ≡ false
call_small f = at_call Bool large_step f

pub silent_large : IsSilent large_lines_of
silent_large = record {
  assigns = λ line n k. at_line (List ℕ) (List ℕ) large_lines_step large_handler_step line (simple.Assign (targets.Name n) (expression.Integer (pos k))) ∙ ap (λ (b : Bool). where_so b line) (at_integer Bool large_step k ∙ int_small k);
  adds = λ line n f. at_line (List ℕ) (List ℕ) large_lines_step large_handler_step line (simple.Augmented n BinaryOperator.Add (call f)) ∙ ap (λ (b : Bool). where_so b line) (call_small f);
  returns = λ line n. at_line (List ℕ) (List ℕ) large_lines_step large_handler_step line (simple.Return (Some (expression.Name n))) ∙ ap (λ (b : Bool). where_so b line) (name_small n);
  loops = λ line. at_loop (List ℕ) (List ℕ) large_lines_step large_handler_step line
      ∙ (ap (λ (b : Bool). where_so b line ++ ((where_so (has_large (expression.Name (codes "i"))) (line + 1)) ++ [])) (call_small (codes "range"))
      ∙ ap (λ (b : Bool). where_so b (line + 1) ++ []) (name_small (codes "i")));
}

-- their code

pub assigned_code : (locals : Locals) (line : ℕ) (n : List ℕ) (k : ℕ) → statement_code locals (assign line n k) ≡ assign_code locals line (targets.Name n) (constant_code (value.Int (pos k)))
assigned_code locals line n k =
    at_line Scheme ClauseScheme (statement_step locals) (handler_step locals) line (simple.Assign (targets.Name n) (expression.Integer (pos k)))
    ∙ ap (assign_code locals line (targets.Name n)) (at_integer Coder (expression_step locals) k)

pub added_code : (locals : Locals) (line : ℕ) (n f : List ℕ) → statement_code locals (add line n (call f)) ≡ augmented_code line (number_of_local locals n) (binary_number BinaryOperator.Add) (call_code (name_code locals f) (name_code locals (codes "n") ∷ []))
added_code locals line n f =
    at_line Scheme ClauseScheme (statement_step locals) (handler_step locals) line (simple.Augmented n BinaryOperator.Add (call f))
    ∙ ap (augmented_code line (number_of_local locals n) (binary_number BinaryOperator.Add)) (at_call Coder (expression_step locals) f)

pub returned_code : (locals : Locals) (line : ℕ) (n : List ℕ) → statement_code locals (give_back line n) ≡ return_code line (name_code locals n)
returned_code locals line n =
    at_line Scheme ClauseScheme (statement_step locals) (handler_step locals) line (simple.Return (Some (expression.Name n)))
    ∙ ap (return_code line) (at_name Coder (expression_step locals) n)

abbrev pub addition_code : Locals → ℕ → Scheme
addition_code locals line = augmented_code line (number_of_local locals (codes "t")) (binary_number BinaryOperator.Add) (name_code locals (codes "i"))

pub looped_code : (locals : Locals) (line : ℕ)
    → statement_code locals (additions line) ≡ for_code locals line (targets.Name (codes "i")) (call_code (name_code locals (codes "range")) (name_code locals (codes "n") ∷ [])) (block (addition_code locals (line + 1) ∷ []))
looped_code locals line =
    at_loop Scheme ClauseScheme (statement_step locals) (handler_step locals) line
    ∙ (ap (λ (e : Coder). for_code locals line (targets.Name (codes "i")) e (block (augmented_code (line + 1) (number_of_local locals (codes "t")) (binary_number BinaryOperator.Add) (expression_code locals (expression.Name (codes "i"))) ∷ []))) (at_call Coder (expression_step locals) (codes "range"))
    ∙ ap (λ (e : Coder). for_code locals line (targets.Name (codes "i")) (call_code (name_code locals (codes "range")) (name_code locals (codes "n") ∷ [])) (block (augmented_code (line + 1) (number_of_local locals (codes "t")) (binary_number BinaryOperator.Add) e ∷ []))) (at_name Coder (expression_step locals) (codes "i")))
