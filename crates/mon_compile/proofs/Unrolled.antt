-- Folds of a statement, one layer down.
use Rattle.std.proofs.Common.{◌≡◌, ℕ, List, map, ap, sym, ◌∙◌}
use Rattle.mon_trees.specs.declared.tree.Expression.{Expression}
use Rattle.mon_trees.specs.declared.tree.Handler.{Handler}
use Rattle.mon_trees.specs.declared.tree.Targets.{Targets}
use Rattle.mon_trees.specs.declared.tree.Statement.{Statement}
use Rattle.mon_trees.specs.declared.tree.Statement.TheOpen.{Statement-F, Handler-F}
use Rattle.mon_trees.specs.declared.tree.Statement.TheFolds.{fold-Statement, fold-Handler, fold-roll-Statement}
use Rattle.mon_trees.specs.declared.tree.Statement.TheViews as views

pub at_if : (S H : Type 0) (step : Statement-F S H → S) (clause : Handler-F S H → H) (line : ℕ) (c : Expression) (a b : List Statement)
    → fold-Statement S H step clause (views.If line c a b) ≡ step (Statement-F.If line c (map (fold-Statement S H step clause) a) (map (fold-Statement S H step clause) b))
at_if S H step clause line c a b = ap (fold-Statement S H step clause) (sym (views.rolls-If line c a b)) ∙ fold-roll-Statement S H step clause (Statement-F.If line c a b)

pub at_while : (S H : Type 0) (step : Statement-F S H → S) (clause : Handler-F S H → H) (line : ℕ) (c : Expression) (a : List Statement)
    → fold-Statement S H step clause (views.While line c a) ≡ step (Statement-F.While line c (map (fold-Statement S H step clause) a))
at_while S H step clause line c a = ap (fold-Statement S H step clause) (sym (views.rolls-While line c a)) ∙ fold-roll-Statement S H step clause (Statement-F.While line c a)

pub at_for : (S H : Type 0) (step : Statement-F S H → S) (clause : Handler-F S H → H) (line : ℕ) (t : Targets) (e : Expression) (a : List Statement)
    → fold-Statement S H step clause (views.For line t e a) ≡ step (Statement-F.For line t e (map (fold-Statement S H step clause) a))
at_for S H step clause line t e a = ap (fold-Statement S H step clause) (sym (views.rolls-For line t e a)) ∙ fold-roll-Statement S H step clause (Statement-F.For line t e a)

pub at_try : (S H : Type 0) (step : Statement-F S H → S) (clause : Handler-F S H → H) (line : ℕ) (a : List Statement) (handlers : List Handler) (f : List Statement)
    → fold-Statement S H step clause (views.Try line a handlers f)
    ≡ step (Statement-F.Try line (map (fold-Statement S H step clause) a) (map (fold-Handler S H step clause) handlers) (map (fold-Statement S H step clause) f))
at_try S H step clause line a handlers f =
    ap (fold-Statement S H step clause) (sym (views.rolls-Try line a handlers f)) ∙ fold-roll-Statement S H step clause (Statement-F.Try line a handlers f)
