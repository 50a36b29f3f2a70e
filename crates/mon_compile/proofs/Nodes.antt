-- A part of a list has at most the nodes of the list.
use Rattle.std.proofs.Common.{◌≡◌, ℕ, zero, suc, ◌<◌, ◌≤◌, List, [], ◌∷◌, length, map, get_or, ap, arith}
use Rattle.mon_trees.specs.declared.tree.Expression.{Expression}
use Rattle.mon_trees.specs.declared.tree.Handler.{Handler}
use Rattle.mon_trees.specs.declared.tree.Statement.{Statement}
use Rattle.mon_compile.specs.Nodes.{total, nodes, all_nodes, statement_nodes, handler_nodes, block_nodes, clauses_nodes}

one_of : {A : Type 0} (f : A → ℕ) (xs : List A) (i : ℕ) (d : A) → i < length xs → f (get_or xs i d) ≤ total (map f xs)
one_of f [] i d h = absurd (omega arith)
one_of f (x ∷ xs) zero d h = omega arith
one_of f (x ∷ xs) (suc i) d h = let inner = one_of f xs i d (omega arith) in omega (arith, inner)

pub nodes_within : (es : List Expression) (i : ℕ) (e : Expression) → i < length es → e ≡ get_or es i e → nodes e ≤ all_nodes es
nodes_within es i e h is = let inner = one_of nodes es i e h in omega (arith, inner, ap nodes is)

pub statement_within : (body : List Statement) (i : ℕ) (s : Statement) → i < length body → s ≡ get_or body i s → statement_nodes s ≤ block_nodes body
statement_within body i s h is = let inner = one_of statement_nodes body i s h in omega (arith, inner, ap statement_nodes is)

pub handler_within : (clauses : List Handler) (i : ℕ) (c : Handler) → i < length clauses → c ≡ get_or clauses i c → handler_nodes c ≤ clauses_nodes clauses
handler_within clauses i c h is = let inner = one_of handler_nodes clauses i c h in omega (arith, inner, ap handler_nodes is)
