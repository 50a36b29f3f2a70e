-- What the parts of expressions read, from what their calls read.
use Rattle.std.proofs.Common.{◌≡◌, ℕ, List, sym, ap, ◌∙◌}
use Rattle.std.specs.Prelude.{Option, Some, None, Result, MatchOption, ⊤, ℤ}
use Rattle.mon_lexer.specs.declared.token.Token.{Token}
use Rattle.mon_parser.specs.declared.cursor.Sign.TheVariants as sign
use Rattle.mon_parser.specs.declared.refusal.Refusal.{Refusal}
use Rattle.mon_trees.specs.declared.tree.Comparison.{Comparison}
use Rattle.mon_trees.specs.declared.tree.Comparison.TheVariants as comparison
use Rattle.mon_trees.specs.declared.tree.Single.{Single}
use Rattle.mon_trees.specs.declared.tree.Method.{Method}
use Rattle.mon_trees.specs.declared.tree.Expression.{Expression}
use Rattle.mon_trees.specs.declared.tree.Expression as tree
use Rattle.mon_trees.specs.declared.tree.Expression.TheViews as node
use Rattle.mon_parser.specs.Tokens.{single_of, cmp_op}
use Rattle.mon_parser.specs.Depth.{expr_depth}
use Rattle.mon_parser.specs.Reader.{next_at, mark_at, number_at, name_at, text_at, method_at, more_texts}
use Rattle.mon_parser.specs.Code.{Gives, Made}
use Rattle.mon_parser.specs.Readings.{leaf_at, identity_at, comparison_at, asked_at, call_ends, subscript_ends, ask_ends}
use Rattle.mon_parser.proofs.Calls.{found, missed, taken, passed, Kept, after}
use Rattle.mon_parser.proofs.Giving.{gives_made}

pub leaf_single : (ts rest : List Token) (s : Single) (x : Expression) → next_at single_of ts ≡ Some (s, rest) → x ≡ tree.Single s → leaf_at ts ≡ Some (x, rest)
unfolding leaf_at
leaf_single ts rest s x e p = taken _ _ e ∙ ap (λ w. Some (w, rest)) (sym p)

pub leaf_number : (ts a rest : List Token) (z : ℤ) (x : Expression) → Kept single_of ts a → next_at number_at a ≡ Some (z, rest) → x ≡ tree.Integer z → leaf_at ts ≡ Some (x, rest)
unfolding leaf_at
leaf_number ts a rest z x k e p = passed _ _ k.0 ∙ taken _ _ (after _ _ k e) ∙ ap (λ w. Some (w, rest)) (sym p)

pub leaf_name : (ts a b rest : List Token) (n : List ℕ) (x : Expression) → Kept single_of ts a → Kept number_at a b → next_at name_at b ≡ Some (n, rest) → x ≡ tree.Name n → leaf_at ts ≡ Some (x, rest)
unfolding leaf_at
leaf_name ts a b rest n x k l e p = passed _ _ k.0 ∙ passed _ _ (after _ _ k l.0) ∙ taken _ _ (after _ _ k (after _ _ l e)) ∙ ap (λ w. Some (w, rest)) (sym p)

pub leaf_text : (ts a b c rest end : List Token) (s u : List ℕ) (x : Expression) → Kept single_of ts a → Kept number_at a b → Kept name_at b c → next_at text_at c ≡ Some (s, rest) → more_texts s rest ≡ Some (u, end) → x ≡ tree.Text u → leaf_at ts ≡ Some (x, end)
unfolding leaf_at
leaf_text ts a b c rest end s u x k l m e f p = passed _ _ k.0 ∙ passed _ _ (after _ _ k l.0) ∙ passed _ _ (after _ _ k (after _ _ l m.0)) ∙ taken _ _ (after _ _ k (after _ _ l (after _ _ m e))) ∙ found _ f ∙ ap (λ w. Some (w, end)) (sym p)

pub leaf_none : (ts a b c d : List Token) → Kept single_of ts a → Kept number_at a b → Kept name_at b c → Kept text_at c d → (leaf_at ts ≡ None) × (d ≡ ts)
unfolding leaf_at
leaf_none ts a b c d k l m o = (passed _ _ k.0 ∙ passed _ _ (after _ _ k l.0) ∙ passed _ _ (after _ _ k (after _ _ l m.0)) ∙ passed _ _ (after _ _ k (after _ _ l (after _ _ m o.0))), o.1 ∙ m.1 ∙ l.1 ∙ k.1)

pub identity_not_none : (a : Expression) (is : ⊤) (ts rest : List Token) → next_at (mark_at sign.Not) ts ≡ Some (is, rest) → next_at single_of rest ≡ None → identity_at a ts ≡ None
unfolding identity_at
identity_not_none a is ts rest e f = taken _ _ e ∙ missed _ f

pub identity_not : (a : Expression) (is : ⊤) (s : Single) (ts rest end : List Token) (result : Result Expression Refusal) → next_at (mark_at sign.Not) ts ≡ Some (is, rest) → next_at single_of rest ≡ Some (s, end) → Made expr_depth (node.IsNot a s) result → Gives (identity_at a ts) result end
unfolding identity_at
identity_not a is s ts rest end result e f m = gives_made expr_depth (node.IsNot a s) _ result end (taken _ _ e ∙ found _ f) m

pub identity_none : (a : Expression) (ts same : List Token) → Kept (mark_at sign.Not) ts same → next_at single_of same ≡ None → identity_at a ts ≡ None
unfolding identity_at
identity_none a ts same k f = passed _ _ k.0 ∙ missed _ (after _ _ k f)

pub identity : (a : Expression) (s : Single) (ts same end : List Token) (result : Result Expression Refusal) → Kept (mark_at sign.Not) ts same → next_at single_of same ≡ Some (s, end) → Made expr_depth (node.Is a s) result → Gives (identity_at a ts) result end
unfolding identity_at
identity a s ts same end result k f m = gives_made expr_depth (node.Is a s) _ result end (passed _ _ k.0 ∙ found _ (after _ _ k f)) m

pub comparison_not_none : (is : ⊤) (ts rest : List Token) → next_at (mark_at sign.Not) ts ≡ Some (is, rest) → next_at (mark_at sign.In) rest ≡ None → comparison_at ts ≡ None
unfolding comparison_at
comparison_not_none is ts rest e f = taken _ _ e ∙ missed _ f

pub comparison_not_in : (is also : ⊤) (ts rest end : List Token) → next_at (mark_at sign.Not) ts ≡ Some (is, rest) → next_at (mark_at sign.In) rest ≡ Some (also, end) → comparison_at ts ≡ Some (Some comparison.NotIn, end)
unfolding comparison_at
comparison_not_in is also ts rest end e f = taken _ _ e ∙ found _ f

pub comparison_last : (o : Option Comparison) (ts same end : List Token) → Kept (mark_at sign.Not) ts same → MatchOption o (Kept cmp_op same end) (λ c. next_at cmp_op same ≡ Some (c, end)) → comparison_at ts ≡ Some (o, end)
unfolding comparison_at
comparison_last None ts same end k l = passed _ _ k.0 ∙ passed _ _ (after _ _ k l.0) ∙ ap (λ w. Some (None, w)) (sym (l.1 ∙ k.1))
comparison_last (Some c) ts same end k e = passed _ _ k.0 ∙ taken _ _ (after _ _ k e)

pub asked_none : (ts : List Token) → next_at method_at ts ≡ None → asked_at ts ≡ None
unfolding asked_at
asked_none ts e = missed _ e

pub asked_missing : (m : Method) (ts rest : List Token) → next_at method_at ts ≡ Some (m, rest) → next_at (mark_at sign.OpenRound) rest ≡ None → asked_at ts ≡ None
unfolding asked_at
asked_missing m ts rest e f = found _ e ∙ missed _ f

pub asked_method : (m : Method) (is : ⊤) (ts rest end : List Token) → next_at method_at ts ≡ Some (m, rest) → next_at (mark_at sign.OpenRound) rest ≡ Some (is, end) → asked_at ts ≡ Some (m, end)
unfolding asked_at
asked_method m is ts rest end e f = found _ e ∙ found _ f

pub call_missing : (a : Expression) (es : List Expression) (ts : List Token) → next_at (mark_at sign.CloseRound) ts ≡ None → call_ends a es ts ≡ None
unfolding call_ends
call_missing a es ts e = missed _ e

pub call_made : (a : Expression) (es : List Expression) (is : ⊤) (ts rest : List Token) (result : Result Expression Refusal) → next_at (mark_at sign.CloseRound) ts ≡ Some (is, rest) → Made expr_depth (node.Call a es) result → Gives (call_ends a es ts) result rest
unfolding call_ends
call_made a es is ts rest result e m = gives_made expr_depth (node.Call a es) _ result rest (found _ e) m

pub subscript_missing : (a i : Expression) (ts : List Token) → next_at (mark_at sign.CloseSquare) ts ≡ None → subscript_ends a i ts ≡ None
unfolding subscript_ends
subscript_missing a i ts e = missed _ e

pub subscript_made : (a i : Expression) (is : ⊤) (ts rest : List Token) (result : Result Expression Refusal) → next_at (mark_at sign.CloseSquare) ts ≡ Some (is, rest) → Made expr_depth (node.Subscript a i) result → Gives (subscript_ends a i ts) result rest
unfolding subscript_ends
subscript_made a i is ts rest result e m = gives_made expr_depth (node.Subscript a i) _ result rest (found _ e) m

pub ask_missing : (a : Expression) (m : Method) (es : List Expression) (ts : List Token) → next_at (mark_at sign.CloseRound) ts ≡ None → ask_ends a m es ts ≡ None
unfolding ask_ends
ask_missing a m es ts e = missed _ e

pub ask_made : (a : Expression) (m : Method) (es : List Expression) (is : ⊤) (ts rest : List Token) (result : Result Expression Refusal) → next_at (mark_at sign.CloseRound) ts ≡ Some (is, rest) → Made expr_depth (node.Method a m es) result → Gives (ask_ends a m es ts) result rest
unfolding ask_ends
ask_made a m es is ts rest result e made = gives_made expr_depth (node.Method a m es) _ result rest (found _ e) made
