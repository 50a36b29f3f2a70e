-- A level whose operator stands in front: "-" and "not". The reader of one of them, stated once over its mark and its node.
use Rattle.std.proofs.Common.{◌≡◌, ℕ, zero, suc, ◌+◌, ◌<◌, ◌≤◌, List, [], ◌∷◌, ◌++◌, length, refl, sym, ap, ◌∙◌, arith, subst}
use Rattle.std.specs.Prelude.{Option, Some, None, ⊤}
use Rattle.mon_lexer.specs.declared.token.Token.{Token}
use Rattle.mon_lexer.specs.declared.token.Kind.{Kind}
use Rattle.mon_trees.specs.declared.tree.Expression.{Expression}
use Rattle.mon_parser.specs.Tokens.{mark}
use Rattle.mon_parser.specs.Depth.{expr_depth}
use Rattle.mon_parser.specs.Reader.{Answer, Reader, then_read, choose, next_at, by_option, made, read_prefix}
use Rattle.mon_parser.proofs.Left.{Stops, Reads, Sound, Derived, made_fits, made_is, then_was}

-- the first token is none of these
abbrev pub Begins : (Kind → Option ⊤) → List Token → Type 0
Begins at [] = ⊥
Begins at (t ∷ ts) = at t.kind ≡ None

pub data Prefixed (Lower : List Token → Expression → Type 0) (k : Kind) (node : Expression → Expression) : List Token → Expression → Type 0 where
  lower : {ts : List Token} {e : Expression} → Lower ts e → Prefixed Lower k node ts e
  prefix : {ts : List Token} {e : Expression} (l : ℕ) → Prefixed Lower k node ts e → Prefixed Lower k node (mark k l ∷ ts) (node e)

-- the mark stands for the operator alone, no part of the level below begins with it, and the node is one deeper
pub record IsPrefix (Lower : List Token → Expression → Type 0) (at : Kind → Option ⊤) (k : Kind) (node : Expression → Expression) : Type 0 where
  pub is : at k ≡ Some tt
  pub only : (j : Kind) → at j ≡ Some tt → j ≡ k
  pub begins : (ts : List Token) (e : Expression) → Lower ts e → Begins at ts
  pub grows : (e : Expression) → expr_depth (node e) ≡ 1 + expr_depth e
  pub some : (e : Expression) → 0 < expr_depth e

read_lower : (at : Kind → Option ⊤) (node : Expression → Expression) (below : ℕ → Reader Expression) (n : ℕ) (ts rest : List Token) → Begins at ts → read_prefix at node below (suc n) (ts ++ rest) ≡ below (suc n) (ts ++ rest)
unfolding read_prefix choose next_at
read_lower at node below n [] rest h = absurd h
read_lower at node below n (t ∷ ts) rest h = rw h refl

read_mark : (at : Kind → Option ⊤) (node : Expression → Expression) (below : ℕ → Reader Expression) (n : ℕ) (k : Kind) (l : ℕ) (ts : List Token) → at k ≡ Some tt → read_prefix at node below (suc n) (mark k l ∷ ts) ≡ then_read (read_prefix at node below n ts) (λ e rest. made (node e) rest)
unfolding read_prefix choose next_at
read_mark at node below n k l ts h = rw h refl

-- each derivation is read, if the level below reads each of its own
pub prefix_reads : (Lower : List Token → Expression → Type 0) (at : Kind → Option ⊤) (k : Kind) (node : Expression → Expression) (below : ℕ → Reader Expression) (level b : ℕ) → IsPrefix Lower at k node → ((n : ℕ) → n ≤ 256 → Reads Lower level b n (below n))
    → {ts : List Token} {t : Expression} → Prefixed Lower k node ts t → (n : ℕ) → n ≤ 256 → length ts ≤ b → expr_depth t ≤ n → (rest : List Token) → Stops level rest → read_prefix at node below n (ts ++ rest) ≡ Some (t, rest)
unfolding then_read
prefix_reads Lower at k node below level b p r {ts} {t} (lower d) zero m w h rest s = absurd (omega (arith, p.some t))
prefix_reads Lower at k node below level b p r {ts} {t} (lower d) (suc n) m w h rest s = read_lower at node below n ts rest (p.begins ts t d) ∙ r (suc n) m ts t d w h rest s
prefix_reads Lower at k node below level b p r (prefix {ts = ts} {e = e} l d) zero m w h rest s = absurd (omega (arith, p.grows e))
prefix_reads Lower at k node below level b p r (prefix {ts = ts} {e = e} l d) (suc n) m w h rest s =
    read_mark at node below n k l (ts ++ rest) p.is
    ∙ ap (λ (g : Answer Expression). then_read g (λ e left. made (node e) left)) (prefix_reads Lower at k node below level b p r d n (omega arith) (omega arith) (omega (arith, p.grows e)) rest s)
    ∙ made_fits (node e) rest (omega arith)

by_mark : (Lower : List Token → Expression → Type 0) (at : Kind → Option ⊤) (k : Kind) (node : Expression → Expression) (now : Reader Expression) (next : Reader Expression) → ((j : Kind) → at j ≡ Some tt → j ≡ k) → Sound Lower now → (u : Token) (ts : List Token) (t : Expression) (rest : List Token)
    → ((v : Expression) (left : List Token) → next ts ≡ Some (v, left) → Derived (Prefixed Lower k node) ts v left)
    → (o : Option ⊤) → at u.kind ≡ o → choose (by_option o None (λ is. Some (is, ts))) (now (u ∷ ts)) (λ is left. then_read (next left) (λ e end. made (node e) end)) ≡ Some (t, rest) → Derived (Prefixed Lower k node) (u ∷ ts) t rest
unfolding choose
by_mark Lower at k node now next only s u ts t rest again None o e = let x = s (u ∷ ts) t rest e in (x.0, x.1, lower x.2)
by_mark Lower at k node now next only s u ts t rest again (Some i) o e =
    let a = then_was (next ts) (λ e left. made (node e) left) (t, rest) e in
    let m = made_is (node a.value) t a.rest rest a.last in
    let x = again a.value a.rest a.first in
    let grown : Prefixed Lower k node (u ∷ x.0) (node a.value) = subst (λ (j : Kind). Prefixed Lower k node (mark j u.line ∷ x.0) (node a.value)) (sym (only u.kind o)) (prefix u.line x.2) in
    (u ∷ x.0, ap (λ l. u ∷ l) (x.1 ∙ ap (λ r. x.0 ++ r) m.1), subst (λ (y : Expression). Prefixed Lower k node (u ∷ x.0) y) m.0 grown)

-- what is read derives, if what the level below reads does
pub prefix_sound : (Lower : List Token → Expression → Type 0) (at : Kind → Option ⊤) (k : Kind) (node : Expression → Expression) (below : ℕ → Reader Expression) → ((j : Kind) → at j ≡ Some tt → j ≡ k) → ((n : ℕ) → Sound Lower (below n)) → (n : ℕ) → Sound (Prefixed Lower k node) (read_prefix at node below n)
unfolding read_prefix choose next_at
prefix_sound Lower at k node below only s zero ts t rest e = cc
prefix_sound Lower at k node below only s (suc n) [] t rest e = let x = s (suc n) [] t rest e in (x.0, x.1, lower x.2)
prefix_sound Lower at k node below only s (suc n) (u ∷ ts) t rest e =
    by_mark Lower at k node (below (suc n)) (read_prefix at node below n) only (s (suc n)) u ts t rest (λ v left x. prefix_sound Lower at k node below only s n ts v left x) (at u.kind) refl e
