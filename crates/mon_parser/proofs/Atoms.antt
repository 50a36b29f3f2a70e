-- Texts, brackets and atoms are read.
use Rattle.std.proofs.Common.{◌≡◌, ℕ, suc, ◌<◌, ◌≤◌, List, [], ◌∷◌, ◌++◌, length, refl, ap, ◌∙◌, arith, append_assoc, length-append}
use Rattle.std.specs.Prelude.{Some, None, ⊤}
use Rattle.mon_lexer.specs.declared.token.Token.{Token}
use Rattle.mon_lexer.specs.declared.token.Kind.{Kind}
use Rattle.mon_lexer.specs.declared.token.Kind.TheVariants as kind
use Rattle.mon_lexer.specs.declared.token.Operator.TheVariants as operator
use Rattle.mon_parser.specs.declared.cursor.Sign.TheVariants as sign
use Rattle.mon_trees.specs.declared.tree.Expression.{Expression}
use Rattle.mon_trees.specs.declared.tree.Expression as tree
use Rattle.mon_parser.specs.Tokens.{symbol}
use Rattle.mon_parser.specs.Depth.{expr_depth}
use Rattle.mon_parser.specs.Reader.{Answer, Reader, then_read, choose, next_at, mark_at, text_at, binds, more_texts, group_from, read_rhs, read_atom}
use Rattle.mon_parser.specs.Grammar.{IsTexts, texts_one, texts_more, single_word, IsRhs, IsAtom, atom_name, atom_int, atom_texts, atom_single, atom_empty, atom_group, IsExpr}
use Rattle.mon_parser.proofs.Left.{Stops, Reads}
use Rattle.mon_parser.proofs.Begins.{rhs_no_close}
use Rattle.mon_parser.proofs.Tuples.{rhs_reads}

text_none : (k : Kind) → binds k < 9 → text_at k ≡ None
text_none (kind.Text s) h = absurd (omega (arith, h))
text_none _ h = refl

pub texts_end : (s : List ℕ) (rest : List Token) → Stops 9 rest → more_texts s rest ≡ Some (s, rest)
unfolding more_texts
texts_end s [] h = refl
texts_end s (t ∷ ts) h = rw (text_none t.kind h) refl

pub texts_go_on : {ts : List Token} {u : List ℕ} → IsTexts ts u → (s : List ℕ) (rest : List Token) → Stops 9 rest → more_texts s (ts ++ rest) ≡ Some (s ++ u, rest)
unfolding more_texts
texts_go_on (texts_one {s = u} l) s rest h = texts_end (s ++ u) rest h
texts_go_on (texts_more {ts = ts} {s = v} {u = u} l d) s rest h = texts_go_on d (s ++ v) rest h ∙ ap (λ z. Some (z, rest)) (append_assoc s v u)

-- what stands between brackets
pub group_reads : (b n : ℕ) (expr : Reader Expression) → n ≤ 256 → Reads IsExpr 2 b n expr → (ts : List Token) (t : Expression) → IsRhs ts t → length ts ≤ b → expr_depth t ≤ n → (m : ℕ) (rest : List Token) → group_from expr (ts ++ symbol operator.CloseRound m ∷ rest) ≡ Some (t, rest)
unfolding then_read choose next_at
group_reads b n expr i r ts t d w h m rest =
    ap (λ (g : Answer ⊤). choose g (then_read (read_rhs expr (ts ++ symbol operator.CloseRound m ∷ rest)) (λ e left. then_read (next_at (mark_at sign.CloseRound) left) (λ is end. Some (e, end)))) (λ is left. Some (tree.Empty, left))) (rhs_no_close ts (symbol operator.CloseRound m ∷ rest) t d)
    ∙ ap (λ (g : Answer Expression). then_read g (λ e left. then_read (next_at (mark_at sign.CloseRound) left) (λ is end. Some (e, end)))) (rhs_reads b n expr i r ts t d w h (symbol operator.CloseRound m ∷ rest) (omega arith))

pub atom_reads : (b n : ℕ) (expr : Reader Expression) → n ≤ 256 → Reads IsExpr 2 b n expr → Reads IsAtom 9 (suc b) n (read_atom expr)
unfolding then_read choose next_at
atom_reads b n expr i r ts t (atom_name l) w h rest s = refl
atom_reads b n expr i r ts t (atom_int l) w h rest s = refl
atom_reads b n expr i r ts t (atom_texts (texts_one {s = u} l)) w h rest s = ap (λ (g : Answer (List ℕ)). then_read g (λ u left. Some (tree.Text u, left))) (texts_end u rest s)
atom_reads b n expr i r ts t (atom_texts (texts_more {s = u} l d)) w h rest s = ap (λ (g : Answer (List ℕ)). then_read g (λ u left. Some (tree.Text u, left))) (texts_go_on d u rest s)
atom_reads b n expr i r ts t (atom_single (single_word {k = k} l e)) w h rest s = rw e refl
atom_reads b n expr i r ts t (atom_empty l m) w h rest s = refl
atom_reads b n expr i r ts0 t (atom_group {ts = ts} l m d) w h rest s =
    let wide = length-append ts (symbol operator.CloseRound m ∷ []) in
    ap (λ z. group_from expr z) (append_assoc ts (symbol operator.CloseRound m ∷ []) rest) ∙ group_reads b n expr i r ts t d (omega arith) h m rest
