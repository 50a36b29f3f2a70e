-- Single steps of the reader of items, as the code takes them.
use Rattle.std.proofs.Common.{◌≡◌, ℕ, ◌<◌, ◌≤◌, List, refl, sym, ap, ◌∙◌, arith, subst}
use Rattle.std.specs.Prelude.{Some, None, ⊤, Result}
use Rattle.mon_lexer.specs.declared.token.Token.{Token}
use Rattle.mon_parser.specs.declared.cursor.Sign.TheVariants as sign
use Rattle.mon_parser.specs.declared.refusal.Refusal.{Refusal}
use Rattle.mon_trees.specs.declared.tree.Constant.{Constant}
use Rattle.mon_trees.specs.declared.tree.ModuleItem.{ModuleItem}
use Rattle.mon_trees.specs.declared.tree.ModuleItem.TheVariants as item
use Rattle.mon_parser.specs.Tokens.{first_line}
use Rattle.mon_parser.specs.Depth.{item_depth, const_depth}
use Rattle.mon_parser.specs.Reader.{Answer, Reader, then_read, choose, next_at, mark_at, name_at, text_at, within, more_texts}
use Rattle.mon_parser.specs.Code.{Gives}
use Rattle.mon_parser.specs.ItemReadings.{at_constants, at_def, at_item}
use Rattle.mon_parser.proofs.Steps.{within_fits, within_none}

-- behind the sign of a constant, and a lone text
abbrev pub from_value : ℕ → ℕ → List ℕ → Reader ModuleItem
from_value b l n ts = then_read (at_constants b ts) (λ c end. then_read (next_at (mark_at sign.Newline) end) (λ is last. within item_depth (item.Constant l n c) last))

abbrev pub from_assign : ℕ → ℕ → List ℕ → Reader ModuleItem
from_assign b l n ts = then_read (next_at (mark_at sign.Assign) ts) (λ is left. from_value b l n left)

abbrev pub from_text : Reader ModuleItem
from_text ts = then_read (next_at text_at ts) (λ s rest. then_read (more_texts s rest) (λ u left. then_read (next_at (mark_at sign.Newline) left) (λ is end. Some (item.Text u, end))))

pub is_def : (b l : ℕ) (ts rest : List Token) (x : ⊤) (result : Result ModuleItem Refusal) (new : List Token) → next_at (mark_at sign.Def) ts ≡ Some (x, rest) → l ≡ first_line ts → Gives (at_def b l rest) result new → Gives (at_item b ts) result new
unfolding at_item at_def choose
is_def b l ts rest x result new n e g = subst (λ r. Gives r result new) (sym (reads n e)) g
  where
    reads : next_at (mark_at sign.Def) ts ≡ Some (x, rest) → l ≡ first_line ts → at_item b ts ≡ at_def b l rest
    reads n e = rw (n, e) refl

pub is_named : (b : ℕ) (ts same rest : List Token) (n : List ℕ) → (next_at (mark_at sign.Def) ts ≡ None) × (same ≡ ts) → next_at name_at same ≡ Some (n, rest) → at_item b ts ≡ from_assign b (first_line ts) n rest
unfolding at_item at_constants choose
is_named b ts same rest n d e = let f : next_at name_at ts ≡ Some (n, rest) = ap (next_at name_at) (sym d.1) ∙ e in rw (d.0, f) refl

pub is_text : (b : ℕ) (ts same other : List Token) → (next_at (mark_at sign.Def) ts ≡ None) × (same ≡ ts) → (next_at name_at same ≡ None) × (other ≡ same) → at_item b ts ≡ from_text other
unfolding at_item choose
is_text b ts same other d e = let f : next_at name_at ts ≡ None = ap (next_at name_at) (sym d.1) ∙ e.0 in rw (d.0, f) (ap from_text (sym (e.1 ∙ d.1)))

-- a constant
pub no_assign : (b l : ℕ) (n : List ℕ) (read : Answer ModuleItem) (ts : List Token) → read ≡ from_assign b l n ts → next_at (mark_at sign.Assign) ts ≡ None → read ≡ None
unfolding then_read
no_assign b l n read ts r e = r ∙ rw e refl

pub no_value : (b l : ℕ) (n : List ℕ) (read : Answer ModuleItem) (ts left : List Token) (x : ⊤) → read ≡ from_assign b l n ts → next_at (mark_at sign.Assign) ts ≡ Some (x, left) → at_constants b left ≡ None → read ≡ None
unfolding then_read
no_value b l n read ts left x r e v = r ∙ rw (e, v) refl

pub no_end : (b l : ℕ) (n : List ℕ) (read : Answer ModuleItem) (ts left end : List Token) (x : ⊤) (c : Constant) → read ≡ from_assign b l n ts → next_at (mark_at sign.Assign) ts ≡ Some (x, left) → at_constants b left ≡ Some (c, end) → next_at (mark_at sign.Newline) end ≡ None → read ≡ None
unfolding then_read
no_end b l n read ts left end x c r e v z = r ∙ rw (e, v, z) refl

pub reads_constant : (b l : ℕ) (n m : List ℕ) (read : Answer ModuleItem) (ts left end last : List Token) (x y : ⊤) (c d : Constant) (line : ℕ) → read ≡ from_assign b l n ts → next_at (mark_at sign.Assign) ts ≡ Some (x, left) → at_constants b left ≡ Some (c, end) → next_at (mark_at sign.Newline) end ≡ Some (y, last) → const_depth c < 256
    → line ≡ l → m ≡ n → d ≡ c → read ≡ Some (item.Constant line m d, last)
unfolding then_read
reads_constant b l n m read ts left end last x y c d line r e v z h p q s = r ∙ rw (e, v, z) (within_fits item_depth (item.Constant l n c) last (omega arith)) ∙ ap (λ k. Some (item.Constant k n c, last)) (sym p) ∙ ap (λ k. Some (item.Constant line k c, last)) (sym q) ∙ ap (λ k. Some (item.Constant line m k, last)) (sym s)

pub too_deep : (b l : ℕ) (n : List ℕ) (read : Answer ModuleItem) (ts left end last : List Token) (x y : ⊤) (c : Constant) → read ≡ from_assign b l n ts → next_at (mark_at sign.Assign) ts ≡ Some (x, left) → at_constants b left ≡ Some (c, end) → next_at (mark_at sign.Newline) end ≡ Some (y, last) → 256 ≤ const_depth c → read ≡ None
unfolding then_read
too_deep b l n read ts left end last x y c r e v z h = r ∙ rw (e, v, z) (within_none item_depth (item.Constant l n c) last (omega arith))

-- a text
pub no_text : (read : Answer ModuleItem) (ts : List Token) → read ≡ from_text ts → next_at text_at ts ≡ None → read ≡ None
unfolding then_read
no_text read ts r e = r ∙ rw e refl

pub no_line : (read : Answer ModuleItem) (ts rest left : List Token) (s u : List ℕ) → read ≡ from_text ts → next_at text_at ts ≡ Some (s, rest) → more_texts s rest ≡ Some (u, left) → next_at (mark_at sign.Newline) left ≡ None → read ≡ None
unfolding then_read
no_line read ts rest left s u r e m z = r ∙ rw (e, m, z) refl

pub reads_text : (read : Answer ModuleItem) (ts rest left end : List Token) (s u : List ℕ) (x : ⊤) → read ≡ from_text ts → next_at text_at ts ≡ Some (s, rest) → more_texts s rest ≡ Some (u, left) → next_at (mark_at sign.Newline) left ≡ Some (x, end) → read ≡ Some (item.Text u, end)
unfolding then_read
reads_text read ts rest left end s u x r e m z = r ∙ rw (e, m, z) refl
