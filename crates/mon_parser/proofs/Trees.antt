-- The reader of items reads exactly the trees of items.
use Rattle.std.proofs.Common.{◌≡◌, ℕ, ◌<◌, ◌≤◌, List, [], ◌∷◌, ◌++◌, length, map, refl, sym, ap, ◌∙◌, arith, append-nil, length-append, subst}
use Rattle.std.specs.Prelude.{Some, None}
use Rattle.mon_lexer.specs.declared.token.Token.{Token}
use Rattle.mon_lexer.specs.declared.token.Kind.TheVariants as kind
use Rattle.mon_lexer.specs.declared.token.Operator.TheVariants as operator
use Rattle.mon_lexer.specs.declared.token.Keyword.TheVariants as word
use Rattle.mon_parser.specs.declared.cursor.Sign.TheVariants as sign
use Rattle.mon_trees.specs.declared.tree.Statement.{Statement}
use Rattle.mon_trees.specs.declared.tree.ModuleItem.{ModuleItem}
use Rattle.mon_trees.specs.declared.tree.ModuleItem.TheVariants as item
use Rattle.mon_parser.specs.Tokens.{mark, key, symbol, name, text, first_line, most_open}
use Rattle.mon_parser.specs.Depth.{item_depth, stmt_depth, most}
use Rattle.mon_parser.specs.Reader.{Answer, then_read, choose, next_at, mark_at, name_at, text_at, within, more_texts, read_expr}
use Rattle.mon_parser.specs.Statements.{starts_name, starts_constant, block_at, read_constants, read_constant, read_def, read_item}
use Rattle.mon_parser.specs.Grammar.{texts_one, texts_more, IsBlock, IsItem, item_def, item_const, item_texts}
use Rattle.mon_parser.specs.Derives.{Derives, HasTree}
use Rattle.mon_parser.proofs.Left.{some_pair, then_was}
use Rattle.mon_parser.proofs.Compared.{took, chose_other, chose_some, chose}
use Rattle.mon_parser.proofs.Items.{Ends}
use Rattle.mon_parser.proofs.Atoms.{texts_end, texts_go_on}
use Rattle.mon_parser.proofs.Sounds.{joined_more, text_is, name_is, texts_derive}
use Rattle.mon_parser.proofs.Names.{parameters_read, parameters_derive}
use Rattle.mon_parser.proofs.Steps.{within_fits}
use Rattle.mon_parser.proofs.Knot.{expr_reads}
use Rattle.mon_parser.proofs.Soundness.{expr_sound}
use Rattle.mon_parser.proofs.Signs.{sign_comes, behind, behind_token, within_is}
use Rattle.mon_parser.proofs.Constants.{const_reads, consts_read}
use Rattle.mon_parser.proofs.ConstantSounds.{const_sound, consts_derive}
use Rattle.mon_parser.proofs.Blocks.{blocks_read}
use Rattle.mon_parser.proofs.BlockSounds.{body_sound}
use Rattle.mon_parser.proofs.StatementSounds.{blocks_sound}

-- each derivation within the limit on nodes is read
close_ends : (l : ℕ) (rest : List Token) → Ends starts_name (symbol operator.CloseRound l ∷ rest)
unfolding starts_name
close_ends l rest = record { comma = refl; none_begins = refl }

line_ends : (l : ℕ) (rest : List Token) → Ends starts_constant (mark kind.Newline l ∷ rest)
unfolding starts_constant
line_ends l rest = record { comma = refl; none_begins = refl }

block_whole : (b : ℕ) (us : List Token) (body : List Statement) → IsBlock us body → length us ≤ b → most (map stmt_depth body) ≤ 255 → block_at (read_expr b) 255 us ≡ Some (body, [])
block_whole b us body d w h = ap (λ z. block_at (read_expr b) 255 z) (sym (append-nil us)) ∙ blocks_read b (read_expr b) (expr_reads b) 255 (omega arith) us body d w h []

pub item_reads : (b : ℕ) (tokens : List Token) (tree : ModuleItem) → IsItem tokens tree → length tokens ≤ b → item_depth tree ≤ 256 → read_item b tokens ≡ Some (tree, [])
unfolding then_read choose next_at
item_reads b tokens tree (item_def {ts = ts} {us = us} {n = n} {parameters = names} {body = body} l m k j i d x) w h =
    let wide = length-append ts (symbol operator.CloseRound j ∷ (symbol operator.Colon i ∷ us)) in
    rw (parameters_read d (symbol operator.CloseRound j ∷ (symbol operator.Colon i ∷ us)) (close_ends j (symbol operator.Colon i ∷ us)), block_whole b us body x (omega arith) (omega arith))
    (within_fits item_depth (item.Function (record { line = l; name = n; parameters = names; body = body })) [] h)
item_reads b tokens tree (item_const {ts = ts} {n = n} {value = value} l m k d) w h =
    let wide = length-append ts (mark kind.Newline k ∷ []) in
    rw (consts_read b (read_constant b) (const_reads b) ts value d (omega arith) (omega arith) (mark kind.Newline k ∷ []) (line_ends k []) (omega arith)) (within_fits item_depth (item.Constant l n value) [] h)
item_reads b tokens tree (item_texts l (texts_one {s = s} m)) w h = rw (texts_end s (mark kind.Newline l ∷ []) (omega arith)) refl
item_reads b tokens tree (item_texts l (texts_more {s = s} m d)) w h = rw (texts_go_on d s (mark kind.Newline l ∷ []) (omega arith)) refl

-- and what is read derives, within that limit
abbrev ItemDerived : List Token → ModuleItem → List Token → Type 0
ItemDerived ts tree rest = (us : List Token) × (ts ≡ us ++ rest) × IsItem us tree × (item_depth tree ≤ 256)

def_sound : (b l : ℕ) (ts : List Token) (tree : ModuleItem) (rest : List Token) → read_def b l ts ≡ Some (tree, rest) → ItemDerived (key word.Def l ∷ ts) tree rest
def_sound b l ts tree rest e =
    let n = then_was _ _ _ e in
    let o = then_was _ _ _ n.last in
    let a = then_was _ _ _ o.last in
    let c = then_was _ _ _ a.last in
    let d = then_was _ _ _ c.last in
    let made : ModuleItem = item.Function (record { line = l; name = n.value; parameters = a.value; body = d.value }) in
    let m = within_is item_depth made tree d.rest rest d.last in
    let x = took name_at ts n.value n.rest n.first in
    let k = sign_comes sign.OpenRound n.rest o.value o.rest o.first in
    let y = parameters_derive o.rest a.value a.rest a.first in
    let j = sign_comes sign.CloseRound a.rest c.value c.rest c.first in
    let z = body_sound (block_at (read_expr b) 255) (blocks_sound (read_expr b) (expr_sound b) 255) c.rest d.value d.rest d.first in
    let us : List Token = symbol operator.CloseRound j.0 ∷ (symbol operator.Colon z.line ∷ z.inner) in
    let vs : List Token = symbol operator.OpenRound k.0 ∷ (y.0 ++ us) in
    let named : ts ≡ name n.value x.line ∷ n.rest = x.front ∙ ap (λ q. mark q x.line ∷ n.rest) (name_is x.kind n.value x.says) in
    let closing : a.rest ≡ us ++ rest = behind_token (symbol operator.CloseRound j.0) (symbol operator.Colon z.line ∷ z.inner) rest j.1 (z.tokens ∙ ap (λ r. (symbol operator.Colon z.line ∷ z.inner) ++ r) m.1) in (
      key word.Def l ∷ (name n.value x.line ∷ vs),
      ap (λ r. key word.Def l ∷ r) (behind_token (name n.value x.line) vs rest named (behind_token (symbol operator.OpenRound k.0) (y.0 ++ us) rest k.1 (behind y.0 us rest y.1 closing))),
      subst (λ t. IsItem (key word.Def l ∷ (name n.value x.line ∷ vs)) t) m.0 (item_def l x.line k.0 j.0 z.line y.2 z.derivation),
      subst (λ t. item_depth t ≤ 256) m.0 m.2,
    )

constant_sound : (b : ℕ) (n : List ℕ) (l : ℕ) (ts left : List Token) (tree : ModuleItem) (rest : List Token) → ts ≡ name n l ∷ left
    → then_read (next_at (mark_at sign.Assign) left) (λ is mid. then_read (read_constants (read_constant b) mid) (λ c end. then_read (next_at (mark_at sign.Newline) end) (λ is last. within item_depth (item.Constant (first_line ts) n c) last))) ≡ Some (tree, rest)
    → ItemDerived ts tree rest
constant_sound b n l ts left tree rest named e =
    let a = then_was _ _ _ e in
    let c = then_was _ _ _ a.last in
    let d = then_was _ _ _ c.last in
    let m = within_is item_depth (item.Constant (first_line ts) n c.value) tree d.rest rest d.last in
    let line : first_line ts ≡ l = ap first_line named in
    let k = sign_comes sign.Assign left a.value a.rest a.first in
    let x = consts_derive (read_constant b) (const_sound b) a.rest c.value c.rest c.first in
    let j = sign_comes sign.Newline c.rest d.value d.rest d.first in
    let us : List Token = x.0 ++ mark kind.Newline j.0 ∷ [] in
    let same : item.Constant l n c.value ≡ tree = ap (λ q. item.Constant q n c.value) (sym line) ∙ m.0 in (
      name n l ∷ (symbol operator.Assign k.0 ∷ us),
      behind_token (name n l) (symbol operator.Assign k.0 ∷ us) rest named (behind_token (symbol operator.Assign k.0) us rest k.1 (behind x.0 (mark kind.Newline j.0 ∷ []) rest x.1 (j.1 ∙ ap (λ r. mark kind.Newline j.0 ∷ r) m.1))),
      subst (λ t. IsItem (name n l ∷ (symbol operator.Assign k.0 ∷ us)) t) same (item_const l k.0 j.0 x.2),
      subst (λ t. item_depth t ≤ 256) m.0 m.2,
    )

text_sound : (ts : List Token) (tree : ModuleItem) (rest : List Token) → then_read (next_at text_at ts) (λ s mid. then_read (more_texts s mid) (λ u left. then_read (next_at (mark_at sign.Newline) left) (λ is end. Some (item.Text u, end)))) ≡ Some (tree, rest) → ItemDerived ts tree rest
text_sound ts tree rest e =
    let a = then_was _ _ _ e in
    let b = then_was _ _ _ a.last in
    let c = then_was _ _ _ b.last in
    let p = some_pair (item.Text b.value) tree c.rest rest c.last in
    let k = took text_at ts a.value a.rest a.first in
    let x = texts_derive a.value a.rest b.value b.rest b.first in
    let j = sign_comes sign.Newline b.rest c.value c.rest c.first in
    let us : List Token = text a.value k.line ∷ x.0 in
    let same : item.Text (a.value ++ x.1) ≡ tree = ap (λ u. item.Text u) (sym x.3) ∙ p.0 in
    let lone : item_depth (item.Text (a.value ++ x.1)) ≤ 256 = omega arith in (
      us ++ mark kind.Newline j.0 ∷ [],
      behind us (mark kind.Newline j.0 ∷ []) rest (behind_token (text a.value k.line) x.0 b.rest (k.front ∙ ap (λ q. mark q k.line ∷ a.rest) (text_is k.kind a.value k.says)) x.2) (j.1 ∙ ap (λ r. mark kind.Newline j.0 ∷ r) p.1),
      subst (λ t. IsItem (us ++ mark kind.Newline j.0 ∷ []) t) same (item_texts j.0 (joined_more a.value k.line x.4)),
      subst (λ t. item_depth t ≤ 256) same lone,
    )

pub item_sound : (b : ℕ) (ts : List Token) (tree : ModuleItem) (rest : List Token) → read_item b ts ≡ Some (tree, rest) → ItemDerived ts tree rest
item_sound b ts tree rest e =
    elim (chose _ _ _ _ e) [
      | chose_some is left first h ↦
          let k = sign_comes sign.Def ts is left first in
          let line : first_line ts ≡ k.0 = ap first_line k.1 in
          let x = def_sound b k.0 left tree rest (subst (λ l. read_def b l left ≡ Some (tree, rest)) line h) in
          (x.0, k.1 ∙ x.1, x.2, x.3)
      | chose_other none h ↦ elim (chose _ _ _ _ h) [
        | chose_some n left first i ↦
            let k = took name_at ts n left first in
            constant_sound b n k.line ts left tree rest (k.front ∙ ap (λ q. mark q k.line ∷ left) (name_is k.kind n k.says)) i
        | chose_other none i ↦ text_sound ts tree rest i
      ]
    ]

-- so tokens within the limit on brackets have a tree exactly where that is what is read, with nothing left
pub tree_read : (tokens : List Token) (tree : ModuleItem) → Derives tokens tree → read_item (length tokens) tokens ≡ Some (tree, [])
tree_read tokens tree d = item_reads (length tokens) tokens tree d.derivation (omega arith) d.nodes

pub read_derives : (tokens : List Token) (tree : ModuleItem) → most_open 0 tokens ≤ 100 → read_item (length tokens) tokens ≡ Some (tree, []) → Derives tokens tree
read_derives tokens tree h e =
    let x = item_sound (length tokens) tokens tree [] e in
    record { derivation = subst (λ z. IsItem z tree) (sym (x.1 ∙ append-nil x.0)) x.2; brackets = h; nodes = x.3 }

-- and no tree where nothing is read, where tokens are left, or beyond that limit
pub no_reading : (tokens : List Token) → read_item (length tokens) tokens ≡ None → ¬ HasTree tokens
no_reading tokens e has = let h : ◌≡◌ {A = Answer ModuleItem} None (Some (has.0, [])) = sym e ∙ tree_read tokens has.0 has.1 in cc

pub some_left : (tokens : List Token) (tree : ModuleItem) (t : Token) (rest : List Token) → read_item (length tokens) tokens ≡ Some (tree, t ∷ rest) → ¬ HasTree tokens
some_left tokens tree t rest e has = let p = some_pair tree has.0 (t ∷ rest) [] (sym e ∙ tree_read tokens has.0 has.1) in absurd (no_cons p.1)
  where
    no_cons : t ∷ rest ≡ [] → ⊥
    no_cons h = cc

pub too_open : (tokens : List Token) → 100 < most_open 0 tokens → ¬ HasTree tokens
too_open tokens h has = absurd (omega (arith, has.1.brackets))

pub derives_once : (tokens : List Token) (tree other : ModuleItem) → Derives tokens tree → Derives tokens other → tree ≡ other
derives_once tokens tree other d x = (some_pair tree other [] [] (sym (tree_read tokens tree d) ∙ tree_read tokens other x)).0
