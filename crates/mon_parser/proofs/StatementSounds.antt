-- What is read as a statement derives: those with further clauses, and all of them tied together.
use Rattle.std.proofs.Common.{◌≡◌, ℕ, zero, suc, List, [], ◌∷◌, ◌++◌, length, refl, sym, ap, ◌∙◌, append-nil, subst}
use Rattle.std.specs.Prelude.{Option, Some, None, ⊤, false}
use Rattle.mon_lexer.specs.declared.token.Token.{Token}
use Rattle.mon_lexer.specs.declared.token.Kind.TheVariants as kind
use Rattle.mon_lexer.specs.declared.token.Operator.TheVariants as operator
use Rattle.mon_lexer.specs.declared.token.Keyword.{Keyword}
use Rattle.mon_lexer.specs.declared.token.Keyword.TheVariants as word
use Rattle.mon_parser.specs.declared.cursor.Sign.{Sign}
use Rattle.mon_parser.specs.declared.cursor.Sign.TheVariants as sign
use Rattle.mon_trees.specs.declared.tree.Expression.{Expression}
use Rattle.mon_trees.specs.declared.tree.Statement.{Statement}
use Rattle.mon_trees.specs.declared.tree.Statement.TheViews as compound
use Rattle.mon_trees.specs.declared.tree.Handler.{Handler}
use Rattle.mon_parser.specs.Tokens.{mark, key, symbol, name, first_line}
use Rattle.mon_parser.specs.Depth.{stmt_depth}
use Rattle.mon_parser.specs.Reader.{Reader, pick, next_at, mark_at, name_at}
use Rattle.mon_parser.specs.Statements.{read_line, read_if, read_while, read_for, read_as, read_handlers, is_none, read_try, read_statement, block_at}
use Rattle.mon_parser.specs.Grammar.{handler, IsExpr, IsBlock, IsStmt, stmt_simple, stmt_if, stmt_while, stmt_for, stmt_try, stmt_try_both, stmt_try_finally, IsFinally, finally_block, IsHandlers, handlers_one, handlers_more, handlers_bare, IsExcept, except_plain, except_as, bare_block}
use Rattle.mon_parser.proofs.Left.{Sound, some_pair, then_was}
use Rattle.mon_parser.proofs.Compared.{took, chose_other, chose_some, chose}
use Rattle.mon_parser.proofs.Items.{DerivedAs}
use Rattle.mon_parser.proofs.Sounds.{tuple_derives, name_is}
use Rattle.mon_parser.proofs.Names.{targets_derive}
use Rattle.mon_parser.proofs.Soundness.{SoundExpr}
use Rattle.mon_parser.proofs.Signs.{sign_kind, sign_comes, behind, behind_token, within_is}
use Rattle.mon_parser.proofs.SimpleSounds.{line_sound}
use Rattle.mon_parser.proofs.Blocks.{handlers_some}
use Rattle.mon_parser.proofs.BlockSounds.{SoundAs, SoundBranch, body_sound, block_sound, if_sound}

-- handlers, or none
data Handled : List Token → List Handler → Type 0 where
  handled_none : Handled [] []
  handled : {ts : List Token} {hs : List Handler} → IsHandlers ts hs → Handled ts hs

handled_more : {ts us : List Token} {h : Handler} {hs : List Handler} → IsExcept ts h → Handled us hs → IsHandlers (ts ++ us) (h ∷ hs)
handled_more {ts = ts} {h = h} d handled_none = subst (λ z. IsHandlers z (h ∷ [])) (sym (append-nil ts)) (handlers_one d)
handled_more d (handled x) = handlers_more d x

-- the name after `as`, or none
data IsAs : List Token → Option (List ℕ) → Type 0 where
  as_none : IsAs [] None
  as_name : {n : List ℕ} (m k : ℕ) → IsAs (key word.As m ∷ (name n k ∷ [])) (Some n)

as_sound : SoundAs IsAs read_as
as_sound ts found rest e =
    elim (chose _ _ _ _ e) [
      | chose_other none h ↦ let p = some_pair None found ts rest h in ([], p.1, subst (λ z. IsAs [] z) p.0 as_none)
      | chose_some is left first h ↦
          let k = sign_comes sign.As ts is left first in
          let a = then_was _ _ _ h in
          let n = took name_at left a.value a.rest a.first in
          let p = some_pair (Some a.value) found a.rest rest a.last in
          let us : List Token = name a.value n.line ∷ [] in
          (key word.As k.0 ∷ us, behind_token (key word.As k.0) us rest k.1 (n.front ∙ ap (λ j. mark j n.line ∷ a.rest) (name_is n.kind a.value n.says) ∙ ap (λ r. name a.value n.line ∷ r) p.1), subst (λ z. IsAs (key word.As k.0 ∷ us) z) p.0 (as_name k.0 n.line))
    ]

except_of : {ts vs us : List Token} {class : Expression} {found : Option (List ℕ)} {body : List Statement} (l j : ℕ) → IsExpr ts class → IsAs vs found → IsBlock us body → IsExcept (key word.Except l ∷ (ts ++ (vs ++ symbol operator.Colon j ∷ us))) (handler l (Some class) found body)
except_of l j d as_none x = except_plain l j d x
except_of l j d (as_name m k) x = except_as l m k j d x

handlers_sound : (expr : Reader Expression) (block : Reader (List Statement)) → Sound IsExpr expr → SoundAs IsBlock block → (turns : ℕ) → SoundAs Handled (read_handlers expr block turns)
unfolding read_handlers
handlers_sound expr block se so zero ts hs rest e = let p = some_pair [] hs ts rest e in ([], p.1, subst (λ z. Handled [] z) p.0 handled_none)
handlers_sound expr block se so (suc turns) ts hs rest e =
    elim (chose _ _ _ _ e) [
      | chose_other none h ↦ let p = some_pair [] hs ts rest h in ([], p.1, subst (λ z. Handled [] z) p.0 handled_none)
      | chose_some is left first h ↦
          let k = sign_comes sign.Except ts is left first in
          let line : first_line ts ≡ k.0 = ap first_line k.1 in
          elim (chose _ _ _ _ h) [
            | chose_some colon mid second i ↦
                let j = sign_comes sign.Colon left colon mid second in
                let a = then_was _ _ _ i in
                let p = some_pair (handler (first_line ts) None None a.value ∷ []) hs a.rest rest a.last in
                let x = so mid a.value a.rest a.first in
                let us : List Token = symbol operator.Colon j.0 ∷ x.0 in
                (key word.Except k.0 ∷ us, behind_token (key word.Except k.0) us rest k.1 (behind_token (symbol operator.Colon j.0) x.0 rest j.1 (x.1 ∙ ap (λ r. x.0 ++ r) p.1)), subst (λ z. Handled (key word.Except k.0 ∷ us) z) (ap (λ l. handler l None None a.value ∷ []) (sym line) ∙ p.0) (handled (handlers_bare (bare_block k.0 j.0 x.2))))
            | chose_other colon i ↦
                let a = then_was _ _ _ i in
                let b = then_was _ _ _ a.last in
                let c = then_was _ _ _ b.last in
                let d = then_was _ _ _ c.last in
                let p = some_pair (handler (first_line ts) (Some a.value) b.value c.value ∷ d.value) hs d.rest rest d.last in
                let x = se left a.value a.rest a.first in
                let y = as_sound a.rest b.value b.rest b.first in
                let z = body_sound block so b.rest c.value c.rest c.first in
                let w = handlers_sound expr block se so turns c.rest d.value d.rest d.first in
                let vs : List Token = symbol operator.Colon z.line ∷ z.inner in
                let us : List Token = x.0 ++ (y.0 ++ vs) in
                let front : ts ≡ (key word.Except k.0 ∷ us) ++ c.rest = behind_token (key word.Except k.0) us c.rest k.1 (behind x.0 (y.0 ++ vs) c.rest x.1 (behind y.0 vs c.rest y.1 z.tokens)) in (
                  (key word.Except k.0 ∷ us) ++ w.0,
                  behind (key word.Except k.0 ∷ us) w.0 rest front (w.1 ∙ ap (λ r. w.0 ++ r) p.1),
                  subst (λ t. Handled ((key word.Except k.0 ∷ us) ++ w.0) t) (ap (λ l. handler l (Some a.value) b.value c.value ∷ d.value) (sym line) ∙ p.0) (handled (handled_more (except_of k.0 z.line x.2 y.2 z.derivation) w.2)),
                )
          ]
    ]

-- behind the keyword of a statement
abbrev SoundBehind : Keyword → (ℕ → Reader Statement) → Type 0
SoundBehind k read = (l : ℕ) (ts : List Token) (s : Statement) (rest : List Token) → read l ts ≡ Some (s, rest) → (us : List Token) × (ts ≡ us ++ rest) × IsStmt (key k l ∷ us) s

while_sound : (expr : Reader Expression) (block : Reader (List Statement)) → Sound IsExpr expr → SoundAs IsBlock block → SoundBehind word.While (λ l. read_while expr block l)
while_sound expr block se so l ts s rest e =
    let a = then_was _ _ _ e in
    let b = then_was _ _ _ a.last in
    let m = within_is stmt_depth (compound.While l a.value b.value) s b.rest rest b.last in
    let x = se ts a.value a.rest a.first in
    let y = body_sound block so a.rest b.value b.rest b.first in
    let us : List Token = symbol operator.Colon y.line ∷ y.inner in
    (x.0 ++ us, behind x.0 us rest x.1 (y.tokens ∙ ap (λ r. us ++ r) m.1), subst (λ z. IsStmt (key word.While l ∷ (x.0 ++ us)) z) m.0 (stmt_while l y.line x.2 y.derivation))

for_sound : (expr : Reader Expression) (block : Reader (List Statement)) → Sound IsExpr expr → SoundAs IsBlock block → SoundBehind word.For (λ l. read_for expr block l)
for_sound expr block se so l ts s rest e =
    let a = then_was _ _ _ e in
    let b = then_was _ _ _ a.last in
    let c = then_was _ _ _ b.last in
    let d = then_was _ _ _ c.last in
    let m = within_is stmt_depth (compound.For l a.value c.value d.value) s d.rest rest d.last in
    let x = targets_derive ts a.value a.rest a.first in
    let k = sign_comes sign.In a.rest b.value b.rest b.first in
    let y = tuple_derives expr se b.rest c.value c.rest c.first in
    let z = body_sound block so c.rest d.value d.rest d.first in
    let vs : List Token = symbol operator.Colon z.line ∷ z.inner in
    let us : List Token = key word.In k.0 ∷ (y.0 ++ vs) in
    (x.0 ++ us, behind x.0 us rest x.1 (behind_token (key word.In k.0) (y.0 ++ vs) rest k.1 (behind y.0 vs rest y.1 (z.tokens ∙ ap (λ r. vs ++ r) m.1))), subst (λ t. IsStmt (key word.For l ∷ (x.0 ++ us)) t) m.0 (stmt_for l k.0 z.line x.2 y.2 z.derivation))

try_of : {ts us vs : List Token} {body last : List Statement} {hs : List Handler} (l m : ℕ) → IsBlock ts body → Handled us hs → IsFinally vs last → IsStmt (key word.Try l ∷ (symbol operator.Colon m ∷ (ts ++ (us ++ vs)))) (compound.Try l body hs last)
try_of l m d handled_none x = stmt_try_finally l m d x
try_of l m d (handled y) x = stmt_try_both l m d y x

try_without : {ts us left : List Token} {body last : List Statement} {hs : List Handler} {rest : List Token} (l m : ℕ) → IsBlock ts body → Handled us hs → pick (is_none hs) None (Some ([], left)) ≡ Some (last, rest) → (left ≡ rest) × IsStmt (key word.Try l ∷ (symbol operator.Colon m ∷ (ts ++ us))) (compound.Try l body hs last)
unfolding pick
try_without l m d handled_none e = cc
try_without {ts} {us} {left} {body} {last} {hs} {rest} l m d (handled y) e =
    let some : pick false None (Some ([], left)) ≡ Some (last, rest) = subst (λ c. pick c None (Some ([], left)) ≡ Some (last, rest)) (handlers_some y) e in
    let p = some_pair [] last left rest some in
    (p.1, subst (λ z. IsStmt (key word.Try l ∷ (symbol operator.Colon m ∷ (ts ++ us))) (compound.Try l body hs z)) p.0 (stmt_try l m d y))

try_sound : (expr : Reader Expression) (block : Reader (List Statement)) → Sound IsExpr expr → SoundAs IsBlock block → SoundBehind word.Try (λ l. read_try expr block l)
try_sound expr block se so l ts s rest e =
    let a = then_was _ _ _ e in
    let b = then_was _ _ _ a.last in
    let c = then_was _ _ _ b.last in
    let m = within_is stmt_depth (compound.Try l a.value b.value c.value) s c.rest rest c.last in
    let x = body_sound block so ts a.value a.rest a.first in
    let y = handlers_sound expr block se so (length a.rest) a.rest b.value b.rest b.first in
    let head : List Token = symbol operator.Colon x.line ∷ x.inner in
    elim (chose _ _ _ _ c.first) [
      | chose_some is left first h ↦
          let k = sign_comes sign.Finally b.rest is left first in
          let z = body_sound block so left c.value c.rest h in
          let vs : List Token = key word.Finally k.0 ∷ (symbol operator.Colon z.line ∷ z.inner) in
          (head ++ (y.0 ++ vs), behind head (y.0 ++ vs) rest x.tokens (behind y.0 vs rest y.1 (behind_token (key word.Finally k.0) (symbol operator.Colon z.line ∷ z.inner) rest k.1 (z.tokens ∙ ap (λ r. (symbol operator.Colon z.line ∷ z.inner) ++ r) m.1))), subst (λ t. IsStmt (key word.Try l ∷ (head ++ (y.0 ++ vs))) t) m.0 (try_of l x.line x.derivation y.2 (finally_block k.0 z.line z.derivation)))
      | chose_other none h ↦
          let z = try_without l x.line x.derivation y.2 h in
          (head ++ y.0, behind head y.0 rest x.tokens (y.1 ∙ ap (λ r. y.0 ++ r) (z.0 ∙ m.1)), subst (λ t. IsStmt (key word.Try l ∷ (head ++ y.0)) t) m.0 z.1)
    ]

-- from what stands behind a keyword, with the line of the first token
keyed : (s : Sign) (k : Keyword) → sign_kind s ≡ kind.Keyword k → (read : ℕ → Reader Statement) → SoundBehind k read → (ts left : List Token) (x : ⊤) (st : Statement) (rest : List Token) → next_at (mark_at s) ts ≡ Some (x, left) → read (first_line ts) left ≡ Some (st, rest) → DerivedAs IsStmt ts st rest
keyed s k is read so ts left x st rest first e =
    let c = sign_comes s ts x left first in
    let spelled : ts ≡ key k c.0 ∷ left = c.1 ∙ ap (λ j. mark j c.0 ∷ left) is in
    let line : first_line ts ≡ c.0 = ap first_line spelled in
    let y = so c.0 left st rest (subst (λ l. read l left ≡ Some (st, rest)) line e) in
    (key k c.0 ∷ y.0, behind_token (key k c.0) y.0 rest spelled y.1, y.2)

branch_sound : (read : ℕ → Reader Statement) → SoundBranch read → SoundBehind word.If read
branch_sound read so l ts s rest e =
    let x = so l ts s rest e in
    let us : List Token = x.tests ++ symbol operator.Colon x.colon ∷ (x.blocks ++ x.others) in
    (us, x.tokens, subst (λ t. IsStmt (key word.If l ∷ us) t) x.tree (stmt_if l x.colon x.is_test x.is_body x.is_else))

stmt_sound : (expr : ℕ → Reader Expression) → SoundExpr expr → (n : ℕ) → SoundAs IsBlock (block_at expr n) → SoundBranch (λ l. read_statement expr n (Some l)) → SoundAs IsStmt (read_statement expr (suc n) None)
unfolding read_statement
stmt_sound expr se n so sb ts s rest e =
    elim (chose _ _ _ _ e) [
      | chose_some is left first h ↦ keyed sign.If word.If refl (λ l. read_if (expr n) (block_at expr n) (λ l. read_statement expr n (Some l)) l) (branch_sound (λ l. read_if (expr n) (block_at expr n) (λ l. read_statement expr n (Some l)) l) (if_sound (expr n) (block_at expr n) (λ l. read_statement expr n (Some l)) (se n) so sb)) ts left is s rest first h
      | chose_other none e ↦ elim (chose _ _ _ _ e) [
        | chose_some is left first h ↦ keyed sign.While word.While refl (λ l. read_while (expr n) (block_at expr n) l) (while_sound (expr n) (block_at expr n) (se n) so) ts left is s rest first h
        | chose_other none e ↦ elim (chose _ _ _ _ e) [
          | chose_some is left first h ↦ keyed sign.For word.For refl (λ l. read_for (expr n) (block_at expr n) l) (for_sound (expr n) (block_at expr n) (se n) so) ts left is s rest first h
          | chose_other none e ↦ elim (chose _ _ _ _ e) [
            | chose_some is left first h ↦ keyed sign.Try word.Try refl (λ l. read_try (expr n) (block_at expr n) l) (try_sound (expr n) (block_at expr n) (se n) so) ts left is s rest first h
            | chose_other none e ↦
                let x = line_sound expr se (suc n) ts s rest e in
                let us : List Token = x.front ++ mark kind.Newline x.line ∷ [] in
                (us, x.tokens, subst (λ z. IsStmt us z) x.tree (stmt_simple x.line x.derivation))
          ]
        ]
      ]
    ]

both_sound : (expr : ℕ → Reader Expression) → SoundExpr expr → (n : ℕ) → SoundAs IsStmt (read_statement expr n None) × SoundBranch (λ l. read_statement expr n (Some l))
unfolding read_statement
both_sound expr se zero = (λ ts s rest e. cc, λ l ts s rest e. cc)
both_sound expr se (suc n) =
    let both = both_sound expr se n in
    let block : SoundAs IsBlock (block_at expr n) = block_sound (read_line expr n) (read_statement expr n None) (line_sound expr se n) both.0 in
    (stmt_sound expr se n block both.1, if_sound (expr n) (block_at expr n) (λ l. read_statement expr n (Some l)) (se n) block both.1)

pub blocks_sound : (expr : ℕ → Reader Expression) → SoundExpr expr → (n : ℕ) → SoundAs IsBlock (block_at expr n)
blocks_sound expr se n = block_sound (read_line expr n) (read_statement expr n None) (line_sound expr se n) (both_sound expr se n).0
