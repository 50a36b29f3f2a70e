-- What is read as a simple statement derives.
use Rattle.std.proofs.Common.{◌≡◌, ℕ, zero, suc, List, [], ◌∷◌, ◌++◌, sym, ap, ◌∙◌, subst}
use Rattle.std.specs.Prelude.{Option, Some, None}
use Rattle.mon_lexer.specs.declared.token.Token.{Token}
use Rattle.mon_lexer.specs.declared.token.Kind.TheVariants as kind
use Rattle.mon_lexer.specs.declared.token.Operator.TheVariants as operator
use Rattle.mon_lexer.specs.declared.token.Keyword.TheVariants as word
use Rattle.mon_parser.specs.declared.cursor.Sign.TheVariants as sign
use Rattle.mon_trees.specs.declared.tree.Expression.{Expression}
use Rattle.mon_trees.specs.declared.tree.Simple.{Simple}
use Rattle.mon_trees.specs.declared.tree.Simple.TheVariants as simple
use Rattle.mon_trees.specs.declared.tree.Statement.{Statement}
use Rattle.mon_trees.specs.declared.tree.Statement as stmt
use Rattle.mon_parser.specs.Tokens.{mark, key, symbol, name, augmented_op, first_line}
use Rattle.mon_parser.specs.Depth.{stmt_depth}
use Rattle.mon_parser.specs.Reader.{Answer, Reader, then_read, name_at, read_tuple}
use Rattle.mon_parser.specs.Statements.{maybe, read_assignment, read_augmented, read_right, read_simple, read_line}
use Rattle.mon_parser.specs.Grammar.{IsExpr, IsSimple, simple_pass, simple_break, simple_continue, simple_return, simple_return_value, simple_raise, simple_raise_value, simple_augmented, simple_assign, simple_rhs}
use Rattle.mon_parser.proofs.Left.{Sound, some_pair, then_was}
use Rattle.mon_parser.proofs.Compared.{took, chose_other, chose_some, chose}
use Rattle.mon_parser.proofs.Items.{DerivedAs}
use Rattle.mon_parser.proofs.Sounds.{picked_true, picked_false, picked, tuple_derives, rhs_derives, name_is}
use Rattle.mon_parser.proofs.Names.{targets_derive}
use Rattle.mon_parser.proofs.Firsts.{outer, simple_begins, first_line_is}
use Rattle.mon_parser.proofs.Signs.{sign_comes, behind, behind_token, within_is}

assignment_sound : (expr : Reader Expression) → Sound IsExpr expr → (ts : List Token) (s : Simple) (rest : List Token) → read_assignment expr ts ≡ Some (s, rest) → DerivedAs IsSimple ts s rest
assignment_sound expr so ts s rest e =
    let a = then_was _ _ _ e in
    let b = then_was _ _ _ a.last in
    let c = then_was _ _ _ b.last in
    let p = some_pair (simple.Assign a.value c.value) s c.rest rest c.last in
    let x = targets_derive ts a.value a.rest a.first in
    let k = sign_comes sign.Assign a.rest b.value b.rest b.first in
    let y = rhs_derives expr so b.rest c.value c.rest c.first in
    let us : List Token = symbol operator.Assign k.0 ∷ y.0 in
    (x.0 ++ us, behind x.0 us rest x.1 (behind_token (symbol operator.Assign k.0) y.0 rest k.1 (y.1 ∙ ap (λ r. y.0 ++ r) p.1)), subst (λ z. IsSimple (x.0 ++ us) z) p.0 (simple_assign k.0 x.2 y.2))

augmented_sound : (expr : Reader Expression) → Sound IsExpr expr → (ts : List Token) (s : Simple) (rest : List Token) → read_augmented expr ts ≡ Some (s, rest) → DerivedAs IsSimple ts s rest
augmented_sound expr so ts s rest e =
    let a = then_was _ _ _ e in
    let b = then_was _ _ _ a.last in
    let c = then_was _ _ _ b.last in
    let p = some_pair (simple.Augmented a.value b.value c.value) s c.rest rest c.last in
    let x = took name_at ts a.value a.rest a.first in
    let k = took augmented_op a.rest b.value b.rest b.first in
    let y = rhs_derives expr so b.rest c.value c.rest c.first in
    let us : List Token = mark k.kind k.line ∷ y.0 in (
      name a.value x.line ∷ us,
      behind_token (name a.value x.line) us rest (x.front ∙ ap (λ j. mark j x.line ∷ a.rest) (name_is x.kind a.value x.says)) (behind_token (mark k.kind k.line) y.0 rest k.front (y.1 ∙ ap (λ r. y.0 ++ r) p.1)),
      subst (λ z. IsSimple (name a.value x.line ∷ us) z) p.0 (simple_augmented k.kind x.line k.line k.says y.2),
    )

right_sound : (expr : Reader Expression) → Sound IsExpr expr → (ts : List Token) (s : Simple) (rest : List Token) → read_right expr ts ≡ Some (s, rest) → DerivedAs IsSimple ts s rest
right_sound expr so ts s rest e =
    let a = then_was _ _ _ e in
    elim (chose _ _ _ _ a.last) [
      | chose_some op left first h ↦ augmented_sound expr so ts s rest h
      | chose_other none h ↦ elim (chose _ _ _ _ h) [
        | chose_some is left first i ↦ assignment_sound expr so ts s rest i
        | chose_other none i ↦
            let p = some_pair (simple.Expression a.value) s a.rest rest i in
            let x = rhs_derives expr so ts a.value a.rest a.first in
            (x.0, x.1 ∙ ap (λ r. x.0 ++ r) p.1, subst (λ z. IsSimple x.0 z) p.0 (simple_rhs x.2))
      ]
    ]

-- an optional part: nothing, or what derives
maybe_sound : {Is : List Token → Expression → Type 0} (read : Reader Expression) → Sound Is read → (ts : List Token) (value : Option Expression) (rest : List Token) → maybe read ts ≡ Some (value, rest) → (Is2 : List Token → Option Expression → Type 0) → Is2 [] None → ((us : List Token) (e : Expression) → Is us e → Is2 us (Some e)) → DerivedAs Is2 ts value rest
maybe_sound {Is} read so ts value rest h Is2 none some =
    elim (picked _ _ _ _ h) [
      | picked_false c i ↦ let p = some_pair None value ts rest i in ([], p.1, subst (λ z. Is2 [] z) p.0 none)
      | picked_true c i ↦
          let a = then_was _ _ _ i in
          let p = some_pair (Some a.value) value a.rest rest a.last in
          let x = so ts a.value a.rest a.first in
          (x.0, x.1 ∙ ap (λ r. x.0 ++ r) p.1, subst (λ z. Is2 x.0 z) p.0 (some x.0 a.value x.2))
    ]

word_sound : (k : Token) (s made : Simple) (ts left rest : List Token) → ts ≡ k ∷ left → ◌≡◌ {A = Answer Simple} (Some (made, left)) (Some (s, rest)) → IsSimple (k ∷ []) made → DerivedAs IsSimple ts s rest
word_sound k s made ts left rest f e d = let p = some_pair made s left rest e in (k ∷ [], f ∙ ap (λ r. k ∷ r) p.1, subst (λ z. IsSimple (k ∷ []) z) p.0 d)

return_sound : (expr : Reader Expression) → Sound IsExpr expr → (l : ℕ) (ts left : List Token) (s : Simple) (rest : List Token) → ts ≡ key word.Return l ∷ left → then_read (maybe (read_tuple expr) left) (λ value end. Some (simple.Return value, end)) ≡ Some (s, rest) → DerivedAs IsSimple ts s rest
return_sound expr so l ts left s rest f e =
    let a = then_was _ _ _ e in
    let p = some_pair (simple.Return a.value) s a.rest rest a.last in
    let x = maybe_sound (read_tuple expr) (tuple_derives expr so) left a.value a.rest a.first (λ us v. IsSimple (key word.Return l ∷ us) (simple.Return v)) (simple_return l) (λ us e d. simple_return_value l d) in
    (key word.Return l ∷ x.0, behind_token (key word.Return l) x.0 rest f (x.1 ∙ ap (λ r. x.0 ++ r) p.1), subst (λ z. IsSimple (key word.Return l ∷ x.0) z) p.0 x.2)

raise_sound : (expr : Reader Expression) → Sound IsExpr expr → (l : ℕ) (ts left : List Token) (s : Simple) (rest : List Token) → ts ≡ key word.Raise l ∷ left → then_read (maybe expr left) (λ value end. Some (simple.Raise value, end)) ≡ Some (s, rest) → DerivedAs IsSimple ts s rest
raise_sound expr so l ts left s rest f e =
    let a = then_was _ _ _ e in
    let p = some_pair (simple.Raise a.value) s a.rest rest a.last in
    let x = maybe_sound expr so left a.value a.rest a.first (λ us v. IsSimple (key word.Raise l ∷ us) (simple.Raise v)) (simple_raise l) (λ us e d. simple_raise_value l d) in
    (key word.Raise l ∷ x.0, behind_token (key word.Raise l) x.0 rest f (x.1 ∙ ap (λ r. x.0 ++ r) p.1), subst (λ z. IsSimple (key word.Raise l ∷ x.0) z) p.0 x.2)

pub simple_sound : (expr : Reader Expression) → Sound IsExpr expr → (ts : List Token) (s : Simple) (rest : List Token) → read_simple expr ts ≡ Some (s, rest) → DerivedAs IsSimple ts s rest
simple_sound expr so ts s rest e =
    elim (chose _ _ _ _ e) [
      | chose_some is left first h ↦ let k = sign_comes sign.Pass ts is left first in word_sound (key word.Pass k.0) s simple.Pass ts left rest k.1 h (simple_pass k.0)
      | chose_other none e ↦ elim (chose _ _ _ _ e) [
        | chose_some is left first h ↦ let k = sign_comes sign.Break ts is left first in word_sound (key word.Break k.0) s simple.Break ts left rest k.1 h (simple_break k.0)
        | chose_other none e ↦ elim (chose _ _ _ _ e) [
          | chose_some is left first h ↦ let k = sign_comes sign.Continue ts is left first in word_sound (key word.Continue k.0) s simple.Continue ts left rest k.1 h (simple_continue k.0)
          | chose_other none e ↦ elim (chose _ _ _ _ e) [
            | chose_some is left first h ↦ let k = sign_comes sign.Return ts is left first in return_sound expr so k.0 ts left s rest k.1 h
            | chose_other none e ↦ elim (chose _ _ _ _ e) [
              | chose_some is left first h ↦ let k = sign_comes sign.Raise ts is left first in raise_sound expr so k.0 ts left s rest k.1 h
              | chose_other none e ↦ right_sound expr so ts s rest e
            ]
          ]
        ]
      ]
    ]

-- a simple statement with the end of its line
pub record Lined (ts : List Token) (st : Statement) (rest : List Token) : Type 0 where
  pub front : List Token
  pub simple : Simple
  pub line : ℕ
  pub tokens : ts ≡ (front ++ mark kind.Newline line ∷ []) ++ rest
  pub derivation : IsSimple front simple
  pub tree : stmt.Simple (first_line front) simple ≡ st

pub line_sound : (expr : ℕ → Reader Expression) → ((n : ℕ) → Sound IsExpr (expr n)) → (n : ℕ) (ts : List Token) (st : Statement) (rest : List Token) → read_line expr n ts ≡ Some (st, rest) → Lined ts st rest
line_sound expr so zero ts st rest e = cc
line_sound expr so (suc n) ts st rest e =
    let a = then_was _ _ _ e in
    let b = then_was _ _ _ a.last in
    let m = within_is stmt_depth (stmt.Simple (first_line ts) a.value) st b.rest rest b.last in
    let x = simple_sound (expr n) (so n) ts a.value a.rest a.first in
    let k = sign_comes sign.Newline a.rest b.value b.rest b.first in
    let first : first_line ts ≡ first_line x.0 = ap first_line x.1 ∙ first_line_is outer x.0 a.rest (simple_begins x.2) in
    record {
      front = x.0;
      simple = a.value;
      line = k.0;
      tokens = behind x.0 (mark kind.Newline k.0 ∷ []) rest x.1 (k.1 ∙ ap (λ r. mark kind.Newline k.0 ∷ r) m.1);
      derivation = x.2;
      tree = ap (λ l. stmt.Simple l a.value) (sym first) ∙ m.0;
    }
