-- What is read as a statement or a block derives.
use Rattle.std.proofs.Common.{◌≡◌, ℕ, zero, suc, List, [], ◌∷◌, ◌++◌, length, sym, ap, ◌∙◌, append_assoc, subst}
use Rattle.std.specs.Prelude.{Some}
use Rattle.mon_lexer.specs.declared.token.Token.{Token}
use Rattle.mon_lexer.specs.declared.token.Kind.TheVariants as kind
use Rattle.mon_lexer.specs.declared.token.Operator.TheVariants as operator
use Rattle.mon_lexer.specs.declared.token.Keyword.TheVariants as word
use Rattle.mon_parser.specs.declared.cursor.Sign.TheVariants as sign
use Rattle.mon_trees.specs.declared.tree.Expression.{Expression}
use Rattle.mon_trees.specs.declared.tree.Statement.{Statement}
use Rattle.mon_trees.specs.declared.tree.Statement.TheViews as compound
use Rattle.mon_parser.specs.Tokens.{mark, key, symbol, first_line}
use Rattle.mon_parser.specs.Depth.{stmt_depth}
use Rattle.mon_parser.specs.Reader.{Reader}
use Rattle.mon_parser.specs.Statements.{read_statements, read_block, read_body, read_else, read_if}
use Rattle.mon_parser.specs.Grammar.{IsExpr, IsBlock, block_simple, block_stmts, IsStmts, stmts_one, stmts_more, IsStmt, IsElse, else_none, else_block, else_elif}
use Rattle.mon_parser.proofs.Left.{Sound, some_pair, then_was}
use Rattle.mon_parser.proofs.Compared.{chose_other, chose_some, chose}
use Rattle.mon_parser.proofs.Items.{DerivedAs}
use Rattle.mon_parser.proofs.Signs.{sign_comes, behind, behind_token, within_is}
use Rattle.mon_parser.proofs.SimpleSounds.{Lined}

abbrev pub SoundAs : {A : Type 0} → (List Token → A → Type 0) → Reader A → Type 0
SoundAs {A} Is read = (ts : List Token) (a : A) (rest : List Token) → read ts ≡ Some (a, rest) → DerivedAs Is ts a rest

abbrev pub SoundLine : Reader Statement → Type 0
SoundLine line = (ts : List Token) (s : Statement) (rest : List Token) → line ts ≡ Some (s, rest) → Lined ts s rest

stmts_sound : (statement : Reader Statement) → SoundAs IsStmt statement → (turns : ℕ) (ts : List Token) (ss : List Statement) (rest : List Token) → read_statements statement turns ts ≡ Some (ss, rest) → (us : List Token) × (l : ℕ) × (ts ≡ us ++ mark kind.Dedent l ∷ rest) × IsStmts us ss
unfolding read_statements
stmts_sound statement so zero ts ss rest e = cc
stmts_sound statement so (suc turns) ts ss rest e =
    let a = then_was _ _ _ e in
    let x = so ts a.value a.rest a.first in
    elim (chose _ _ _ _ a.last) [
      | chose_some is end first h ↦
          let k = sign_comes sign.Dedent a.rest is end first in
          let p = some_pair (a.value ∷ []) ss end rest h in
          (x.0, k.0, x.1 ∙ ap (λ r. x.0 ++ r) (k.1 ∙ ap (λ r. mark kind.Dedent k.0 ∷ r) p.1), subst (λ z. IsStmts x.0 z) p.0 (stmts_one x.2))
      | chose_other none h ↦
          let b = then_was _ _ _ h in
          let p = some_pair (a.value ∷ b.value) ss b.rest rest b.last in
          let y = stmts_sound statement so turns a.rest b.value b.rest b.first in
          (x.0 ++ y.0, y.1, behind x.0 y.0 (mark kind.Dedent y.1 ∷ rest) x.1 (y.2 ∙ ap (λ r. y.0 ++ mark kind.Dedent y.1 ∷ r) p.1), subst (λ z. IsStmts (x.0 ++ y.0) z) p.0 (stmts_more x.2 y.3))
    ]

pub block_sound : (line statement : Reader Statement) → SoundLine line → SoundAs IsStmt statement → SoundAs IsBlock (read_block line statement)
block_sound line statement sl so ts ss rest e =
    elim (chose _ _ _ _ e) [
      | chose_other none h ↦
          let a = then_was _ _ _ h in
          let p = some_pair (a.value ∷ []) ss a.rest rest a.last in
          let x = sl ts a.value a.rest a.first in
          let us : List Token = x.front ++ mark kind.Newline x.line ∷ [] in
          (us, x.tokens ∙ ap (λ r. us ++ r) p.1, subst (λ z. IsBlock us z) (ap (λ s. s ∷ []) x.tree ∙ p.0) (block_simple x.line x.derivation))
      | chose_some is left first h ↦
          let k = sign_comes sign.Newline ts is left first in
          let a = then_was _ _ _ h in
          let j = sign_comes sign.Indent left a.value a.rest a.first in
          let x = stmts_sound statement so (length a.rest) a.rest ss rest a.last in
          let us : List Token = x.0 ++ mark kind.Dedent x.1 ∷ [] in
          let inner : List Token = mark kind.Indent j.0 ∷ us in
          (mark kind.Newline k.0 ∷ inner, behind_token (mark kind.Newline k.0) inner rest k.1 (behind_token (mark kind.Indent j.0) us rest j.1 (x.2 ∙ sym (append_assoc x.0 (mark kind.Dedent x.1 ∷ []) rest))), block_stmts k.0 j.0 x.1 x.3)
    ]

-- a block behind a colon
pub record Body (ts : List Token) (ss : List Statement) (rest : List Token) : Type 0 where
  pub line : ℕ
  pub inner : List Token
  pub tokens : ts ≡ (symbol operator.Colon line ∷ inner) ++ rest
  pub derivation : IsBlock inner ss

pub body_sound : (block : Reader (List Statement)) → SoundAs IsBlock block → (ts : List Token) (ss : List Statement) (rest : List Token) → read_body block ts ≡ Some (ss, rest) → Body ts ss rest
body_sound block so ts ss rest e =
    let a = then_was _ _ _ e in
    let k = sign_comes sign.Colon ts a.value a.rest a.first in
    let x = so a.rest ss rest a.last in
    record { line = k.0; inner = x.0; tokens = behind_token (symbol operator.Colon k.0) x.0 rest k.1 x.1; derivation = x.2 }

-- what stands behind an `if` or `elif`
pub record Branch (l : ℕ) (ts : List Token) (s : Statement) (rest : List Token) : Type 0 where
  pub tests : List Token
  pub blocks : List Token
  pub others : List Token
  pub colon : ℕ
  pub test : Expression
  pub body : List Statement
  pub orelse : List Statement
  pub tokens : ts ≡ (tests ++ symbol operator.Colon colon ∷ (blocks ++ others)) ++ rest
  pub tree : compound.If l test body orelse ≡ s
  pub is_test : IsExpr tests test
  pub is_body : IsBlock blocks body
  pub is_else : IsElse others orelse

abbrev pub SoundBranch : (ℕ → Reader Statement) → Type 0
SoundBranch branch = (l : ℕ) (ts : List Token) (s : Statement) (rest : List Token) → branch l ts ≡ Some (s, rest) → Branch l ts s rest

else_sound : (block : Reader (List Statement)) (branch : ℕ → Reader Statement) → SoundAs IsBlock block → SoundBranch branch → SoundAs IsElse (read_else block branch)
else_sound block branch so sb ts ss rest e =
    elim (chose _ _ _ _ e) [
      | chose_some is left first h ↦
          let k = sign_comes sign.Elif ts is left first in
          let a = then_was _ _ _ h in
          let p = some_pair (a.value ∷ []) ss a.rest rest a.last in
          let line : first_line ts ≡ k.0 = ap first_line k.1 in
          let x = sb k.0 left a.value a.rest (subst (λ l. branch l left ≡ Some (a.value, a.rest)) line a.first) in
          let us : List Token = x.tests ++ symbol operator.Colon x.colon ∷ (x.blocks ++ x.others) in
          (key word.Elif k.0 ∷ us, behind_token (key word.Elif k.0) us rest k.1 (x.tokens ∙ ap (λ r. us ++ r) p.1), subst (λ z. IsElse (key word.Elif k.0 ∷ us) z) (ap (λ s. s ∷ []) x.tree ∙ p.0) (else_elif k.0 x.colon x.is_test x.is_body x.is_else))
      | chose_other none h ↦ elim (chose _ _ _ _ h) [
        | chose_some is left first i ↦
            let k = sign_comes sign.Else ts is left first in
            let x = body_sound block so left ss rest i in
            let us : List Token = symbol operator.Colon x.line ∷ x.inner in
            (key word.Else k.0 ∷ us, behind_token (key word.Else k.0) us rest k.1 x.tokens, else_block k.0 x.line x.derivation)
        | chose_other none i ↦ let p = some_pair [] ss ts rest i in ([], p.1, subst (λ z. IsElse [] z) p.0 else_none)
      ]
    ]

pub if_sound : (expr : Reader Expression) (block : Reader (List Statement)) (branch : ℕ → Reader Statement) → Sound IsExpr expr → SoundAs IsBlock block → SoundBranch branch → SoundBranch (λ l. read_if expr block branch l)
if_sound expr block branch se so sb l ts s rest e =
    let a = then_was _ _ _ e in
    let b = then_was _ _ _ a.last in
    let c = then_was _ _ _ b.last in
    let m = within_is stmt_depth (compound.If l a.value b.value c.value) s c.rest rest c.last in
    let x = se ts a.value a.rest a.first in
    let y = body_sound block so a.rest b.value b.rest b.first in
    let z = else_sound block branch so sb b.rest c.value c.rest c.first in
    let us : List Token = y.inner ++ z.0 in
    record {
      tests = x.0;
      blocks = y.inner;
      others = z.0;
      colon = y.line;
      test = a.value;
      body = b.value;
      orelse = c.value;
      tokens = behind x.0 (symbol operator.Colon y.line ∷ us) rest x.1 (behind (symbol operator.Colon y.line ∷ y.inner) z.0 rest y.tokens (z.1 ∙ ap (λ r. z.0 ++ r) m.1));
      tree = m.0;
      is_test = x.2;
      is_body = y.derivation;
      is_else = z.2;
    }
