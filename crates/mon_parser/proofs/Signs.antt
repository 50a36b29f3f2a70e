-- The token of each sign, and how what was read is joined.
use Rattle.std.proofs.Common.{◌≡◌, ℕ, ◌≤◌, List, ◌∷◌, ◌++◌, refl, sym, ap, ◌∙◌, append_assoc}
use Rattle.std.specs.Prelude.{Some, ⊤, Bool, true, false, leb}
use Rattle.std.proofs.lemmas.Bool.{leb-true}
use Rattle.mon_lexer.specs.declared.token.Token.{Token}
use Rattle.mon_lexer.specs.declared.token.Kind.{Kind}
use Rattle.mon_lexer.specs.declared.token.Kind.TheVariants as kind
use Rattle.mon_lexer.specs.declared.token.Operator.TheVariants as operator
use Rattle.mon_lexer.specs.declared.token.Keyword.TheVariants as word
use Rattle.mon_parser.specs.declared.cursor.Sign.{Sign}
use Rattle.mon_parser.specs.declared.cursor.Sign.TheVariants as sign
use Rattle.mon_parser.specs.Tokens.{mark}
use Rattle.mon_parser.specs.Reader.{next_at, mark_at, within, if_fits}
use Rattle.mon_parser.proofs.Left.{some_pair}
use Rattle.mon_parser.proofs.Compared.{took}

abbrev pub sign_kind : Sign → Kind
sign_kind sign.OpenRound = kind.Operator operator.OpenRound
sign_kind sign.CloseRound = kind.Operator operator.CloseRound
sign_kind sign.CloseSquare = kind.Operator operator.CloseSquare
sign_kind sign.Comma = kind.Operator operator.Comma
sign_kind sign.Colon = kind.Operator operator.Colon
sign_kind sign.Assign = kind.Operator operator.Assign
sign_kind sign.Minus = kind.Operator operator.Minus
sign_kind sign.Newline = kind.Newline
sign_kind sign.Indent = kind.Indent
sign_kind sign.Dedent = kind.Dedent
sign_kind sign.Not = kind.Keyword word.Not
sign_kind sign.In = kind.Keyword word.In
sign_kind sign.Is = kind.Keyword word.Is
sign_kind sign.If = kind.Keyword word.If
sign_kind sign.Else = kind.Keyword word.Else
sign_kind sign.Pass = kind.Keyword word.Pass
sign_kind sign.Break = kind.Keyword word.Break
sign_kind sign.Continue = kind.Keyword word.Continue
sign_kind sign.Return = kind.Keyword word.Return
sign_kind sign.Raise = kind.Keyword word.Raise
sign_kind sign.While = kind.Keyword word.While
sign_kind sign.For = kind.Keyword word.For
sign_kind sign.Try = kind.Keyword word.Try
sign_kind sign.Except = kind.Keyword word.Except
sign_kind sign.As = kind.Keyword word.As
sign_kind sign.Finally = kind.Keyword word.Finally
sign_kind sign.Elif = kind.Keyword word.Elif
sign_kind sign.Def = kind.Keyword word.Def

pub sign_is : (s : Sign) (k : Kind) (x : ⊤) → mark_at s k ≡ Some x → k ≡ sign_kind s
sign_is sign.OpenRound (kind.Operator operator.OpenRound) x e = refl
sign_is sign.CloseRound (kind.Operator operator.CloseRound) x e = refl
sign_is sign.CloseSquare (kind.Operator operator.CloseSquare) x e = refl
sign_is sign.Comma (kind.Operator operator.Comma) x e = refl
sign_is sign.Colon (kind.Operator operator.Colon) x e = refl
sign_is sign.Assign (kind.Operator operator.Assign) x e = refl
sign_is sign.Minus (kind.Operator operator.Minus) x e = refl
sign_is sign.Newline (kind.Newline) x e = refl
sign_is sign.Indent (kind.Indent) x e = refl
sign_is sign.Dedent (kind.Dedent) x e = refl
sign_is sign.Not (kind.Keyword word.Not) x e = refl
sign_is sign.In (kind.Keyword word.In) x e = refl
sign_is sign.Is (kind.Keyword word.Is) x e = refl
sign_is sign.If (kind.Keyword word.If) x e = refl
sign_is sign.Else (kind.Keyword word.Else) x e = refl
sign_is sign.Pass (kind.Keyword word.Pass) x e = refl
sign_is sign.Break (kind.Keyword word.Break) x e = refl
sign_is sign.Continue (kind.Keyword word.Continue) x e = refl
sign_is sign.Return (kind.Keyword word.Return) x e = refl
sign_is sign.Raise (kind.Keyword word.Raise) x e = refl
sign_is sign.While (kind.Keyword word.While) x e = refl
sign_is sign.For (kind.Keyword word.For) x e = refl
sign_is sign.Try (kind.Keyword word.Try) x e = refl
sign_is sign.Except (kind.Keyword word.Except) x e = refl
sign_is sign.As (kind.Keyword word.As) x e = refl
sign_is sign.Finally (kind.Keyword word.Finally) x e = refl
sign_is sign.Elif (kind.Keyword word.Elif) x e = refl
sign_is sign.Def (kind.Keyword word.Def) x e = refl
sign_is _ _ x e = cc

-- a sign that comes next
pub sign_comes : (s : Sign) (ts : List Token) (x : ⊤) (rest : List Token) → next_at (mark_at s) ts ≡ Some (x, rest) → (l : ℕ) × (ts ≡ mark (sign_kind s) l ∷ rest)
sign_comes s ts x rest e = let t = took (mark_at s) ts x rest e in (t.line, t.front ∙ ap (λ k. mark k t.line ∷ rest) (sign_is s t.kind x t.says))

-- one part behind another
pub behind : {ts mid : List Token} (us vs rest : List Token) → ts ≡ us ++ mid → mid ≡ vs ++ rest → ts ≡ (us ++ vs) ++ rest
behind us vs rest a b = a ∙ ap (λ r. us ++ r) b ∙ sym (append_assoc us vs rest)

pub behind_token : {ts mid : List Token} (t : Token) (vs rest : List Token) → ts ≡ t ∷ mid → mid ≡ vs ++ rest → ts ≡ (t ∷ vs) ++ rest
behind_token t vs rest a b = a ∙ ap (λ r. t ∷ r) b

-- a part that is not too deep
pub within_is : {A : Type 0} (depth : A → ℕ) (a u : A) (rest left : List Token) → within depth a rest ≡ Some (u, left) → (a ≡ u) × (rest ≡ left) × (depth a ≤ 256)
unfolding within
within_is {A} depth a u rest left = by_test (leb (depth a) 256) refl
  where
    by_test : (c : Bool) → leb (depth a) 256 ≡ c → if_fits c a rest ≡ Some (u, left) → (a ≡ u) × (rest ≡ left) × (depth a ≤ 256)
    by_test true c h = let p = some_pair a u rest left h in (p.0, p.1, leb-true (depth a) 256 c)
    by_test false c h = cc
