-- How a reading goes on, by what its parts read.
use Rattle.std.proofs.Common.{◌≡◌, List, sym, ap, ◌∙◌, subst, refl}
use Rattle.std.specs.Prelude.{Option, Some, None, MatchOption, Result, Ok, Err, IsErrAnd, Bool, true, false}
use Rattle.mon_lexer.specs.declared.token.Token.{Token}
use Rattle.mon_lexer.specs.declared.token.Kind.{Kind}
use Rattle.mon_parser.specs.declared.refusal.Refusal.{Refusal}
use Rattle.mon_parser.specs.declared.refusal.Refusal.TheVariants.{Memory}
use Rattle.mon_trees.specs.declared.tree.Expression.{Expression}
use Rattle.mon_parser.specs.Readings.{leaf_at}
use Rattle.mon_parser.specs.Reader.{Answer, then_read, choose, pick, next_at}
use Rattle.mon_parser.specs.Code.{Gives}

pub found : {A B : Type 0} {read : Answer A} (go : A → List Token → Answer B) {a : A} {rest : List Token} → read ≡ Some (a, rest) → then_read read go ≡ go a rest
unfolding then_read
found go e = rw e refl

pub missed : {A B : Type 0} {read : Answer A} (go : A → List Token → Answer B) → read ≡ None → then_read read go ≡ None
unfolding then_read
missed go e = rw e refl

pub taken : {A B : Type 0} {read : Answer A} (other : Answer B) (go : A → List Token → Answer B) {a : A} {rest : List Token} → read ≡ Some (a, rest) → choose read other go ≡ go a rest
unfolding choose
taken other go e = rw e refl

pub passed : {A B : Type 0} {read : Answer A} (other : Answer B) (go : A → List Token → Answer B) → read ≡ None → choose read other go ≡ other
unfolding choose
passed other go e = rw e refl

pub picked : {B : Type 0} {c : Bool} (a b : Answer B) → c ≡ true → pick c a b ≡ a
unfolding pick
picked a b e = rw e refl

pub unpicked : {B : Type 0} {c : Bool} (a b : Answer B) → c ≡ false → pick c a b ≡ b
unfolding pick
unpicked a b e = rw e refl

pub gives_by : {A : Type 0} (read again : Answer A) (result : Result A Refusal) (rest : List Token) → read ≡ again → Gives again result rest → Gives read result rest
gives_by read again result rest e g = subst (λ r. Gives r result rest) (sym e) g

-- what a table says, where others said nothing before
abbrev pub Kept : {O : Type 0} → (Kind → Option O) → List Token → List Token → Type 0
Kept table ts same = (next_at table ts ≡ None) × (same ≡ ts)

pub after : {O P : Type 0} (table : Kind → Option O) (other : Kind → Option P) {ts same : List Token} {answer : Answer O} → (next_at other ts ≡ None) × (same ≡ ts) → next_at table same ≡ answer → next_at table ts ≡ answer
after table other k e = ap (next_at table) (sym k.1) ∙ e

-- a leaf, or none
pub leaf_some : (leaf : Option Expression) (ts rest : List Token) (t : Expression) → leaf ≡ Some t → MatchOption leaf ((leaf_at ts ≡ None) × (rest ≡ ts)) (λ t. leaf_at ts ≡ Some (t, rest)) → leaf_at ts ≡ Some (t, rest)
leaf_some None ts rest t e m = cc
leaf_some (Some u) ts rest t e m = m ∙ ap (λ w. Some (w, rest)) (inner u t e)
  where
    inner : (u t : Expression) → Some u ≡ Some t → u ≡ t
    inner u t e = cc

pub leaf_no : (leaf : Option Expression) (ts rest : List Token) → leaf ≡ None → MatchOption leaf ((leaf_at ts ≡ None) × (rest ≡ ts)) (λ t. leaf_at ts ≡ Some (t, rest)) → (leaf_at ts ≡ None) × (rest ≡ ts)
leaf_no None ts rest e m = m
leaf_no (Some u) ts rest e m = absurd (no_some u e)
  where
    no_some : (u : Expression) → Some u ≡ None → ⊥
    no_some u e = cc

-- an error that is want of memory
pub memory_only : {A : Type 0} (result : Result A Refusal) (f : Refusal) → IsErrAnd result (λ e. e ≡ f) → f ≡ Memory → IsErrAnd result (λ e. e ≡ Memory)
memory_only (Ok a) f h m = h
memory_only (Err e) f h m = h ∙ m
