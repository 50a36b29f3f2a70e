-- What a call gives, from what its last step gave.
use Rattle.std.proofs.Common.{◌≡◌, ℕ, List, refl, sym, ap, ◌∙◌}
use Rattle.std.specs.Prelude.{Option, Some, None, Result, Ok, Err, IsErrAnd}
use Rattle.mon_lexer.specs.declared.token.Token.{Token}
use Rattle.mon_lexer.specs.declared.token.Kind.{Kind}
use Rattle.mon_parser.specs.declared.refusal.Refusal.{Refusal}
use Rattle.mon_parser.specs.declared.refusal.Refusal.TheVariants.{Syntax, Memory}
use Rattle.mon_parser.specs.Reader.{Answer, Reader, then_read, choose, next_at, within}
use Rattle.mon_parser.specs.Code.{Gives, Made}
use Rattle.mon_parser.proofs.Steps.{within_fits, within_none}

-- where a call refuses, and where it is passed on
pub refuses : {A : Type 0} (read : Answer A) (result : Result A Refusal) (f : Refusal) (rest : List Token) → IsErrAnd result (λ e. e ≡ f) → (f ≡ Syntax → read ≡ None) → Gives read result rest
refuses read (Ok got) f rest h n = absurd h
refuses read (Err e) f rest h n = λ s. n (sym h ∙ s)

-- where memory runs out
no_syntax : Memory ≡ Syntax → ⊥
no_syntax e = cc

pub runs_out : {A : Type 0} (read : Answer A) (result : Result A Refusal) (rest : List Token) → IsErrAnd result (λ e. e ≡ Memory) → Gives read result rest
runs_out read (Ok got) rest h = absurd h
runs_out read (Err e) rest h = λ s. absurd (no_syntax (sym h ∙ s))

pub gives_made : {A : Type 0} (depth : A → ℕ) (a : A) (read : Answer A) (result : Result A Refusal) (rest : List Token) → read ≡ within depth a rest → Made depth a result → Gives read result rest
gives_made depth a read (Ok got) rest e m = e ∙ within_fits depth a rest m.0 ∙ ap (λ x. Some (x, rest)) (sym m.1)
gives_made depth a read (Err f) rest e m = λ s. e ∙ within_none depth a rest (m s)

-- past a token that is not there
pub passes : {A O : Type 0} (read : Answer A) (table : Kind → Option O) (other : Reader A) (go : O → Reader A) (ts same : List Token) → read ≡ choose (next_at table ts) (other ts) go → (next_at table ts ≡ None) × (same ≡ ts) → read ≡ other same
unfolding choose
passes read table other go ts same e n = e ∙ rw n.0 (ap other (sym n.1))

pub takes : {A O : Type 0} (read : Answer A) (table : Kind → Option O) (other : Reader A) (go : O → Reader A) (ts rest : List Token) (o : O) → read ≡ choose (next_at table ts) (other ts) go → next_at table ts ≡ Some (o, rest) → read ≡ go o rest
unfolding choose
takes read table other go ts rest o e n = e ∙ rw n refl

pub goes_on : {A B : Type 0} (read : Answer A) (first : Answer B) (go : B → Reader A) (b : B) (rest : List Token) → read ≡ then_read first go → first ≡ Some (b, rest) → read ≡ go b rest
unfolding then_read
goes_on read first go b rest e f = e ∙ rw f refl

pub stops_there : {A B : Type 0} (read : Answer A) (first : Answer B) (go : B → Reader A) → read ≡ then_read first go → first ≡ None → read ≡ None
unfolding then_read
stops_there read first go e f = e ∙ rw f refl
