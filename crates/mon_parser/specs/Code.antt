-- What calls of the code do.
use Rattle.std.specs.Prelude.{◌≡◌, ◌<◌, ◌≤◌, List, ◌++◌, ℕ, Some, None, Result, MatchResult}
use Rattle.mon_lexer.specs.declared.token.Token.{Token}
use Rattle.mon_parser.specs.declared.refusal.Refusal.{Refusal}
use Rattle.mon_parser.specs.declared.refusal.Refusal.TheVariants.{Syntax}
use Rattle.mon_parser.specs.Reader.{Answer, then_read}

-- a call that reads does what the reader does, unless memory runs out; where nothing is read, nothing is said of the rest
abbrev pub Gives : {A : Type 0} → Answer A → Result A Refusal → List Token → Type 0
Gives read result new = MatchResult result (λ got. read ≡ Some (got, new)) (λ f. f ≡ Syntax → read ≡ None)

-- a part, unless it is too deep
abbrev pub Made : {A : Type 0} → (A → ℕ) → A → Result A Refusal → Type 0
Made depth a result = MatchResult result (λ got. (depth a ≤ 256) × (got ≡ a)) (λ f. f ≡ Syntax → 256 < depth a)

-- what was read, after what stands before it
abbrev pub with_front : {A : Type 0} → List A → Answer (List A) → Answer (List A)
with_front front read = then_read read (λ more rest. Some (front ++ more, rest))
