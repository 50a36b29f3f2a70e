-- A text that is too long is at fault as a whole, so that no more of it than its first bytes counts.
use Rattle.std.proofs.Common.{◌≡◌, ℕ, ◌<◌, ◌≤◌, ◌∙◌, List, [], length, take, refl, sym, ap, arith, subst, inl, inr, true}
use Rattle.std.proofs.lemmas.Bool.{cases_lt}
use Rattle.std.proofs.lemmas.Bool.Decides.{nat_tests}
use Rattle.std.proofs.lemmas.List.{take_all, length-take-le}
use Rattle.std.specs.Prelude.{Option, Some, None, Err, nat_lt, ◌⊎◌}
use Rattle.mon_code.specs.Programs.{Parts}
use Rattle.mon_forms.specs.Plans.{plan_of}
use Rattle.mon_forms.specs.declared.plan.PlanFault.TheVariants as plan_fault
use Rattle.mon_forms.specs.declared.plan.PlanKind.TheVariants as kind
use Rattle.mon_lexer.specs.Top.{lexfault}
use Rattle.mon_lexer.specs.declared.token.LexFault.{LexFault}
use Rattle.mon_lexer.specs.declared.token.LexFault.TheVariants.{TooLong}
use Rattle.mon_lexer.proofs.Texts.{too_long}
use Rattle.mon_outside.specs.Outside.{ReadsAll}
use Rattle.mon_parser.specs.Texts.{Reading, ReadAs, Misspelled, Underived, Parsed}

plan_of-long : (p : Parts) (text : List ℕ) → 262144 < length text → plan_of p text ≡ Err (plan_fault.Faulty 0 kind.TooMany)
plan_of-long p text h = let e : nat_lt 262144 (length text) ≡ true = grind (arith, nat_tests) in rw e refl

pub plan_of-take : (p : Parts) (text : List ℕ) → plan_of p (take 262145 text) ≡ plan_of p text
plan_of-take p text = by_length (cases_lt 262145 (length text))
  where
    by_length : (262145 < length text) ⊎ (length text ≤ 262145) → plan_of p (take 262145 text) ≡ plan_of p text
    by_length (inl k) =
        let cut : length (take 262145 text) ≡ 262145 = length-take-le 262145 text (omega arith) in
        plan_of-long p (take 262145 text) (omega arith) ∙ sym (plan_of-long p text (omega arith))
    by_length (inr k) = ap (plan_of p) (take_all 262145 text k)

no_fault : (f : LexFault) (o : Option LexFault) → o ≡ Some f → o ≡ None → ⊥
no_fault f o e n = let h : ◌≡◌ {A = Option LexFault} (Some f) None = sym e ∙ n in cc

-- all texts with the same fault are read alike
same_fault : (cut text : List ℕ) (f : LexFault) (r : Reading) → lexfault cut ≡ Some f → lexfault text ≡ Some f → ReadAs cut r → ReadAs text r
same_fault cut text f (Misspelled g) c t h = t ∙ sym c ∙ h
same_fault cut text f (Underived line) c t h = absurd (no_fault f (lexfault cut) c h.0)
same_fault cut text f (Parsed m) c t h = absurd (no_fault f (lexfault cut) c h.0)

pub read_as-take : (text : List ℕ) (r : Reading) → ReadAs (take 262145 text) r → ReadAs text r
read_as-take text r h = by_length (cases_lt 262145 (length text))
  where
    by_length : (262145 < length text) ⊎ (length text ≤ 262145) → ReadAs text r
    by_length (inl k) =
        let cut : length (take 262145 text) ≡ 262145 = length-take-le 262145 text (omega arith) in
        same_fault (take 262145 text) text TooLong r (too_long (take 262145 text) (omega arith)) (too_long text (omega arith)) h
    by_length (inr k) = subst (λ (l : List ℕ). ReadAs l r) (take_all 262145 text k) h

-- what was read of told contents
pub read_of : (held : Option (List ℕ)) (bytes read : List ℕ) → held ≡ Some bytes → ReadsAll held [] read → read ≡ take 262145 bytes
read_of held bytes read e r = let P : Option (List ℕ) → Type 0 = λ t. ReadsAll t [] read in subst P e r
