-- The operands of a call, one word after another, and where the call goes.
use Rattle.std.proofs.Common.{◌≡◌, ℕ, zero, suc, ◌+◌, ◌<◌, List, [], ◌∷◌, ◌++◌, length, drop, get_or, Result, Ok, Err, refl, sym, ap, ◌∙◌, subst, arith}
use Rattle.mon_code.specs.Programs.{Parts}
use Rattle.mon_history.specs.declared.calls.ControlCall.{ControlCall}
use Rattle.mon_forms.specs.Answers.{Answers, Leaves}
use Rattle.mon_forms.specs.Calls.{with_operand, with_operands, call_if, call_of, no_parts, operands_of}
use Rattle.mon_forms.specs.Plans.{onto_last, onto_script, onto_section, with_call}
use Rattle.mon_forms.specs.declared.calls.CallKind.{CallKind}
use Rattle.mon_forms.specs.declared.calls.CallParts.{CallParts}
use Rattle.mon_forms.specs.declared.calls.Operand.{Operand}
use Rattle.mon_forms.specs.declared.draft.Draft.{Draft}
use Rattle.mon_forms.specs.declared.draft.LineFault.{LineFault}
use Rattle.mon_forms.specs.declared.heads.Section.{Section}
use Rattle.mon_forms.specs.declared.plan.PlanKind.{PlanKind}
use Rattle.mon_forms.proofs.Fitting.{onto_popped}

abbrev SoFar : Parts → CallKind → CallParts → ℕ → List (List ℕ) → List (List ℕ) → Type 0
SoFar p kind parts i rest line =
    with_operands p (Ok parts) (drop i (operands_of kind)) rest ≡ with_operands p (Ok no_parts) (operands_of kind) line

none_left : (p : Parts) (parts : CallParts) (operands : List Operand) (i : ℕ) → i < length operands → with_operands p (Ok parts) (drop i operands) [] ≡ Err PlanKind.Word
none_left p parts [] i h = absurd (omega arith)
none_left p parts (operand ∷ operands) zero h = refl
none_left p parts (operand ∷ operands) (suc i) h = none_left p parts operands i (omega arith)

-- there is no word for an operand
pub no_word : (p : Parts) (kind : CallKind) (parts : CallParts) (i : ℕ) (rest line : List (List ℕ)) → i < length (operands_of kind) → rest ≡ [] → SoFar p kind parts i rest line → Answers (Err (LineFault.Faulty PlanKind.Word)) (call_of p kind line)
no_word p kind parts i rest line within none so_far =
    let e : with_operands p (Ok no_parts) (operands_of kind) line ≡ Err PlanKind.Word =
    sym so_far ∙ ap (λ (ls : List (List ℕ)). with_operands p (Ok parts) (drop i (operands_of kind)) ls) none ∙ none_left p parts (operands_of kind) i within
    in
    subst (λ (r : Result CallParts PlanKind). Answers (Err (LineFault.Faulty PlanKind.Word)) (call_if kind r)) (sym e) refl

one_word : (p : Parts) (parts : CallParts) (operands : List Operand) (i : ℕ) (operand : Operand) (word : List ℕ) (words : List (List ℕ)) → i < length operands → operand ≡ get_or operands i Operand.Id → with_operands p (Ok parts) (drop i operands) (word ∷ words) ≡ with_operands p (with_operand p operand word parts) (drop (suc i) operands) words
one_word p parts [] i operand word words h is = absurd (omega arith)
one_word p parts (o ∷ operands) zero operand word words h is = ap (λ (q : Operand). with_operands p (with_operand p q word parts) operands words) (sym is)
one_word p parts (o ∷ operands) (suc i) operand word words h is = one_word p parts operands i operand word words (omega arith) is

with_word : (p : Parts) (kind : CallKind) (parts : CallParts) (i : ℕ) (operand : Operand) (word : List ℕ) (rest more line : List (List ℕ)) → i < length (operands_of kind) → operand ≡ get_or (operands_of kind) i Operand.Id → rest ≡ word ∷ more → SoFar p kind parts i rest line → with_operands p (with_operand p operand word parts) (drop (i + 1) (operands_of kind)) more ≡ with_operands p (Ok no_parts) (operands_of kind) line
with_word p kind parts i operand word rest more line within is cut so_far =
    let one : i + 1 ≡ suc i = omega arith in
    ap (λ (n : ℕ). with_operands p (with_operand p operand word parts) (drop n (operands_of kind)) more) one
    ∙ sym (one_word p parts (operands_of kind) i operand word more within is)
    ∙ sym (ap (λ (ls : List (List ℕ)). with_operands p (Ok parts) (drop i (operands_of kind)) ls) cut)
    ∙ so_far

fault_stays : (p : Parts) (kind : PlanKind) (operands : List Operand) (words : List (List ℕ)) → with_operands p (Err kind) operands words ≡ Err kind
fault_stays p kind [] words = refl
fault_stays p kind (operand ∷ operands) words = refl

no_memory : {A : Type 0} (due : Result A PlanKind) → Answers (Err LineFault.Memory) due
no_memory (Ok a) = tt
no_memory (Err kind) = tt

call_faulty : (p : Parts) (kind : CallKind) (new : CallParts) (fault : LineFault) (due : Result CallParts PlanKind) (operands : List Operand) (words : List (List ℕ)) → Leaves (Err fault) new due → Answers (Err fault) (call_if kind (with_operands p due operands words))
call_faulty p kind new LineFault.Memory due operands words h = no_memory (call_if kind (with_operands p due operands words))
call_faulty p kind new (LineFault.Faulty k) (Ok parts) operands words h = absurd h
call_faulty p kind new (LineFault.Faulty k) (Err due) operands words h =
    subst (λ (r : Result CallParts PlanKind). Answers (Err (LineFault.Faulty k)) (call_if kind r)) (sym (fault_stays p due operands words)) h

-- an operand is faulty
pub faulty_word : (p : Parts) (kind : CallKind) (parts new : CallParts) (fault : LineFault) (i : ℕ) (operand : Operand) (word : List ℕ) (rest more line : List (List ℕ)) → i < length (operands_of kind) → operand ≡ get_or (operands_of kind) i Operand.Id → rest ≡ word ∷ more → SoFar p kind parts i rest line → Leaves (Err fault) new (with_operand p operand word parts) → Answers (Err fault) (call_of p kind line)
faulty_word p kind parts new fault i operand word rest more line within is cut so_far left =
    subst (λ (r : Result CallParts PlanKind). Answers (Err fault) (call_if kind r)) (with_word p kind parts i operand word rest more line within is cut so_far)
    (call_faulty p kind new fault (with_operand p operand word parts) (drop (i + 1) (operands_of kind)) more left)

taken : (p : Parts) (done : Unit {0}) (new : CallParts) (due : Result CallParts PlanKind) → Leaves (Ok done) new due → Ok new ≡ due
taken p done new (Ok parts) h = ap Ok h
taken p done new (Err kind) h = absurd h

-- one operand more
pub word_more : (p : Parts) (kind : CallKind) (done : Unit {0}) (parts new : CallParts) (i : ℕ) (operand : Operand) (word : List ℕ) (rest more line : List (List ℕ)) → i < length (operands_of kind) → operand ≡ get_or (operands_of kind) i Operand.Id → rest ≡ word ∷ more → SoFar p kind parts i rest line → Leaves (Ok done) new (with_operand p operand word parts) → SoFar p kind new (i + 1) more line
word_more p kind done parts new i operand word rest more line within is cut so_far left =
    ap (λ (r : Result CallParts PlanKind). with_operands p r (drop (i + 1) (operands_of kind)) more) (taken p done new (with_operand p operand word parts) left)
    ∙ with_word p kind parts i operand word rest more line within is cut so_far

-- the last script with a call more
pub script_pushed : (d : Draft) (call : ControlCall) (left scripts : List (List ControlCall)) (script pushed : List ControlCall) → d.scripts ≡ left ++ script ∷ [] → pushed ≡ script ++ call ∷ [] → scripts ≡ left ++ pushed ∷ [] → record d { scripts = scripts } ≡ onto_script d call
script_pushed d call left scripts script pushed popped one all =
    ap (λ (ss : List (List ControlCall)). record d { scripts = ss })
    (all ∙ ap (λ (s : List ControlCall). left ++ s ∷ []) one ∙ sym (onto_popped left script call) ∙ sym (ap (λ (ss : List (List ControlCall)). onto_last ss call) popped))

pub call_refused : (d new : Draft) (fault : LineFault) (r : Result ControlCall PlanKind) → Answers (Err fault) r → Leaves (Err fault) new (with_call d r)
call_refused d new LineFault.Memory (Ok call) h = tt
call_refused d new LineFault.Memory (Err kind) h = tt
call_refused d new (LineFault.Faulty k) (Ok call) h = absurd h
call_refused d new (LineFault.Faulty k) (Err kind) h = h

pub left_by_memory : (new : Draft) (due : Result Draft PlanKind) → Leaves (Err LineFault.Memory) new due
left_by_memory new (Ok d) = tt
left_by_memory new (Err kind) = tt

pub call_taken : (d new : Draft) (call : ControlCall) (r : Result ControlCall PlanKind) → Answers (Ok call) r → new ≡ onto_section d call d.section → Leaves (Ok tt) new (with_call d r)
call_taken d new call (Ok due) h is = is ∙ ap (λ (c : ControlCall). onto_section d c d.section) h
call_taken d new call (Err kind) h is = absurd h

pub before_added : (d self : Draft) (call : ControlCall) (pushed : List ControlCall) → self ≡ record d { before = pushed } → pushed ≡ d.before ++ call ∷ [] → d.section ≡ Section.Before → record self { calls = self.calls + 1 } ≡ onto_section d call d.section
before_added d self call pushed is all section =
    ap (λ (e : Draft). record e { calls = e.calls + 1 }) is
    ∙ ap (λ (cs : List ControlCall). record d { calls = d.calls + 1; before = cs }) all
    ∙ sym (ap (λ (s : Section). onto_section d call s) section)

elsewhere : (d : Draft) (call : ControlCall) (s : Section) → (s ≡ Section.Before → ⊥) → onto_section d call s ≡ record d { calls = d.calls + 1; scripts = onto_last d.scripts call }
elsewhere d call Section.Nothing h = refl
elsewhere d call Section.Steps h = refl
elsewhere d call Section.Threads h = refl
elsewhere d call Section.Before h = absurd (h refl)
elsewhere d call Section.Scripts h = refl
elsewhere d call Section.Schedule h = refl
elsewhere d call Section.Reports h = refl

pub script_added : (d self pushed : Draft) (call : ControlCall) → self ≡ pushed → pushed ≡ onto_script d call → (d.section ≡ Section.Before → ⊥) → record self { calls = self.calls + 1 } ≡ onto_section d call d.section
script_added d self pushed call is all section =
    ap (λ (e : Draft). record e { calls = e.calls + 1 }) (is ∙ all) ∙ sym (elsewhere d call d.section section)
