-- One line more of a text, and its end.
use Rattle.std.proofs.Common.{◌≡◌, ℕ, ◌+◌, ◌≤◌, nat_lt, Bool, false, List, [], ◌∷◌, length, Result, Ok, Err, if◌then◌else◌, refl, sym, ap, ◌∙◌, subst, arith}
use Rattle.std.proofs.lemmas.Bool.Decides.{nat_tests}
use Rattle.mon_code.specs.Programs.{Parts}
use Rattle.mon_forms.specs.Answers.{AnswersPlan, Leaves, fault_at}
use Rattle.mon_forms.specs.Lines.{lines_of}
use Rattle.mon_forms.specs.Plans.{add_line, add_lines, at_line, finished, no_lines, plan_of, plan_of_lines}
use Rattle.mon_forms.specs.declared.draft.Draft.{Draft}
use Rattle.mon_forms.specs.declared.draft.LineFault.{LineFault}
use Rattle.mon_forms.specs.declared.limits.TheConstants.{MAX_PLAN_BYTES}
use Rattle.mon_forms.specs.declared.plan.Plan.{Plan}
use Rattle.mon_forms.specs.declared.plan.PlanFault.{PlanFault}
use Rattle.mon_forms.specs.declared.plan.PlanKind.{PlanKind}

-- a text of so many bytes is not too long
pub not_longer : (n : ℕ) → n ≤ MAX_PLAN_BYTES → nat_lt MAX_PLAN_BYTES n ≡ false
not_longer n h = grind (arith, nat_tests)

err_stays : (p : Parts) (n : ℕ) (fault : PlanFault) (lines : List (List ℕ)) → add_lines p n (Err fault) lines ≡ Err fault
err_stays p n fault [] = refl
err_stays p n fault (line ∷ lines) = refl

faulty_line : (p : Parts) (number count : ℕ) (new : Draft) (fault : LineFault) (due : Result Draft PlanKind) (lines : List (List ℕ)) → Leaves (Err fault) new due → AnswersPlan {A = Plan} (Err (fault_at number fault)) (finished count (add_lines p (number + 1) (at_line number due) lines))
faulty_line p number count new LineFault.Memory due lines h = tt
faulty_line p number count new (LineFault.Faulty kind) (Ok d) lines h = absurd h
faulty_line p number count new (LineFault.Faulty kind) (Err k) lines h =
    ap (λ q. Err (PlanFault.Faulty number q)) h ∙ sym (ap (finished count) (err_stays p (number + 1) (PlanFault.Faulty number k) lines))

-- a text that is not too long is its lines
of_lines : (p : Parts) (text : List ℕ) (answer : Result Plan PlanFault) → nat_lt MAX_PLAN_BYTES (length text) ≡ false → AnswersPlan answer (plan_of_lines p (lines_of text)) → AnswersPlan answer (plan_of p text)
of_lines p text answer small h =
    subst (λ (b : Bool). AnswersPlan answer (if b then Err (PlanFault.Faulty 0 PlanKind.TooMany) else plan_of_lines p (lines_of text))) (sym small) h

-- a faulty line behind others that are not
pub read_faulty : (p : Parts) (text rest line more : List ℕ) (number : ℕ) (d new : Draft) (fault : LineFault) → nat_lt MAX_PLAN_BYTES (length text) ≡ false → add_lines p number (Ok d) (lines_of rest) ≡ add_lines p 1 (Ok no_lines) (lines_of text) → lines_of rest ≡ line ∷ lines_of more → Leaves (Err fault) new (add_line p d line) → AnswersPlan {A = Plan} (Err (fault_at number fault)) (plan_of p text)
read_faulty p text rest line more number d new fault small so_far cut left =
    of_lines p text (Err (fault_at number fault)) small
    (subst (λ (r : Result Draft PlanFault). AnswersPlan {A = Plan} (Err (fault_at number fault)) (finished (length (lines_of text) + 1) r))
    (sym (ap (λ (ls : List (List ℕ)). add_lines p number (Ok d) ls) cut) ∙ so_far)
    (faulty_line p number (length (lines_of text) + 1) new fault (add_line p d line) (lines_of more) left))

due_line : (p : Parts) (number : ℕ) (done : Unit {0}) (new : Draft) (due : Result Draft PlanKind) (lines : List (List ℕ)) → Leaves (Ok done) new due → add_lines p (number + 1) (Ok new) lines ≡ add_lines p (number + 1) (at_line number due) lines
due_line p number done new (Ok d) lines h = ap (λ (e : Draft). add_lines p (number + 1) (Ok e) lines) h
due_line p number done new (Err kind) lines h = absurd h

-- one line more
pub read_more : (p : Parts) (text rest line more : List ℕ) (number : ℕ) (done : Unit {0}) (d new : Draft) → add_lines p number (Ok d) (lines_of rest) ≡ add_lines p 1 (Ok no_lines) (lines_of text) → lines_of rest ≡ line ∷ lines_of more → Leaves (Ok done) new (add_line p d line) → add_lines p (number + 1) (Ok new) (lines_of more) ≡ add_lines p 1 (Ok no_lines) (lines_of text)
read_more p text rest line more number done d new so_far cut left =
    due_line p number done new (add_line p d line) (lines_of more) left
    ∙ sym (ap (λ (ls : List (List ℕ)). add_lines p number (Ok d) ls) cut) ∙ so_far
