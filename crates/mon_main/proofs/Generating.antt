-- The generated programs of the sizes that words ask for have no fault, and their plans fit them.
use Rattle.std.proofs.Common.{◌≡◌, ℕ, ◌≤◌, List, [], ◌∷◌, Ok, Err, IfOk, true, false, refl, sym, subst, ◌∙◌, arith}
use Rattle.std.proofs.lemmas.Bool.Decides.{nat_tests}
use Rattle.std.specs.Prelude.{Bool, Option, Some, None, nat_le, ◌==◌, if◌then◌else◌, Result}
use Rattle.mon_code.specs.Programs.{Parts}
use Rattle.mon_compile.specs.Modules as modules
use Rattle.mon_forms.specs.Fits.{FitsProgram}
use Rattle.mon_forms.specs.Operands.{digits_value}
use Rattle.mon_forms.specs.declared.plan.Plan.{Plan}
use Rattle.mon_forms.specs.declared.report.Report.{Report}
use Rattle.mon_gen.specs.Generated.{generated}
use Rattle.mon_gen.specs.Plans.{generated_plan}
use Rattle.mon_gen.specs.Summaries.{summary_text}
use Rattle.mon_gen.proofs.Faults.{no_fault}
use Rattle.mon_gen.proofs.Fits.{plans_fit}
use Rattle.mon_main.proofs.Compiled.{program_is}
use Rattle.mon_main.specs.Answers.{Answer, Answers, Generates, SumsUp, program_of}
use Rattle.mon_main.specs.Commands.{Request, at_most, given, given_to, named, number_of, numbered, request_of}
use Rattle.mon_main.specs.Commands as request
use Rattle.mon_main.specs.Replies.{answer_of, IsProgram}
use Rattle.mon_main.specs.declared.command.Command.{Command}
use Rattle.mon_main.specs.declared.command.TheConstants.{MAX_NUMBER}
use Rattle.mon_main.specs.declared.reply.Compiled.{Compiled}
use Rattle.mon_main.specs.declared.reply.Reply.{Reply}
use Rattle.mon_parser.specs.Texts.{Reading}
use Rattle.mon_run.specs.Reports.{IsLegal}
use Rattle.mon_run.specs.Serial.{IsSerial}
use Rattle.mon_trees.specs.declared.tree.Module.{Module}

-- ---- a number that is asked for is small

by_test : (b : Bool) (k n : ℕ) → nat_le k 500 ≡ b → numbered (if b then Some k else None) ≡ Some (request.Gen n) → n ≤ 500
by_test true k n t e =
    let same : k ≡ n = cc in
    let low : k ≤ 500 = grind (arith, nat_tests, t) in
    omega (arith, same, low)
by_test false k n t e = absurd (cc)

by_limit : (o : Option ℕ) (n : ℕ) → numbered (at_most 500 o) ≡ Some (request.Gen n) → n ≤ 500
by_limit None n e = absurd (cc)
by_limit (Some k) n e = by_test (nat_le k 500) k n refl e

by_first : (b : Bool) (o : Option ℕ) (n : ℕ) → numbered (if b then None else o) ≡ Some (request.Gen n) → numbered o ≡ Some (request.Gen n)
by_first true o n e = absurd (cc)
by_first false o n e = e

by_number : (word : List ℕ) (n : ℕ) → numbered (number_of word) ≡ Some (request.Gen n) → n ≤ 500
by_number [] n e = absurd (cc)
by_number (c ∷ cs) n e = by_limit (digits_value (c ∷ cs)) n (by_first (c == 48) (at_most MAX_NUMBER (digits_value (c ∷ cs))) n e)

other : (b : Bool) (r : Request) (n : ℕ) → (r ≡ request.Gen n → ⊥) → (if b then Some r else None) ≡ Some (request.Gen n) → ⊥
other true r n h e = h (cc)
other false r n h e = cc

given_few : (c : Command) (operands : List (List ℕ)) (n : ℕ) → given c operands ≡ Some (request.Gen n) → n ≤ 500
given_few Command.Run (file ∷ plan ∷ []) n e = absurd (other _ (request.Run file plan) n (λ f. cc) e)
given_few Command.Run [] n e = absurd (cc)
given_few Command.Run (file ∷ []) n e = absurd (cc)
given_few Command.Run (file ∷ plan ∷ more ∷ others) n e = absurd (cc)
given_few Command.Replay (file ∷ plan ∷ []) n e = absurd (other _ (request.Replay file plan) n (λ f. cc) e)
given_few Command.Replay [] n e = absurd (cc)
given_few Command.Replay (file ∷ []) n e = absurd (cc)
given_few Command.Replay (file ∷ plan ∷ more ∷ others) n e = absurd (cc)
given_few Command.Dis (file ∷ []) n e = absurd (other _ (request.Dis file) n (λ f. cc) e)
given_few Command.Dis [] n e = absurd (cc)
given_few Command.Dis (file ∷ more ∷ others) n e = absurd (cc)
given_few Command.Gen (number ∷ []) n e = by_number number n e
given_few Command.Gen [] n e = absurd (cc)
given_few Command.Gen (number ∷ more ∷ others) n e = absurd (cc)

named_few : (c : Option Command) (operands : List (List ℕ)) (n : ℕ) → given_to c operands ≡ Some (request.Gen n) → n ≤ 500
named_few None operands n e = absurd (cc)
named_few (Some c) operands n e = given_few c operands n e

pub request_few : (words : List (List ℕ)) (n : ℕ) → request_of words ≡ Some (request.Gen n) → n ≤ 500
request_few [] n e = absurd (cc)
request_few (word ∷ operands) n e = named_few (named word) operands n e

-- ---- such a program is compiled, and its plan fits it

compiles : (n : ℕ) → n ≤ 500 → program_of (generated n) ≡ Ok (modules.compiled (generated n))
compiles n few = program_is (generated n) (modules.compiled (generated n)) (no_fault n few) refl

refused : (n : ℕ) (a : Answer) → n ≤ 500 → program_of (generated n) ≡ Err a → ⊥
refused n a few e = let h : ◌≡◌ {A = Result Parts Answer} (Err a) (Ok (modules.compiled (generated n))) = sym e ∙ compiles n few in cc

compiled_is : (n : ℕ) (p : Parts) → n ≤ 500 → program_of (generated n) ≡ Ok p → modules.compiled (generated n) ≡ p
compiled_is n p few e = let h : ◌≡◌ {A = Result Parts Answer} (Ok (modules.compiled (generated n))) (Ok p) = sym (compiles n few) ∙ e in cc

-- what is said to such a module is said to the generated one
said : (n : ℕ) (m : Module) (r reply : Result Compiled Reply) → m ≡ generated n → r ≡ reply → IsProgram (program_of m) r → IsProgram (program_of (generated n)) reply
said n m r reply is e due = subst (λ (t : Module). IsProgram (program_of t) reply) is (subst (λ (x : Result Compiled Reply). IsProgram (program_of m) x) e due)

pub never_refused : (n : ℕ) (m : Module) (r : Result Compiled Reply) (reply : Reply) → n ≤ 500 → m ≡ generated n → r ≡ Err reply → IsProgram (program_of m) r → ⊥
never_refused n m r reply few is e due = refused n (answer_of reply) few (said n m r (Err reply) is e due)

pub plan_fits : (n : ℕ) (m : Module) (r : Result Compiled Reply) (c : Compiled) (plan : Plan) → n ≤ 500 → m ≡ generated n → r ≡ Ok c → IsProgram (program_of m) r → plan ≡ generated_plan n → FitsProgram c.program plan
plan_fits n m r c plan few is e due made =
    let at_plan : FitsProgram c.program (generated_plan n) = subst (λ (q : Parts). FitsProgram q (generated_plan n)) (compiled_is n c.program few (said n m r (Ok c) is e due)) (plans_fit n few) in
    subst (λ (q : Plan). FitsProgram c.program q) (sym made) at_plan

pub sums_up : (n : ℕ) (m : Module) (r : Result Compiled Reply) (c : Compiled) (plan : Plan) (report : Report) (text : List ℕ) → n ≤ 500 → m ≡ generated n → r ≡ Ok c → IsProgram (program_of m) r → plan ≡ generated_plan n
    → IsSerial c.program plan report → IsLegal c.program plan.workload report → text ≡ summary_text c.program report.threads → SumsUp (modules.compiled (generated n)) (generated_plan n) text
sums_up n m r c plan report text few is e due made serial legal shown =
    let here : SumsUp c.program plan text = record { report = report; runs = record { serial = serial; legal = legal }; is = shown } in
    let at_plan : SumsUp c.program (generated_plan n) text = subst (λ (q : Plan). SumsUp c.program q text) made here in
    subst (λ (q : Parts). SumsUp q (generated_plan n) text) (sym (compiled_is n c.program few (said n m r (Ok c) is e due))) at_plan

-- a summary is due to what the words ask for
pub gen_due : {E : Type 0} (asked : Option Request) (n : ℕ) (reading : Reading) (plan : List ℕ) (r : Result Reply E) → asked ≡ Some (request.Gen n) → IfOk r (λ x. Generates n (answer_of x).status (answer_of x).text) → IfOk r (λ x. Answers asked reading plan (answer_of x).status (answer_of x).text)
gen_due {E} asked n reading plan r is due = subst (λ (a : Option Request). IfOk r (λ x. Answers a reading plan (answer_of x).status (answer_of x).text)) (sym is) due
