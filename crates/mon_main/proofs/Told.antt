-- What is answered from what was read is the due answer, where the store tells what the names stand for.
use Rattle.std.proofs.Common.{◌≡◌, ◌∙◌, ℕ, List, [], refl, sym, ap, subst, Result, Ok, Err, IfOk}
use Rattle.std.specs.Prelude.{Option, Some, None}
use Rattle.mon_code.specs.Programs.{Parts}
use Rattle.mon_parser.specs.Texts.{Reading, ReadAs, Misspelled, Underived, Parsed}
use Rattle.mon_parser.proofs.Texts.{text_read_once}
use Rattle.mon_trees.specs.declared.tree.Module.{Module}
use Rattle.mon_forms.specs.Plans.{plan_of}
use Rattle.mon_outside.specs.Outside.{ReadsAll}
use Rattle.mon_main.proofs.Limits.{plan_of-take, read_as-take, read_of}
use Rattle.mon_forms.specs.declared.plan.Plan.{Plan}
use Rattle.mon_forms.specs.declared.plan.PlanFault.{PlanFault}
use Rattle.mon_main.specs.Answers.{Answer, Answers, program_in, program_of, says, ByPlan, HasProgram, Lists, Runs, RunsBy, Tells, TellsFile, TellsPlan}
use Rattle.mon_main.specs.Commands.{Request}
use Rattle.mon_main.specs.Commands as request
use Rattle.mon_main.specs.Replies.{answer_of, IsProgram}
use Rattle.mon_main.specs.Sources.{fault_line, misspelled_line, underived_line, ModuleOf}
use Rattle.mon_main.specs.declared.reply.Compiled.{Compiled}
use Rattle.mon_main.specs.declared.reply.Reply.{Reply}
use Rattle.mon_main.specs.declared.source.SourceFault.{SourceFault}
use Rattle.mon_main.specs.declared.source.SourceFault.TheVariants as source_fault
use Rattle.mon_main.specs.declared.status.Status.{Status}

-- the plan that was read is that of the whole text
pub plan_read : (p : Parts) (held : Option (List ℕ)) (text read : List ℕ) → held ≡ Some text → ReadsAll held [] read → plan_of p read ≡ plan_of p text
plan_read p held text read e r = ap (plan_of p) (read_of held text read e r) ∙ plan_of-take p text

-- the whole text is read as its first bytes are
found : (text read : List ℕ) (reading : Reading) → ReadsAll (Some text) [] read → ReadAs read reading → ReadAs text reading
found text read reading r d =
    read_as-take text reading (subst (λ (l : List ℕ). ReadAs l reading) (read_of (Some text) text read refl r) d)

is_reading : (held : Option (List ℕ)) (read : List ℕ) (reading one : Reading) → TellsFile held reading → ReadsAll held [] read → ReadAs read one → one ≡ reading
is_reading None read reading one h r d = absurd h
is_reading (Some text) read reading one h r d = text_read_once text one reading (found text read one r d) h

-- what a module is answered is what is due to the reading that it is
pub program_due : {E : Type 0} (m : Module) (reading : Reading) (held : Option (List ℕ)) (read : List ℕ) (r : Result (Result Compiled Reply) E) → TellsFile held reading → ReadsAll held [] read → ReadAs read (Parsed m)
    → IfOk r (IsProgram (program_of m)) → IfOk r (IsProgram (program_in reading))
program_due {E} m reading held read r tells reads is due =
    subst (λ (t : Reading). IfOk r (IsProgram (program_in t))) (is_reading held read reading (Parsed m) tells reads is) due

some_line : (line other : List ℕ) → Some other ≡ Some line → line ≡ other
some_line line other e = cc

no_line : (line : List ℕ) → ◌≡◌ {A = Option (List ℕ)} None (Some line) → ⊥
no_line line e = cc

-- a fault is answered by its line
pub source_due : (fault : SourceFault) (held : Option (List ℕ)) (read line : List ℕ) (reading : Reading) → ModuleOf (Err fault) read → TellsFile held reading → ReadsAll held [] read → fault_line fault ≡ Some line → program_in reading ≡ Err (says Status.Source line)
source_due (source_fault.Misspelled f) held read line reading m h r e =
    sym (ap program_in (is_reading held read reading (Misspelled f) h r m)) ∙ ap (λ l. Err (says Status.Source l)) (sym (some_line line (misspelled_line f) e))
source_due (source_fault.Underived at) held read line reading m h r e =
    sym (ap program_in (is_reading held read reading (Underived at) h r m)) ∙ ap (λ l. Err (says Status.Source l)) (sym (some_line line (underived_line at) e))
source_due source_fault.Memory held read line reading m h r e = absurd (no_line line e)

pub has_program : (held : Option (List ℕ)) (read : List ℕ) (m : Module) (p : Parts) → ReadsAll held [] read → ReadAs read (Parsed m) → program_of m ≡ Ok p → HasProgram held
has_program None read m p r d is = tt
has_program (Some text) read m p r d is = (m, p, found text read (Parsed m) r d, is)

due_program : (m : Module) (held : Option (List ℕ)) (read : List ℕ) (r : Result Compiled Reply) → ReadsAll held [] read → ReadAs read (Parsed m) → IsProgram (program_of m) r → IfOk r (λ c. HasProgram held)
due_program m held read (Ok c) reads is due = has_program held read m c.program reads is due
due_program m held read (Err reply) reads is due = tt

pub found_program : {E : Type 0} (m : Module) (held : Option (List ℕ)) (read : List ℕ) (r : Result (Result Compiled Reply) E) → ReadsAll held [] read → ReadAs read (Parsed m) → IfOk r (IsProgram (program_of m)) → IfOk r (λ x. IfOk x (λ c. HasProgram held))
found_program {E} m held read (Ok r) reads is due = due_program m held read r reads is due
found_program {E} m held read (Err e) reads is due = tt

-- what a program is answered is due to what FILE is read as
pub run_due : {E : Type 0} (R : Runs) (c : Compiled) (reading : Reading) (held told : Option (List ℕ)) (plan read : List ℕ) (r : Result Reply E) → TellsPlan (program_in reading) held plan → program_in reading ≡ Ok c.program → told ≡ held → ReadsAll told [] read
    → IfOk r (λ x. ByPlan R c.program (plan_of c.program read) (answer_of x).status (answer_of x).text) → IfOk r (λ x. RunsBy R (program_in reading) plan (answer_of x).status (answer_of x).text)
run_due {E} R c reading held told plan read r tells is same reads due =
    let is_told : told ≡ Some plan = same ∙ subst (λ (o : Result Parts Answer). TellsPlan o held plan) is tells in
    let at_program : IfOk r (λ x. RunsBy R (Ok c.program) plan (answer_of x).status (answer_of x).text) =
    subst (λ (q : Result Plan PlanFault). IfOk r (λ x. ByPlan R c.program q (answer_of x).status (answer_of x).text)) (plan_read c.program told plan read is_told reads) due in
    subst (λ (o : Result Parts Answer). IfOk r (λ x. RunsBy R o plan (answer_of x).status (answer_of x).text)) (sym is) at_program

-- a listing is due to what the words ask for
pub dis_due : {E : Type 0} (asked : Option Request) (file : List ℕ) (holds : List ℕ → Option (List ℕ)) (reading : Reading) (plan : List ℕ) (r : Result Reply E) → asked ≡ Some (request.Dis file) → Tells asked holds reading plan
    → (Tells (Some (request.Dis file)) holds reading plan → IfOk r (λ x. Lists (program_in reading) (answer_of x).status (answer_of x).text)) → IfOk r (λ x. Answers asked reading plan (answer_of x).status (answer_of x).text)
dis_due {E} asked file holds reading plan r is tells due =
    let at_request : Tells (Some (request.Dis file)) holds reading plan = subst (λ (a : Option Request). Tells a holds reading plan) is tells in
    subst (λ (a : Option Request). IfOk r (λ x. Answers a reading plan (answer_of x).status (answer_of x).text)) (sym is) (due at_request)
