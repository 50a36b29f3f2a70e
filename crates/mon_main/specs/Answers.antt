-- The answer to a request: a status, and the text that is written. It knows the request, what FILE is read as and the contents
-- of PLAN, and no store.
use Rattle.std.specs.Prelude.{◌≡◌, ℕ, List, [], Option, Some, None, Result, Ok, Err, ◌⊎◌}
use Rattle.mon_code.specs.Programs.{Parts}
use Rattle.mon_trees.specs.declared.tree.Module.{Module}
use Rattle.mon_parser.specs.Texts.{Reading, ReadAs, Misspelled, Underived, Parsed}
use Rattle.mon_compile.specs.declared.fault.CompileFault.{CompileFault}
use Rattle.mon_compile.specs.Faults.{compile_fault}
use Rattle.mon_compile.specs.Modules as modules
use Rattle.mon_forms.specs.Listing.{listing}
use Rattle.mon_forms.specs.Plans.{plan_of}
use Rattle.mon_forms.specs.Reports.{report_text}
use Rattle.mon_forms.specs.declared.plan.Plan.{Plan}
use Rattle.mon_forms.specs.declared.plan.PlanFault.{PlanFault}
use Rattle.mon_forms.specs.declared.plan.PlanFault.TheVariants as plan_fault
use Rattle.mon_forms.specs.declared.report.Report.{Report}
use Rattle.mon_gen.specs.Generated.{generated}
use Rattle.mon_gen.specs.Plans.{generated_plan}
use Rattle.mon_gen.specs.Summaries.{summary_text}
use Rattle.mon_run.specs.Reports.{IsLegal}
use Rattle.mon_run.specs.Scripts.{in_order}
use Rattle.mon_run.specs.Serial.{IsSerial}
use Rattle.mon_run.specs.Turns as turns
use Rattle.mon_main.specs.Commands.{Request, usage_line}
use Rattle.mon_main.specs.Commands as request
use Rattle.mon_main.specs.Sources.{misspelled_line, underived_line, uncompiled_line, plan_line}
use Rattle.mon_main.specs.declared.status.Status.{Status}

-- a status with its text
pub record Answer : Type 0 where
  pub status : Status
  pub text : List ℕ

abbrev pub Is : Answer → Status → List ℕ → Type 0
Is a status text = (status ≡ a.status) × (text ≡ a.text)

abbrev pub says : Status → List ℕ → Answer
says status text = record { status = status; text = text }

-- ---- FILE

-- a fault of the module
abbrev pub uncompiled : CompileFault → Answer
uncompiled fault = says Status.Source (uncompiled_line fault)

abbrev pub program_without : Option CompileFault → Module → Result Parts Answer
program_without None m = Ok (modules.compiled m)
program_without (Some fault) m = Err (uncompiled fault)

-- the program of a module, or what is answered to its fault
unfoldable pub program_of : Module → Result Parts Answer
program_of m = program_without (compile_fault m) m

-- the program of what FILE is read as, or what is answered to its fault
abbrev pub program_in : Reading → Result Parts Answer
program_in (Misspelled fault) = Err (says Status.Source (misspelled_line fault))
program_in (Underived line) = Err (says Status.Source (underived_line line))
program_in (Parsed m) = program_of m

-- ---- PLAN

-- a plan's fault; want of memory has no line
abbrev pub fault_of_plan : PlanFault → List ℕ
fault_of_plan (plan_fault.Faulty line kind) = plan_line line kind
fault_of_plan plan_fault.Memory = []

-- ---- what is done

-- the report that is printed
abbrev pub Runs : Type 1
Runs = Parts → Plan → Report → Type 0

-- on one thread, by the plan's schedule
pub record Serially (p : Parts) (plan : Plan) (report : Report) : Type 0 where
  pub serial : IsSerial p plan report
  pub legal : IsLegal p plan.workload report

-- over threads: as some order of the controls and disables allows, the scripts' calls in turn
pub record Legally (p : Parts) (plan : Plan) (report : Report) : Type 0 where
  pub legal : IsLegal p plan.workload report
  pub order : turns.asked report.journal.lines ≡ in_order plan.workload

-- the text is the print of such a report
pub record Prints (R : Runs) (p : Parts) (plan : Plan) (text : List ℕ) : Type 0 where
  pub report : Report
  pub runs : R p plan report
  pub is : text ≡ report_text p plan report

abbrev pub ByPlan : Runs → Parts → Result Plan PlanFault → Status → List ℕ → Type 0
ByPlan R p (Err fault) status text = Is (says Status.Plan (fault_of_plan fault)) status text
ByPlan R p (Ok plan) status text = (status ≡ Status.Done) × Prints R p plan text

-- a program by the text of a plan
abbrev pub RunsBy : Runs → Result Parts Answer → List ℕ → Status → List ℕ → Type 0
RunsBy R (Err refusal) plan status text = Is refusal status text
RunsBy R (Ok p) plan status text = ByPlan R p (plan_of p plan) status text

abbrev pub Lists : Result Parts Answer → Status → List ℕ → Type 0
Lists (Err refusal) status text = Is refusal status text
Lists (Ok p) status text = Is (says Status.Done (listing p)) status text

-- the text is the summary of the serial report
pub record SumsUp (p : Parts) (plan : Plan) (text : List ℕ) : Type 0 where
  pub report : Report
  pub runs : Serially p plan report
  pub is : text ≡ summary_text p report.threads

-- the program of this size by its plan
abbrev pub Generates : ℕ → Status → List ℕ → Type 0
Generates n status text = (status ≡ Status.Done) × SumsUp (modules.compiled (generated n)) (generated_plan n) text

-- a request is answered so
abbrev pub Answers : Option Request → Reading → List ℕ → Status → List ℕ → Type 0
Answers None reading plan status text = Is (says Status.Usage usage_line) status text
Answers (Some (request.Run file name)) reading plan status text = RunsBy Legally (program_in reading) plan status text
Answers (Some (request.Replay file name)) reading plan status text = RunsBy Serially (program_in reading) plan status text
Answers (Some (request.Dis file)) reading plan status text = Lists (program_in reading) status text
Answers (Some (request.Gen number)) reading plan status text = Generates number status text

-- ---- as far as contents are told

-- contents are told, and read so
abbrev pub TellsFile : Option (List ℕ) → Reading → Type 0
TellsFile None reading = ⊥
TellsFile (Some file) reading = ReadAs file reading

-- those of PLAN, where FILE has a program
abbrev pub TellsPlan : Result Parts Answer → Option (List ℕ) → List ℕ → Type 0
TellsPlan (Err refusal) told plan = Unit {0}
TellsPlan (Ok p) told plan = told ≡ Some plan

abbrev pub TellsBoth : Option (List ℕ) → Option (List ℕ) → Reading → List ℕ → Type 0
TellsBoth file told reading plan = TellsFile file reading × TellsPlan (program_in reading) told plan

-- contents are told as far as a request needs them
abbrev pub Tells : Option Request → (List ℕ → Option (List ℕ)) → Reading → List ℕ → Type 0
Tells None holds reading plan = Unit {0}
Tells (Some (request.Run file name)) holds reading plan = TellsBoth (holds file) (holds name) reading plan
Tells (Some (request.Replay file name)) holds reading plan = TellsBoth (holds file) (holds name) reading plan
Tells (Some (request.Dis file)) holds reading plan = TellsFile (holds file) reading
Tells (Some (request.Gen number)) holds reading plan = Unit {0}

-- whatever FILE is read as and PLAN holds, as far as the contents are told
abbrev pub WhereTold : Option Request → (List ℕ → Option (List ℕ)) → (Reading → List ℕ → Type 0) → Type 0
WhereTold asked holds P = (reading : Reading) (plan : List ℕ) → Tells asked holds reading plan → P reading plan

-- ---- reads that fail

-- told contents have a program
abbrev pub HasProgram : Option (List ℕ) → Type 0
HasProgram None = Unit {0}
HasProgram (Some file) = (m : Module) × (p : Parts) × ReadAs file (Parsed m) × (program_of m ≡ Ok p)

-- the read of FILE, or that of PLAN where FILE has a program
abbrev pub FailedBoth : (List ℕ → Option (List ℕ)) → List ℕ → List ℕ → Option (List ℕ) → Type 0
FailedBoth holds file name failed = (failed ≡ Some file) ⊎ ((failed ≡ Some name) × HasProgram (holds file))

abbrev pub FailedRead : Option Request → (List ℕ → Option (List ℕ)) → Option (List ℕ) → Type 0
FailedRead None holds failed = ⊥
FailedRead (Some (request.Run file name)) holds failed = FailedBoth holds file name failed
FailedRead (Some (request.Replay file name)) holds failed = FailedBoth holds file name failed
FailedRead (Some (request.Dis file)) holds failed = failed ≡ Some file
FailedRead (Some (request.Gen number)) holds failed = ⊥
