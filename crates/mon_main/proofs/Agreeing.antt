-- A request has one answer.
use Rattle.std.proofs.Common.{◌≡◌, ◌∙◌, ℕ, List, ◌++◌, sym, ap, ap₂, Ok, Err}
use Rattle.std.specs.Prelude.{Option, Some, None, Result}
use Rattle.mon_code.specs.Programs.{Parts}
use Rattle.mon_forms.specs.Plans.{plan_of}
use Rattle.mon_forms.specs.Reports.{report_text, journal_text, threads_text}
use Rattle.mon_forms.specs.Rows.{reports_text}
use Rattle.mon_forms.specs.declared.plan.Plan.{Plan}
use Rattle.mon_forms.specs.declared.plan.PlanFault.{PlanFault}
use Rattle.mon_gen.specs.Summaries.{summary_text}
use Rattle.mon_parser.specs.Texts.{Reading}
use Rattle.mon_history.specs.declared.journal.JournalLine.{JournalLine}
use Rattle.mon_recorders.specs.declared.report.ThreadReport.{ThreadReport}
use Rattle.mon_main.specs.Answers.{Answer, Answers, Is, Lists, ByPlan, Generates, Prints, Runs, RunsBy, Serially, SumsUp, program_in}
use Rattle.mon_main.specs.Commands.{Request, request_of, unless_threaded}
use Rattle.mon_main.specs.Commands as request
use Rattle.mon_main.specs.Laws.{StatusesAgree, TextsAgree}
use Rattle.mon_main.specs.declared.status.Status.{Status}

is_status : (a : Answer) (status other : Status) (text more : List ℕ) → Is a status text → Is a other more → status ≡ other
is_status a status other text more h k = h.0 ∙ sym k.0

by_status : (R : Runs) (p : Parts) (plan : Result Plan PlanFault) (status other : Status) (text more : List ℕ) → ByPlan R p plan status text → ByPlan R p plan other more → status ≡ other
by_status R p (Ok plan) status other text more h k = h.0 ∙ sym k.0
by_status R p (Err fault) status other text more h k = h.0 ∙ sym k.0

run_status : (R : Runs) (due : Result Parts Answer) (plan : List ℕ) (status other : Status) (text more : List ℕ) → RunsBy R due plan status text → RunsBy R due plan other more → status ≡ other
run_status R (Ok p) plan status other text more h k = by_status R p (plan_of p plan) status other text more h k
run_status R (Err refusal) plan status other text more h k = h.0 ∙ sym k.0

list_status : (due : Result Parts Answer) (status other : Status) (text more : List ℕ) → Lists due status text → Lists due other more → status ≡ other
list_status (Ok p) status other text more h k = h.0 ∙ sym k.0
list_status (Err refusal) status other text more h k = h.0 ∙ sym k.0

pub statuses_agree : StatusesAgree
statuses_agree None reading plan status other text more h k = h.0 ∙ sym k.0
statuses_agree (Some (request.Run file name)) reading plan status other text more h k = run_status _ (program_in reading) plan status other text more h k
statuses_agree (Some (request.Replay file name)) reading plan status other text more h k = run_status _ (program_in reading) plan status other text more h k
statuses_agree (Some (request.Dis file)) reading plan status other text more h k = list_status (program_in reading) status other text more h k
statuses_agree (Some (request.Gen number)) reading plan status other text more h k = h.0 ∙ sym k.0

-- the print of a serial report shows what the definition fixes
prints_once : (p : Parts) (plan : Plan) (text more : List ℕ) → Prints Serially p plan text → Prints Serially p plan more → text ≡ more
prints_once p plan text more h k =
    let print = λ (lines : List JournalLine) (threads : List ThreadReport). journal_text p lines ++ threads_text p plan.workload.threads threads ++ reports_text p threads plan.reports in
    let shown : report_text p plan h.report ≡ report_text p plan k.report = ap₂ print (h.runs.serial.journal ∙ sym k.runs.serial.journal) (h.runs.serial.threads ∙ sym k.runs.serial.threads) in
    h.is ∙ shown ∙ sym k.is

by_text : (p : Parts) (plan : Result Plan PlanFault) (status other : Status) (text more : List ℕ) → ByPlan Serially p plan status text → ByPlan Serially p plan other more → text ≡ more
by_text p (Ok plan) status other text more h k = prints_once p plan text more h.1 k.1
by_text p (Err fault) status other text more h k = h.1 ∙ sym k.1

run_text : (due : Result Parts Answer) (plan : List ℕ) (status other : Status) (text more : List ℕ) → RunsBy Serially due plan status text → RunsBy Serially due plan other more → text ≡ more
run_text (Ok p) plan status other text more h k = by_text p (plan_of p plan) status other text more h k
run_text (Err refusal) plan status other text more h k = h.1 ∙ sym k.1

list_text : (due : Result Parts Answer) (status other : Status) (text more : List ℕ) → Lists due status text → Lists due other more → text ≡ more
list_text (Ok p) status other text more h k = h.1 ∙ sym k.1
list_text (Err refusal) status other text more h k = h.1 ∙ sym k.1

-- so does its summary
sums_up_once : (p : Parts) (plan : Plan) (text more : List ℕ) → SumsUp p plan text → SumsUp p plan more → text ≡ more
sums_up_once p plan text more h k =
    let shown : summary_text p h.report.threads ≡ summary_text p k.report.threads = ap (λ (threads : List ThreadReport). summary_text p threads) (h.runs.serial.threads ∙ sym k.runs.serial.threads) in
    h.is ∙ shown ∙ sym k.is

generated_text : (n : ℕ) (status other : Status) (text more : List ℕ) → Generates n status text → Generates n other more → text ≡ more
generated_text n status other text more h k = sums_up_once _ _ text more h.1 k.1

asked_text : (asked : Option Request) (reading : Reading) (plan : List ℕ) (status other : Status) (text more : List ℕ) → Answers (unless_threaded asked) reading plan status text → Answers (unless_threaded asked) reading plan other more → text ≡ more
asked_text None reading plan status other text more h k = h.1 ∙ sym k.1
asked_text (Some (request.Run file name)) reading plan status other text more h k = h.1 ∙ sym k.1
asked_text (Some (request.Replay file name)) reading plan status other text more h k = run_text (program_in reading) plan status other text more h k
asked_text (Some (request.Dis file)) reading plan status other text more h k = list_text (program_in reading) status other text more h k
asked_text (Some (request.Gen number)) reading plan status other text more h k = generated_text number status other text more h k

pub texts_agree : TextsAgree
texts_agree words reading plan status other text more h k = asked_text (request_of words) reading plan status other text more h k
