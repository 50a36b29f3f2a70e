-- The starts of a plan that fits are calls of the program's codes.
use Rattle.std.proofs.Common.{◌≡◌, ℕ, List, Option, Some, None, slice_get, length, sym, refl, subst}
use Rattle.std.specs.List.{All, AllByRecursion}
use Rattle.std.proofs.lemmas.List.Elements.{All-get_or}
use Rattle.std.proofs.lemmas.Option.{slice_get_within, get_or_from_slice_get}
use Rattle.mon_code.specs.declared.program.Code.{Code}
use Rattle.mon_code.specs.Programs.{Parts}
use Rattle.mon_code.specs.Checked.{IsChecked}
use Rattle.mon_code.specs.Sites.{sites_of}
use Rattle.mon_recorders.specs.Proper.{AreProper}
use Rattle.mon_machine.specs.Advances.{events_from}
use Rattle.mon_machine.specs.Laws.{IsCall, NamesCode}
use Rattle.mon_machine.proofs.Calls.{proper_events}
use Rattle.mon_machine.proofs.Naming.{events_name_codes}
use Rattle.mon_forms.specs.Fits.{FitsStart, FitsWorkload}
use Rattle.mon_forms.specs.Plans.{parameters_of}
use Rattle.mon_forms.specs.declared.plan.Start.{Start}
use Rattle.mon_forms.specs.declared.plan.Workload.{Workload}
use Rattle.mon_run.specs.Reports.{begins, starts_in}
use Rattle.mon_run.specs.Laws.{PlansAreProper}

start_at : (p : Parts) (starts : List Start) (t : ℕ) (s : Start) → All (FitsStart p) starts → slice_get starts t ≡ Some s → FitsStart p s
start_at p starts t s all is = subst (FitsStart p) (get_or_from_slice_get starts t s s is) (All-get_or (FitsStart p) starts t s (slice_get_within starts t s is) all)

parameters_at : (o : Option Code) (n : ℕ) → parameters_of o ≡ Some n → (c : Code) × ((o ≡ Some c) × (c.parameters ≡ n))
parameters_at None n e = absurd (cc)
parameters_at (Some c) n e = (c, (refl, cc))

-- a code, of which the start is a call
abbrev Calls : Parts → Start → Type 0
Calls p s = (c : Code) × ((slice_get p.codes s.code ≡ Some c) × IsCall p s.code c s.args)

start_calls : (p : Parts) (plan : Workload) (t : ℕ) (s : Start) → IsChecked p → FitsWorkload p plan → slice_get plan.threads t ≡ Some s → Calls p s
start_calls p plan t s checked fits is =
    let f = start_at p plan.threads t s fits.starts is in
    let c = parameters_at (slice_get p.codes s.code) (length s.args) f.count in
    (c.0, (c.1.0, record { checked = checked; found = c.1.0; count = sym c.1.1 }))

pub proper_plan : PlansAreProper
proper_plan p plan checked fits t s is i =
    let c = start_calls p plan t s checked fits is in
    subst (λ (o : Option Code). AreProper (sites_of p) (events_from p (starts_in o s) i)) (sym c.1.0) (proper_events p s.code c.0 s.args c.1.1 i)

-- the events of a thread name codes of the program
pub named_plan : (p : Parts) (plan : Workload) (t : ℕ) (s : Start) → IsChecked p → FitsWorkload p plan → slice_get plan.threads t ≡ Some s → (i : ℕ) → AllByRecursion (NamesCode p) (events_from p (begins p s) i)
named_plan p plan t s checked fits is i =
    let c = start_calls p plan t s checked fits is in
    subst (λ (o : Option Code). AllByRecursion (NamesCode p) (events_from p (starts_in o s) i)) (sym c.1.0) (events_name_codes p s.code c.0 s.args c.1.1 i)
