-- What a run asks of a plan: the limits, and that each code, thread and script that it names is there.
use Rattle.std.specs.Prelude.{◌≡◌, ℕ, ◌+◌, ◌*◌, ◌<◌, ◌≤◌, List, [], ◌∷◌, length, All, slice_get, Some}
use Rattle.mon_code.specs.Programs.{Parts}
use Rattle.mon_history.specs.declared.calls.ControlCall.{ControlCall}
use Rattle.mon_values.specs.declared.value.Exc.{Exc}
use Rattle.mon_values.specs.declared.value.Value.{Value}
use Rattle.mon_values.specs.declared.value.Value.TheOpen.{Value-F}
use Rattle.mon_values.specs.declared.value.Value.TheViews.{out-Value}
use Rattle.mon_forms.specs.Heads.{section_number}
use Rattle.mon_forms.specs.Plans.{parameters_of, plan_in}
use Rattle.mon_forms.specs.declared.limits.TheConstants.{MAX_STEPS, MAX_ALL_STEPS, MAX_THREADS, MAX_SCRIPTS, MAX_CALLS, MAX_TEXT}
use Rattle.mon_forms.specs.declared.draft.Draft.{Draft}
use Rattle.mon_forms.specs.declared.plan.Move.{Move}
use Rattle.mon_forms.specs.declared.plan.Plan.{Plan}
use Rattle.mon_forms.specs.declared.plan.Start.{Start}
use Rattle.mon_forms.specs.declared.plan.Workload.{Workload}

abbrev pub FitsArgument : Value-F Value Exc → Type 0
FitsArgument (Value-F.Int n) = Unit {0}
FitsArgument (Value-F.Text text) = length text ≤ MAX_TEXT
FitsArgument _ = ⊥

-- an integer, or a text that is not too long
abbrev pub IsArgument : Value → Type 0
IsArgument v = FitsArgument (out-Value v)

pub record FitsStart (p : Parts) (start : Start) : Type 0 where
  pub code : start.code < length p.codes
  pub count : parameters_of (slice_get p.codes start.code) ≡ Some (length start.args)
  pub args : All IsArgument start.args

abbrev pub FitsCall : Parts → ControlCall → Type 0
FitsCall p (ControlCall.SetLocalEvents id code set) = code < length p.codes
FitsCall p (ControlCall.GetLocalEvents id code) = code < length p.codes
FitsCall p _ = Unit {0}

abbrev pub calls_in : List (List ControlCall) → ℕ
calls_in [] = 0
calls_in (script ∷ scripts) = length script + calls_in scripts

pub record FitsWorkload (p : Parts) (w : Workload) : Type 0 where
  pub steps : w.steps ≤ MAX_STEPS
  pub all_steps : w.steps * length w.threads ≤ MAX_ALL_STEPS
  pub threads : length w.threads ≤ MAX_THREADS
  pub scripts : length w.scripts ≤ MAX_SCRIPTS
  pub calls : length w.before + calls_in w.scripts ≤ MAX_CALLS
  pub starts : All (FitsStart p) w.threads
  pub before_fits : All (FitsCall p) w.before
  pub scripts_fit : All (All (FitsCall p)) w.scripts

abbrev pub FitsMove : Workload → Move → Type 0
FitsMove w (Move.Turn thread steps) = thread < length w.threads
FitsMove w (Move.Call script) = script < length w.scripts

pub record FitsProgram (p : Parts) (plan : Plan) : Type 0 where
  pub workload : FitsWorkload p plan.workload
  pub schedule : All (FitsMove plan.workload) plan.schedule

-- what the lines before have said keeps the limits
pub record KeepsLimits (p : Parts) (d : Draft) : Type 0 where
  pub fits : FitsProgram p (plan_in d)
  pub counted : length d.before + calls_in d.scripts ≤ d.calls
  pub most : d.calls ≤ MAX_CALLS
  pub begun : section_number d.section ≤ 1 → d.threads ≡ []
