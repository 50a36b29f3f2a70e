-- The order of a plan's control calls in a journal.
use Rattle.std.specs.Prelude.{◌≡◌, ℕ, ◌<◌, ◌==◌, if◌then◌else◌, List, [], ◌∷◌, ◌++◌, map, take, drop, length, slice_get, slice_index, slice_index_or, Some}
use Rattle.mon_history.specs.declared.calls.ControlCall.{ControlCall}
use Rattle.mon_history.specs.declared.calls.Who.{Who}
use Rattle.mon_history.specs.declared.journal.JournalLine.{JournalLine}
use Rattle.mon_forms.specs.declared.plan.Workload.{Workload}

abbrev pub Asked : Type 0
Asked = Who × ControlCall

-- the calls of a journal, with who made them
abbrev pub asked : List JournalLine → List Asked
asked J = map (λ line. (line.who, line.call)) J

abbrev pub by_script : ℕ → Who → ControlCall → List ControlCall
by_script s Who.Before call = []
by_script s (Who.Script k) call = if k == s then call ∷ [] else []

-- the calls that a script made
abbrev pub of_script : ℕ → List Asked → List ControlCall
of_script s [] = []
of_script s (a ∷ calls) = by_script s a.0 a.1 ++ of_script s calls

abbrev pub by_none : Who → ControlCall → List ControlCall
by_none Who.Before call = call ∷ []
by_none (Who.Script k) call = []

-- the calls that no script made
abbrev pub of_none : List Asked → List ControlCall
of_none [] = []
of_none (a ∷ calls) = by_none a.0 a.1 ++ of_none calls

-- these calls, made before all threads
abbrev pub first_calls : List ControlCall → List Asked
first_calls [] = []
first_calls (call ∷ calls) = (Who.Before, call) ∷ first_calls calls

-- each stop in the journal was made before any thread did a step
abbrev pub AllZero : List JournalLine → Type 0
AllZero J = (k : ℕ) (line : JournalLine) (counts : List ℕ) → slice_get J k ≡ Some line → line.stops ≡ Some counts → (t : ℕ) → slice_index counts t ≡ 0

-- The journal begins with the calls before all threads, with all counts 0. The rest has the calls of each script, in
-- their order, and no other.
pub record Follows (plan : Workload) (J : List JournalLine) : Type 0 where
  pub before : take (length plan.before) (asked J) ≡ first_calls plan.before
  pub early : (k : ℕ) (line : JournalLine) (counts : List ℕ) → k < length plan.before → slice_get J k ≡ Some line → line.stops ≡ Some counts → (t : ℕ) → slice_index counts t ≡ 0
  pub scripts : (s : ℕ) → of_script s (drop (length plan.before) (asked J)) ≡ slice_index_or plan.scripts s []
  pub alone : of_none (drop (length plan.before) (asked J)) ≡ []
