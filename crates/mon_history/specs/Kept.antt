-- The configuration that a program's bits keep. What is off is kept by the shared words.
use Rattle.std.specs.Prelude.{◌≡◌, ℕ, ◌<◌, ◌^◌, false, List, [], length, slice_index_or, None}
use Rattle.mon_events.specs.Events.{bit}
use Rattle.mon_events.specs.Sets.{has}
use Rattle.mon_events.specs.Events.{events}
use Rattle.mon_events.specs.declared.set.EventSet.{EventSet}
use Rattle.mon_history.specs.declared.calls.Policy.{Policy}
use Rattle.mon_history.specs.declared.config.Config.{Config}
use Rattle.mon_history.specs.declared.config.Tool.{Tool}
use Rattle.mon_history.specs.Configuration.{Configuration}

abbrev pub no_set : EventSet
no_set = record { 0 = 0 }

abbrev pub no_tool : Tool
no_tool = record { name = None; wants = no_set; policies = [] }

abbrev pub tool_at : Config → ℕ → Tool
tool_at c t = slice_index_or c.tools t no_tool

abbrev pub set_at : List (List EventSet) → ℕ → ℕ → ℕ
set_at rows code t = (slice_index_or (slice_index_or rows code []) t no_set).0

abbrev pub config_of : Config → Configuration
config_of c = record {
  tools = λ t. (tool_at c t).name;
  wants = λ t e. has (tool_at c t).wants.0 e;
  local = λ t code e. has (set_at c.local code t) e;
  calls = λ t e. slice_index_or (tool_at c t).policies (bit e) Policy.Nothing;
  off = λ l s t. false;
}

-- the sets of a tool have known events alone
pub record IsTool (x : Tool) : Type 0 where
  pub wants : x.wants.0 < 2 ^ events
  pub policies : length x.policies ≡ events

-- what a program keeps: known events alone, and six sets for each code
pub record IsKept (codes : ℕ) (c : Config) : Type 0 where
  pub tools : (t : ℕ) → t < 6 → IsTool (tool_at c t)
  pub local : (code t : ℕ) → set_at c.local code t < 2 ^ events
  pub wide : length c.local ≡ codes
  pub rows : (code : ℕ) → code < codes → length (slice_index_or c.local code []) ≡ 6
