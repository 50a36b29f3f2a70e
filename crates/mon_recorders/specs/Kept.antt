-- How records are kept: the values of an event stand apart, once for all tools.
use Rattle.std.specs.Prelude.{◌≡◌, ℕ, zero, suc, ◌≤◌, List, [], ◌++◌, length, get_or}
use Rattle.std.specs.List.{AllByRecursion}
use Rattle.mon_recorders.specs.declared.record.Record.{Record}
use Rattle.mon_recorders.specs.declared.records.Entry.{Entry}
use Rattle.mon_recorders.specs.declared.records.Values.{Values}

abbrev pub absent : Values
absent = record { first = []; second = [] }

-- the values at a place, counted from 1; none at 0
abbrev pub values_at : List Values → ℕ → Values
values_at vs zero = absent
values_at vs (suc n) = get_or vs n absent

-- the record of an entry
abbrev pub kept : List Values → Entry → Record
kept vs e = record { step = e.step; tool = e.tool; event = e.event; code = e.code; at = e.at; dest = e.dest; first = (values_at vs e.values).first; second = (values_at vs e.values).second }

-- the values of each entry are kept
abbrev pub AreKept : List Values → List Entry → Type 0
AreKept vs es = AllByRecursion (λ (e : Entry). e.values ≤ length vs) es

-- the entry, for a tool
abbrev pub for_tool : Entry → ℕ → Entry
for_tool e tool = record e { tool = tool }

-- values were added at the end
pub record Grown (before later : List Values) : Type 0 where
  pub more : List Values
  pub is : later ≡ before ++ more

-- these values are kept at the place
pub record Placed (place : ℕ) (vs : List Values) (first second : List ℕ) : Type 0 where
  pub within : place ≤ length vs
  pub are : values_at vs place ≡ record { first = first; second = second }
