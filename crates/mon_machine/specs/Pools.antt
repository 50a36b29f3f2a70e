-- How the pools of generators and iterators grow.
use Rattle.std.specs.Prelude.{ℕ, ◌+◌, ◌<◌, ◌≤◌, List, length}
use Rattle.mon_values.specs.declared.value.Value.{Value}
use Rattle.mon_code.specs.declared.program.Code.{Code}
use Rattle.mon_code.specs.Programs.{Parts}
use Rattle.mon_machine.specs.State.{State}
use Rattle.mon_machine.specs.Run.{after_steps}
use Rattle.mon_machine.specs.PlainRun.{state_at}

-- one state has no more than so many generators and so many iterators more than another
pub record HasMore (n : ℕ) (s t : State) : Type 0 where
  pub generators : length t.frames.generators ≤ length s.frames.generators + n
  pub iterators : length t.frames.iterators ≤ length s.frames.iterators + n

-- a step makes one of each at most
abbrev pub PoolsGrowByOne : Type 0
PoolsGrowByOne = (p : Parts) (s : State) (n : ℕ) → HasMore n s (after_steps p s n)

-- each number of a generator and of an iterator fits a `u32`, with room for one more
pub record HasNumbers (s : State) : Type 0 where
  pub generators : length s.frames.generators < 4294967295
  pub iterators : length s.frames.iterators < 4294967295

-- a call of no more steps than a thread may do never runs out of numbers
abbrev pub NumbersSuffice : Type 0
NumbersSuffice = (p : Parts) (k : ℕ) (c : Code) (args : List Value) (n : ℕ) → n ≤ 200000 → HasNumbers (state_at p k c args n)
