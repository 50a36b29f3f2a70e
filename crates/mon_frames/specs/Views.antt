-- The call stack with the pools of generators and iterators, and its moves.
use Rattle.std.specs.Prelude.{◌≡◌, ℕ, Bool, List, [], ◌∷◌, length, Option, Some, None, Result, Ok, Err, refl, nat_lt, slice_get, slice_set, if◌then◌else◌}
use Rattle.std.specs.Coded.{Coded, code_by, coded×, coded_list}
use Rattle.mon_values.specs.declared.value.Value.{Value}
use Rattle.mon_values.specs.declared.value.Exc.{Exc}
use Rattle.mon_values.specs.contracts.value.Value as value
use Rattle.mon_code.specs.declared.program.Code.{Code}
use Rattle.mon_code.specs.Programs.{Parts}
use Rattle.mon_frames.specs.declared.frame.Frame.{Frame}
use Rattle.mon_frames.specs.declared.call.Call.{Call}
use Rattle.mon_frames.specs.declared.call.Origin.{Origin}
use Rattle.mon_frames.specs.declared.call.Origin.TheVariants.{Plain, Generator as Generated}
use Rattle.mon_frames.specs.declared.generator.Generator.{Generator}
use Rattle.mon_frames.specs.declared.generator.Generator.TheVariants.{Finished}
use Rattle.mon_frames.specs.contracts.call.Call as call
use Rattle.mon_frames.specs.contracts.generator.Generator as generator
use Rattle.mon_frames.specs.declared.fault.FrameFault.{FrameFault}
use Rattle.mon_frames.specs.declared.fault.FrameFault.TheVariants.{Full}
use Rattle.mon_frames.specs.Calls.{called}

pub record FramesView : Type 0 where
  -- the frames and how they came there, the innermost first
  pub calls : List Call
  -- the generators by their numbers
  pub generators : List Generator
  -- what each iterator has yet to give, by their numbers
  pub iterators : List (List Value)

abbrev pub view_code : Coded FramesView
view_code =
    code_by (List Call × (List Generator × List (List Value))) (coded× (coded_list call.the_row.coded) (coded× (coded_list generator.the_row.coded) (coded_list (coded_list value.the_row.coded)))) (λ p. (p.calls, (p.generators, p.iterators)))
    (λ p. record { calls = p.0; generators = p.1.0; iterators = p.1.1 }) (λ _. refl)

abbrev pub top_of : List Call → Option Frame
top_of [] = None
top_of (call ∷ calls) = Some call.frame

abbrev pub origin_of : List Call → Option Origin
origin_of [] = None
origin_of (call ∷ calls) = Some call.origin

abbrev pub with_top : List Call → Frame → List Call
with_top [] frame = []
with_top (call ∷ calls) frame = record call { frame = frame } ∷ calls

-- the last exception that a frame handles, or else what is handled further out
abbrev pub last_or : List Exc → Option Exc → Option Exc
last_or [] outer = outer
last_or (e ∷ handling) outer = Some e

-- the last exception of the innermost frame that handles one
abbrev pub handled_in : List Call → Option Exc
handled_in [] = None
handled_in (call ∷ calls) = last_or call.frame.handling (handled_in calls)

-- no more frames than these stand
abbrev pub most_frames : ℕ
most_frames = 1000

-- whether one more frame may stand
abbrev pub has_room : List Call → Bool
has_room calls = nat_lt (length calls) most_frames

abbrev pub on_top : FramesView → Frame → Origin → FramesView
on_top v frame origin = record v { calls = record { frame = frame; origin = origin } ∷ v.calls }

-- the frames with a call of a code on top, or too many frames stand; without a code there is no call, and nothing changes
abbrev pub pushed_in : FramesView → Option Code → ℕ → List Value → Result FramesView FrameFault
pushed_in v None function args = Ok v
pushed_in v (Some c) function args = if has_room v.calls then Ok (on_top v (called c function args) Plain) else Err Full

abbrev pub pushed : FramesView → Parts → ℕ → List Value → Result FramesView FrameFault
pushed v p function args = pushed_in v (slice_get p.codes function) function args

-- as many arguments as a code of this number has parameters
abbrev pub TakesIn : Option Code → List Value → Type 0
TakesIn None args = ⊥
TakesIn (Some c) args = length args ≡ c.parameters

abbrev pub Takes : Parts → ℕ → List Value → Type 0
Takes p function args = TakesIn (slice_get p.codes function) args

-- a generator whose frame leaves the stack without being suspended is finished
abbrev pub after_leaving : Origin → List Generator → List Generator
after_leaving Plain generators = generators
after_leaving (Generated number by) generators = slice_set generators number Finished

abbrev pub without : List Call → FramesView → FramesView
without [] v = v
without (call ∷ calls) v = record v { calls = calls; generators = after_leaving call.origin v.generators }

-- the frames without the innermost
abbrev pub without_top : FramesView → FramesView
without_top v = without v.calls v
