-- A builtin's answer is the due one, or want of memory.
use Rattle.std.specs.Prelude.{◌≡◌, Result, Ok, Err}
use Rattle.mon_values.specs.declared.value.Value.{Value}
use Rattle.mon_values.specs.declared.fault.Trouble.{Trouble}
use Rattle.mon_frames.specs.Views.{FramesView}
use Rattle.mon_builtins.specs.declared.given.Given.{Given}
use Rattle.mon_builtins.specs.declared.given.BuiltinFault.{BuiltinFault}
use Rattle.mon_builtins.specs.declared.given.Refusal.{Refusal}
use Rattle.mon_builtins.specs.declared.given.Refusal.TheVariants.{Trouble as Refused, Memory}
use Rattle.mon_builtins.specs.Builtins.{given_by}

-- the value that is due, or its exception
abbrev pub AnswersValue : Result Value Refusal → Result Value Trouble → Type 0
AnswersValue (Ok v) (Ok w) = v ≡ w
AnswersValue (Ok v) (Err u) = ⊥
AnswersValue (Err (Refused t)) (Ok w) = ⊥
AnswersValue (Err (Refused t)) (Err u) = t ≡ u
AnswersValue (Err Memory) due = Unit {0}

-- what is due to be given, and the frames then; after want of memory they are as before
abbrev pub AnswersCall : {E : Type 0} → Result Given E → Given × FramesView → FramesView → FramesView → Type 0
AnswersCall (Ok g) due old new = (g ≡ due.0) × (new ≡ due.1)
AnswersCall (Err e) due old new = new ≡ old

-- a value or an exception as what is given, or want of memory handed on
abbrev pub GivesMade : Result Given BuiltinFault → Result Value Refusal → Type 0
GivesMade (Ok g) (Ok v) = g ≡ given_by (Ok v)
GivesMade (Ok g) (Err (Refused t)) = g ≡ given_by (Err t)
GivesMade (Ok g) (Err Memory) = ⊥
GivesMade (Err e) answer = Unit {0}
