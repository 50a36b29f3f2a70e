-- A call's answer is the due one, or want of memory.
use Rattle.std.specs.Prelude.{◌≡◌, Result, Ok, Err}
use Rattle.mon_values.specs.declared.value.Value.{Value}
use Rattle.mon_values.specs.declared.value.Exc.{Exc}
use Rattle.mon_values.specs.declared.fault.Trouble.{Trouble}
use Rattle.mon_values.specs.declared.fault.ArithFault.{ArithFault}
use Rattle.mon_values.specs.declared.fault.ArithFault.TheVariants as arith
use Rattle.mon_values.specs.declared.fault.IndexFault.{IndexFault}
use Rattle.mon_values.specs.declared.fault.IndexFault.TheVariants as index
use Rattle.mon_values.specs.declared.fault.ExcFault.{ExcFault}
use Rattle.mon_values.specs.declared.fault.ExcFault.TheVariants as exc

abbrev pub AnswersArith : Result Value ArithFault → Result Value Trouble → Type 0
AnswersArith (Ok v) (Ok w) = v ≡ w
AnswersArith (Ok v) (Err u) = ⊥
AnswersArith (Err (arith.Trouble t)) (Ok w) = ⊥
AnswersArith (Err (arith.Trouble t)) (Err u) = t ≡ u
AnswersArith (Err arith.Memory) due = Unit {0}

abbrev pub AnswersIndex : Result Value IndexFault → Result Value Trouble → Type 0
AnswersIndex (Ok v) (Ok w) = v ≡ w
AnswersIndex (Ok v) (Err u) = ⊥
AnswersIndex (Err (index.Trouble t)) (Ok w) = ⊥
AnswersIndex (Err (index.Trouble t)) (Err u) = t ≡ u
AnswersIndex (Err index.Memory) due = Unit {0}

abbrev pub AnswersExc : Result Exc ExcFault → Result Exc Trouble → Type 0
AnswersExc (Ok e) (Ok w) = e ≡ w
AnswersExc (Ok e) (Err u) = ⊥
AnswersExc (Err (exc.Trouble t)) (Ok w) = ⊥
AnswersExc (Err (exc.Trouble t)) (Err u) = t ≡ u
AnswersExc (Err exc.Memory) due = Unit {0}
