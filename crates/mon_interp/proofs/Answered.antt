-- What is due where an operator answered.
use Rattle.std.proofs.Common.{◌≡◌, ap}
use Rattle.std.specs.Prelude.{ℕ, Option, Result, Ok, Err}
use Rattle.mon_values.specs.declared.value.Value.{Value}
use Rattle.mon_values.specs.declared.fault.Trouble.{Trouble}
use Rattle.mon_values.specs.declared.fault.ArithFault.TheVariants as fault
use Rattle.mon_values.specs.declared.operator.ArithOp.{ArithOp}
use Rattle.mon_values.specs.declared.fault.IndexFault.TheVariants as index
use Rattle.mon_values.specs.declared.fault.ExcFault.TheVariants as exc
use Rattle.mon_values.specs.declared.value.Exc.{Exc}
use Rattle.mon_values.specs.Weights.{made_exc, exc_of}
use Rattle.mon_values.specs.Answers.{AnswersArith, AnswersIndex, AnswersExc}
use Rattle.mon_values.specs.Indexing.{index_of}
use Rattle.mon_values.specs.Arithmetic.{arith_of}

gave : (v : Value) (due : Result Value Trouble) → AnswersArith (Ok v) due → Ok v ≡ due
gave v (Ok w) h = ap (λ (x : Value). Ok x) h
gave v (Err t) h = absurd h

raised : (t : Trouble) (due : Result Value Trouble) → AnswersArith (Err (fault.Trouble t)) due → Err t ≡ due
raised t (Ok w) h = absurd h
raised t (Err u) h = ap (λ (x : Trouble). Err x) h

pub arith_gave : (v : Value) (op : ArithOp) (a b : Value) → AnswersArith (Ok v) (arith_of op a b) → Ok v ≡ arith_of op a b
arith_gave v op a b h = gave v (arith_of op a b) h

pub arith_raised : (t : Trouble) (op : ArithOp) (a b : Value) → AnswersArith (Err (fault.Trouble t)) (arith_of op a b) → Err t ≡ arith_of op a b
arith_raised t op a b h = raised t (arith_of op a b) h

item_gave : (v : Value) (due : Result Value Trouble) → AnswersIndex (Ok v) due → Ok v ≡ due
item_gave v (Ok w) h = ap (λ (x : Value). Ok x) h
item_gave v (Err t) h = absurd h

item_raised : (t : Trouble) (due : Result Value Trouble) → AnswersIndex (Err (index.Trouble t)) due → Err t ≡ due
item_raised t (Ok w) h = absurd h
item_raised t (Err u) h = ap (λ (x : Trouble). Err x) h

pub index_gave : (v whole at : Value) → AnswersIndex (Ok v) (index_of whole at) → Ok v ≡ index_of whole at
index_gave v whole at h = item_gave v (index_of whole at) h

pub index_raised : (t : Trouble) (whole at : Value) → AnswersIndex (Err (index.Trouble t)) (index_of whole at) → Err t ≡ index_of whole at
index_raised t whole at h = item_raised t (index_of whole at) h

instance_gave : (e : Exc) (due : Result Exc Trouble) → AnswersExc (Ok e) due → Ok e ≡ due
instance_gave e (Ok w) h = ap (λ (x : Exc). Ok x) h
instance_gave e (Err t) h = absurd h

instance_raised : (t : Trouble) (due : Result Exc Trouble) → AnswersExc (Err (exc.Trouble t)) due → Err t ≡ due
instance_raised t (Ok w) h = absurd h
instance_raised t (Err u) h = ap (λ (x : Trouble). Err x) h

pub exc_gave : (e : Exc) (class : ℕ) (arg : Option Value) → AnswersExc (Ok e) (made_exc (exc_of class arg)) → Ok e ≡ made_exc (exc_of class arg)
exc_gave e class arg h = instance_gave e (made_exc (exc_of class arg)) h

pub exc_raised : (t : Trouble) (class : ℕ) (arg : Option Value) → AnswersExc (Err (exc.Trouble t)) (made_exc (exc_of class arg)) → Err t ≡ made_exc (exc_of class arg)
exc_raised t class arg h = instance_raised t (made_exc (exc_of class arg)) h
