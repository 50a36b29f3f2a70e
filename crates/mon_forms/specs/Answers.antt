-- Answers that are the due ones, or want of memory.
use Rattle.std.specs.Prelude.{◌≡◌, ℕ, Result, Ok, Err}
use Rattle.mon_forms.specs.declared.draft.LineFault.{LineFault}
use Rattle.mon_forms.specs.declared.plan.PlanFault.{PlanFault}
use Rattle.mon_forms.specs.declared.plan.PlanKind.{PlanKind}

abbrev pub IsFault : LineFault → PlanKind → Type 0
IsFault (LineFault.Faulty kind) due = kind ≡ due
IsFault LineFault.Memory due = Unit {0}

-- a call's answer is the due one, or want of memory
abbrev pub Answers : {A : Type 0} → Result A LineFault → Result A PlanKind → Type 0
Answers (Ok a) (Ok b) = a ≡ b
Answers (Ok a) (Err kind) = ⊥
Answers (Err fault) (Err kind) = IsFault fault kind
Answers (Err LineFault.Memory) (Ok b) = Unit {0}
Answers (Err (LineFault.Faulty kind)) (Ok b) = ⊥

-- a call leaves the due state, or answers the due fault, or want of memory
abbrev pub Leaves : {A : Type 0} → Result (Unit {0}) LineFault → A → Result A PlanKind → Type 0
Leaves (Ok done) new (Ok due) = new ≡ due
Leaves (Ok done) new (Err kind) = ⊥
Leaves (Err fault) new (Err kind) = IsFault fault kind
Leaves (Err LineFault.Memory) new (Ok due) = Unit {0}
Leaves (Err (LineFault.Faulty kind)) new (Ok due) = ⊥

-- the fault of a line with this number
abbrev pub fault_at : ℕ → LineFault → PlanFault
fault_at line (LineFault.Faulty kind) = PlanFault.Faulty line kind
fault_at line LineFault.Memory = PlanFault.Memory

-- a plan's answer is the due one, or want of memory
abbrev pub AnswersPlan : {A : Type 0} → Result A PlanFault → Result A PlanFault → Type 0
AnswersPlan (Err PlanFault.Memory) due = Unit {0}
AnswersPlan (Ok a) due = Ok a ≡ due
AnswersPlan (Err (PlanFault.Faulty line kind)) due = Err (PlanFault.Faulty line kind) ≡ due
