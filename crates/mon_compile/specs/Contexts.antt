-- Contexts: what stands round a statement, and how its entries are left.
use Rattle.std.specs.Prelude.{ℕ, ◌+◌, Bool, true, false, List, [], ◌∷◌, Option, Some, None}
use Rattle.mon_events.specs.declared.op.Op.{Op}
pub use Rattle.mon_compile.specs.declared.assembly.Spot.{Spot}
use Rattle.mon_compile.specs.declared.assembly.Instruction.{Instruction}
use Rattle.mon_compile.specs.declared.assembly.Argument.{Argument}
use Rattle.mon_compile.specs.declared.assembly.Argument.TheVariants.{Number}
use Rattle.mon_compile.specs.declared.assembly.Handler.{Handler}
use Rattle.mon_compile.specs.declared.assembly.Label.{Label}

-- code by the index at which it begins
abbrev pub FromAt : Type 0
FromAt = ℕ → List Instruction

-- An entry. A loop has the indexes x and y of its scheme, an entry with a handler the handler's index. That of a
-- `finally` has the code of its last part twice: as it stands where a return, and where a break or continue leaves the
-- entry.
pub data Entry : Type 0 where
  While : (x : ℕ) (y : Label) → Entry
  For : (x : ℕ) (y : Label) → Entry
  Try : (h : Label) → Entry
  Except : Entry
  ExceptAs : (n : ℕ) (c : Label) → Entry
  Finally : (on_return on_break : FromAt) (h : Label) → Entry
  Raised : Entry
  Returning : Entry

-- the innermost entry first
abbrev pub Context : Type 0
Context = List Entry

-- the values that the entries hold on the operand stack
abbrev pub values : Context → ℕ
values [] = 0
values (For x y ∷ context) = 1 + values context
values (Raised ∷ context) = 1 + values context
values (Returning ∷ context) = 1 + values context
values (_ ∷ context) = values context

-- the exceptions that they hold on the handling list
abbrev pub exceptions : Context → ℕ
exceptions [] = 0
exceptions (Except ∷ context) = 1 + exceptions context
exceptions (ExceptAs n c ∷ context) = 1 + exceptions context
exceptions (Raised ∷ context) = 1 + exceptions context
exceptions (_ ∷ context) = exceptions context

-- a handler records the depths outside its entry
abbrev pub handler_at : Label → Context → Option Handler
handler_at h context = Some (record { to = h; stack = values context; handling = exceptions context })

-- the handler of the innermost entry that has one
abbrev pub handler_of : Context → Option Handler
handler_of [] = None
handler_of (Try h ∷ context) = handler_at h context
handler_of (ExceptAs n c ∷ context) = handler_at c context
handler_of (Finally on_return on_break h ∷ context) = handler_at h context
handler_of (_ ∷ context) = handler_of context

-- an instruction at a spot
abbrev pub put : Spot → Op → Argument → Instruction
put s op argument = record { op = op; argument = argument; spot = s }

-- where an opcode takes no argument
abbrev pub none : Argument
none = Number 0

-- at the depths of a context, with a line and (-) without
abbrev pub at_line : ℕ → Context → Spot
at_line line context = record { line = Some line; handler = handler_of context; stack = values context; handling = exceptions context }

abbrev pub no_line : Context → Spot
no_line context = record { line = None; handler = handler_of context; stack = values context; handling = exceptions context }

-- above n more values
abbrev pub above : ℕ → Spot → Spot
above n s = record s { stack = n + s.stack }

-- beside n more exceptions
abbrev pub beside : ℕ → Spot → Spot
beside n s = record s { handling = n + s.handling }

-- the same spot (-)
abbrev pub bare : Spot → Spot
bare s = record s { line = None }

-- whether a loop is open
abbrev pub in_loop : Context → Bool
in_loop [] = false
in_loop (While x y ∷ context) = true
in_loop (For x y ∷ context) = true
in_loop (_ ∷ context) = in_loop context

-- SWAP 2; POP_TOP: what lies under the returned value goes
abbrev pub drop_under : Context → List Instruction
drop_under outer = put (above 2 (no_line outer)) Op.Swap (Number 2) ∷ (put (above 2 (no_line outer)) Op.PopTop none ∷ [])

-- Leaving an entry, in the context without it. In a return the returned value stands above the rest.

abbrev pub left_by_return : Entry → Context → FromAt
left_by_return (While x y) outer at = []
left_by_return (For x y) outer at = drop_under outer
left_by_return (Try h) outer at = []
left_by_return Except outer at = put (above 1 (beside 1 (no_line outer))) Op.PopExcept none ∷ []
left_by_return (ExceptAs n c) outer at = put (above 1 (beside 1 (no_line outer))) Op.PopExcept none ∷ (put (above 1 (no_line outer)) Op.DeleteFast (Number n) ∷ [])
left_by_return (Finally on_return on_break h) outer at = on_return at
left_by_return Raised outer at = put (above 2 (beside 1 (no_line outer))) Op.PopExcept none ∷ drop_under outer
left_by_return Returning outer at = drop_under outer

abbrev pub left_by_break : Entry → Context → FromAt
left_by_break (While x y) outer at = []
left_by_break (For x y) outer at = put (above 1 (no_line outer)) Op.PopTop none ∷ []
left_by_break (Try h) outer at = []
left_by_break Except outer at = put (beside 1 (no_line outer)) Op.PopExcept none ∷ []
left_by_break (ExceptAs n c) outer at = put (beside 1 (no_line outer)) Op.PopExcept none ∷ (put (no_line outer) Op.DeleteFast (Number n) ∷ [])
left_by_break (Finally on_return on_break h) outer at = on_break at
left_by_break Raised outer at = put (above 1 (beside 1 (no_line outer))) Op.PopExcept none ∷ (put (above 1 (no_line outer)) Op.PopTop none ∷ [])
left_by_break Returning outer at = put (above 1 (no_line outer)) Op.PopTop none ∷ []
