-- What an instruction in place looks at.
use Rattle.std.specs.Prelude.{Bool, false, not, List, ◌∷◌}
use Rattle.std.specs.Ordering.{is_eq, is_ne, is_lt, is_le, is_gt, is_ge}
use Rattle.std.specs.declared.cmp.Ordering.{Ordering}
use Rattle.mon_values.specs.declared.value.Value.{Value}
use Rattle.mon_values.specs.declared.operator.CmpOp.{CmpOp}
use Rattle.mon_values.specs.declared.operator.CmpOp.TheVariants.{Eq, Ne, Lt, Le, Gt, Ge}
use Rattle.mon_machine.specs.Operations.{is_done}

-- what a comparison answers of two integers that stand so
abbrev pub holds : CmpOp → Ordering → Bool
holds Eq o = is_eq o
holds Ne o = is_ne o
holds Lt o = is_lt o
holds Le o = is_le o
holds Gt o = is_gt o
holds Ge o = is_ge o

-- a loop goes on: above its iterator stands a value that is not its end
abbrev pub loops_on : List Value → Bool
loops_on (v ∷ over ∷ rest) = not (is_done v)
loops_on _ = false
