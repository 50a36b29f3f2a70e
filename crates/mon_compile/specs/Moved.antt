-- Code, spots and contexts with other labels.
use Rattle.std.specs.Prelude.{◌≡◌, ℕ, map, Option, Some, None}
use Rattle.mon_compile.specs.declared.assembly.Instruction.{Instruction}
use Rattle.mon_compile.specs.declared.assembly.Argument.{Argument}
use Rattle.mon_compile.specs.declared.assembly.Argument.TheVariants.{Destination}
use Rattle.mon_compile.specs.declared.assembly.Handler.{Handler}
use Rattle.mon_compile.specs.declared.assembly.Label.{Label}
use Rattle.mon_compile.specs.declared.assembly.Label.TheVariants.{At}
use Rattle.mon_compile.specs.Contexts.{Entry, While, For, Try, Except, ExceptAs, Finally, Raised, Returning, Context, Spot}

abbrev pub moved_argument : (Label → Label) → Argument → Argument
moved_argument g (Destination l) = Destination (g l)
moved_argument g a = a

abbrev pub moved_handler : (Label → Label) → Option Handler → Option Handler
moved_handler g None = None
moved_handler g (Some h) = Some (record h { to = g h.to })

abbrev pub moved_spot : (Label → Label) → Spot → Spot
moved_spot g s = record s { handler = moved_handler g s.handler }

abbrev pub moved : (Label → Label) → Instruction → Instruction
moved g i = record i { argument = moved_argument g i.argument; spot = moved_spot g i.spot }

abbrev pub moved_entry : (Label → Label) → Entry → Entry
moved_entry g (While x y) = While x (g y)
moved_entry g (For x y) = For x (g y)
moved_entry g (Try h) = Try (g h)
moved_entry g Except = Except
moved_entry g (ExceptAs n c) = ExceptAs n (g c)
moved_entry g (Finally r b h) = Finally (λ at. map (moved g) (r at)) (λ at. map (moved g) (b at)) (g h)
moved_entry g Raised = Raised
moved_entry g Returning = Returning

abbrev pub moved_context : (Label → Label) → Context → Context
moved_context g = map (moved_entry g)

-- indexes stay
abbrev pub Fixes : (Label → Label) → Type 0
Fixes g = (n : ℕ) → g (At n) ≡ At n
