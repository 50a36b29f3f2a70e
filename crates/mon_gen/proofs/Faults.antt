-- A generated program has no fault.
use Rattle.std.proofs.Common.{◌≡◌, ℕ, ◌+◌, ◌*◌, ◌≤◌, ◌<◌, nat_lt, Bool, true, false, Option, Some, None, if◌then◌else◌, length, refl, sym, ap, ◌∙◌, arith}
use Rattle.std.proofs.lemmas.Bool.Decides.{nat_tests}
use Rattle.mon_compile.specs.declared.fault.CompileFault.{CompileFault}
use Rattle.mon_compile.specs.declared.fault.CompileFault.TheVariants.{DuplicateName, Misplaced, TooLarge, TooManyLocations}
use Rattle.mon_compile.specs.Faults.{compile_fault, first_fault, least, most_locations, too_many}
use Rattle.mon_compile.specs.Modules.{bases_of, functions_of}
use Rattle.mon_gen.specs.Generated.{generated}
use Rattle.mon_gen.specs.Laws.{ProgramsHaveNoFault}
use Rattle.mon_gen.proofs.Apart.{no_duplicate}
use Rattle.mon_gen.proofs.Silent.{not_misplaced, not_large}
use Rattle.mon_gen.proofs.Locations.{locations}

neither : (fault : ℕ → CompileFault) (line : Option ℕ) (others : Option CompileFault) → line ≡ None → others ≡ None → first_fault fault line others ≡ None
neither fault None others e o = o
neither fault (Some line) others e o = absurd (cc)

few : (n : ℕ) → n ≤ 500 → too_many (generated n) ≡ None
few n small =
    let below : nat_lt most_locations (length (bases_of (functions_of (generated n).items))) ≡ false = grind (arith, nat_tests, locations n) in
    ap (λ (b : Bool). let answer : Option CompileFault = if b then Some TooManyLocations else None in answer) below

pub no_fault : ProgramsHaveNoFault
no_fault n small =
    neither DuplicateName _ _ (no_duplicate n (omega arith))
    (neither Misplaced _ _ (ap least (not_misplaced n))
    (neither TooLarge _ _ (ap least (not_large n))
    (few n small)))
