-- What the lines before have said keeps the limits, and still does with one line more.
use Rattle.std.proofs.Common.{◌≡◌, ℕ, suc, ℤ, pos, negsuc, ◌+◌, ◌<◌, ◌≤◌, nat_lt, Bool, true, false, List, [], ◌∷◌, ◌++◌, length, Option, Some, None, IfSome, if◌then◌else◌, refl, ap, arith, length-append}
use Rattle.std.specs.List.{All}
use Rattle.std.proofs.lemmas.Bool.Decides.{nat_tests}
use Rattle.mon_history.specs.declared.calls.ControlCall.{ControlCall}
use Rattle.mon_forms.specs.Fits.{calls_in, FitsMove}
use Rattle.mon_forms.specs.Operands.{if_below}
use Rattle.mon_forms.specs.Plans.{onto_last}
use Rattle.mon_forms.specs.declared.plan.Move.{Move}
use Rattle.mon_forms.specs.declared.plan.Workload.{Workload}

some_below : (b : Bool) (n limit : ℕ) → (b ≡ true → n < limit) → IfSome (if b then Some n else None) (λ m. m < limit)
some_below true n limit h = h refl
some_below false n limit h = tt

-- a number below a limit is below it
pub below_some : (limit : ℕ) (r : Option ℤ) → IfSome (if_below limit r) (λ n. n < limit)
below_some limit None = tt
below_some limit (Some (negsuc m)) = tt
below_some limit (Some (pos n)) = some_below (nat_lt n limit) n limit (λ h. grind (arith, nat_tests))

-- a move that fits still does where there are no fewer threads and scripts
pub move_kept : (w v : Workload) → length w.threads ≤ length v.threads → length w.scripts ≤ length v.scripts → (m : Move) → FitsMove w m → FitsMove v m
move_kept w v t s (Move.Turn thread steps) h = omega arith
move_kept w v t s (Move.Call script) h = omega arith

pub moves_kept : (w v : Workload) (moves : List Move) → length w.threads ≤ length v.threads → length w.scripts ≤ length v.scripts → All (FitsMove w) moves → All (FitsMove v) moves
moves_kept w v moves t s all = λ k d lt. move_kept w v t s _ (all k d lt)

-- one call more of the last script
pub one_more : (scripts : List (List ControlCall)) (call : ControlCall) → calls_in (onto_last scripts call) ≤ calls_in scripts + 1
one_more [] call = omega arith
one_more (script ∷ []) call = omega (arith, length-append script (call ∷ []))
one_more (script ∷ next ∷ scripts) call = omega (arith, one_more (next ∷ scripts) call)

pub as_many : (scripts : List (List ControlCall)) (call : ControlCall) → length (onto_last scripts call) ≡ length scripts
as_many [] call = refl
as_many (script ∷ []) call = refl
as_many (script ∷ next ∷ scripts) call = ap suc (as_many (next ∷ scripts) call)

-- a script without calls more
pub none_more : (scripts : List (List ControlCall)) → calls_in (scripts ++ [] ∷ []) ≡ calls_in scripts
none_more [] = refl
none_more (script ∷ scripts) = ap (λ n. length script + n) (none_more scripts)

-- the script that is last
pub onto_popped : (scripts : List (List ControlCall)) (script : List ControlCall) (call : ControlCall) → onto_last (scripts ++ script ∷ []) call ≡ scripts ++ (script ++ call ∷ []) ∷ []
onto_popped [] script call = refl
onto_popped (first ∷ []) script call = refl
onto_popped (first ∷ next ∷ scripts) script call = ap (λ ss. first ∷ ss) (onto_popped (next ∷ scripts) script call)
