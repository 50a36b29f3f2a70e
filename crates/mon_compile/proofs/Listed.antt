-- The codes of functions in turn, and the program of a module.
use Rattle.std.proofs.Common.{◌≡◌, ℕ, ◌+◌, ◌≤◌, ◌||◌, ◌&&◌, Bool, true, false, List, [], ◌∷◌, ◌++◌, length, map, refl, sym, ap, ◌∙◌, subst, arith, append_assoc, length-append, nat_lt}
use Rattle.std.specs.Prelude.{◌==◌, Option, Some, None, if◌then◌else◌}
use Rattle.std.proofs.lemmas.List.{length-map}
use Rattle.std.proofs.lemmas.Bool.Decides.{nat_tests}
use Rattle.mon_events.specs.declared.op.Op.{Op}
use Rattle.mon_code.specs.Effects.{effect_of}
use Rattle.mon_code.specs.Programs.{Parts}
use Rattle.mon_code.specs.Checked as checked
use Rattle.mon_code.specs.declared.program.Code.{Code}
use Rattle.mon_code.specs.declared.program.Handler.{Handler}
use Rattle.mon_code.specs.declared.program.Location.{Location}
use Rattle.mon_code.specs.declared.program.ModuleConstant.{ModuleConstant}
use Rattle.mon_trees.specs.declared.tree.Function.{Function}
use Rattle.mon_trees.specs.declared.tree.Module.{Module}
use Rattle.mon_trees.specs.declared.tree.ModuleItem.{ModuleItem}
use Rattle.mon_compile.specs.declared.assembly.Instruction.{Instruction}
use Rattle.mon_compile.specs.declared.fault.CompileFault.{CompileFault}
use Rattle.mon_compile.specs.declared.fault.CompileFault.TheVariants.{DuplicateName, Misplaced, TooLarge, TooManyLocations}
use Rattle.mon_compile.specs.Answered.{own_codes}
use Rattle.mon_compile.specs.Faults.{first_fault, duplicate, misplaced_in, large_lines_in, least, most_locations, too_many, fault_of_tree, compile_fault}
use Rattle.mon_compile.specs.Functions.{joined, function_code}
use Rattle.mon_compile.specs.Marking.{jump_of, catch_of, goes_to, is_reached, mark, marked_by, code_of}
use Rattle.mon_compile.specs.Modules.{constants_in, globals_in, location_of, locations_of, unmarked, marks, marked, op_number, bases_of, codes_of, functions_of, function_name, module_constants, compiled}
use Rattle.mon_compile.proofs.Located.{Ops, op_there}
use Rattle.mon_compile.proofs.Programs.{ops_from}

abbrev the_contents : List (List ℕ) → List ModuleConstant → List Code → List ℕ → Parts
the_contents names constants codes bases = record { names = names; constants = constants; codes = codes; bases = bases }

-- what is gone to, by the opcodes of the program and by the code itself

jump_same : (op : Op) (argument at : ℕ) → checked.jumps_to (Some op) argument at ≡ goes_to (jump_of op argument) at
jump_same op argument at = pick (effect_of op argument).jumps
  where
    pick : (b : Bool) → (b && argument == at) ≡ goes_to (if b then Some argument else None) at
    pick true = refl
    pick false = refl

catch_same : (h : Option Handler) (at : ℕ) → checked.catches_at h at ≡ goes_to (catch_of h) at
catch_same None at = refl
catch_same (Some h) at = refl

reached_same : (b : List ℕ) (first from k1 k2 : ℕ) (code : List Instruction) (at : ℕ) → Ops b first from code → checked.is_target b first from (locations_of k1 k2 code) at ≡ is_reached code (locations_of k1 k2 code) at
reached_same b first from k1 k2 [] at ops = refl
reached_same b first from k1 k2 (i ∷ code) at ops =
    let l = location_of k1 k2 i in
    let k1' = k1 + length (constants_in i.argument) in
    let k2' = k2 + length (globals_in i.argument) in
    let rest = checked.is_target b first (from + 1) (locations_of k1' k2' code) at in
    let jumps = goes_to (jump_of i.op l.argument) at in
    ap (λ (o : Option Op). checked.jumps_to o l.argument at || (checked.catches_at l.handler at || rest)) (op_there b first from i.op ops.0)
    ∙ ap (λ (x : Bool). x || (checked.catches_at l.handler at || rest)) (jump_same i.op l.argument at)
    ∙ ap (λ (x : Bool). jumps || (x || rest)) (catch_same l.handler at)
    ∙ ap (λ (x : Bool). jumps || (goes_to (catch_of l.handler) at || x)) (reached_same b first (from + 1) k1' k2' code at ops.1)

marks_same : (b : List ℕ) (c : Code) (target : ℕ → Bool) → ((at : ℕ) → checked.is_target b c.first 0 c.locations at ≡ target at) → (at : ℕ) (before : Option (Option ℕ)) (ls : List Location) → marked_by target at before ls ≡ marks b c at before ls
marks_same b c target h at before [] = refl
marks_same b c target h at before (l ∷ ls) =
    ap (λ (x : Bool). record l { is_marked = mark x before l.line } ∷ marked_by target (at + 1) (Some l.line) ls) (sym (h at))
    ∙ ap (λ (more : List Location). record l { is_marked = checked.is_marked b c at before l.line } ∷ more) (marks_same b c target h (at + 1) (Some l.line) ls)

code_same : (b : List ℕ) (first : ℕ) (f : Function) → Ops b first 0 (function_code f) → code_of first f ≡ marked b (unmarked first f)
code_same b first f ops =
    let c = unmarked first f in
    let code = function_code f in
    ap (λ (ls : List Location). record c { locations = ls }) (marks_same b c (is_reached code c.locations) (λ at. reached_same b first 0 0 0 code at ops) 0 None c.locations)

codes_same : (b front : List ℕ) (first : ℕ) (fs : List Function) → b ≡ front ++ bases_of fs → length front ≡ first → own_codes first fs ≡ codes_of b first fs
codes_same b front first [] e len = refl
codes_same b front first (f ∷ fs) e len =
    let code = function_code f in
    let here = map op_number code in
    let back = bases_of fs in
    let ops : Ops b first 0 code = ops_from b first 0 front code back e (omega (arith, len)) in
    let further : b ≡ (front ++ here) ++ back = e ∙ sym (append_assoc front here back) in
    ap (λ (c : Code). c ∷ own_codes (first + length code) fs) (code_same b first f ops)
    ∙ ap (λ (cs : List Code). marked b (unmarked first f) ∷ cs)
    (codes_same b (front ++ here) (first + length code) fs further (omega (arith, length-append front here, length-map code op_number, len)))

-- the faults

pass : (fault : ℕ → CompileFault) (line : Option ℕ) (a b : Option CompileFault) → first_fault fault line a ≡ None → first_fault fault line b ≡ b
pass fault None a b h = refl
pass fault (Some n) a b h = cc

left : (fault : ℕ → CompileFault) (line : Option ℕ) (others : Option CompileFault) → first_fault fault line others ≡ None → others ≡ None
left fault None others h = h
left fault (Some n) others h = cc

later : (m : Module) → fault_of_tree m ≡ None → compile_fault m ≡ too_many m
later m h =
    let fs = functions_of m.items in
    let twice = duplicate [] m.items in
    let places = least (joined (map misplaced_in fs)) in
    let large = least (large_lines_in m.items) in
    let c = first_fault TooLarge large None in
    let b = first_fault Misplaced places c in
    let h1 = left DuplicateName twice b h in
    let h2 = left Misplaced places c h1 in
    let c' = first_fault TooLarge large (too_many m) in
    let b' = first_fault Misplaced places c' in
    pass DuplicateName twice b b' h ∙ pass Misplaced places c c' h1 ∙ pass TooLarge large None (too_many m) h2

few : (n : ℕ) → n ≤ most_locations → (if nat_lt most_locations n then Some TooManyLocations else None) ≡ None
few n h = let e : nat_lt most_locations n ≡ false = grind (arith, nat_tests) in ap (λ (b : Bool). if b then Some TooManyLocations else None) e

pub no_fault : (m : Module) (found : Option CompileFault) (items : List ModuleItem) → found ≡ fault_of_tree m → found ≡ None → items ≡ m.items → length (bases_of (functions_of items)) ≤ most_locations → compile_fault m ≡ None
no_fault m found items e none same h =
    later m (sym e ∙ none) ∙ few (length (bases_of (functions_of m.items))) (subst (λ (l : List ModuleItem). length (bases_of (functions_of l)) ≤ most_locations) same h)

-- what is put together is the program of a module
pub assembled : (m : Module) (items : List ModuleItem) (names : List (List ℕ)) (constants : List ModuleConstant) (codes : List Code) (bases : List ℕ) → items ≡ m.items → names ≡ map function_name (functions_of items) → constants ≡ module_constants items
    → codes ≡ own_codes 0 (functions_of items) → bases ≡ bases_of (functions_of items) → the_contents names constants codes bases ≡ compiled m
assembled m items names constants codes bases same e1 e2 e3 e4 =
    let fs = functions_of m.items in
    let n1 = e1 ∙ ap (λ (l : List ModuleItem). map function_name (functions_of l)) same in
    let n2 = e2 ∙ ap (λ (l : List ModuleItem). module_constants l) same in
    let n3 = e3 ∙ ap (λ (l : List ModuleItem). own_codes 0 (functions_of l)) same ∙ codes_same (bases_of fs) [] 0 fs refl refl in
    let n4 = e4 ∙ ap (λ (l : List ModuleItem). bases_of (functions_of l)) same in
    ap (λ (x : List (List ℕ)). the_contents x constants codes bases) n1
    ∙ ap (λ (x : List ModuleConstant). the_contents (map function_name fs) x codes bases) n2
    ∙ ap (λ (x : List Code). the_contents (map function_name fs) (module_constants m.items) x bases) n3
    ∙ ap (λ (x : List ℕ). the_contents (map function_name fs) (module_constants m.items) (codes_of (bases_of fs) 0 fs) x) n4
