-- The program of a module without a fault meets the invariant of programs.
use Rattle.std.proofs.Common.{◌≡◌, ℕ, suc, ◌+◌, ◌≤◌, IsTrue, Bool, true, false, List, [], ◌∷◌, ◌++◌, length, map, refl, sym, ap, ◌∙◌, subst, arith, append_assoc, length-append, nat_lt}
use Rattle.std.specs.Prelude.{Option, Some, None, slice_get, if◌then◌else◌, ◌&&◌}
use Rattle.std.proofs.lemmas.List.{length-map, append-nil}
use Rattle.std.proofs.lemmas.Bool.Decides.{nat_tests}
use Rattle.mon_code.specs.Checked as checked
use Rattle.mon_code.specs.declared.program.Code.{Code}
use Rattle.mon_code.specs.declared.program.Location.{Location}
use Rattle.mon_values.specs.declared.value.Value.{Value}
use Rattle.mon_values.specs.declared.value.Value as value
use Rattle.mon_values.specs.declared.value.Value.TheOpen.{Value-F}
use Rattle.mon_values.specs.declared.value.Value.TheFolds.{fold-roll-Value}
use Rattle.mon_values.specs.declared.value.Value.TheViews as views
use Rattle.mon_trees.specs.declared.tree.Constant.{Constant as Written}
use Rattle.mon_trees.specs.declared.tree.Constant.TheOpen.{Constant-F}
use Rattle.mon_trees.specs.declared.tree.Constant.TheFolds.{ind-Constant, fold-roll-Constant, map-Constant}
use Rattle.mon_trees.specs.declared.tree.Constant.TheViews.{roll-Constant}
use Rattle.mon_trees.specs.declared.tree.Function.{Function}
use Rattle.mon_trees.specs.declared.tree.Module.{Module}
use Rattle.mon_trees.specs.declared.tree.ModuleItem.{ModuleItem}
use Rattle.mon_trees.specs.declared.tree.ModuleItem.TheVariants as item
use Rattle.mon_compile.specs.declared.assembly.Instruction.{Instruction}
use Rattle.mon_compile.specs.declared.fault.CompileFault.{CompileFault}
use Rattle.mon_compile.specs.declared.fault.CompileFault.TheVariants.{DuplicateName, Misplaced, TooLarge, TooManyLocations}
use Rattle.mon_compile.specs.Functions.{joined, locals_of, function_code}
use Rattle.mon_compile.specs.Modules.{constants_in, globals_in, locations_of, unmarked, marks, marked, op_number, bases_of, codes_of, functions_of, constant_value_step, constant_value, module_constants, function_name, compiled}
use Rattle.mon_compile.specs.Faults.{FewLocals, duplicate, unless, all_loose, loose_of, misplaced_in, most_locals, large_lines_in, least, first_fault, most_locations, too_many, fault_of_tree, compile_fault}
use Rattle.mon_compile.proofs.ExpressionArguments.{int_constant, text_constant, single_constant, empty_constant}
use Rattle.mon_compile.proofs.Located.{Ops, code_checked}

-- opcodes

get_seam : (front : List ℕ) (x : ℕ) (back : List ℕ) → slice_get (front ++ (x ∷ back)) (length front) ≡ Some x
get_seam [] x back = refl
get_seam (y ∷ front) x back = get_seam front x back

pub ops_from : (b : List ℕ) (first at : ℕ) (front : List ℕ) (code : List Instruction) (back : List ℕ) → b ≡ front ++ (map op_number code ++ back) → length front ≡ first + at → Ops b first at code
ops_from b first at front [] back e len = tt
ops_from b first at front (i ∷ code) back e len =
    let x = op_number i in
    let rest = map op_number code ++ back in
    let further : b ≡ (front ++ (x ∷ [])) ++ rest = e ∙ sym (append_assoc front (x ∷ []) rest) in (
      ap (λ n. slice_get b n) (sym len) ∙ ap (λ l. slice_get l (length front)) e ∙ get_seam front x rest,
      ops_from b first (at + 1) (front ++ (x ∷ [])) code back further (omega (arith, length-append front (x ∷ []), len)),
    )

-- lengths

marks_length : (b : List ℕ) (c : Code) (at : ℕ) (before : Option (Option ℕ)) (ls : List Location) → length (marks b c at before ls) ≡ length ls
marks_length b c at before [] = refl
marks_length b c at before (l ∷ ls) = ap (λ n. suc n) (marks_length b c (at + 1) (Some l.line) ls)

pub locations_length : (k1 k2 : ℕ) (code : List Instruction) → length (locations_of k1 k2 code) ≡ length code
locations_length k1 k2 [] = refl
locations_length k1 k2 (i ∷ code) = ap (λ n. suc n) (locations_length (k1 + length (constants_in i.argument)) (k2 + length (globals_in i.argument)) code)

codes_length : (b : List ℕ) (first : ℕ) (fs : List Function) → length (codes_of b first fs) ≡ length fs
codes_length b first [] = refl
codes_length b first (f ∷ fs) = ap (λ n. suc n) (codes_length b (first + length (function_code f)) fs)

-- codes

codes_checked : (b front : List ℕ) (first : ℕ) (fs : List Function) → b ≡ front ++ bases_of fs → length front ≡ first → FewLocals fs → checked.AllCodes b first (codes_of b first fs)
codes_checked b front first [] e len few = ap length (e ∙ append-nil front) ∙ len
codes_checked b front first (f ∷ fs) e len few =
    let code = function_code f in
    let here = map op_number code in
    let back = bases_of fs in
    let c = unmarked first f in
    let size : length (marked b c).locations ≡ length code = marks_length b c 0 None c.locations ∙ locations_length 0 0 code in
    let ops : Ops b first 0 code = ops_from b first 0 front code back e (omega (arith, len)) in
    let further : b ≡ (front ++ here) ++ back = e ∙ sym (append_assoc front here back) in
    let more : checked.AllCodes b (first + length code) (codes_of b (first + length code) fs)
    = codes_checked b (front ++ here) (first + length code) fs further (omega (arith, length-append front here, length-map code op_number, len)) few.1 in
    (refl, code_checked b first f ops few.0, subst (λ (n : ℕ). checked.AllCodes b n (codes_of b (first + length code) fs)) (ap (λ n. first + n) (sym size)) more)

-- constants

abbrev Part : Type 0
Part = (c : Written) × IsTrue (checked.is_constant (constant_value c))

all_constant : (parts : List Part) → checked.all_true (map checked.is_constant (map constant_value (map (λ e. e.0) parts))) ≡ true
all_constant [] = refl
all_constant (e ∷ parts) = ap (λ (b : Bool). b && checked.all_true (map checked.is_constant (map constant_value (map (λ e. e.0) parts)))) e.1 ∙ all_constant parts

tuple_constant : (vs : List Value) → checked.all_true (map checked.is_constant vs) ≡ true → IsTrue (checked.is_constant (value.Tuple vs))
tuple_constant vs h = ap checked.is_constant (sym (views.rolls-Tuple vs)) ∙ fold-roll-Value Bool Bool checked.constant_step checked.never (Value-F.Tuple vs) ∙ h

constant_layer : (y : Constant-F Part) → IsTrue (checked.is_constant (constant_value_step (map-Constant Written Value constant_value (map-Constant Part Written (λ e. e.0) y))))
constant_layer (Constant-F.Integer n) = int_constant n
constant_layer (Constant-F.Text t) = text_constant t
constant_layer (Constant-F.Single single) = single_constant single
constant_layer Constant-F.Empty = empty_constant
constant_layer (Constant-F.Tuple parts) = tuple_constant (map constant_value (map (λ e. e.0) parts)) (all_constant parts)

value_constant : (c : Written) → IsTrue (checked.is_constant (constant_value c))
value_constant = ind-Constant (λ c. IsTrue (checked.is_constant (constant_value c))) (λ x y is.
    let unrolled : constant_value (roll-Constant x) ≡ constant_value_step (map-Constant Written Value constant_value x) = fold-roll-Constant Value constant_value_step x in
    let inner : IsTrue (checked.is_constant (constant_value_step (map-Constant Written Value constant_value x)))
    = subst (λ (z : Constant-F Written). IsTrue (checked.is_constant (constant_value_step (map-Constant Written Value constant_value z)))) is (constant_layer y) in
    subst (λ (v : Value). IsTrue (checked.is_constant v)) (sym unrolled) inner)

all_named : (items : List ModuleItem) → checked.AllNamed (module_constants items)
all_named [] = tt
all_named (item.Function f ∷ items) = all_named items
all_named (item.Constant line name c ∷ items) = (value_constant c, all_named items)
all_named (item.Text t ∷ items) = all_named items

-- no fault

pub none_left : (fault : ℕ → CompileFault) (line : Option ℕ) (others : Option CompileFault) → first_fault fault line others ≡ None → line ≡ None
none_left fault None others h = refl
none_left fault (Some line) others h = cc

none_right : (fault : ℕ → CompileFault) (line : Option ℕ) (others : Option CompileFault) → first_fault fault line others ≡ None → others ≡ None
none_right fault None others h = h
none_right fault (Some line) others h = cc

least_none : (lines : List ℕ) → least lines ≡ None → lines ≡ []
least_none [] h = refl
least_none (n ∷ ns) h = cc

pub empty_left : (a b : List ℕ) → a ++ b ≡ [] → a ≡ []
empty_left [] b h = refl
empty_left (x ∷ a) b h = cc

pub empty_right : (a b : List ℕ) → a ++ b ≡ [] → b ≡ []
empty_right [] b h = h
empty_right (x ∷ a) b h = cc

unless_none : (b : Bool) (line : ℕ) → unless b line ≡ [] → b ≡ true
unless_none true line h = refl
unless_none false line h = cc

below_next : (n : ℕ) → nat_lt n (255 + 1) ≡ true → n ≤ 255
below_next n h = grind (arith, nat_tests)

all_few : (fs : List Function) → joined (map misplaced_in fs) ≡ [] → FewLocals fs
all_few [] h = tt
all_few (f ∷ fs) h =
    let rest = joined (map misplaced_in fs) in
    let here : unless (nat_lt (length (locals_of f)) (most_locals + 1)) f.line ≡ [] = empty_left (unless (nat_lt (length (locals_of f)) (most_locals + 1)) f.line) (all_loose (map loose_of f.body) false) (empty_left (misplaced_in f) rest h) in
    (below_next (length (locals_of f)) (unless_none (nat_lt (length (locals_of f)) (most_locals + 1)) f.line here), all_few fs (empty_right (misplaced_in f) rest h))

few_locations : (n : ℕ) → (if nat_lt most_locations n then Some TooManyLocations else None) ≡ None → n ≤ 65536
few_locations n h = pick (nat_lt most_locations n) refl h
  where
    pick : (b : Bool) → nat_lt most_locations n ≡ b → (if b then Some TooManyLocations else None) ≡ None → n ≤ 65536
    pick true e h = absurd (clash h)
      where
        clash : Some TooManyLocations ≡ None → ⊥
        clash e = cc
    pick false e h = grind (arith, nat_tests)

pub compiled_checked : (m : Module) → compile_fault m ≡ None → checked.IsChecked (compiled m)
compiled_checked m h =
    let fs = functions_of m.items in
    let b = bases_of fs in
    let twice = duplicate [] m.items in
    let places = least (joined (map misplaced_in fs)) in
    let large = least (large_lines_in m.items) in
    let h1 = none_right DuplicateName twice (first_fault Misplaced places (first_fault TooLarge large (too_many m))) h in
    let h2 = none_right Misplaced places (first_fault TooLarge large (too_many m)) h1 in
    let h3 = none_right TooLarge large (too_many m) h2 in
    let placed = least_none (joined (map misplaced_in fs)) (none_left Misplaced places (first_fault TooLarge large (too_many m)) h1) in
    record {
      named = length-map fs function_name ∙ sym (codes_length b 0 fs);
      small = few_locations (length b) h3;
      constants = all_named m.items;
      codes = codes_checked b [] 0 fs refl refl (all_few fs placed);
    }

-- the trees show that no function has too many locals
pub few_locals : (m : Module) → fault_of_tree m ≡ None → FewLocals (functions_of m.items)
few_locals m h =
    let fs = functions_of m.items in
    let twice = duplicate [] m.items in
    let places = least (joined (map misplaced_in fs)) in
    let others = first_fault TooLarge (least (large_lines_in m.items)) None in
    all_few fs (least_none (joined (map misplaced_in fs)) (none_left Misplaced places others (none_right DuplicateName twice (first_fault Misplaced places others) h)))

-- nothing that is misplaced
pub no_misplaced : (m : Module) → compile_fault m ≡ None → joined (map misplaced_in (functions_of m.items)) ≡ []
no_misplaced m h =
    let fs = functions_of m.items in
    let twice = duplicate [] m.items in
    let places = least (joined (map misplaced_in fs)) in
    let others = first_fault TooLarge (least (large_lines_in m.items)) (too_many m) in
    least_none (joined (map misplaced_in fs)) (none_left Misplaced places others (none_right DuplicateName twice (first_fault Misplaced places others) h))
