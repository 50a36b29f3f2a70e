-- Codes of functions are added until they are too many.
use Rattle.std.proofs.Common.{◌≡◌, ℕ, zero, suc, ◌+◌, ◌<◌, ◌≤◌, List, [], ◌∷◌, ◌++◌, length, map, drop, get_or, sym, ap, ◌∙◌, subst, arith, length-append}
use Rattle.std.specs.Prelude.{Result, Ok, Err}
use Rattle.std.specs.Result.{IsErrAnd}
use Rattle.std.proofs.lemmas.List.{length-map, drop_more}
use Rattle.mon_trees.specs.declared.tree.Function.{Function}
use Rattle.mon_trees.specs.declared.tree.ModuleItem.{ModuleItem}
use Rattle.mon_trees.specs.declared.tree.ModuleItem.TheVariants as item
use Rattle.mon_compile.specs.declared.emitter.EmitFault.{EmitFault}
use Rattle.mon_compile.specs.declared.emitter.EmitFault.TheVariants as emission
use Rattle.mon_compile.specs.declared.fault.CompileFault.{CompileFault}
use Rattle.mon_compile.specs.declared.fault.CompileFault.TheVariants.{DuplicateName, Misplaced, TooLarge, TooManyLocations, Memory}
use Rattle.mon_compile.specs.declared.program.Listing.{Listing}
use Rattle.mon_compile.specs.Answered.{AnswersCode, AddsCodes, ListsCodes, fault_of_emission}
use Rattle.mon_compile.specs.Faults.{FewLocals, most_locations}
use Rattle.mon_compile.specs.Functions.{function_code}
use Rattle.mon_compile.specs.Modules.{op_number, bases_of, functions_of}

first_few : (x : ModuleItem) (items : List ModuleItem) → FewLocals (functions_of (x ∷ items)) → FewLocals (functions_of (x ∷ []))
first_few (item.Function f) items few = (few.0, tt)
first_few (item.Constant line name c) items few = tt
first_few (item.Text t) items few = tt

others_few : (x : ModuleItem) (items : List ModuleItem) → FewLocals (functions_of (x ∷ items)) → FewLocals (functions_of items)
others_few (item.Function f) items few = few.1
others_few (item.Constant line name c) items few = few
others_few (item.Text t) items few = few

-- no function of an item has too many locals
pub few_in_item : (items : List ModuleItem) (i : ℕ) (x : ModuleItem) → i < length items → x ≡ get_or items i x → FewLocals (functions_of items) → FewLocals (functions_of (x ∷ []))
few_in_item [] i x h is few = absurd (omega arith)
few_in_item (y ∷ items) zero x h is few = subst (λ (z : ModuleItem). FewLocals (functions_of (z ∷ []))) (sym is) (first_few y items few)
few_in_item (y ∷ items) (suc i) x h is few = few_in_item items i x (omega arith) is (others_few y items few)

added : (fault : EmitFault) (limit : ℕ) (f : Function) (old new : Listing) → limit + length old.bases.items ≡ most_locations → AnswersCode (Err fault) limit f → AddsCodes (Err (fault_of_emission fault)) old new (f ∷ [])
added emission.TooManyLocations limit f old new room full =
    let here = map op_number (function_code f) in
    omega (arith, room, full, length-append old.bases.items (here ++ []), length-append here [], length-map (function_code f) op_number)
added emission.Memory limit f old new room full = tt

-- a code that is too long for the room makes the codes too many
pub added_stop : (r : Result (Unit {0}) CompileFault) (fault : EmitFault) (limit : ℕ) (f : Function) (old new : Listing) → IsErrAnd r (λ e. e ≡ fault_of_emission fault) → AnswersCode (Err fault) limit f → limit + length old.bases.items ≡ most_locations → AddsCodes r old new (f ∷ [])
added_stop (Ok done) fault limit f old new is full room = absurd is
added_stop (Err e) fault limit f old new is full room = let P : CompileFault → Type 0 = λ x. AddsCodes (Err x) old new (f ∷ []) in subst P (sym is) (added fault limit f old new room full)

item_bases : (x : ModuleItem) (xs : List ModuleItem) → length (bases_of (functions_of (x ∷ xs))) ≡ length (bases_of (functions_of (x ∷ []))) + length (bases_of (functions_of xs))
item_bases (item.Function f) xs =
    let here = map op_number (function_code f) in
    omega (arith, length-append here (bases_of (functions_of xs)), length-append here [])
item_bases (item.Constant line name c) xs = omega arith
item_bases (item.Text t) xs = omega arith

listed : (fault : CompileFault) (old new : Listing) (fs all : List Function) → length (old.bases.items ++ bases_of fs) ≤ length (bases_of all) → AddsCodes (Err fault) old new fs → ListsCodes (Err fault) all
listed (DuplicateName n) old new fs all h full = absurd full
listed (Misplaced n) old new fs all h full = absurd full
listed (TooLarge n) old new fs all h full = absurd full
listed TooManyLocations old new fs all h full = omega (arith, h, full)
listed Memory old new fs all h full = tt

pub listing_stop : (r : Result Listing CompileFault) (fault : CompileFault) (old new : Listing) (items : List ModuleItem) (i : ℕ) (x : ModuleItem) → IsErrAnd r (λ e. e ≡ fault) → i < length items → x ≡ get_or items i x
    → old.bases.items ++ bases_of (functions_of (drop i items)) ≡ bases_of (functions_of items) → AddsCodes (Err fault) old new (functions_of (x ∷ [])) → ListsCodes r (functions_of items)
listing_stop (Ok l) fault old new items i x is h at whole full = absurd is
listing_stop (Err e) fault old new items i x is h at whole full =
    let P : CompileFault → Type 0 = λ z. ListsCodes (Err z) (functions_of items) in
    let here : drop i items ≡ x ∷ drop (i + 1) items = drop_more items i x h ∙ ap (λ (z : ModuleItem). z ∷ drop (i + 1) items) (sym at) in
    let front = old.bases.items in
    let size : length (front ++ bases_of (functions_of (x ∷ []))) ≤ length (bases_of (functions_of items)) = omega (arith, ap length whole, length-append front (bases_of (functions_of (drop i items))), length-append front (bases_of (functions_of (x ∷ []))), ap (λ (l : List ModuleItem). length (bases_of (functions_of l))) here, item_bases x (drop (i + 1) items)) in
    subst P (sym is) (listed fault old new (functions_of (x ∷ [])) (functions_of items) size full)
