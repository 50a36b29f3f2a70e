-- The law by content.
use Rattle.std.proofs.Common.{◌≡◌, ℕ, zero, suc, ◌+◌, Bool, List, [], ◌∷◌, ◌++◌, length, map, Option, Some, None, refl, sym, ap, ◌∙◌, subst, arith, length-append, append_assoc}
use Rattle.std.specs.Prelude.{slice_get}
use Rattle.std.proofs.lemmas.List.{length-map}
use Rattle.mon_events.specs.declared.op.Op.{Op}
use Rattle.mon_events.specs.Ops.{number_of}
use Rattle.mon_code.specs.declared.program.Code.{Code}
use Rattle.mon_code.specs.declared.program.Location.{Location}
use Rattle.mon_code.specs.Programs.{Parts, op_in, op_at}
use Rattle.mon_code.specs.Checked.{is_marked}
use Rattle.mon_values.specs.declared.value.Value.{Value}
use Rattle.mon_trees.specs.declared.tree.Function.{Function}
use Rattle.mon_compile.specs.declared.assembly.Instruction.{Instruction}
use Rattle.mon_compile.specs.declared.assembly.Argument.{Argument}
use Rattle.mon_compile.specs.declared.assembly.Argument.TheVariants.{Number, Constant, Name, Destination}
use Rattle.mon_compile.specs.Functions.{function_code}
use Rattle.mon_compile.specs.Placed.{placed_handler}
use Rattle.mon_compile.specs.Modules.{constants_in, constants_of, globals_in, globals_of, argument_of, location_of, locations_of, unmarked, marks, marked, op_number, bases_of, codes_of, compiled, functions_of}
use Rattle.mon_compile.specs.Content.{Reads, HoldsAt, HasCodeOf, ContentLaw}

record Found (c : Code) (g : Option Location) (i : Instruction) : Type 0 where
  location : Location
  stands : g ≡ Some location
  line : location.line ≡ i.spot.line
  handler : location.handler ≡ placed_handler i.spot.handler
  reads : Reads c i.argument location.argument

abbrev FoundAt : Code → Option Location → Option Instruction → Type 0
FoundAt c g None = g ≡ None
FoundAt c g (Some i) = Found c g i

middle : {A : Type 0} → (before : List A) (v : A) (after : List A) → slice_get (before ++ v ∷ after) (length before) ≡ Some v
middle [] v after = refl
middle (x ∷ before) v after = middle before v after

reads_own : (c : Code) (cs cs1 : List Value) (gs gs1 : List (List ℕ)) (a : Argument) → c.constants ≡ cs ++ (constants_in a ++ cs1) → c.globals ≡ gs ++ (globals_in a ++ gs1) → Reads c a (argument_of (length cs) (length gs) a)
reads_own c cs cs1 gs gs1 (Number n) e f = refl
reads_own c cs cs1 gs gs1 (Constant v) e f = ap (λ z. slice_get z (length cs)) e ∙ middle cs v cs1
reads_own c cs cs1 gs gs1 (Name s) e f = ap (λ z. slice_get z (length gs)) f ∙ middle gs s gs1
reads_own c cs cs1 gs gs1 (Destination l) e f = refl

content_from : (c : Code) (cs : List Value) (gs : List (List ℕ)) (code : List Instruction) (at : ℕ) → c.constants ≡ cs ++ constants_of code → c.globals ≡ gs ++ globals_of code → FoundAt c (slice_get (locations_of (length cs) (length gs) code) at) (slice_get code at)
content_from c cs gs [] at e f = refl
content_from c cs gs (i ∷ code) zero e f = record { location = location_of (length cs) (length gs) i; stands = refl; line = refl; handler = refl; reads = reads_own c cs (constants_of code) gs (globals_of code) i.argument e f }
content_from c cs gs (i ∷ code) (suc at) e f =
    let ih = content_from c (cs ++ constants_in i.argument) (gs ++ globals_in i.argument) code at (e ∙ sym (append_assoc cs (constants_in i.argument) (constants_of code))) (f ∙ sym (append_assoc gs (globals_in i.argument) (globals_of code))) in
    let ih1 = subst (λ n. FoundAt c (slice_get (locations_of n (length (gs ++ globals_in i.argument)) code) at) (slice_get code at)) (length-append cs (constants_in i.argument)) ih in
    subst (λ n. FoundAt c (slice_get (locations_of (length cs + length (constants_in i.argument)) n code) at) (slice_get code at)) (length-append gs (globals_in i.argument)) ih1

remarked : (c : Code) (l : Location) (m : Bool) (o : Option Instruction) → FoundAt c (Some l) o → FoundAt c (Some (record l { is_marked = m })) o
remarked c l m None h = absurd cc
remarked c l m (Some i) h =
    let hs : Some l ≡ Some h.location = h.stands in
    let e : l ≡ h.location = cc in
    record { location = record l { is_marked = m }; stands = refl; line = ap (λ (z : Location). z.line) e ∙ h.line; handler = ap (λ (z : Location). z.handler) e ∙ h.handler; reads = subst (λ (z : Location). Reads c i.argument z.argument) (sym e) h.reads }

marks_found : (bases : List ℕ) (c0 c : Code) (from : ℕ) (before : Option (Option ℕ)) (ls : List Location) (at : ℕ) (o : Option Instruction) → FoundAt c (slice_get ls at) o → FoundAt c (slice_get (marks bases c0 from before ls) at) o
marks_found bases c0 c from before [] at o h = h
marks_found bases c0 c from before (l ∷ ls) zero o h = remarked c l (is_marked bases c0 from before l.line) o h
marks_found bases c0 c from before (l ∷ ls) (suc at) o h = marks_found bases c0 c (from + 1) (Some l.line) ls at o h

op_read : (op : Op) → op_in (Some (number_of op)) ≡ Some op
op_read Op.Nop = refl
op_read _ = refl

past : (front xs : List ℕ) (at : ℕ) → slice_get (front ++ xs) (length front + at) ≡ slice_get xs at
past [] xs at = ap (slice_get xs) (let e : 0 + at ≡ at = omega arith in e)
past (x ∷ front) xs at = ap (slice_get (x ∷ (front ++ xs))) (let e : length (x ∷ front) + at ≡ suc (length front + at) = omega arith in e) ∙ past front xs at

mapped : (code : List Instruction) (after : List ℕ) (at : ℕ) (i : Instruction) → slice_get code at ≡ Some i → slice_get (map op_number code ++ after) at ≡ Some (op_number i)
mapped [] after at i e = absurd cc
mapped (j ∷ code) after zero i e = ap (λ z. Some (op_number z)) (let q : j ≡ i = cc in q)
mapped (j ∷ code) after (suc at) i e = mapped code after at i e

holds_at : (p : Parts) (c : Code) (at : ℕ) (o : Option Instruction) → FoundAt c (slice_get c.locations at) o → ((i : Instruction) → o ≡ Some i → op_at p.bases c.first at ≡ Some i.op) → HoldsAt p c at o
holds_at p c at None h op = h
holds_at p c at (Some i) h op = record { location = h.location; stands = h.stands; op = op i refl; line = h.line; handler = h.handler; reads = h.reads }

codes_hold : (p : Parts) (front : List ℕ) (fs : List Function) → p.bases ≡ front ++ bases_of fs → (k : ℕ) → HasCodeOf p (slice_get (codes_of p.bases (length front) fs) k) (slice_get fs k)
codes_hold p front [] e k = tt
codes_hold p front (f ∷ fs) e zero =
    let code = function_code f in
    let c0 = unmarked (length front) f in
    let c = marked p.bases c0 in
    record {
      parameters = refl;
      locals = refl;
      holds = λ at. holds_at p c at (slice_get code at) (marks_found p.bases c0 c 0 None (locations_of 0 0 code) at (slice_get code at) (content_from c [] [] code at refl refl))
          (λ i q. ap (λ z. op_in (slice_get z (length front + at))) e ∙ ap op_in (past front (map op_number code ++ bases_of fs) at ∙ mapped code (bases_of fs) at i q) ∙ op_read i.op);
    }
codes_hold p front (f ∷ fs) e (suc k) =
    let code = function_code f in
    let more = front ++ map op_number code in
    let long : length more ≡ length front + length code = omega (arith, length-append front (map op_number code), length-map code op_number) in
    subst (λ n. HasCodeOf p (slice_get (codes_of p.bases n fs) k) (slice_get fs k)) long (codes_hold p more fs (e ∙ sym (append_assoc front (map op_number code) (bases_of fs))) k)

pub content_law : ContentLaw
content_law m none = record { names = refl; constants = refl; codes = λ k. codes_hold (compiled m) [] (functions_of m.items) refl k }
