-- What is known at each location of a checked program.
use Rattle.std.proofs.Common.{◌≡◌, ℕ, zero, suc, ◌+◌, ◌==◌, Bool, true, ◌&&◌, ◌||◌, List, [], ◌∷◌, length, refl, ap, subst, ◌∙◌, arith}
use Rattle.std.specs.Prelude.{Option, Some, None, slice_get}
use Rattle.std.proofs.lemmas.Option.{same_Some, none-some}
use Rattle.std.proofs.Math.Bool.{or-true}
use Rattle.std.proofs.lemmas.Bool.Decides.{nat_tests}
use Rattle.mon_events.specs.declared.op.Op.{Op}
use Rattle.mon_code.specs.declared.program.Code.{Code}
use Rattle.mon_code.specs.declared.program.Handler.{Handler}
use Rattle.mon_code.specs.declared.program.Location.{Location}
use Rattle.mon_code.specs.Programs.{Parts, op_at, location_at}
use Rattle.mon_code.specs.Checked.{IsChecked, IsCode, AllCodes, AllLocations, HasOp, catches_at, is_target, jumps_to, depth_in, table_of}
use Rattle.mon_code.specs.Depths.{Depth, Records}
use Rattle.mon_code.specs.Effects.{effect_of}

-- each code of a checked program is right
code_at : (bases : List ℕ) (from : ℕ) (cs : List Code) (k : ℕ) (c : Code) → AllCodes bases from cs → slice_get cs k ≡ Some c → IsCode bases c
code_at bases from [] k c a e = absurd (none-some c e)
code_at bases from (x ∷ cs) zero c a e = subst (λ (d : Code). IsCode bases d) (same_Some x c e) a.1
code_at bases from (x ∷ cs) (suc k) c a e = code_at bases (from + length x.locations) cs k c a.2 e

pub checked_code : (p : Parts) (k : ℕ) (c : Code) → IsChecked p → slice_get p.codes k ≡ Some c → IsCode p.bases c
checked_code p k c checked e = code_at p.bases 0 p.codes k c checked.codes e

-- the line of the instruction before an index
abbrev pub line_before : Option (Option ℕ) → List Location → ℕ → Option (Option ℕ)
line_before before ls zero = before
line_before before [] (suc i) = None
line_before before (l ∷ ls) (suc i) = line_before (Some l.line) ls i

pub line_before_next : (before : Option (Option ℕ)) (ls : List Location) (i : ℕ) (l : Location) → slice_get ls i ≡ Some l → line_before before ls (i + 1) ≡ Some l.line
line_before_next before ls i l e = let more : i + 1 ≡ suc i = omega arith in ap (λ (n : ℕ). line_before before ls n) more ∙ go before ls i e
  where
    go : (before : Option (Option ℕ)) (ls : List Location) (i : ℕ) → slice_get ls i ≡ Some l → line_before before ls (suc i) ≡ Some l.line
    go before [] i e = absurd (none-some l e)
    go before (x ∷ ls) zero e = ap (λ (y : Location). Some y.line) (same_Some x l e)
    go before (x ∷ ls) (suc i) e = go (Some x.line) ls i e

known_from : (bases : List ℕ) (c : Code) (at : ℕ) (before : Option (Option ℕ)) (ls : List Location) (i : ℕ) (l : Location) → AllLocations bases c at before ls → slice_get ls i ≡ Some l
    → HasOp bases c (at + i) (line_before before ls i) (op_at bases c.first (at + i)) l
known_from bases c at before [] i l a e = absurd (none-some l e)
known_from bases c at before (x ∷ ls) zero l a e =
    let here : at ≡ at + 0 = omega arith in
    subst (λ (n : ℕ). HasOp bases c n before (op_at bases c.first n) l) here (subst (λ (y : Location). HasOp bases c at before (op_at bases c.first at) y) (same_Some x l e) a.0)
known_from bases c at before (x ∷ ls) (suc i) l a e =
    let further : at + 1 + i ≡ at + suc i = omega arith in
    subst (λ (n : ℕ). HasOp bases c n (line_before (Some x.line) ls i) (op_at bases c.first n) l) further (known_from bases c (at + 1) (Some x.line) ls i l a.1 e)

-- what is known of the location at an index
pub known_at : (bases : List ℕ) (c : Code) (i : ℕ) (l : Location) → IsCode bases c → location_at c i ≡ Some l → HasOp bases c i (line_before None c.locations i) (op_at bases c.first i) l
known_at bases c i l is e =
    let here : 0 + i ≡ i = omega arith in
    subst (λ (n : ℕ). HasOp bases c n (line_before None c.locations i) (op_at bases c.first n) l) here (known_from bases c 0 None c.locations i l is.each e)

-- where an instruction jumps to there is a target
target_from : (bases : List ℕ) (first from : ℕ) (ls : List Location) (i : ℕ) (l : Location) (op : Op)
    → slice_get ls i ≡ Some l → op_at bases first (from + i) ≡ Some op → (effect_of op l.argument).jumps ≡ true → is_target bases first from ls l.argument ≡ true
target_from bases first from [] i l op e o j = absurd (none-some l e)
target_from bases first from (x ∷ ls) zero l op e o j =
    let here : op_at bases first from ≡ Some op = ap (λ (n : ℕ). op_at bases first n) (omega arith) ∙ o in
    let same : (l.argument == l.argument) ≡ true = grind (arith, nat_tests) in
    let jumps : jumps_to (op_at bases first from) x.argument l.argument ≡ true
    = ap (λ (found : Option Op). jumps_to found x.argument l.argument) here ∙ ap (λ (y : Location). jumps_to (Some op) y.argument l.argument) (same_Some x l e) ∙ ap (λ (b : Bool). b && (l.argument == l.argument)) j ∙ same in
    ap (λ (b : Bool). b || (catches_at x.handler l.argument || is_target bases first (from + 1) ls l.argument)) jumps
target_from bases first from (x ∷ ls) (suc i) l op e o j =
    let there : op_at bases first (from + 1 + i) ≡ Some op = ap (λ (n : ℕ). op_at bases first n) (omega arith) ∙ o in
    ap (λ (b : Bool). jumps_to (op_at bases first from) x.argument l.argument || (catches_at x.handler l.argument || b)) (target_from bases first (from + 1) ls i l op e there j)
    ∙ ap (λ (b : Bool). jumps_to (op_at bases first from) x.argument l.argument || b) (or-true (catches_at x.handler l.argument)) ∙ or-true (jumps_to (op_at bases first from) x.argument l.argument)

pub target_at : (bases : List ℕ) (c : Code) (i : ℕ) (l : Location) (op : Op) → location_at c i ≡ Some l → op_at bases c.first i ≡ Some op → (effect_of op l.argument).jumps ≡ true → is_target bases c.first 0 c.locations l.argument ≡ true
target_at bases c i l op e o j = target_from bases c.first 0 c.locations i l op e (ap (λ (n : ℕ). op_at bases c.first n) (omega arith) ∙ o) j

-- where an exception goes there is a target
caught_from : (bases : List ℕ) (first from : ℕ) (ls : List Location) (i : ℕ) (l : Location) (h : Handler) → slice_get ls i ≡ Some l → l.handler ≡ Some h → is_target bases first from ls h.to ≡ true
caught_from bases first from [] i l h e o = absurd (none-some l e)
caught_from bases first from (x ∷ ls) zero l h e o =
    let same : (h.to == h.to) ≡ true = grind (arith, nat_tests) in
    let catches : catches_at x.handler h.to ≡ true = ap (λ (y : Location). catches_at y.handler h.to) (same_Some x l e) ∙ ap (λ (y : Option Handler). catches_at y h.to) o ∙ same in
    ap (λ (b : Bool). jumps_to (op_at bases first from) x.argument h.to || (b || is_target bases first (from + 1) ls h.to)) catches ∙ or-true (jumps_to (op_at bases first from) x.argument h.to)
caught_from bases first from (x ∷ ls) (suc i) l h e o =
    ap (λ (b : Bool). jumps_to (op_at bases first from) x.argument h.to || (catches_at x.handler h.to || b)) (caught_from bases first (from + 1) ls i l h e o)
    ∙ ap (λ (b : Bool). jumps_to (op_at bases first from) x.argument h.to || b) (or-true (catches_at x.handler h.to)) ∙ or-true (jumps_to (op_at bases first from) x.argument h.to)

pub caught_at : (bases : List ℕ) (c : Code) (i : ℕ) (l : Location) (h : Handler) → location_at c i ≡ Some l → l.handler ≡ Some h → is_target bases c.first 0 c.locations h.to ≡ true
caught_at bases c i l h e o = caught_from bases c.first 0 c.locations i l h e o

-- depths are recorded where there is a location
pub record FoundAt (c : Code) (at values exceptions : ℕ) : Type 0 where
  pub location : Location
  pub stands : location_at c at ≡ Some location
  pub stack : location.stack ≡ values
  pub handling : location.handling ≡ exceptions

pub found_at : (c : Code) (at stack handling : ℕ) → Records (table_of c.locations) at stack handling → FoundAt c at stack handling
found_at c at stack handling e = pick (location_at c at) refl e
  where
    pick : (o : Option Location) → location_at c at ≡ o → depth_in o ≡ Some (record { stack = stack; handling = handling }) → FoundAt c at stack handling
    pick None is e = absurd (none-some (record { stack = stack; handling = handling }) e)
    pick (Some l) is e =
        let same : ◌≡◌ {A = Depth} (record { stack = l.stack; handling = l.handling }) (record { stack = stack; handling = handling }) = same_Some (record { stack = l.stack; handling = l.handling }) (record { stack = stack; handling = handling }) e in
        record { location = l; stands = is; stack = ap (λ (d : Depth). d.stack) same; handling = ap (λ (d : Depth). d.handling) same }
