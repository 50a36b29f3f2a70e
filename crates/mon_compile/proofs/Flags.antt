-- Which indexes are gone to, and the marks, location by location.
use Rattle.std.proofs.Common.{◌≡◌, ℕ, zero, suc, ◌+◌, ◌<◌, ◌≤◌, ◌||◌, Bool, true, false, List, [], ◌∷◌, ◌++◌, length, drop, get_or, Option, Some, None, refl, sym, ap, ◌∙◌, arith, append_assoc, inl, inr}
use Rattle.std.proofs.lemmas.Bool.{ne_eqb}
use Rattle.std.proofs.lemmas.Bool.Decides.{eqb_tells}
use Rattle.std.specs.Prelude.{slice_set, replicate}
use Rattle.std.proofs.lemmas.List.{length-set, get_or-set_same, get_or-set_other, get_or-replicate}
use Rattle.std.proofs.Math.Seq.{drop-nil}
use Rattle.mon_code.specs.declared.program.Location.{Location}
use Rattle.mon_compile.specs.declared.assembly.Instruction.{Instruction}
use Rattle.mon_compile.specs.Marking.{jump_of, catch_of, goes_to, is_reached, Flags, Flagged, mark, marked_by}
use Rattle.mon_compile.proofs.Parts.{part_next}

or_false : (b : Bool) → (b || false) ≡ b
or_false true = refl
or_false false = refl

or_true : (b : Bool) → (b || true) ≡ true
or_true true = refl
or_true false = refl

or_assoc : (a b c : Bool) → ((a || b) || c) ≡ (a || (b || c))
or_assoc true b c = refl
or_assoc false b c = refl

pub flagged_none : (flags : List Bool) → Flagged flags flags None
flagged_none flags = record { same = refl; flags = λ at h. sym (or_false (get_or flags at false)) }

pub flagged_past : (flags : List Bool) (to : ℕ) → length flags ≤ to → Flagged flags flags (Some to)
flagged_past flags to k = record {
  same = refl;
  flags = λ at h. sym (ap (λ b. get_or flags at false || b) (ne_eqb to at (λ e. omega (arith, e))) ∙ or_false (get_or flags at false));
}

pub flagged_set : (flags : List Bool) (to : ℕ) → to < length flags → Flagged flags (slice_set flags to true) (Some to)
flagged_set flags to k = record {
  same = length-set flags to true;
  flags = λ at h. elim (eqb_tells to at) [
    | inl p ↦ ap (λ n. get_or (slice_set flags to true) n false) (sym p.1) ∙ get_or-set_same flags to true false k ∙ sym (ap (λ b. get_or flags at false || b) p.0 ∙ or_true (get_or flags at false))
    | inr p ↦ get_or-set_other flags to at true false (λ e. p.1 (sym e)) ∙ sym (ap (λ b. get_or flags at false || b) p.0 ∙ or_false (get_or flags at false))
  ];
}

drop-past : {A : Type 0} (xs : List A) (i : ℕ) → length xs ≤ i → drop i xs ≡ []
drop-past [] i h = drop-nil i
drop-past (x ∷ xs) zero h = absurd (omega arith)
drop-past (x ∷ xs) (suc i) h = drop-past xs i (omega arith)

-- the flags so far, with the instructions that are left
abbrev pub SoFar : List Instruction → List Location → ℕ → List Bool → Type 0
SoFar code ls i flags = (at : ℕ) → at < length ls → (get_or flags at false || is_reached (drop i code) (drop i ls) at) ≡ is_reached code ls at

pub flags_first : (code : List Instruction) (ls : List Location) (flags : List Bool) → flags ≡ replicate (length ls) false → SoFar code ls 0 flags
flags_first code ls flags e at h =
    ap (λ (l : List Bool). get_or l at false || is_reached code ls at) e
    ∙ ap (λ b. b || is_reached code ls at) (get_or-replicate (length ls) at false false h)

pub flags_next : (code : List Instruction) (ls : List Location) (i : ℕ) (x : Instruction) (l : Location) (old mid new : List Bool) (jump catch : Option ℕ) → i < length code → i < length ls → x ≡ get_or code i x → l ≡ get_or ls i l
    → length old ≡ length ls → jump ≡ jump_of x.op l.argument → catch ≡ catch_of l.handler → Flagged old mid jump → Flagged mid new catch → SoFar code ls i old → SoFar code ls (i + 1) new
flags_next code ls i x l old mid new jump catch k k' e e' n d d' f f' so_far at h =
    let rest = is_reached (drop (i + 1) code) (drop (i + 1) ls) at in
    let before = get_or old at false in
    ap (λ b. b || rest) (f'.flags at (omega (arith, h, n, f.same)))
    ∙ ap (λ b. (b || goes_to catch at) || rest) (f.flags at (omega (arith, h, n)))
    ∙ or_assoc (before || goes_to jump at) (goes_to catch at) rest
    ∙ or_assoc before (goes_to jump at) (goes_to catch at || rest)
    ∙ ap (λ (o : Option ℕ). before || (goes_to o at || (goes_to catch at || rest))) d
    ∙ ap (λ (o : Option ℕ). before || (goes_to (jump_of x.op l.argument) at || (goes_to o at || rest))) d'
    ∙ ap (λ (c : List Instruction). before || is_reached c (l ∷ drop (i + 1) ls) at) (sym (part_next code i x k e))
    ∙ ap (λ (m : List Location). before || is_reached (drop i code) m at) (sym (part_next ls i l k' e'))
    ∙ so_far at h

pub flags_last : (code : List Instruction) (ls : List Location) (i : ℕ) (flags : List Bool) → length code ≤ i → SoFar code ls i flags → Flags code ls flags
flags_last code ls i flags k so_far at h =
    sym (or_false (get_or flags at false))
    ∙ ap (λ (c : List Instruction). get_or flags at false || is_reached c (drop i ls) at) (sym (drop-past code i k))
    ∙ so_far at h

pub marks_next : (target : ℕ → Bool) (ls : List Location) (i : ℕ) (l : Location) (before : Option (Option ℕ)) (m flag : Bool) (old new whole : List Location) → i < length ls → l ≡ get_or ls i l → flag ≡ target i → m ≡ mark flag before l.line
    → new ≡ old ++ record l { is_marked = m } ∷ [] → old ++ marked_by target i before (drop i ls) ≡ whole → new ++ marked_by target (i + 1) (Some l.line) (drop (i + 1) ls) ≡ whole
marks_next target ls i l before m flag old new whole h e t is n inv =
    let rest = marked_by target (i + 1) (Some l.line) (drop (i + 1) ls) in
    ap (λ z. z ++ rest) n
    ∙ append_assoc old (record l { is_marked = m } ∷ []) rest
    ∙ ap (λ (b : Bool). old ++ record l { is_marked = b } ∷ rest) (is ∙ ap (λ b. mark b before l.line) t)
    ∙ ap (λ (z : List Location). old ++ marked_by target i before z) (sym (part_next ls i l h e))
    ∙ inv
