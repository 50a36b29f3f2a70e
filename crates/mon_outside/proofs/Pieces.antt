-- A text in pieces.
use Rattle.std.proofs.Common.{◌≡◌, ℕ, ◌+◌, ◌-◌, ◌≤◌, List, ◌++◌, length, take, drop, sym, ap, ◌∙◌, arith, append_assoc, subst}
use Rattle.std.proofs.lemmas.List.{take-append-drop, drop-take, take-take, length-take-le, length-drop}
use Rattle.std.specs.Prelude.{Option, Some, None}
use Rattle.mon_outside.specs.Outside.{Writes, WritesPrefix}

take_seam : (xs : List ℕ) (i n : ℕ) → take i xs ++ take n (drop i xs) ≡ take (i + n) xs
take_seam xs i n =
    let front : take i (take (i + n) xs) ≡ take i xs = take-take i (i + n) xs (omega arith)
    in ap (λ l. l ++ take n (drop i xs)) (sym front) ∙ ap (λ l. take i (take (i + n) xs) ++ l) (sym (drop-take i n xs)) ∙ take-append-drop i (take (i + n) xs)

pub writes_more : (old mid new : Option (List ℕ)) (text : List ℕ) (at end : ℕ) → at ≤ end → Writes old (take at text) mid → Writes mid (take (end - at) (drop at text)) new → Writes old (take end text) new
writes_more None mid new text at end h a b = writes_none mid new a b
  where
    writes_none : (mid new : Option (List ℕ)) → mid ≡ None → Writes mid (take (end - at) (drop at text)) new → new ≡ None
    writes_none None new e w = w
    writes_none (Some m) new e w = cc
writes_more (Some old) mid new text at end h a b =
    let P : Option (List ℕ) → Type 0 = λ m. Writes m (take (end - at) (drop at text)) new in
    let w : new ≡ Some ((old ++ take at text) ++ take (end - at) (drop at text)) = subst P a b in
    let sum : at + (end - at) ≡ end = omega arith in
    w ∙ ap (λ l. Some l) (append_assoc old (take at text) (take (end - at) (drop at text)) ∙ ap (λ l. old ++ l) (take_seam text at (end - at) ∙ ap (λ n. take n text) sum))

-- a prefix of a piece behind a prefix that is written is a prefix of the whole
pub prefix_more : (old mid new : Option (List ℕ)) (text : List ℕ) (at end : ℕ) → at ≤ end → end ≤ length text → Writes old (take at text) mid → WritesPrefix mid (take (end - at) (drop at text)) new → WritesPrefix old text new
prefix_more old mid new text at end h k a f =
    let piece : length (take (end - at) (drop at text)) ≡ end - at = length-take-le (end - at) (drop at text) (omega (arith, length-drop at text)) in
    let small : f.count ≤ end - at = omega (arith, f.within) in
    let same : take f.count (take (end - at) (drop at text)) ≡ take f.count (drop at text) = take-take f.count (end - at) (drop at text) small in
    let P : List ℕ → Type 0 = λ l. Writes mid l new in
    let Q : List ℕ → Type 0 = λ l. Writes mid l new in
    let back : at + f.count - at ≡ f.count = omega arith in
    record {
      count = at + f.count;
      within = omega arith;
      is = writes_more old mid new text at (at + f.count) (omega arith) a (rw back (subst P same f.is));
    }
