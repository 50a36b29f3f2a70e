-- The first word of a line, and the first line of a text.
use Rattle.std.proofs.Common.{◌≡◌, ◌≢◌, ℕ, zero, suc, ◌+◌, ◌-◌, ◌<◌, ◌≤◌, ◌==◌, Bool, true, false, List, [], ◌∷◌, ◌++◌, length, take, drop, get_or, refl, sym, ap, ◌∙◌, eq-eqb, take_all, length-drop, inl, inr, arith}
use Rattle.std.specs.List.{slice_split, onto_first}
use Rattle.std.proofs.lemmas.List.Splits.{slice_split-cons_yes, slice_split-cons_no, length-slice_split}
use Rattle.std.proofs.lemmas.Bool.{ne_eqb, cases_lt, and_from}
use Rattle.std.proofs.lemmas.List.{drop_all}
use Rattle.mon_forms.specs.Lines.{lines_of, ended, words_of, without_empty, without_return, is_blank, is_plain_line, is_plain}
use Rattle.mon_forms.proofs.Plain.{both}

pub skip_blank : (x : ℕ) (xs : List ℕ) → is_blank x ≡ true → words_of (x ∷ xs) ≡ words_of xs
skip_blank x xs h = ap without_empty (slice_split-cons_yes is_blank x xs h)

-- the first part ends where the test passes first
front : (p : ℕ → Bool) (xs : List ℕ) (n : ℕ) → n < length xs → ((k : ℕ) → k < n → p (get_or xs k 0) ≡ false) → p (get_or xs n 0) ≡ true → slice_split p xs ≡ take n xs ∷ slice_split p (drop (suc n) xs)
front p [] n lt before found = absurd (omega arith)
front p (x ∷ xs) zero lt before found = slice_split-cons_yes p x xs found
front p (x ∷ xs) (suc n) lt before found =
    slice_split-cons_no p x xs (before 0 (omega arith)) ∙ ap (onto_first x) (front p xs n (omega arith) (λ k h. before (suc k) (omega arith)) found)

-- there is one part where the test passes nowhere
whole : (p : ℕ → Bool) (xs : List ℕ) → ((k : ℕ) → k < length xs → p (get_or xs k 0) ≡ false) → slice_split p xs ≡ xs ∷ []
whole p [] before = refl
whole p (x ∷ xs) before =
    slice_split-cons_no p x xs (before 0 (omega arith)) ∙ ap (onto_first x) (whole p xs (λ k h. before (suc k) (omega arith)))

behind : (xs : List ℕ) (n : ℕ) → n < length xs → is_blank (get_or xs n 0) ≡ true → words_of (drop n xs) ≡ words_of (drop (suc n) xs)
behind [] n lt h = absurd (omega arith)
behind (x ∷ xs) zero lt h = skip_blank x xs h
behind (x ∷ xs) (suc n) lt h = behind xs n (omega arith) h

not_empty : (xs : List ℕ) (n : ℕ) (parts : List (List ℕ)) → 0 < length xs → 0 < n → without_empty (take n xs ∷ parts) ≡ take n xs ∷ without_empty parts
not_empty [] n parts h k = absurd (omega arith)
not_empty (x ∷ xs) zero parts h k = absurd (omega arith)
not_empty (x ∷ xs) (suc n) parts h k = refl

-- a word that ends at a blank
pub cut_word : (xs : List ℕ) (n : ℕ) → 0 < n → n < length xs → ((k : ℕ) → k < n → is_blank (get_or xs k 0) ≡ false) → is_blank (get_or xs n 0) ≡ true → words_of xs ≡ take n xs ∷ words_of (drop n xs)
cut_word xs n some lt before found =
    ap without_empty (front is_blank xs n lt before found)
    ∙ not_empty xs n (slice_split is_blank (drop (suc n) xs)) (omega arith) some
    ∙ ap (λ ws. take n xs ∷ ws) (sym (behind xs n lt found))

one_part : (xs : List ℕ) → 0 < length xs → without_empty (xs ∷ []) ≡ xs ∷ []
one_part [] h = absurd (omega arith)
one_part (x ∷ xs) h = refl

-- a word that ends with its line
pub last_word : (xs : List ℕ) → 0 < length xs → ((k : ℕ) → k < length xs → is_blank (get_or xs k 0) ≡ false) → words_of xs ≡ xs ∷ []
last_word xs h before = ap without_empty (whole is_blank xs before) ∙ one_part xs h

pub plain_take : (xs : List ℕ) (n : ℕ) → is_plain_line xs ≡ true → is_plain_line (take n xs) ≡ true
plain_take [] zero h = refl
plain_take [] (suc n) h = refl
plain_take (x ∷ xs) zero h = refl
plain_take (x ∷ xs) (suc n) h = and_from _ _ (both (is_plain x) _ h).0 (plain_take xs n (both (is_plain x) _ h).1)

pub plain_drop : (xs : List ℕ) (n : ℕ) → is_plain_line xs ≡ true → is_plain_line (drop n xs) ≡ true
plain_drop [] zero h = refl
plain_drop [] (suc n) h = refl
plain_drop (x ∷ xs) zero h = h
plain_drop (x ∷ xs) (suc n) h = plain_drop xs n (both (is_plain x) _ h).1

line_more : (l : List ℕ) (parts : List (List ℕ)) → 0 < length parts → ended (l ∷ parts) ≡ without_return l ∷ ended parts
line_more l [] h = absurd (omega arith)
line_more [] (q ∷ qs) h = refl
line_more (c ∷ cs) (q ∷ qs) h = refl

line_alone : (l : List ℕ) → 0 < length l → ended (l ∷ []) ≡ l ∷ []
line_alone [] h = absurd (omega arith)
line_alone (c ∷ cs) h = refl

-- a line that ends at an LF
pub cut_line : (xs : List ℕ) (n : ℕ) → n < length xs → ((k : ℕ) → k < n → get_or xs k 0 ≢ 10) → get_or xs n 0 ≡ 10 → lines_of xs ≡ without_return (take n xs) ∷ lines_of (drop (suc n) xs)
cut_line xs n lt before found =
    ap ended (front (λ b. b == 10) xs n lt (λ k h. ne_eqb _ 10 (before k h)) (eq-eqb _ 10 found))
    ∙ line_more (take n xs) (slice_split (λ b. b == 10) (drop (suc n) xs)) (omega (arith, length-slice_split (λ b. b == 10) (drop (suc n) xs)))

-- a line that ends with its text
pub last_line : (xs : List ℕ) → 0 < length xs → ((k : ℕ) → k < length xs → get_or xs k 0 ≢ 10) → lines_of xs ≡ xs ∷ []
last_line xs h before = ap ended (whole (λ b. b == 10) xs (λ k lt. ne_eqb _ 10 (before k lt))) ∙ line_alone xs h

pub return_off : (xs : List ℕ) → without_return (xs ++ 13 ∷ []) ≡ xs
return_off [] = refl
return_off (x ∷ []) = refl
return_off (x ∷ y ∷ xs) = ap (λ l. x ∷ l) (return_off (y ∷ xs))

pub no_return : (xs : List ℕ) (c : ℕ) → c ≢ 13 → without_return (xs ++ c ∷ []) ≡ xs ++ c ∷ []
no_return [] c h = rw (ne_eqb c 13 h) refl
no_return (x ∷ []) c h = ap (λ l. x ∷ l) (no_return [] c h)
no_return (x ∷ y ∷ xs) c h = ap (λ l. x ∷ l) (no_return (y ∷ xs) c h)

pub tail_is : (xs : List ℕ) (n : ℕ) → take (length xs - n) (drop n xs) ≡ drop n xs
tail_is xs n = take_all (length xs - n) (drop n xs) (omega (arith, length-drop n xs))

abbrev CutsWord : List ℕ → List ℕ → ℕ → Type 0
CutsWord line word n =
    (words_of line ≡ take n word ∷ words_of (take (length word - n) (drop n word)))
    × (length (take (length word - n) (drop n word)) < length line)

cuts : (line word : List ℕ) (n : ℕ) → words_of word ≡ words_of line → 0 < length word → length word ≤ length line → 0 < n → n ≤ length word → ((k : ℕ) → k < n → is_blank (get_or word k 0) ≡ false) → (n < length word → is_blank (get_or word n 0) ≡ true) → words_of word ≡ take n word ∷ words_of (drop n word)
cuts line word n same some shorter begun within before found =
    elim (cases_lt n (length word)) [
      | inl lt ↦ cut_word word n begun lt before (found lt)
      | inr ge ↦
          let e : n ≡ length word = omega arith in
          last_word word some (λ k h. before k (omega (arith, e)))
          ∙ ap (λ ws. word ∷ ws) (sym (ap words_of (drop_all n word (omega (arith, e)))))
          ∙ ap (λ w. w ∷ words_of (drop n word)) (sym (take_all n word (omega (arith, e))))
    ]

begins : (word : List ℕ) (n : ℕ) → is_blank (get_or word 0 0) ≡ false → 0 < length word → (n < length word → is_blank (get_or word n 0) ≡ true) → 0 < n
begins word zero front some found = let e : false ≡ true = sym front ∙ found some in absurd cc
begins word (suc n) front some found = omega arith

-- a word that is not empty and begins without a blank ends at the first blank, or with its line
pub found_word : (line word : List ℕ) (n : ℕ) → words_of word ≡ words_of line → 0 < length word → length word ≤ length line → is_blank (get_or word 0 0) ≡ false → n ≤ length word → ((k : ℕ) → k < n → is_blank (get_or word k 0) ≡ false) → (n < length word → is_blank (get_or word n 0) ≡ true) → CutsWord line word n
found_word line word n same some shorter front within before found =
    let begun : 0 < n = begins word n front some found in (
      sym same ∙ cuts line word n same some shorter begun within before found ∙ ap (λ rest. take n word ∷ words_of rest) (sym (tail_is word n)),
      omega (arith, ap length (tail_is word n), length-drop n word, begun),
    )

pub plain_parts : (word : List ℕ) (n : ℕ) → is_plain_line word ≡ true → (is_plain_line (take n word) ≡ true) × (is_plain_line (take (length word - n) (drop n word)) ≡ true)
plain_parts word n h = (plain_take word n h, ap is_plain_line (tail_is word n) ∙ plain_drop word n h)

-- a line that ends at the first LF
pub found_line : (text : List ℕ) (n : ℕ) → n < length text → ((k : ℕ) → k < n → get_or text k 0 ≢ 10) → get_or text n 0 ≡ 10 → (lines_of text ≡ without_return (take n text) ∷ lines_of (take (length text - (n + 1)) (drop (n + 1) text))) × (length (take (length text - (n + 1)) (drop (n + 1) text)) < length text)
found_line text n lt before found =
    let one : suc n ≡ n + 1 = omega arith in (
      cut_line text n lt before found ∙ ap (λ k. without_return (take n text) ∷ lines_of (drop k text)) one ∙ ap (λ rest. without_return (take n text) ∷ lines_of rest) (sym (tail_is text (n + 1))),
      omega (arith, ap length (tail_is text (n + 1)), length-drop (n + 1) text),
    )

pub last_part : (text : List ℕ) (n : ℕ) → 0 < length text → length text ≤ n → ((k : ℕ) → k < n → get_or text k 0 ≢ 10) → (lines_of text ≡ text ∷ []) × (0 < length text)
last_part text n some past before = (last_line text some (λ k h. before k (omega arith)), some)

pub without_last : (line rest : List ℕ) (last : ℕ) → line ≡ rest ++ last ∷ [] → last ≡ 13 → rest ≡ without_return line
without_last line rest last e h = sym (ap without_return (e ∙ ap (λ c. rest ++ c ∷ []) h) ∙ return_off rest)

pub with_last : (line rest : List ℕ) (last : ℕ) → line ≡ rest ++ last ∷ [] → last ≢ 13 → line ≡ without_return line
with_last line rest last e h = e ∙ sym (ap without_return e ∙ no_return rest last h)

pub no_last : (line : List ℕ) → length line ≡ 0 → line ≡ without_return line
no_last [] h = refl
no_last (c ∷ line) h = absurd (omega arith)
