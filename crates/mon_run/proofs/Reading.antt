-- A thread's reading of a word history goes on: with more of the history, and by more steps.
use Rattle.std.proofs.Common.{◌≡◌, ℕ, zero, suc, ◌+◌, ◌-◌, ◌<◌, ◌≤◌, Bool, true, false, List, [], ◌∷◌, ◌++◌, take, length, get_or, cond, eqb, Some, None, slice_get, sym, refl, ap, ◌∙◌, subst, arith, length-append}
use Rattle.std.proofs.lemmas.List.{take-append-le}
use mathlib.Core.List.{append-nil}
use mathlib.Core.Logic.{dite}
use native.Mathlib.Decide.{dec_le}
use Rattle.mon_words.specs.History.{offs, puts, Still}
use Rattle.mon_words.specs.declared.history.Board.{Board}
use Rattle.mon_words.specs.declared.history.Mark.{Mark}
use Rattle.mon_words.specs.declared.history.Mark.TheVariants.{Off, Put}
use Rattle.mon_recorders.specs.declared.happening.Happening.{Happening}
use Rattle.mon_recorders.specs.declared.record.Record.{Record}
use Rattle.mon_recorders.specs.declared.record.Disabled.{Disabled}
use Rattle.mon_recorders.specs.Happenings.{delivered, answers}
use Rattle.mon_recorders.specs.Readings.{Reader, Span, Between, entries_by}
use Rattle.mon_recorders.specs.Boards.{reader}
use Rattle.mon_recorders.proofs.Spans.{in_turn_same, get_front, get_back, between_get, span_none, span_append}
use Rattle.mon_history.specs.Readings.{Reads}
use Rattle.mon_history.proofs.Growing.{front_at}

-- marks
pulled : (b : Bool) (m : Mark) (xs ys : List Mark) → cond b (m ∷ (xs ++ ys)) (xs ++ ys) ≡ cond b (m ∷ xs) xs ++ ys
pulled true m xs ys = refl
pulled false m xs ys = refl

pub offs-append : (t : ℕ) (xs ys : List Mark) → offs t (xs ++ ys) ≡ offs t xs ++ offs t ys
offs-append t [] ys = refl
offs-append t (Off u l k ∷ ms) ys = ap (λ (z : List Mark). cond (eqb u t) (Off u l k ∷ z) z) (offs-append t ms ys) ∙ pulled (eqb u t) (Off u l k) (offs t ms) (offs t ys)
offs-append t (Put s c ∷ ms) ys = offs-append t ms ys

hidden : (b : Bool) (m : Mark) (xs ys : List Mark) → cond b (m ∷ xs) xs ≡ [] → (xs ≡ [] → ys ≡ []) → cond b (m ∷ ys) ys ≡ []
hidden true m xs ys e h = absurd (cc)
hidden false m xs ys e h = h e

front_none : (t k : ℕ) (xs : List Mark) → offs t xs ≡ [] → offs t (take k xs) ≡ []
front_none t zero xs e = refl
front_none t (suc k) [] e = refl
front_none t (suc k) (Off u l j ∷ ms) e = hidden (eqb u t) (Off u l j) (offs t ms) (offs t (take k ms)) e (λ h. front_none t k ms h)
front_none t (suc k) (Put s c ∷ ms) e = front_none t k ms e

pub take-behind : (xs ys : List Mark) (b : ℕ) → length xs ≤ b → (k : ℕ) × (take b (xs ++ ys) ≡ xs ++ take k ys)
take-behind [] ys b h = (b, refl)
take-behind (x ∷ xs) ys zero h = absurd (omega arith)
take-behind (x ∷ xs) ys (suc b) h = let t = take-behind xs ys b (omega arith) in (t.0, ap (λ (z : List Mark). x ∷ z) t.1)

not_put : (u i j : ℕ) (stops : List ℕ) (d : Board) → Some (Off u i j) ≡ Some (Put stops d) → ⊥
not_put u i j stops d e = cc

not_none : (stops : List ℕ) (d : Board) → None ≡ Some (Put stops d) → ⊥
not_none stops d e = cc

still_at : (n t c : ℕ) (log : List Mark) (b : ℕ) (stops : List ℕ) (d : Board) → Still n t c log → n ≤ b → slice_get log b ≡ Some (Put stops d) → get_or stops t 0 ≡ c
still_at n t c [] b stops d h l e = absurd (not_none stops d e)
still_at zero t c (Off u i j ∷ ms) zero stops d h l e = absurd (not_put u i j stops d e)
still_at zero t c (Off u i j ∷ ms) (suc b) stops d h l e = still_at zero t c ms b stops d h (omega arith) e
still_at zero t c (Put s f ∷ ms) zero stops d h l e = let r : s ≡ stops = cc in ap (λ (z : List ℕ). get_or z t 0) (sym r) ∙ h.0
still_at zero t c (Put s f ∷ ms) (suc b) stops d h l e = still_at zero t c ms b stops d h.1 (omega arith) e
still_at (suc n) t c (m ∷ ms) zero stops d h l e = absurd (omega arith)
still_at (suc n) t c (m ∷ ms) (suc b) stops d h l e = still_at n t c ms b stops d h (omega arith) e

no_change : (xs : List Mark) (b : ℕ) (stops : List ℕ) (d : Board) → puts xs ≡ [] → slice_get xs b ≡ Some (Put stops d) → ⊥
no_change [] b stops d p e = not_none stops d e
no_change (Off u i j ∷ ms) zero stops d p e = not_put u i j stops d e
no_change (Off u i j ∷ ms) (suc b) stops d p e = no_change ms b stops d p e
no_change (Put s f ∷ ms) b stops d p e = absurd (cc)

at_back : (xs ys : List Mark) (b : ℕ) (m : Mark) → length xs ≤ b → slice_get (xs ++ ys) b ≡ Some m → (k : ℕ) × (slice_get ys k ≡ Some m)
at_back [] ys b m h e = (b, e)
at_back (x ∷ xs) ys zero m h e = absurd (omega arith)
at_back (x ∷ xs) ys (suc b) m h e = at_back xs ys b m (omega arith) e

-- what is behind a front with all the boards has none
pub bare_behind : (xs ys : List Mark) → puts (xs ++ ys) ≡ puts xs → puts ys ≡ []
bare_behind [] ys e = e
bare_behind (Off u i j ∷ ms) ys e = bare_behind ms ys e
bare_behind (Put s c ∷ ms) ys e = let t : puts (ms ++ ys) ≡ puts ms = cc in bare_behind ms ys t

-- positions stand from the low end on
pub between_low : (low : ℕ) (ps : List ℕ) (high k : ℕ) → Between low ps high → k < length ps → low ≤ get_or ps k 0
between_low low [] high k b h = absurd (omega arith)
between_low low (p ∷ ps) high zero b h = b.0
between_low low (p ∷ ps) high (suc k) b h = let r = between_low p ps high k b.1 (omega arith) in omega (arith, b.0)

-- the entries of steps that read in a front are those that they make in the whole
entries_front : (r : Reader Mark) (events : ℕ → List Happening) (log rest : List Mark) (at bt : List ℕ) (m : ℕ) → m ≤ length at → ((i : ℕ) → i < length at → get_or at i 0 ≤ length log) → ((i : ℕ) → i < length at → get_or bt i 0 ≡ get_or at i 0)
    → entries_by r log at events m ≡ entries_by r (log ++ rest) bt events m
entries_front r events log rest at bt m h low same = in_turn_same _ _ m
    (λ j l. ap (λ (w : List Mark). delivered (answers (r.lets w)) r.entry (events j)) (sym (take-append-le (get_or at j 0) log rest (low j (omega arith))) ∙ ap (λ k. take k (log ++ rest)) (sym (same j (omega arith)))))

-- before its first step a thread has read nothing
pub reads_none : (t : ℕ) (first : Board) (events : ℕ → List Happening) → Reads t first events [] [] [] []
reads_none t first events = record {
  span = span_none (reader t first) events 0 [];
  changes = λ k stops b e. absurd (not_none stops b e);
  own_changes = λ k stops b e. absurd (not_none stops b e);
}

-- the thread reads the longer history too, where it has no further mark there, and each further board stopped it where it is
module _ (t : ℕ) (first : Board) (events : ℕ → List Happening) (at : List ℕ) (log rest : List Mark) (rs : List Record) (ds : List Disabled)
    (r : Reads t first events at log rs ds) (bare : offs t rest ≡ []) (still : Still (length log) t (length at) (log ++ rest)) where
  low : (i : ℕ) → i < length at → get_or at i 0 ≤ length log
  low i h = between_get 0 at (length log) i r.span.between h

  all : offs t (log ++ rest) ≡ offs t log
  all = offs-append t log rest ∙ (ap (λ (z : List Mark). offs t log ++ z) bare ∙ append-nil (offs t log))

  longer : Span (reader t first) events 0 at [] (log ++ rest) rs ds
  longer = subst (λ (z : List ℕ × (List Record × List Disabled)). Span (reader t first) events 0 z.0 [] (log ++ rest) z.1.0 z.1.1) (λ i. (append-nil at i, (append-nil rs i, append-nil ds i)))
      (span_append (reader t first) events 0 at [] [] log (log ++ rest) (log ++ rest) rs [] ds [] r.span rest refl all (span_none (reader t first) (λ k. events (length at + k)) (0 + length at) (log ++ rest)))

  pub reads_on : Reads t first events at (log ++ rest) rs ds
  reads_on = record {
    span = longer;
    changes = λ k stops b e. dite (dec_le (length log) k)
        (λ far. let s : get_or stops t 0 ≡ length at = still_at (length log) t (length at) (log ++ rest) k stops b still far e in
        (omega arith, λ i h. (λ l. let a = low i h in absurd (omega arith), λ l. absurd (omega arith))))
        (λ near. r.changes k stops b (sym (front_at log rest k (omega arith)) ∙ e));
    own_changes = λ k stops b e. dite (dec_le (length log) k)
        (λ far. let s : get_or stops t 0 ≡ length at = still_at (length log) t (length at) (log ++ rest) k stops b still far e in let q = take-behind log rest k far in
        ap (offs t) q.1 ∙ (offs-append t log (take q.0 rest) ∙ (ap (λ (z : List Mark). offs t log ++ z) (front_none t q.0 rest bare) ∙ (append-nil (offs t log) ∙ (sym all ∙ (longer.own_all ∙ ap (entries_by (reader t first) (log ++ rest) at events) (sym s)))))))
        (λ near. let e' = sym (front_at log rest k (omega arith)) ∙ e in
        ap (offs t) (take-append-le k log rest (omega arith)) ∙ (r.own_changes k stops b e' ∙ entries_front (reader t first) events log rest at at (get_or stops t 0) (r.changes k stops b e').0 low (λ i h. refl)));
  }

-- an advance: the history grew by disables alone
module _ (t : ℕ) (first : Board) (events : ℕ → List Happening) (at bt : List ℕ) (log later : List Mark) (rs rs2 : List Record) (ds ds2 : List Disabled)
    (r : Reads t first events at log rs ds) (s : Span (reader t first) (λ k. events (length at + k)) (length at) bt log later rs2 ds2) (quiet : puts later ≡ puts log) where
  abbrev rest : List Mark
  rest = s.more

  bare : puts rest ≡ []
  bare = bare_behind log rest (ap puts (sym s.grown) ∙ quiet)

  within : (i : ℕ) → i < length at → get_or at i 0 ≤ length log
  within i h = between_get 0 at (length log) i r.span.between h

  old : (i : ℕ) → i < length at → get_or (at ++ bt) i 0 ≡ get_or at i 0
  old i h = get_front at bt i h

  new : (i : ℕ) → length at ≤ i → i < length (at ++ bt) → length log ≤ get_or (at ++ bt) i 0
  new i h l = let k : ℕ = i - length at in let is : length at + k ≡ i = omega arith in let long = length-append at bt in
      let a = between_low (length log) bt (length later) k s.between (omega arith) in
      let b : get_or (at ++ bt) i 0 ≡ get_or bt k 0 = ap (λ j. get_or (at ++ bt) j 0) (sym is) ∙ get_back at bt k in omega arith

  -- a board is one that was there before
  earlier : (k : ℕ) (stops : List ℕ) (b : Board) → slice_get later k ≡ Some (Put stops b) → (k < length log) × (slice_get log k ≡ Some (Put stops b))
  earlier k stops b e = let e' = ap (λ z. slice_get z k) (sym s.grown) ∙ e in dite (dec_le (length log) k)
      (λ far. let q = at_back log rest k (Put stops b) far e' in absurd (no_change rest q.0 stops b bare q.1))
      (λ near. (omega arith, sym (front_at log rest k (omega arith)) ∙ e'))

  whole : Span (reader t first) events 0 (at ++ bt) [] later (rs ++ rs2) (ds ++ ds2)
  whole = let z : length at ≡ 0 + length at = omega arith in
      span_append (reader t first) events 0 at bt [] log log later rs rs2 ds ds2 r.span [] (sym (append-nil log)) refl (subst (λ n. Span (reader t first) (λ k. events (length at + k)) n bt log later rs2 ds2) z s)

  pub reads_more : Reads t first events (at ++ bt) later (rs ++ rs2) (ds ++ ds2)
  reads_more = record {
    span = whole;
    changes = λ k stops b e. let q = earlier k stops b e in let c = r.changes k stops b q.1 in let long = length-append at bt in let few = c.0 in let front = q.0 in (
      omega arith,
      λ i h. dite (dec_le (length at) i)
          (λ a. (λ _. omega arith, λ _. let w = new i a h in omega arith))
          (λ z. let o = old i (omega arith) in let d = c.1 i (omega arith) in (λ l. d.0 (omega arith), λ l. let w = d.1 l in omega arith)),
    );
    own_changes = λ k stops b e. let q = earlier k stops b e in let c = r.changes k stops b q.1 in
        ap (λ z. offs t (take k z)) s.grown ∙ (ap (offs t) (take-append-le k log rest (let f = q.0 in omega arith)) ∙ (r.own_changes k stops b q.1
        ∙ (entries_front (reader t first) events log rest at (at ++ bt) (get_or stops t 0) c.0 within old ∙ ap (λ z. entries_by (reader t first) z (at ++ bt) events (get_or stops t 0)) (sym s.grown))));
  }
