-- At each place of a word history that stands for a journal, the words are those of the configuration there.
use Rattle.std.proofs.Common.{◌≡◌, ℕ, zero, suc, ◌<◌, ◌≤◌, Bool, true, false, not, ◌&&◌, ◌||◌, eqb, List, [], ◌∷◌, ◌++◌, length, take, get_or, set, Some, slice_get, sym, refl, ap, ◌∙◌, subst, arith, eq-eqb, ne_eqb, length-set, get_or-set_same, get_or-set_other}
use mathlib.Core.Logic.{dite}
use native.Mathlib.Decide.{ℕ_discrete}
use Rattle.mon_events.specs.Events.{place, slot_number}
use Rattle.mon_events.specs.Sets.{slot_of, tool_of}
use Rattle.mon_words.specs.Words.{is_bit}
use Rattle.mon_words.specs.Words.{clear}
use Rattle.mon_words.specs.History.{no_cell, cell_at, clear_at, after}
use Rattle.mon_words.specs.declared.history.Cell.{Cell}
use Rattle.mon_words.specs.declared.history.Board.{Board}
use Rattle.mon_words.specs.declared.history.Mark.{Mark}
use Rattle.mon_words.specs.declared.history.Mark.TheVariants.{Off, Put}
use Rattle.mon_history.specs.declared.journal.Entry.{Entry}
use Rattle.mon_code.specs.declared.site.Site.{Site}
use Rattle.mon_history.specs.declared.journal.JournalLine.{JournalLine}
use Rattle.mon_history.specs.Configuration.{Configuration, switched_off, same_place}
use Rattle.mon_history.specs.Histories.{config_after, after_from, after_one, entries}
use Rattle.mon_history.specs.Stands.{BoardOf, StandsFor}
use Rattle.mon_events.proofs.Bits.{cleared_bit, same_spot}

pub entries-length : (n : ℕ) (W : List Mark) → length (entries n W) ≡ length W
entries-length n [] = refl
entries-length n (Off t l k ∷ ms) = omega (arith, entries-length n ms)
entries-length n (Put c b ∷ ms) = omega (arith, entries-length (suc n) ms)

pub entries-take : (n p : ℕ) (W : List Mark) → take p (entries n W) ≡ entries n (take p W)
entries-take n zero W = refl
entries-take n (suc p) [] = refl
entries-take n (suc p) (Off t l k ∷ ms) = ap (λ z. Entry.Disable t l (slot_of k) (tool_of k) ∷ z) (entries-take n p ms)
entries-take n (suc p) (Put c b ∷ ms) = ap (λ z. Entry.Change n c ∷ z) (entries-take (suc n) p ms)

pub after-more : (J : List JournalLine) (C : Configuration) (H : List Entry) (e : Entry) → after_from J C (H ++ e ∷ []) ≡ after_one J (after_from J C H) e
after-more J C [] e = refl
after-more J C (x ∷ xs) e = after-more J (after_one J C x) xs e

pub entries-off : (n : ℕ) (W : List Mark) (t l k : ℕ) → entries n (W ++ Off t l k ∷ []) ≡ entries n W ++ Entry.Disable t l (slot_of k) (tool_of k) ∷ []
entries-off n [] t l k = refl
entries-off n (Off u i j ∷ ms) t l k = ap (λ z. Entry.Disable u i (slot_of j) (tool_of j) ∷ z) (entries-off n ms t l k)
entries-off n (Put c b ∷ ms) t l k = ap (λ z. Entry.Change n c ∷ z) (entries-off (suc n) ms t l k)

pub stands-off : (b : Board) (W : List Mark) (t l k : ℕ) → after b (W ++ Off t l k ∷ []) ≡ clear_at (after b W) l k
stands-off b [] t l k = refl
stands-off b (Off u i j ∷ ms) t l k = stands-off (clear_at b i j) ms t l k
stands-off b (Put s c ∷ ms) t l k = stands-off c ms t l k

pub stands-put : (b : Board) (W : List Mark) (s : List ℕ) (c : Board) → after b (W ++ Put s c ∷ []) ≡ c
stands-put b [] s c = refl
stands-put b (Off u i j ∷ ms) s c = stands-put (clear_at b i j) ms s c
stands-put b (Put t d ∷ ms) s c = stands-put d ms s c

pub mark_at : (W : List Mark) (p : ℕ) → p < length W → (m : Mark) × (slice_get W p ≡ Some m)
mark_at [] p h = absurd (omega arith)
mark_at (m ∷ ms) zero h = (m, refl)
mark_at (m ∷ ms) (suc p) h = mark_at ms p (omega arith)

pub take-next : (W : List Mark) (p : ℕ) (m : Mark) → slice_get W p ≡ Some m → take (suc p) W ≡ take p W ++ m ∷ []
take-next [] p m e = absurd (cc)
take-next (x ∷ xs) zero m e = let q : x ≡ m = cc in ap (λ (z : Mark). z ∷ []) q
take-next (x ∷ xs) (suc p) m e = ap (λ (z : List Mark). x ∷ z) (take-next xs p m e)

want_set : (cs : List Cell) (l m : ℕ) (c : Cell) → c.want ≡ (get_or cs l no_cell).want → (get_or (set cs l c) m no_cell).want ≡ (get_or cs m no_cell).want
want_set [] l m c e = refl
want_set (x ∷ xs) zero zero c e = e
want_set (x ∷ xs) zero (suc m) c e = refl
want_set (x ∷ xs) (suc l) zero c e = refl
want_set (x ∷ xs) (suc l) (suc m) c e = want_set xs l m c e

base_set : (cs : List Cell) (l m : ℕ) (c : Cell) → c.base ≡ (get_or cs l no_cell).base → (get_or (set cs l c) m no_cell).base ≡ (get_or cs m no_cell).base
base_set [] l m c e = refl
base_set (x ∷ xs) zero zero c e = e
base_set (x ∷ xs) zero (suc m) c e = refl
base_set (x ∷ xs) (suc l) zero c e = refl
base_set (x ∷ xs) (suc l) (suc m) c e = base_set xs l m c e

-- what is off at one place more
off_here : (r : Bool) (o q : Bool) → r ≡ q → (not o && not q) ≡ not (r || o)
off_here true o true e = and_no (not o)
  where
    and_no : (b : Bool) → (b && false) ≡ false
    and_no true = refl
    and_no false = refl
off_here true o false e = absurd (cc)
off_here false o true e = absurd (cc)
off_here false true false e = refl
off_here false false false e = refl

pub off_board : (sites : List Site) (C : Configuration) (b : Board) (l k : ℕ) → BoardOf sites C b → BoardOf sites (switched_off C l (slot_of k) (tool_of k)) (clear_at b l k)
off_board sites C b l k o = record {
  wide = length-set b.cells l (clear (cell_at b l) k) ∙ o.wide;
  six = o.six;
  bases = λ m h. base_set b.cells l m (clear (cell_at b l) k) refl ∙ o.bases m h;
  wants = λ m s t low h. ap (λ x. is_bit x (place s t)) (want_set b.cells l m (clear (cell_at b l) k) refl) ∙ o.wants m s t low h;
  lives = λ m s t low h. dite (ℕ_discrete m l)
      (λ is. let within : m < length b.cells = omega (arith, o.wide) in
      let here : cell_at (clear_at b l k) m ≡ clear (cell_at b m) k =
      subst (λ (z : ℕ). cell_at (clear_at b z k) m ≡ clear (cell_at b m) k) is (get_or-set_same b.cells m (clear (cell_at b m) k) no_cell within) in
      let spot : (eqb m l && (eqb (slot_number s) (slot_number (slot_of k)) && eqb t (tool_of k))) ≡ eqb (place s t) k =
      ap (λ z. z && (eqb (slot_number s) (slot_number (slot_of k)) && eqb t (tool_of k))) (eq-eqb m l is) ∙ same_spot s t k h in
      ap (λ (c : Cell). is_bit c.live (place s t)) here ∙ (cleared_bit (cell_at b m).live k (place s t) ∙ (ap (λ z. z && not (eqb (place s t) k)) (o.lives m s t low h)
      ∙ off_here (same_place m s t l (slot_of k) (tool_of k)) (C.off m s t) (eqb (place s t) k) spot)))
      (λ ne. let there : cell_at (clear_at b l k) m ≡ cell_at b m = get_or-set_other b.cells l m (clear (cell_at b l) k) no_cell ne in
      ap (λ (c : Cell). is_bit c.live (place s t)) there ∙ (o.lives m s t low h
      ∙ sym (ap (λ z. not ((z && (eqb (slot_number s) (slot_number (slot_of k)) && eqb t (tool_of k))) || C.off m s t)) (ne_eqb m l ne))));
  global_is = o.global_is;
  callbacks_are = o.callbacks_are;
}

pub boards : (sites : List Site) (J : List JournalLine) (first : Board) (W : List Mark) → StandsFor sites J first W → (p : ℕ) → p ≤ length W → BoardOf sites (config_after J (entries 0 (take p W))) (after first (take p W))
boards sites J first W s zero h = s.begins
boards sites J first W s (suc p) h =
    let m = mark_at W p (omega arith) in
    let before : BoardOf sites (config_after J (entries 0 (take p W))) (after first (take p W)) = boards sites J first W s p (omega arith) in
    step m.0 m.1 before
  where
    step : (m : Mark) → slice_get W p ≡ Some m → BoardOf sites (config_after J (entries 0 (take p W))) (after first (take p W)) → BoardOf sites (config_after J (entries 0 (take (suc p) W))) (after first (take (suc p) W))
    step (Off t l k) e before =
        let X : List Mark = take p W in let n : take (suc p) W ≡ X ++ Off t l k ∷ [] = take-next W p (Off t l k) e in
        let c : config_after J (entries 0 (take (suc p) W)) ≡ switched_off (config_after J (entries 0 X)) l (slot_of k) (tool_of k) =
        ap (λ z. config_after J (entries 0 z)) n ∙ (ap (config_after J) (entries-off 0 X t l k) ∙ after-more J Rattle.mon_history.specs.Configuration.nothing (entries 0 X) (Entry.Disable t l (slot_of k) (tool_of k))) in
        let w : after first (take (suc p) W) ≡ clear_at (after first X) l k = ap (after first) n ∙ stands-off first X t l k in
        subst (λ (z : Configuration × Board). BoardOf sites z.0 z.1) (λ i. (sym c i, sym w i)) (off_board sites (config_after J (entries 0 X)) (after first X) l k before)
    step (Put counts b) e before =
        let w : after first (take (suc p) W) ≡ b = ap (after first) (take-next W p (Put counts b) e) ∙ stands-put first (take p W) counts b in
        subst (λ (z : Board). BoardOf sites (config_after J (entries 0 (take (suc p) W))) z) (sym w) (s.boards_are p counts b e)
