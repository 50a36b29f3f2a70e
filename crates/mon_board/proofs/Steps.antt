-- Each step of the one seat keeps the rule.
use Rattle.std.proofs.Common.{◌≡◌, ℕ, zero, suc, ◌+◌, ◌-◌, ◌%◌, ◌<◌, ◌≤◌, ◌≢◌, List, [], ◌∷◌, ◌++◌, map, drop, length, get_or, set, replicate, sym, refl, ap, ◌∙◌, subst, ⊎_elim, arith, length-set, get_or-set_other, get_or-set_same, bit_and, eqb, false, true, Bool}
use Rattle.std.specs.Prelude.{is_some}
use mathlib.Core.Logic.{dite}
use mathlib.Core.Option.{none, some, some-injective, some-ne-none}
use native.Mathlib.Decide.{ℕ_discrete}
use lib.ListN.{get_elem?}
use lib.Seq.{set-get_or}
use prog.Atomic.{either}
use Rattle.atomic_table.specs.Table.{State, step, keeps, Allows, opening}
use Rattle.atomic_table.proofs.Lists.{exchanged, at_set}
use Rattle.mon_words.specs.Words.{cell_of, mask_of, normal, Allowed, Shows}
use Rattle.mon_words.specs.History.{cell_at, clear_at, after, UpTo, HasBases, base_in}
use Rattle.mon_words.specs.Standing.{size, board_of, IsFirst, Stands, Fine, Right, overlay, noted_of, count_of, table}
use Rattle.mon_words.specs.Tallies.{loaded_at, loaded_global, loaded_callbacks, disabled_once, tried, polled_once, entered_once, read_at, rewritten_once}
use Rattle.mon_words.specs.declared.history.Board.{Board}
use Rattle.mon_words.specs.declared.history.Mark.{Mark}
use Rattle.mon_words.specs.declared.history.Mark.TheVariants.{Off, Put}
use Rattle.mon_words.specs.declared.history.Noted.{Noted}
use Rattle.mon_words.specs.declared.history.Written.{Written}
use Rattle.mon_words.specs.declared.tally.Tally.{Tally}
use Rattle.mon_words.proofs.Histories.{after-off, after-put, upto-off, upto-put, upto-more, based-off, based-put}
use Rattle.mon_words.proofs.Clearing.{apart}
use Rattle.mon_words.proofs.Standing.{after-bases, same_length, same_base, bases_from, clear_stands, clear_stands_else, normal_stands, overlay-size, right_stands, right_base, table_at, noted_there, some_count, first_bases, first_stands, board-length}
use Rattle.mon_board.specs.Plain.{first_board, PlainOk, PlainKept, first_plain, starting, Sat, standing, turned_to, entered, polled, loaded, loaded_globally, loaded_for_tool, read, disabled, retired, counted, noted, stored, rewritten, put_of, released}
use Rattle.mon_board.specs.Plain as plain
use Rattle.mon_board.specs.declared.plain_view.PlainView.{PlainView}
use Rattle.mon_board.specs.declared.plain_view.PlainPlan.{PlainPlan}

in_range : (vs : List PlainView) (k : ℕ) (v : PlainView) → get_elem? vs k ≡ some v → k < length vs
in_range [] k v e = absurd (some-ne-none v (sym e))
in_range (x ∷ xs) zero v e = omega arith
in_range (x ∷ xs) (suc k) v e = omega (arith, in_range xs k v e)

-- with one seat there is no other
only_me : (about : PlainPlan) (s : State (Unit {0}) PlainView) (r : PlainKept about s) (id : ℕ) (v w : PlainView) (ws : List ℕ) → get_elem? s.views id ≡ some v → length ws ≡ length s.words → PlainOk about ws w
    → PlainKept about record { words = ws; homes = s.homes; views = set s.views id w }
only_me about s r id v w ws at long mine = let one = r.one in record {
  wide = long ∙ r.wide;
  one = length-set s.views id w ∙ one;
  first = r.first;
  ok = λ k u e. ⊎_elim (λ (t : (k ≡ id) × (w ≡ u)). subst (PlainOk about ws) t.1 mine)
      (λ (t : (k ≢ id) × (get_elem? s.views k ≡ some u)). absurd (t.0 (omega (arith, in_range s.views k u t.1, in_range s.views id v at)))) (at_set s.views id k w u e);
}

-- a load that changes nothing of what the rule says
same_step : (about : PlainPlan) (s : State (Unit {0}) PlainView) (r : PlainKept about s) (id i : ℕ) (v w : PlainView) → get_elem? s.views id ≡ some v → PlainOk about s.words w
    → PlainKept about record { words = set s.words i (get_or s.words i 0); homes = s.homes; views = set s.views id w }
same_step about s r id i v w at mine = let x : ℕ = get_or s.words i 0 in
    only_me about s r id v w (set s.words i x) at (length-set s.words i x) (subst (λ (ws : List ℕ). PlainOk about ws w) (sym (set-get_or s.words i 0)) mine)

-- the rule does not speak of the tally, nor of whose turn it is
told_ok : (about : PlainPlan) (ws : List ℕ) (v : PlainView) (t : ℕ) (a : Bool) (y : Tally) → PlainOk about ws v → PlainOk about ws (record v { current = t; attached = a; tally = y })
told_ok about ws v t a y o = record { threads_are = o.threads_are; first_is = o.first_is; based = o.based; long = o.long; counts = o.counts; high = o.high; noted = o.noted; right = o.right }

pub turns : (about : PlainPlan) (n id i : ℕ) (m : Sat) → Allows (PlainKept about) n id m i (λ y. y) (turned_to (step n i 0 0 none) m)
turns about n id i m s r long at fits = let w : PlainView = record m.0 { current = i; attached = false } in
    (w, keeps, tt, same_step about s r id i m.0 w at (told_ok about s.words m.0 i false m.0.tally (r.ok id m.0 at)), refl)

pub enters : (about : PlainPlan) (n id i : ℕ) (m : Sat) → Allows (PlainKept about) n id m i (λ y. y) (entered (step n i 0 0 none) m)
enters about n id i m s r long at fits = let t : Tally = entered_once m.0.tally in let w : PlainView = record m.0 { attached = true; tally = t } in
    (w, keeps, tt, same_step about s r id i m.0 w at (told_ok about s.words m.0 m.0.current true t (r.ok id m.0 at)), λ _. refl)

pub polls : (about : PlainPlan) (n id i : ℕ) (m : Sat) → Allows (PlainKept about) n id m i (λ y. y) (polled (step n i 0 0 none) m)
polls about n id i m s r long at fits = let t : Tally = polled_once m.0.tally false in let w : PlainView = record m.0 { tally = t } in
    (w, keeps, tt, same_step about s r id i m.0 w at (told_ok about s.words m.0 m.0.current m.0.attached t (r.ok id m.0 at)), λ _. refl)

-- what is known of the board that stands
record Laid (about : PlainPlan) (s : State (Unit {0}) PlainView) (v : PlainView) : Type 0 where
  started : HasBases (plain.first_bases about) (after (first_board about) v.seen)
  long : length (after (first_board about) v.seen).cells ≡ length (first_board about).cells
  is : standing v ≡ overlay (after (first_board about) v.seen) v.written
  stands : (j : ℕ) → j < size (first_board about) → Stands (overlay (after (first_board about) v.seen) v.written) j (get_or s.words (about.threads + j) 0)

laid : (about : PlainPlan) (s : State (Unit {0}) PlainView) (r : PlainKept about s) (v : PlainView) → PlainOk about s.words v → Laid about s v
laid about s r v o =
    let first : Board = first_board about in let bases : HasBases (plain.first_bases about) (after first v.seen) = after-bases (plain.first_bases about) first v.seen o.based r.first in
    let long : length (after first v.seen).cells ≡ length first.cells = same_length (plain.first_bases about) (after first v.seen) first bases r.first in
    record {
      started = bases;
      long = long;
      is = ap (λ (f : Board). overlay (after f v.seen) v.written) o.first_is;
      stands = λ j h. right_stands first (after first v.seen) v.written j (get_or s.words (about.threads + j) 0) (omega arith) bases.six (o.right j h);
    }

shown : (about : PlainPlan) (s : State (Unit {0}) PlainView) (r : PlainKept about s) (id i j : ℕ) (v : PlainView) → get_elem? s.views id ≡ some v → i ≡ v.threads + j → j < size v.first
    → Stands (standing v) (i - v.threads) (get_or s.words i 0)
shown about s r id i j v at place low = let o = r.ok id v at in let t = o.threads_are in let l = laid about s r v o in
    let low' : j < size (first_board about) = subst (λ (f : Board). j < size f) o.first_is low in
    let e : i - v.threads ≡ j = omega arith in let f : about.threads + j ≡ i = omega arith in
    subst (λ (z : Board × ℕ × ℕ). Stands z.0 z.1 (get_or s.words z.2 0)) (λ k. (sym l.is k, sym e k, f k)) (l.stands j low')

-- a word of the board is found
finds : (about : PlainPlan) (n id i j : ℕ) (m : Sat) (t : Tally) → i ≡ m.0.threads + j → j < size m.0.first
    → Allows (PlainKept about) n id m i (λ y. y) (λ x m'. Stands (standing m.0) (i - m.0.threads) x × (m' ≡ (record m.0 { tally = t }, m.1)))
finds about n id i j m t place low s r long at fits = let w : PlainView = record m.0 { tally = t } in
    (w, keeps, tt, same_step about s r id i m.0 w at (told_ok about s.words m.0 m.0.current m.0.attached t (r.ok id m.0 at)), (shown about s r id i j m.0 at place low, refl))

pub loads : (about : PlainPlan) (n id i j : ℕ) (m : Sat) → i ≡ m.0.threads + j → j < size m.0.first → Allows (PlainKept about) n id m i (λ y. y) (loaded (step n i 0 0 none) m)
loads about n id i j m place low = finds about n id i j m (loaded_at m.0.tally (i - m.0.threads - 7) (length m.0.seen)) place low

pub loads_global : (about : PlainPlan) (n id i j : ℕ) (m : Sat) → i ≡ m.0.threads + j → j < size m.0.first → Allows (PlainKept about) n id m i (λ y. y) (loaded_globally (step n i 0 0 none) m)
loads_global about n id i j m place low = finds about n id i j m (loaded_global m.0.tally) place low

pub loads_callbacks : (about : PlainPlan) (n id i j : ℕ) (m : Sat) → i ≡ m.0.threads + j → j < size m.0.first → Allows (PlainKept about) n id m i (λ y. y) (loaded_for_tool (step n i 0 0 none) m)
loads_callbacks about n id i j m place low = finds about n id i j m (loaded_callbacks m.0.tally (i - m.0.threads - 1)) place low

pub reads : (about : PlainPlan) (n id i j : ℕ) (m : Sat) → i ≡ m.0.threads + j → j < size m.0.first → Allows (PlainKept about) n id m i (λ y. y) (read (step n i 0 0 none) m)
reads about n id i j m place low = finds about n id i j m (read_at m.0.tally (i - m.0.threads - 7)) place low

-- a word that may stand for what stands takes the place of one
word_ok : (about : PlainPlan) (s : State (Unit {0}) PlainView) (r : PlainKept about s) (id i j y : ℕ) (v : PlainView) → get_elem? s.views id ≡ some v → i ≡ v.threads + j → j < size v.first → v.written ≡ []
    → ((b : Board) → Stands b j (get_or s.words i 0) → Stands b j y) → PlainOk about (set s.words i y) v
word_ok about s r id i j y v at place low running shows =
    let o = r.ok id v at in let t₀ = o.threads_are in let wide = r.wide in let first : Board = first_board about in let ws : List ℕ = set s.words i y in
    let low' : j < size first = subst (λ (f : Board). j < size f) o.first_is low in
    record {
      threads_are = o.threads_are;
      first_is = o.first_is;
      based = o.based;
      long = o.long;
      counts = λ t h. get_or-set_other s.words i t y 0 (λ e. absurd (omega arith)) ∙ o.counts t h;
      high = o.high;
      noted = o.noted;
      right = λ a h. dite (ℕ_discrete a j)
          (λ e. let spot : about.threads + a ≡ i = omega arith in
          let now : get_or ws (about.threads + a) 0 ≡ y = ap (λ (z : ℕ). get_or ws z 0) spot ∙ get_or-set_same s.words i y 0 (omega arith) in
          let before : Stands (after first v.seen) a (get_or s.words (about.threads + a) 0) = subst (λ (z : List Written). Right first (after first v.seen) z a (get_or s.words (about.threads + a) 0)) running (o.right a h) in
          let here : Stands (after first v.seen) j (get_or s.words i 0) = subst (λ (z : ℕ × ℕ). Stands (after first v.seen) z.0 (get_or s.words z.1 0)) (λ d. (e d, spot d)) before in
          let moved : Stands (after first v.seen) j y = shows (after first v.seen) here in
          subst (λ (z : List Written × ℕ × ℕ). Right first (after first v.seen) z.0 z.1 z.2) (λ d. (sym running d, sym e d, sym now d)) moved)
          (λ ne. subst (Right first (after first v.seen) v.written a) (sym (get_or-set_other s.words i (about.threads + a) y 0 (λ e. ne (omega arith)))) (o.right a h));
    }

pub retires : (about : PlainPlan) (n id l i old new : ℕ) (m : Sat) → i ≡ m.0.threads + (7 + l) → l < length m.0.first.cells → m.0.written ≡ [] → new ≡ normal old
    → Allows (PlainKept about) n id m i (λ y. either (eqb y old) new y) (retired (step n i old new none) m)
retires about n id l i old new m place low running is-normal s r long at fits =
    let x : ℕ = get_or s.words i 0 in let o₀ : ℕ = i - m.0.threads - 7 in let t : Tally = tried m.0.tally o₀ old (eqb x old) in let w : PlainView = record m.0 { tally = t } in let at-l : o₀ ≡ l = omega arith in (
      w,
      keeps,
      tt,
      exchanged x old new (λ y. PlainKept about record { words = set s.words i y; homes = s.homes; views = set s.views id w })
          (λ hit. only_me about s r id m.0 w (set s.words i new) at (length-set s.words i new)
          (told_ok about (set s.words i new) m.0 m.0.current m.0.attached t (word_ok about s r id i (7 + l) new m.0 at place (omega arith) running (λ b h. subst (Stands b (7 + l)) (sym (is-normal ∙ ap normal (sym hit))) (normal_stands b l x h)))))
          (λ miss. only_me about s r id m.0 w (set s.words i x) at (length-set s.words i x)
          (told_ok about (set s.words i x) m.0 m.0.current m.0.attached t (word_ok about s r id i (7 + l) x m.0 at place (omega arith) running (λ b h. h)))),
      λ _. ((shown about s r id i (7 + l) m.0 at place (omega arith)).location o₀ (omega arith), refl),
    )

pub disables : (about : PlainPlan) (n id i l k mask : ℕ) (m : Sat) → i ≡ m.0.threads + (7 + l) → l < length m.0.first.cells → m.0.written ≡ [] → k < 24 → mask ≡ mask_of k
    → Allows (PlainKept about) n id m i (λ y. bit_and y mask) (disabled (step n i mask 0 none) m)
disables about n id i l k mask m place low running bit masks s r long at fits =
    let x : ℕ = get_or s.words i 0 in let v = m.0 in let o = r.ok id v at in let first : Board = first_board about in let t₀ = o.threads_are in let wide = r.wide in
    let o₀ : ℕ = i - v.threads - 7 in let y : ℕ = bit_and x mask in let ws : List ℕ = set s.words i y in let log' : List Mark = v.seen ++ Off v.current o₀ k ∷ [] in
    let w : PlainView = record v { seen = log'; tally = disabled_once v.tally } in let at-l : o₀ ≡ l = omega arith in
    let low' : o₀ < length first.cells = let q : l < length first.cells = subst (λ (f : Board). l < length f.cells) o.first_is low in omega arith in
    let board : Board = after first v.seen in let lay = laid about s r v o in let long-board = lay.long in
    let stood : Shows (cell_at (standing v) o₀) x = (shown about s r id i (7 + l) v at place (omega arith)).location o₀ (omega arith) in
    let stood' : Shows (cell_at board o₀) x = subst (λ (b : Board). Shows (cell_at b o₀) x) (lay.is ∙ ap (overlay board) running) stood in (
      w,
      keeps,
      tt,
      only_me about s r id v w ws at (length-set s.words i y) record {
        threads_are = o.threads_are;
        first_is = o.first_is;
        based = based-off (plain.first_bases about) v.seen v.current o₀ k o.based;
        long = o.long;
        counts = λ t h. get_or-set_other s.words i t y 0 (λ e. absurd (omega arith)) ∙ o.counts t h;
        high = λ t h. upto-off t (get_or v.counts t 0) v.seen v.current o₀ k (o.high t h);
        noted = o.noted;
        right = λ a h. subst (λ (z : Board × List Written). Right first z.0 z.1 a (get_or ws (about.threads + a) 0)) (λ d. (sym (after-off first v.seen v.current o₀ k) d, sym running d))
            (dite (ℕ_discrete a (7 + o₀))
            (λ e. let spot : about.threads + a ≡ i = omega arith in
            let now : get_or ws (about.threads + a) 0 ≡ bit_and x (mask_of k) = ap (λ (z : ℕ). get_or ws z 0) spot ∙ (get_or-set_same s.words i y 0 (omega arith) ∙ ap (bit_and x) masks) in
            let cleared : Stands (clear_at board o₀ k) (7 + o₀) (bit_and x (mask_of k)) = clear_stands board o₀ k x fits bit (omega arith) stood' in
            subst (λ (z : ℕ × ℕ). Stands (clear_at board o₀ k) z.0 z.1) (λ d. (sym e d, sym now d)) cleared)
            (λ ne. let now : get_or ws (about.threads + a) 0 ≡ get_or s.words (about.threads + a) 0 = get_or-set_other s.words i (about.threads + a) y 0 (λ e. ne (omega arith)) in
            let before : Stands board a (get_or s.words (about.threads + a) 0) = subst (λ (z : List Written). Right first board z a (get_or s.words (about.threads + a) 0)) running (o.right a h) in
            subst (Stands (clear_at board o₀ k) a) (sym now) (clear_stands_else board o₀ k a (get_or s.words (about.threads + a) 0) ne before)));
      },
      λ k' low-bit same. let e : k ≡ k' = apart k k' bit low-bit (sym masks ∙ same) in
          (stood, ap (λ (z : ℕ). let r₀ : Sat = (record v { seen = v.seen ++ Off v.current o₀ z ∷ []; tally = disabled_once v.tally }, m.1) in r₀) e),
    )

pub counts : (about : PlainPlan) (n id i new : ℕ) (m : Sat) → i < m.0.threads → m.0.noted ≡ [] → get_or m.0.counts i 0 ≤ new → Allows (PlainKept about) n id m i (λ _. new) (λ _. counted (step n i new 0 none) m new)
counts about n id i new m low running more s r long at fits =
    let v = m.0 in let o = r.ok id v at in let t₀ = o.threads_are in let wide = r.wide in let len = o.long in let ws : List ℕ = set s.words i new in
    let w : PlainView = record v { counts = set v.counts i new; attached = false } in (
      w,
      keeps,
      tt,
      only_me about s r id v w ws at (length-set s.words i new) record {
        threads_are = o.threads_are;
        first_is = o.first_is;
        based = o.based;
        long = length-set v.counts i new ∙ o.long;
        counts = λ t h. dite (ℕ_discrete t i)
            (λ e. subst (λ (z : ℕ). get_or ws z 0 ≡ get_or (set v.counts i new) z 0) (sym e) (get_or-set_same s.words i new 0 (omega arith) ∙ sym (get_or-set_same v.counts i new 0 (omega arith))))
            (λ ne. get_or-set_other s.words i t new 0 ne ∙ (o.counts t h ∙ sym (get_or-set_other v.counts i t new 0 ne)));
        high = λ t h. dite (ℕ_discrete t i)
            (λ e. subst (λ (c : ℕ). UpTo t c v.seen) (sym (ap (λ (z : ℕ). get_or (set v.counts i new) z 0) e ∙ get_or-set_same v.counts i new 0 (omega arith)))
            (upto-more t (get_or v.counts t 0) new v.seen (o.high t h) (omega (arith, ap (λ (z : ℕ). get_or v.counts z 0) e))))
            (λ ne. subst (λ (c : ℕ). UpTo t c v.seen) (sym (get_or-set_other v.counts i t new 0 ne)) (o.high t h));
        noted = λ a p e. absurd (some-ne-none p (sym (ap (λ (ps : List Noted). get_elem? ps a) (sym running) ∙ e)));
        right = λ a h. subst (Right (first_board about) (after (first_board about) v.seen) v.written a) (sym (get_or-set_other s.words i (about.threads + a) new 0 (λ e. absurd (omega arith)))) (o.right a h);
      },
      refl,
    )

notes_new : (threads : ℕ) (counts : List ℕ) (p : Noted) (ps : List Noted) → (p.number < threads) × (get_or counts p.number 0 ≡ p.count) → ((j : ℕ) (q : Noted) → get_elem? ps j ≡ some q → (q.number < threads) × (get_or counts q.number 0 ≡ q.count))
    → (j : ℕ) (q : Noted) → get_elem? (p ∷ ps) j ≡ some q → (q.number < threads) × (get_or counts q.number 0 ≡ q.count)
notes_new threads counts p ps is old zero q e = subst (λ (z : Noted). (z.number < threads) × (get_or counts z.number 0 ≡ z.count)) (some-injective p q e) is
notes_new threads counts p ps is old (suc j) q e = old j q e

pub notes : (about : PlainPlan) (n id i : ℕ) (m : Sat) → i < m.0.threads → Allows (PlainKept about) n id m i (λ y. y) (noted (step n i 0 0 none) m)
notes about n id i m low s r long at fits =
    let x : ℕ = get_or s.words i 0 in let v = m.0 in let o = r.ok id v at in let t₀ = o.threads_are in
    let p : Noted = record { number = i; count = x } in let w : PlainView = record v { noted = p ∷ v.noted } in
    let is : x ≡ get_or v.counts i 0 = o.counts i (omega arith) in (
      w,
      keeps,
      tt,
      same_step about s r id i v w at record { threads_are = o.threads_are; first_is = o.first_is; based = o.based; long = o.long; counts = o.counts; high = o.high; noted = notes_new about.threads v.counts p v.noted (omega arith, sym is) o.noted; right = o.right },
      (is, subst (λ (c : ℕ). UpTo i c v.seen) (sym is) (o.high i (omega arith)), refl),
    )

puts : (about : PlainPlan) (n id i j new : ℕ) (m : Sat) (t : Tally) → i ≡ m.0.threads + j → j < size m.0.first
    → ((l : ℕ) → j ≡ 7 + l → ((cell_of new).base ≡ (cell_at (standing m.0) l).base) × Allowed (cell_of new) (new % 256))
    → Allows (PlainKept about) n id m i (λ _. new) (λ _ m'. m' ≡ (record m.0 { written = record { place = i - m.0.threads; word = new } ∷ m.0.written; tally = t }, m.1))
puts about n id i j new m t place low fine s r long at fits =
    let v = m.0 in let o = r.ok id v at in let t₀ = o.threads_are in let wide = r.wide in let first : Board = first_board about in let ws : List ℕ = set s.words i new in
    let o₀ : ℕ = i - v.threads in let at-j : o₀ ≡ j = omega arith in
    let low' : j < size first = subst (λ (f : Board). j < size f) o.first_is low in
    let lay = laid about s r v o in let started : Board = after first v.seen in let long-board = lay.long in
    let kept : Fine first j new = λ l e. let f = fine l e in
    let right : Right first started v.written (7 + l) (get_or s.words (about.threads + (7 + l)) 0) = o.right (7 + l) (omega arith) in
    let there : Stands (overlay started v.written) (7 + l) (get_or s.words (about.threads + (7 + l)) 0) = lay.stands (7 + l) (omega arith) in
    let old-base : (cell_at (overlay started v.written) l).base ≡ (cell_at first l).base = ap base_in (sym (there.location l refl).0) ∙ right_base first started v.written l (get_or s.words (about.threads + (7 + l)) 0) (same_base (plain.first_bases about) started first l lay.started r.first) right in
    (f.0 ∙ (ap (λ (b : Board). (cell_at b l).base) lay.is ∙ old-base), f.1) in
    let w : PlainView = record v { written = record { place = o₀; word = new } ∷ v.written; tally = t } in (
      w,
      keeps,
      tt,
      only_me about s r id v w ws at (length-set s.words i new) record {
        threads_are = o.threads_are;
        first_is = o.first_is;
        based = o.based;
        long = o.long;
        counts = λ t h. get_or-set_other s.words i t new 0 (λ e. absurd (omega arith)) ∙ o.counts t h;
        high = o.high;
        noted = o.noted;
        right = λ a h. (
          (λ e. let spot : about.threads + a ≡ i = omega arith in let same : j ≡ a = sym at-j ∙ e in
              let now : get_or ws (about.threads + a) 0 ≡ new = ap (λ (z : ℕ). get_or ws z 0) spot ∙ get_or-set_same s.words i new 0 (omega arith) in
              (now, subst (λ (z : ℕ × ℕ). Fine first z.0 z.1) (λ k. (same k, sym now k)) kept)),
          (λ ne. subst (Right first started v.written a) (sym (get_or-set_other s.words i (about.threads + a) new 0 (λ e. ne (omega arith)))) (o.right a h)),
        );
      },
      refl,
    )

pub stores : (about : PlainPlan) (n id i j new : ℕ) (m : Sat) → i ≡ m.0.threads + j → j < 7 → Allows (PlainKept about) n id m i (λ _. new) (λ _. stored (step n i new 0 none) m new)
stores about n id i j new m place low = puts about n id i j new m m.0.tally place (omega arith) (λ l e. absurd (omega arith))

pub rewrites : (about : PlainPlan) (n id i l new : ℕ) (m : Sat) → i ≡ m.0.threads + (7 + l) → l < length m.0.first.cells
    → (cell_of new).base ≡ (cell_at (standing m.0) l).base → Allowed (cell_of new) (new % 256) → Allows (PlainKept about) n id m i (λ _. new) (λ _. rewritten (step n i new 0 none) m new)
rewrites about n id i l new m place low base allowed = puts about n id i (7 + l) new m (rewritten_once m.0.tally) place (omega arith)
    (λ k e. let same : l ≡ k = omega arith in (base ∙ ap (λ (z : ℕ). (cell_at (standing m.0) z).base) same, allowed))

pub releases : (about : PlainPlan) (n id i : ℕ) (m : Sat) → ((t : ℕ) → t < m.0.threads → is_some (noted_of m.0.noted t) ≡ true) → Allows (PlainKept about) n id m i (λ y. y) (released (step n i 0 0 none) m)
releases about n id i m all-noted s r long at fits =
    let v = m.0 in let o = r.ok id v at in let t₀ = o.threads_are in let first : Board = first_board about in let lay = laid about s r v o in let long-board = lay.long in
    let started : Board = after first v.seen in let laid-size = overlay-size started v.written in let bases = lay.started in
    let stops : List ℕ = table v.threads (count_of v.noted) in let board : Board = standing v in let log' : List Mark = v.seen ++ Put stops board ∷ [] in
    let w : PlainView = record v { seen = log'; noted = []; written = [] } in
    let stop : (t : ℕ) → t < about.threads → get_or stops t 0 ≡ get_or v.counts t 0 = λ t h. table_at v.threads (count_of v.noted) t (omega arith)
    ∙ (let q = noted_there v.noted t (count_of v.noted t) (some_count v.noted t (all-noted t (omega arith))) in sym q.4 ∙ (sym (o.noted q.0 q.1 q.2).1 ∙ ap (λ (z : ℕ). get_or v.counts z 0) q.3)) in
    let laid-bases : map base_in (overlay started v.written).cells ≡ plain.first_bases about = bases_from (overlay started v.written).cells first.cells (laid-size.0 ∙ lay.long)
    (λ l h. ap base_in (sym ((lay.stands (7 + l) (omega arith)).location l refl).0) ∙ right_base first started v.written l (get_or s.words (about.threads + (7 + l)) 0) (same_base (plain.first_bases about) started first l bases r.first) (o.right (7 + l) (omega arith))) in
    let board-bases : HasBases (plain.first_bases about) board = subst (HasBases (plain.first_bases about)) (sym lay.is) record { bases_are = laid-bases; six = laid-size.1 ∙ bases.six } in (
      w,
      keeps,
      tt,
      same_step about s r id i v w at record {
        threads_are = o.threads_are;
        first_is = o.first_is;
        based = based-put (plain.first_bases about) v.seen stops board o.based board-bases;
        long = o.long;
        counts = o.counts;
        high = λ t h. upto-put t (get_or v.counts t 0) v.seen stops board (o.high t h) (omega (arith, stop t h));
        noted = λ j p f. absurd (some-ne-none p (sym f));
        right = λ j h. subst (λ (b : Board). Stands b j (get_or s.words (about.threads + j) 0)) (sym (after-put first v.seen stops board)) (subst (λ (b : Board). Stands b j (get_or s.words (about.threads + j) 0)) (sym lay.is) (lay.stands j h));
      },
      refl,
    )

-- ---- the beginning

zeros : (n : ℕ) (xs : List ℕ) (i : ℕ) → i < n → get_or (replicate n 0 ++ xs) i 0 ≡ 0
zeros zero xs i h = absurd (omega arith)
zeros (suc n) xs zero h = refl
zeros (suc n) xs (suc i) h = zeros n xs i (omega arith)

all_zeros : (n i : ℕ) → let zs : List ℕ = replicate n 0 in get_or zs i 0 ≡ 0
all_zeros zero i = refl
all_zeros (suc n) zero = refl
all_zeros (suc n) (suc i) = all_zeros n i

behind : (n : ℕ) (xs : List ℕ) (i : ℕ) → get_or (replicate n 0 ++ xs) (n + i) 0 ≡ get_or xs i 0
behind zero xs i = ap (λ (z : ℕ). get_or xs z 0) (omega arith)
behind (suc n) xs i = let e : suc n + i ≡ suc (n + i) = omega arith in ap (λ (z : ℕ). get_or (0 ∷ (replicate n 0 ++ xs)) z 0) e ∙ behind n xs i

dropped : (n : ℕ) (xs : List ℕ) → drop n (replicate n 0 ++ xs) ≡ xs
dropped zero xs = refl
dropped (suc n) xs = dropped n xs

zeros_length : (n : ℕ) (xs : List ℕ) → length (replicate n 0 ++ xs) ≡ n + length xs
zeros_length zero xs = omega arith
zeros_length (suc n) xs = omega (arith, zeros_length n xs)

counts_length : (n : ℕ) → let zs : List ℕ = replicate n 0 in length zs ≡ n
counts_length zero = refl
counts_length (suc n) = omega (arith, counts_length n)

pub board_is : (about : PlainPlan) (first : List ℕ) → about.words.value.items ≡ replicate about.threads 0 ++ first → first_board about ≡ board_of first
board_is about first e = ap (λ (z : List ℕ). board_of (drop about.threads z)) e ∙ ap board_of (dropped about.threads first)

only_one : (about : PlainPlan) (ws : List ℕ) (v : PlainView) (k : ℕ) (u : PlainView) → get_elem? (v ∷ []) k ≡ some u → PlainOk about ws v → PlainOk about ws u
only_one about ws v zero u e ok = subst (PlainOk about ws) (some-injective v u e) ok
only_one about ws v (suc k) u e ok = absurd (some-ne-none u (sym e))

pub starts : (about : PlainPlan) (first : List ℕ) → about.words.value.items ≡ replicate about.threads 0 ++ first → IsFirst first
    → PlainKept about (opening (replicate about.threads 0 ++ first) [] (starting about))
starts about first is lawful =
    let n : ℕ = about.threads in let ws : List ℕ = replicate n 0 ++ first in let board = board_is about first is in let enough = lawful.long in
    let long : length (first_board about).cells ≡ length first - 7 = ap (λ (b : Board). length b.cells) board ∙ board-length first in
    record {
      wide = omega (arith, zeros_length n first);
      one = refl;
      first = first_bases (drop n about.words.value.items) (let e : length (drop n about.words.value.items) ≡ length first = ap (λ (z : List ℕ). length (drop n z)) is ∙ ap length (dropped n first) in omega arith);
      ok = λ k u e. only_one about ws (starting about) k u e record {
        threads_are = refl;
        first_is = refl;
        based = tt;
        long = counts_length n;
        counts = λ t h. zeros n first t h ∙ sym (all_zeros n t);
        high = λ t h. tt;
        noted = λ j p f. absurd (some-ne-none p (sym f));
        right = λ j h. subst (λ (z : Board × ℕ). Stands z.0 j z.1) (λ i. (sym board i, sym (behind n first j) i)) (first_stands first lawful j (subst (λ (b : Board). j < size b) board h));
      };
    }
