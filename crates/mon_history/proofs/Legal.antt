-- A thread that reads a word history by its words reads the history of changes and disables legally.
use Rattle.std.proofs.Common.{◌≡◌, ℕ, zero, suc, ◌+◌, ◌<◌, ◌≤◌, Bool, true, false, List, [], ◌∷◌, ◌++◌, length, take, get_or, cond, eqb, Some, slice_get, sym, refl, ap, ◌∙◌, arith}
use Rattle.mon_events.specs.declared.event.Slot.{Slot}
use Rattle.mon_events.specs.Events.{place}
use Rattle.mon_events.specs.Sets.{slot_of, tool_of}
use Rattle.mon_events.proofs.Bits.{place_slot, place_tool}
use Rattle.mon_code.specs.declared.site.Site.{Site}
use Rattle.mon_words.specs.History.{after, offs, puts}
use Rattle.mon_words.specs.declared.history.Board.{Board}
use Rattle.mon_words.specs.declared.history.Mark.{Mark}
use Rattle.mon_words.specs.declared.history.Mark.TheVariants.{Off, Put}
use Rattle.mon_recorders.specs.declared.happening.Happening.{Happening}
use Rattle.mon_recorders.specs.declared.happening.Kind.{Kind}
use Rattle.mon_recorders.specs.declared.record.Record.{Record}
use Rattle.mon_recorders.specs.declared.record.Disabled.{Disabled}
use Rattle.mon_recorders.specs.Happenings.{delivered, for_tools, answers, records_in, disables_in}
use Rattle.mon_recorders.specs.Readings.{in_turn, Between, Reader, read_at, entries_by}
use Rattle.mon_recorders.specs.Boards.{let_through, mark_of, mark_at, reader as word_reader}
use Rattle.mon_recorders.specs.Proper.{IsProper, AreProper}
use Rattle.mon_recorders.proofs.Spans.{in_turn_same}
use Rattle.mon_history.specs.declared.journal.Entry.{Entry}
use Rattle.mon_history.specs.declared.journal.JournalLine.{JournalLine}
use Rattle.mon_history.specs.Heard.{heard_by}
use Rattle.mon_history.specs.Histories.{config_after, entries}
use Rattle.mon_history.specs.Readings.{own, entry_at, entry_of, reader, Reads, LegalReading}
use Rattle.mon_history.specs.Stands.{StandsFor}
use Rattle.mon_history.specs.Laws.{ReadLegally}
use Rattle.mon_history.proofs.Boards.{entries-length, entries-take}
use Rattle.mon_history.proofs.Listening.{delivered_same, lets_through}

-- disables alone, as entries
entries_behind : (n : ℕ) (xs ys : List Mark) → puts xs ≡ [] → entries n (xs ++ ys) ≡ entries n xs ++ entries n ys
entries_behind n [] ys e = refl
entries_behind n (Off t l k ∷ ms) ys e = ap (λ z. Entry.Disable t l (slot_of k) (tool_of k) ∷ z) (entries_behind n ms ys e)
entries_behind n (Put c b ∷ ms) ys e = absurd (cc)

puts_append : (xs ys : List Mark) → puts xs ≡ [] → puts ys ≡ [] → puts (xs ++ ys) ≡ []
puts_append [] ys e f = f
puts_append (Off t l k ∷ ms) ys e f = puts_append ms ys e f
puts_append (Put c b ∷ ms) ys e f = absurd (cc)

mark_none : (k : Kind) (t tool : ℕ) → puts (mark_at k t tool ∷ []) ≡ []
mark_none (Kind.Local l s) t tool = refl
mark_none (Kind.Ancillary l) t tool = refl
mark_none Kind.Global t tool = refl

mark_entry : (k : Kind) (t tool : ℕ) → tool < 6 → entries 0 (mark_at k t tool ∷ []) ≡ entry_at k t tool ∷ []
mark_entry (Kind.Local l s) t tool h = let a = place_slot s tool h in let b = place_tool s tool h in λ i. Entry.Disable t l (a i) (b i) ∷ []
mark_entry (Kind.Ancillary l) t tool h = let z : place Slot.Line tool ≡ tool = omega arith in
    let a : slot_of tool ≡ Slot.Line = ap slot_of (sym z) ∙ place_slot Slot.Line tool h in let b : tool_of tool ≡ tool = ap tool_of (sym z) ∙ place_tool Slot.Line tool h in λ i. Entry.Disable t l (a i) (b i) ∷ []
mark_entry Kind.Global t tool h = let z : place Slot.Line tool ≡ tool = omega arith in
    let a : slot_of tool ≡ Slot.Line = ap slot_of (sym z) ∙ place_slot Slot.Line tool h in let b : tool_of tool ≡ tool = ap tool_of (sym z) ∙ place_tool Slot.Line tool h in λ i. Entry.Disable t 0 (a i) (b i) ∷ []

one_none : (b : Bool) (e : Happening) (t tool : ℕ) → puts (cond b (mark_of t e tool ∷ []) []) ≡ []
one_none true e t tool = mark_none e.kind t tool
one_none false e t tool = refl

one_entry : (b : Bool) (e : Happening) (t tool : ℕ) → tool < 6 → entries 0 (cond b (mark_of t e tool ∷ []) []) ≡ cond b (entry_of t e tool ∷ []) []
one_entry true e t tool h = mark_entry e.kind t tool h
one_entry false e t tool h = refl

tools_none : (test : ℕ → Bool) (e : Happening) (t n : ℕ) → puts (for_tools test (mark_of t e) n) ≡ []
unfolding for_tools
tools_none test e t zero = refl
tools_none test e t (suc n) = puts_append (for_tools test (mark_of t e) n) (cond (test n) (mark_of t e n ∷ []) []) (tools_none test e t n) (one_none (test n) e t n)

tools_entries : (test : ℕ → Bool) (e : Happening) (t n : ℕ) → n ≤ 6 → entries 0 (for_tools test (mark_of t e) n) ≡ for_tools test (entry_of t e) n
unfolding for_tools
tools_entries test e t zero h = refl
tools_entries test e t (suc n) h =
    let a = tools_entries test e t n (omega arith) in let b = one_entry (test n) e t n (omega arith) in
    entries_behind 0 (for_tools test (mark_of t e) n) (cond (test n) (mark_of t e n ∷ []) []) (tools_none test e t n) ∙ (λ i. a i ++ b i)

pub made_none : (test : ℕ → Happening → Bool) (t : ℕ) (es : List Happening) → puts (delivered test (mark_of t) es) ≡ []
made_none test t [] = refl
made_none test t (e ∷ es) = puts_append (for_tools (λ u. test u e) (mark_of t e) 6) (delivered test (mark_of t) es) (tools_none (λ u. test u e) e t 6) (made_none test t es)

-- the marks of a step, as entries
pub made_entries : (test : ℕ → Happening → Bool) (t : ℕ) (es : List Happening) → entries 0 (delivered test (mark_of t) es) ≡ delivered test (entry_of t) es
made_entries test t [] = refl
made_entries test t (e ∷ es) =
    let a = tools_entries (λ u. test u e) e t 6 (omega arith) in let b = made_entries test t es in
    entries_behind 0 (for_tools (λ u. test u e) (mark_of t e) 6) (delivered test (mark_of t) es) (tools_none (λ u. test u e) e t 6) ∙ (λ i. a i ++ b i)

turn_none : (f : ℕ → List Mark) (n : ℕ) → ((k : ℕ) → puts (f k) ≡ []) → puts (in_turn f n) ≡ []
unfolding in_turn
turn_none f zero h = refl
turn_none f (suc n) h = puts_append (in_turn f n) (f n) (turn_none f n h) (h n)

turn_entries : (f : ℕ → List Mark) (n : ℕ) → ((k : ℕ) → puts (f k) ≡ []) → entries 0 (in_turn f n) ≡ in_turn (λ k. entries 0 (f k)) n
unfolding in_turn
turn_entries f zero h = refl
turn_entries f (suc n) h = entries_behind 0 (in_turn f n) (f n) (turn_none f n h) ∙ ap (λ z. z ++ entries 0 (f n)) (turn_entries f n h)

own_one : (b : Bool) (m : Mark) (e : Entry) (ms : List Mark) (H : List Entry) → entries 0 (m ∷ ms) ≡ e ∷ entries 0 ms → H ≡ entries 0 ms → cond b (e ∷ H) H ≡ entries 0 (cond b (m ∷ ms) ms)
own_one true m e ms H is h = ap (λ z. e ∷ z) h ∙ sym is
own_one false m e ms H is h = h

pub own_entries : (t n : ℕ) (W : List Mark) → own t (entries n W) ≡ entries 0 (offs t W)
own_entries t n [] = refl
own_entries t n (Off u l k ∷ ms) = own_one (eqb u t) (Off u l k) (Entry.Disable u l (slot_of k) (tool_of k)) (offs t ms) (own t (entries n ms)) refl (own_entries t n ms)
own_entries t n (Put c b ∷ ms) = own_entries t (suc n) ms

not_change : (t l u number : ℕ) (s : Slot) (counts : List ℕ) → Some (Entry.Disable t l s u) ≡ Some (Entry.Change number counts) → ⊥
not_change t l u number s counts e = cc

change_at : (n k : ℕ) (W : List Mark) (number : ℕ) (counts : List ℕ) → slice_get (entries n W) k ≡ Some (Entry.Change number counts) → (b : Board) × (slice_get W k ≡ Some (Put counts b))
change_at n k [] number counts e = absurd (cc)
change_at n zero (Off t l j ∷ ms) number counts e = absurd (not_change t l (tool_of j) number (slot_of j) counts e)
change_at n (suc k) (Off t l j ∷ ms) number counts e = change_at n k ms number counts e
change_at n zero (Put c b ∷ ms) number counts e = let q : c ≡ counts = cc in (b, ap (λ z. Some (Put z b)) q)
change_at n (suc k) (Put c b ∷ ms) number counts e = change_at (suc n) k ms number counts e

low_at : (low : ℕ) (at : List ℕ) (high i : ℕ) → Between low at high → i < length at → get_or at i 0 ≤ high
low_at low [] high i b h = absurd (omega arith)
low_at low (p ∷ ps) high zero b h = ends p ps high b.1
  where
    ends : (low : ℕ) (ps : List ℕ) (high : ℕ) → Between low ps high → low ≤ high
    ends low [] high b = b
    ends low (q ∷ qs) high b = let h = ends q qs high b.1 in omega (arith, b.0)
low_at low (p ∷ ps) high (suc i) b h = low_at p ps high i b.1 (omega arith)

module _ (sites : List Site) (J : List JournalLine) (first : Board) (W : List Mark) (t : ℕ) (events : ℕ → List Happening) (at : List ℕ) (records : List Record) (disables : List Disabled)
    (s : StandsFor sites J first W) (proper : (i : ℕ) → i < length at → AreProper sites (events i)) (r : Reads t first events at W records disables) where
  abbrev pub H : List Entry
  H = entries 0 W

  position : (i : ℕ) → i < length at → get_or at i 0 ≤ length W
  position i h = low_at 0 at (length W) i r.span.between h

  config_is : (p : ℕ) → heard_by (config_after J (entries 0 (take p W))) sites ≡ heard_by (config_after J (take p H)) sites
  config_is p = ap (λ z. heard_by (config_after J z) sites) (sym (entries-take 0 p W))

  step_entries : (k : ℕ) → k < length at → entries 0 (delivered (answers (let_through (after first (take (get_or at k 0) W)))) (mark_of t) (events k)) ≡ delivered (answers (heard_by (config_after J (take (get_or at k 0) H)) sites)) (entry_of t) (events k)
  step_entries k h =
      let p : ℕ = get_or at k 0 in let x = lets_through sites J first W p s (position k h) in
      made_entries (answers (let_through (after first (take p W)))) t (events k)
      ∙ (delivered_same (answers (let_through (after first (take p W)))) (answers (heard_by (config_after J (entries 0 (take p W))) sites)) (entry_of t) sites (events k) (proper k h) (λ e q u l. x.answers_are e u q l)
      ∙ ap (λ f. delivered (answers f) (entry_of t) (events k)) (config_is p))

  made_is : (m : ℕ) → m ≤ length at → entries 0 (entries_by (word_reader t first) W at events m) ≡ entries_by (reader sites J t) H at events m
  made_is m l =
      turn_entries (λ k. delivered (answers (let_through (after first (take (get_or at k 0) W)))) (mark_of t) (events k)) m (λ k. made_none (answers (let_through (after first (take (get_or at k 0) W)))) t (events k))
      ∙ in_turn_same (λ k. entries 0 (delivered (answers (let_through (after first (take (get_or at k 0) W)))) (mark_of t) (events k))) (λ k. delivered (answers (heard_by (config_after J (take (get_or at k 0) H)) sites)) (entry_of t) (events k)) m
      (λ k h. step_entries k (omega arith))

  own_take : (p : ℕ) → own t (take p H) ≡ entries 0 (offs t (take p W))
  own_take p = ap (own t) (entries-take 0 p W) ∙ own_entries t 0 (take p W)

  between_is : Between 0 at (length H)
  between_is = let e = entries-length 0 W in Rattle.std.proofs.Common.subst (λ (z : ℕ). Between 0 at z) (sym e) r.span.between

  pub legal : LegalReading sites J (entries 0 W) t events at records disables
  legal = record {
    span = record {
      more = H;
      grown = refl;
      between = between_is;
      own_all = own_entries t 0 W ∙ (ap (entries 0) r.span.own_all ∙ made_is (length at) (omega arith));
      own_read = λ k h. own_take (get_or at k 0) ∙ (ap (entries 0) (r.span.own_read k h) ∙ made_is k (omega arith));
      records_are = r.span.records_are ∙ in_turn_same (λ k. records_in (let_through (after first (take (get_or at k 0) W))) (0 + k) (events k)) (λ k. records_in (heard_by (config_after J (take (get_or at k 0) H)) sites) (0 + k) (events k)) (length at)
          (λ k h. (lets_through sites J first W (get_or at k 0) s (position k h)).records (0 + k) (events k) (proper k h) ∙ ap (λ f. records_in f (0 + k) (events k)) (config_is (get_or at k 0)));
      disables_are = r.span.disables_are ∙ in_turn_same (λ k. disables_in (let_through (after first (take (get_or at k 0) W))) (0 + k) (events k)) (λ k. disables_in (heard_by (config_after J (take (get_or at k 0) H)) sites) (0 + k) (events k)) (length at)
          (λ k h. (lets_through sites J first W (get_or at k 0) s (position k h)).disables (0 + k) (events k) (proper k h) ∙ ap (λ f. disables_in f (0 + k) (events k)) (config_is (get_or at k 0)));
    };
    changes = λ k number counts e. let b = change_at 0 k W number counts e in r.changes k counts b.0 b.1;
    own_changes = λ k number counts e. let b = change_at 0 k W number counts e in let few = (r.changes k counts b.0 b.1).0 in
        own_take k ∙ (ap (entries 0) (r.own_changes k counts b.0 b.1) ∙ made_is (get_or counts t 0) few);
  }

pub read_legally : ReadLegally
read_legally sites J first W t events at records disables s proper r = legal sites J first W t events at records disables s proper r
