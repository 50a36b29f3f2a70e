-- A board whose words were made those of a configuration is that of the configuration.
use Rattle.std.proofs.Common.{◌≡◌, ℕ, ◌<◌, ◌-◌, ◌++◌, Bool, true, false, not, ◌||◌, cond, eqb, List, length, get_or, Option, Some, None, refl, sym, ap, ◌∙◌, arith}
use Rattle.std.proofs.lemmas.Nat.Bits.{bit_at_ones}
use Rattle.mon_events.specs.Events.{place, slot_number}
use Rattle.mon_events.specs.declared.event.Event.{Event}
use Rattle.mon_events.specs.declared.event.Slot.{Slot}
use Rattle.mon_words.specs.Words.{is_bit}
use Rattle.mon_words.specs.History.{no_cell, cell_at}
use Rattle.mon_words.specs.Halted.{Halt}
use Rattle.mon_words.specs.declared.history.Board.{Board}
use Rattle.mon_words.specs.declared.history.Cell.{Cell}
use Rattle.mon_events.specs.Sets.{slot_of, tool_of}
use Rattle.mon_code.specs.declared.site.Site.{Site}
use Rattle.mon_code.specs.Sites.{site_at}
use Rattle.mon_history.specs.Configuration.{Configuration}
use Rattle.mon_history.specs.Stands.{wants_bit, wanted_one, globals, BoardOf}
use Rattle.mon_events.proofs.Bits.{packed_bit, slot_back}
use Rattle.mon_history.proofs.Replays.{SameSets, board_by_sets}
use Rattle.mon_instrument.specs.Due.{chosen, differs, walked_also, due_want, due_live, due_cell, is_reached, reached_cell, Walked, Worded, IsLaidOut, Applied}
use Rattle.mon_instrument.specs.declared.walking.Reach.{Reach}

pub place_lt : (s : Slot) (t : ℕ) → t < 6 → place s t < 24
place_lt Slot.Line t h = omega arith
place_lt Slot.Instruction t h = omega arith
place_lt Slot.Main t h = omega arith
place_lt Slot.Spare t h = omega arith

pub want_bit : (C : Configuration) (site : Site) (s : Slot) (t : ℕ) → t < 6 → is_bit (due_want C site) (place s t) ≡ wants_bit C site s t
want_bit C site s t h =
    let a : slot_of (place s t) ≡ s = slot_back s t (place s t) h refl in
    let b : tool_of (place s t) ≡ t = let n = ap slot_number a in omega arith in
    packed_bit (λ k. wants_bit C site (slot_of k) (tool_of k)) 24 (place s t) (place_lt s t h) ∙ (λ i. wants_bit C site (a i) (b i))

-- the live bits where all are set
pub live_all : (n : ℕ) (s : Slot) (t : ℕ) → t < 6 → is_bit (due_live true n) (place s t) ≡ true
live_all n s t low = ap (λ z. eqb z 1) (bit_at_ones 24 (place s t) (place_lt s t low))

-- the live bits of a board that was that of a configuration D are those of one with E's disables
abbrev pub LivesAre : List Site → Bool → Configuration → Board → Type 0
LivesAre sites all E b = (l : ℕ) (s : Slot) (t : ℕ) → l < length sites → t < 6 → is_bit (due_live all (cell_at b l).live) (place s t) ≡ not (E.off l s t)

pub lives_kept : (sites : List Site) (D E : Configuration) (b : Board) → BoardOf sites D b → D.off ≡ E.off → LivesAre sites false E b
lives_kept sites D E b o e l s t h low = o.lives l s t h low ∙ ap (λ z. not (z l s t)) e

pub lives_all : (sites : List Site) (E : Configuration) (b : Board) → (λ (l : ℕ) (s : Slot) (t : ℕ). false) ≡ E.off → LivesAre sites true E b
lives_all sites E b e l s t h low = live_all (cell_at b l).live s t low ∙ ap (λ z. not (z l s t)) e

-- where a location is not reached its want bits and live bits stay as they are
abbrev pub Stays : List Site → Reach → Bool → Configuration → Board → Type 0
Stays sites reach all C b = (l : ℕ) (s : Slot) (t : ℕ) → l < length sites → t < 6 → is_reached reach (site_at sites l) ≡ false
    → (is_bit (cell_at b l).want (place s t) ≡ wants_bit C (site_at sites l) s t) × (all ≡ false)

reached_want : (C : Configuration) (site : Site) (reach : Bool) (all : Bool) (c : Cell) (s : Slot) (t : ℕ) → t < 6 → (reach ≡ false → is_bit c.want (place s t) ≡ wants_bit C site s t)
    → is_bit (cond reach (due_cell C site all c) c).want (place s t) ≡ wants_bit C site s t
reached_want C site true all c s t low h = want_bit C site s t low
reached_want C site false all c s t low h = h refl

reached_live : (C : Configuration) (site : Site) (reach : Bool) (all : Bool) (c : Cell) → (reach ≡ false → all ≡ false) → (cond reach (due_cell C site all c) c).live ≡ due_live all c.live
reached_live C site true all c h = refl
reached_live C site false all c h = ap (λ (b : Bool). due_live b c.live) (sym (h refl))

-- a walk within a reach, and then the other words
pub board_after : (sites : List Site) (C E : Configuration) (reach : Reach) (all : Bool) (h g k : Halt) → SameSets C E → IsLaidOut sites h.board → Stays sites reach all C h.board → LivesAre sites all E h.board
    → Walked (reached_cell C sites reach all) (λ l. is_reached reach (site_at sites l)) 0 (length sites) h g → Worded C 6 g k → BoardOf sites E k.board
board_after sites C E reach all h g k same o stays live w v =
    let cells : k.board.cells ≡ w.cells = ap (λ (z : Halt). z.board.cells) v.is ∙ ap (λ (z : Halt). z.board.cells) w.is in
    let at : (l : ℕ) → l < length sites → cell_at k.board l ≡ reached_cell C sites reach all l (cell_at h.board l) = λ l low. ap (λ (z : List Cell). get_or z l no_cell) cells ∙ w.inside l (omega arith) low in
    let reached : ℕ → Bool = λ l. is_reached reach (site_at sites l) in
    board_by_sets sites (record C { off = E.off }) E k.board (record { wants = same.wants; local = same.local; calls = same.calls }) refl (record {
      wide = ap length cells ∙ (w.wide ∙ o.wide);
      six = ap (λ (z : Halt). length z.board.callbacks) v.is ∙ (v.six ∙ (ap (λ (z : Halt). length z.board.callbacks) w.is ∙ o.six));
      bases = λ l low. ap (λ (z : Cell). z.base) (at l low) ∙ (base_kept (site_at sites l) (reached l) (cell_at h.board l) ∙ o.bases l low);
      wants = λ l s t low tool. ap (λ (z : Cell). is_bit z.want (place s t)) (at l low) ∙ reached_want C (site_at sites l) (reached l) all (cell_at h.board l) s t tool (λ e. (stays l s t low tool e).0);
      lives = λ l s t low tool. ap (λ (z : Cell). is_bit z.live (place s t)) (at l low)
          ∙ (ap (λ n. is_bit n (place s t)) (reached_live C (site_at sites l) (reached l) all (cell_at h.board l) (λ e. (stays l s t low tool e).1)) ∙ live l s t low tool);
      global_is = ap (λ (z : Halt). z.board.global) v.is;
      callbacks_are = λ t tool. ap (λ (z : Halt). get_or z.board.callbacks t 0) v.is ∙ v.callbacks_are t tool;
    })
  where
    base_kept : (site : Site) (r : Bool) (c : Cell) → (cond r (due_cell C site all c) c).base ≡ c.base
    base_kept site true c = refl
    base_kept site false c = refl

-- everything is reached
pub all_stay : (sites : List Site) (all : Bool) (C : Configuration) (b : Board) → Stays sites Reach.Everywhere all C b
all_stay sites all C b l s t low tool e = absurd (cc)

pub wanted_as : (C D : Configuration) (t code : ℕ) (o : Option Event) → ((e : Event) → (C.wants t e || C.local t code e) ≡ (D.wants t e || D.local t code e)) → wanted_one C t code o ≡ wanted_one D t code o
wanted_as C D t code (Some e) h = h e
wanted_as C D t code None h = refl

-- all words of a configuration: a walk over all locations, and then the other words
pub applied : (sites : List Site) (C : Configuration) (all : Bool) (h g k : Halt) → IsLaidOut sites h.board → Walked (reached_cell C sites Reach.Everywhere all) (λ l. is_reached Reach.Everywhere (site_at sites l)) 0 (length sites) h g → Worded C 6 g k → Applied sites C all h k
applied sites C all h g k o w v =
    let cells : k.board.cells ≡ w.cells = ap (λ (z : Halt). z.board.cells) v.is ∙ ap (λ (z : Halt). z.board.cells) w.is in
    let at : (l : ℕ) → l < length sites → cell_at k.board l ≡ due_cell C (site_at sites l) all (cell_at h.board l) = λ l low. ap (λ (z : List Cell). get_or z l no_cell) cells ∙ w.inside l (omega arith) low in
    let whole : length sites - 0 ≡ length sites = omega arith in record {
      board = k.board;
      more = w.more;
      is = v.is ∙ (ap (λ (z : Halt). record z { board = record z.board { global = globals C; callbacks = v.words } }) w.is
          ∙ (λ i. record h { board = record { global = sym (ap (λ (z : Halt). z.board.global) v.is) i; callbacks = sym (ap (λ (z : Halt). z.board.callbacks) v.is) i; cells = sym cells i }; written = h.written ++ w.more; tally = walked_also h.tally (chosen (λ _. true) 0 (whole i)) (length w.more) }));
      laid = record {
        wide = ap length cells ∙ (w.wide ∙ o.wide);
        six = ap (λ (z : Halt). length z.board.callbacks) v.is ∙ (v.six ∙ (ap (λ (z : Halt). length z.board.callbacks) w.is ∙ o.six));
        bases = λ l low. ap (λ (z : Cell). z.base) (at l low) ∙ o.bases l low;
      };
      cells = at;
      global_is = ap (λ (z : Halt). z.board.global) v.is;
      callbacks_are = λ t low. ap (λ (z : Halt). get_or z.board.callbacks t 0) v.is ∙ v.callbacks_are t low;
      normals = w.normals;
      stored = w.stored ∙ ap (chosen (λ l. differs (due_cell C (site_at sites l) all (cell_at h.board l)) (cell_at h.board l)) 0) whole;
    }
