-- The first words of a program are those of the empty configuration.
use Rattle.std.proofs.Common.{◌≡◌, ℕ, zero, suc, ◌+◌, ◌*◌, ◌/◌, ◌%◌, ◌<◌, false, List, [], ◌∷◌, map, length, get_or, Option, Some, None, refl, sym, ap, ◌∙◌, arith}
use Rattle.std.proofs.lemmas.List.{length-map}
use Rattle.mon_events.specs.Events.{place}
use Rattle.mon_events.specs.Sets.{packed, is_bit}
use Rattle.mon_events.specs.declared.event.Event.{Event}
use Rattle.mon_events.specs.declared.event.Slot.{Slot}
use Rattle.mon_events.proofs.Bits.{packed_bit}
use Rattle.mon_code.specs.Checked.{IsChecked}
use Rattle.mon_code.specs.Programs.{Parts}
use Rattle.mon_code.specs.Sites.{site_at, slot_event, sites_of}
use Rattle.mon_code.specs.declared.site.Site.{Site}
use Rattle.mon_code.proofs.Sites.{sites_long, site_there}
use Rattle.mon_words.specs.Words.{cell_of, first_word, first_words}
use Rattle.mon_words.specs.History.{no_cell, cell_at}
use Rattle.mon_words.specs.Standing.{board_of}
use Rattle.mon_words.specs.declared.history.Cell.{Cell}
use Rattle.mon_history.specs.Configuration.{nothing}
use Rattle.mon_history.specs.Stands.{wanted_one, globals, callbacks, BoardOf}
use Rattle.mon_instrument.specs.Laws.{FirstWordsStand}
use Rattle.mon_instrument.proofs.Codes.{owner, starts, codes_all}
use Rattle.mon_instrument.proofs.Standing.{place_lt, live_all}

parts : (b : ℕ) → b < 256 → let n = b + b * 256 + 0 * 65536 + 16777215 * 1099511627776 in (n / 256 % 256 ≡ b) × (n / 65536 % 16777216 ≡ 0) × (n / 1099511627776 ≡ 16777215)
parts b h = (omega arith, omega arith, omega arith)

abbrev bare : ℕ → Cell
bare b = record { base = b; want = 0; live = 16777215 }

cells_at : (bases : List ℕ) → ((l : ℕ) → get_or bases l 0 < 256) → (l : ℕ) → l < length bases → get_or (map cell_of (map first_word bases)) l no_cell ≡ bare (get_or bases l 0)
cells_at [] h l low = absurd (omega arith)
cells_at (b ∷ bs) h zero low = let p = parts b (h zero) in λ i. record { base = p.0 i; want = p.1 i; live = p.2 i }
cells_at (b ∷ bs) h (suc l) low = cells_at bs (λ n. h (suc n)) l (omega arith)

site_base : (p : Parts) (m : ℕ) → IsChecked p → m < length (sites_of p) → (site_at (sites_of p) m).base ≡ get_or p.bases m 0
site_base p m is h =
    let o = owner p.bases 0 p.codes m is.codes (omega (arith, codes_all p is)) in
    let f = starts p.bases 0 p.codes o.0 o.1 is.codes o.4 in
    let n : o.1.first + o.2 ≡ m = omega (arith, f, o.6) in
    let s = site_there p o.0 o.1 o.2 o.3 is o.4 o.5 in
    ap (λ z. (site_at (sites_of p) z).base) (sym n) ∙ (ap (λ (x : Site). x.base) s ∙ ap (λ z. get_or p.bases z 0) n)

none_wanted : (t code : ℕ) (o : Option Event) → false ≡ wanted_one nothing t code o
none_wanted t code (Some e) = refl
none_wanted t code None = refl

no_bits : packed (λ _. false) 24 ≡ 0
unfolding packed
no_bits = refl

no_bit : (k : ℕ) → k < 24 → is_bit 0 k ≡ false
no_bit k h = ap (λ z. is_bit z k) (sym no_bits) ∙ packed_bit (λ _. false) 24 k h

no_globals : 0 ≡ globals nothing
unfolding packed
no_globals = refl

no_callbacks : (t : ℕ) → 0 ≡ callbacks nothing t
unfolding packed
no_callbacks t = refl

abbrev six_zeros : List ℕ
six_zeros = 0 ∷ 0 ∷ 0 ∷ 0 ∷ 0 ∷ 0 ∷ []

zeros : (t : ℕ) → get_or six_zeros t 0 ≡ 0
zeros zero = refl
zeros (suc zero) = refl
zeros (suc (suc zero)) = refl
zeros (suc (suc (suc zero))) = refl
zeros (suc (suc (suc (suc zero)))) = refl
zeros (suc (suc (suc (suc (suc zero))))) = refl
zeros (suc (suc (suc (suc (suc (suc t)))))) = refl

first_board : (p : Parts) → IsChecked p → ((l : ℕ) → get_or p.bases l 0 < 256) → BoardOf (sites_of p) nothing (board_of (first_words p.bases))
first_board p is bytes =
    let at : (l : ℕ) → l < length (sites_of p) → cell_at (board_of (first_words p.bases)) l ≡ bare (get_or p.bases l 0) = λ l low. cells_at p.bases bytes l (omega (arith, sites_long p is)) in record {
      wide = length-map (map first_word p.bases) cell_of ∙ (length-map p.bases first_word ∙ sym (sites_long p is));
      six = refl;
      bases = λ l low. ap (λ (c : Cell). c.base) (at l low) ∙ sym (site_base p l is low);
      wants = λ l s t low tool. ap (λ (c : Cell). is_bit c.want (place s t)) (at l low) ∙ (no_bit (place s t) (place_lt s t tool) ∙ none_wanted t (site_at (sites_of p) l).code (slot_event (site_at (sites_of p) l) s));
      lives = λ l s t low tool. ap (λ (c : Cell). is_bit c.live (place s t)) (at l low) ∙ live_all 0 s t tool;
      global_is = no_globals;
      callbacks_are = λ t low. zeros t ∙ no_callbacks t;
    }

pub first_stands : FirstWordsStand
first_stands p is bytes = record { begins = first_board p is bytes; boards = refl; boards_are = λ k counts b e. absurd (cc) }
