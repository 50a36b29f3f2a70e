-- Events of which some are left out, since no tool asks for them.
use Rattle.std.proofs.Common.{inl, inr, ◌≡◌, ℕ, ◌*◌, ◌/◌, ◌%◌, ◌^◌, ◌<◌, nat_lt, Bool, true, false, ◌&&◌, ◌||◌, IsTrue, List, [], ◌∷◌, ◌++◌, length, take, get_or, refl, sym, ap, ◌∙◌, subst, arith, bit_and}
use Rattle.std.specs.Prelude.{Some}
use Rattle.std.proofs.lemmas.Bool.Decides.{nat_tests}
use Rattle.mon_events.specs.declared.event.Slot.{Slot}
use Rattle.mon_events.specs.Events.{slot_number, rank}
use Rattle.mon_words.specs.Words.{cell_of, enabled_in, is_bit, is_enabled, is_wanted, is_called}
use Rattle.mon_words.specs.History.{after, cell_at, offs}
use Rattle.mon_words.specs.Told.{Told, Grows}
use Rattle.mon_words.specs.declared.tally.Load.{Load}
use Rattle.mon_words.specs.declared.history.Board.{Board}
use Rattle.mon_words.specs.declared.history.Mark.{Mark}
use Rattle.mon_recorders.specs.declared.happening.Happening.{Happening}
use Rattle.mon_recorders.specs.declared.record.Record.{Record}
use Rattle.mon_recorders.specs.declared.record.Disabled.{Disabled}
use Rattle.mon_recorders.specs.Happenings.{answers, delivered, for_tools, is_global_kind}
use Rattle.mon_recorders.specs.Boards.{let_through, mark_of, is_enabled_by, AreReadBy, AreAt}
use Rattle.mon_recorders.proofs.Folds.{for_tools_never, for_tools_same}
use Rattle.mon_hear.specs.Words.{any_global, any_enabled, callback_loads, IsAskedPart}
use Rattle.mon_hear.specs.Hearing.{Heard, UnwindingHeard, AreGlobal}
use Rattle.mon_hear.proofs.Agreeing.{enabled_same, or_left, or_right}
use Rattle.mon_hear.proofs.Passing.{global_read}
use Rattle.mon_hear.proofs.Steps.{whole}
use Rattle.mon_hear.proofs.Bits.{six_bits, slot_bits, no_bit}

-- ---- what no tool asks for

not_above : (n : ℕ) → nat_lt 0 n ≡ false → n ≡ 0
not_above n e = grind (arith, nat_tests)

pub slot_unasked : (word : ℕ) (s : Slot) → nat_lt 0 (enabled_in (cell_of word) (slot_number s)) ≡ false → (t : ℕ) → t < 6 → is_enabled (cell_of word) s t ≡ false
slot_unasked word s e t h =
    let n : ℕ = bit_and (word / 65536 % 16777216) (word / 1099511627776) in
    sym (slot_bits word s t) ∙ (sym (six_bits n (6 * slot_number s) t h) ∙ (ap (λ z. is_bit z t) (not_above (n / 2 ^ (6 * slot_number s) % 64) e) ∙ no_bit t))

pub global_unasked : (global rank : ℕ) → nat_lt 0 (global / 2 ^ (6 * rank) % 64) ≡ false → (t : ℕ) → t < 6 → is_wanted global (Some rank) t ≡ false
global_unasked global rank e t h = sym (six_bits global (6 * rank) t h) ∙ (ap (λ z. is_bit z t) (not_above (global / 2 ^ (6 * rank) % 64) e) ∙ no_bit t)

-- ---- parts

pub part_none : (word global : ℕ) (es : List Happening) → IsAskedPart word global es es
part_none word global [] = refl
part_none word global (e ∷ es) = inr (es, refl, part_none word global es)

pub part_append : (word global : ℕ) (xs es ys fs : List Happening) → IsAskedPart word global xs es → IsAskedPart word global ys fs → IsAskedPart word global (xs ++ ys) (es ++ fs)
part_append word global xs [] ys fs h k = subst (λ (l : List Happening). IsAskedPart word global (l ++ ys) fs) (sym h) k
part_append word global xs (e ∷ es) ys fs (inl h) k = inl (h.0, part_append word global xs es ys fs h.1 k)
part_append word global xs (e ∷ es) ys fs (inr h) k = inr (h.0 ++ ys, ap (λ (l : List Happening). l ++ ys) h.1, part_append word global h.0 es ys fs h.2 k)

any_part : (word global t : ℕ) (xs es : List Happening) → t < 6 → IsAskedPart word global xs es → any_enabled word global t xs ≡ any_enabled word global t es
any_part word global t xs [] h p = ap (any_enabled word global t) p
any_part word global t xs (e ∷ es) h (inl p) = any_part word global t xs es h p.1 ∙ ap (λ z. z || any_enabled word global t es) (sym (p.0 t h))
any_part word global t xs (e ∷ es) h (inr p) = ap (any_enabled word global t) p.1 ∙ ap (λ z. is_enabled_by (λ l. cell_of word) global e.kind t e.event || z) (any_part word global t p.0 es h p.2)

pub loads_part : (word global : ℕ) (xs es : List Happening) → IsAskedPart word global xs es → callback_loads word global xs 6 ≡ callback_loads word global es 6
loads_part word global xs es p = for_tools_same (λ t. any_enabled word global t xs) (λ t. any_enabled word global t es) Load.Callbacks 6 (λ t h. any_part word global t xs es h p)

pub part_at : (word global location : ℕ) (xs es : List Happening) → IsAskedPart word global xs es → AreAt location es → AreAt location xs
part_at word global location xs [] p h = subst (λ (l : List Happening). AreAt location l) (sym p) tt
part_at word global location xs (e ∷ es) (inl p) h = part_at word global location xs es p.1 h.1
part_at word global location xs (e ∷ es) (inr p) h = subst (λ (l : List Happening). AreAt location l) (sym p.1) (h.0, part_at word global location p.0 es p.2 h.1)

or_more : (b x y : Bool) → IsTrue (b || x) → (IsTrue x → IsTrue y) → IsTrue (b || y)
or_more true x y h k = refl
or_more false x y h k = k h

pub part_global : (word global : ℕ) (xs es : List Happening) → IsAskedPart word global xs es → IsTrue (any_global xs) → IsTrue (any_global es)
part_global word global xs [] p h = subst (λ (l : List Happening). IsTrue (any_global l)) p h
part_global word global xs (e ∷ es) (inl p) h = or_right (is_global_kind e.kind) (any_global es) (part_global word global xs es p.1 h)
part_global word global xs (e ∷ es) (inr p) h = or_more (is_global_kind e.kind) (any_global p.0) (any_global es) (subst (λ (l : List Happening). IsTrue (any_global l)) p.1 h) (part_global word global p.0 es p.2)

pub part_all_global : (word global : ℕ) (xs es : List Happening) → IsAskedPart word global xs es → AreGlobal es → AreGlobal xs
part_all_global word global xs [] p h = subst (λ (l : List Happening). AreGlobal l) (sym p) tt
part_all_global word global xs (e ∷ es) (inl p) h = part_all_global word global xs es p.1 h.1
part_all_global word global xs (e ∷ es) (inr p) h = subst (λ (l : List Happening). AreGlobal l) (sym p.1) (h.0, part_all_global word global p.0 es p.2 h.1)

-- what passes no unasked event delivers a part as the whole
delivered_part : {A : Type 0} (test : ℕ → Happening → Bool) (make : Happening → ℕ → A) (b : Board) (word global : ℕ) (xs es : List Happening) → ((e : Happening) (t : ℕ) → is_enabled_by (cell_at b) b.global e.kind t e.event ≡ false → test t e ≡ false)
    → AreReadBy b word es → (IsTrue (any_global es) → global ≡ b.global) → IsAskedPart word global xs es → delivered test make xs ≡ delivered test make es
delivered_part test make b word global xs [] h r g p = ap (delivered test make) p
delivered_part test make b word global xs (e ∷ es) h r g (inl p) =
    let rest = delivered_part test make b word global xs es h r.1 (λ y. g (or_right (is_global_kind e.kind) (any_global es) y)) p.1 in
    let none : for_tools (λ t. test t e) (make e) 6 ≡ [] = for_tools_never (λ t. test t e) (make e) 6
    (λ t l. h e t (enabled_same b word global e.kind t e.event r.0 (λ y. g (or_left (is_global_kind e.kind) (any_global es) y)) ∙ p.0 t l)) in
    rest ∙ ap (λ z. z ++ delivered test make es) (sym none)
delivered_part test make b word global xs (e ∷ es) h r g (inr p) =
    let rest = delivered_part test make b word global p.0 es h r.1 (λ y. g (or_right (is_global_kind e.kind) (any_global es) y)) p.2 in
    ap (delivered test make) p.1 ∙ ap (λ z. for_tools (λ t. test t e) (make e) 6 ++ z) rest

module _ (b : Board) (word global : ℕ) (xs es : List Happening) (read : AreReadBy b word es) (known : IsTrue (any_global es) → global ≡ b.global) (part : IsAskedPart word global xs es) where
  pub hears_part : {A : Type 0} (make : Happening → ℕ → A) → delivered (let_through b).hears make xs ≡ delivered (let_through b).hears make es
  hears_part make = delivered_part (let_through b).hears make b word global xs es (λ e t h. ap (λ z. z && is_called (get_or b.callbacks t 0) e.event) h) read known part

  pub answers_part : {A : Type 0} (make : Happening → ℕ → A) → delivered (answers (let_through b)) make xs ≡ delivered (answers (let_through b)) make es
  answers_part make = delivered_part (answers (let_through b)) make b word global xs es (λ e t h. ap (λ z. (z && is_called (get_or b.callbacks t 0) e.event) && (let_through b).once t e) h) read known part

-- the part stands for all
pub heard_part : (i word global : ℕ) (xs es : List Happening) (a b : Told) (rs rs2 : List Record) (ds ds2 : List Disabled) → AreReadBy (after a.first a.seen) word es → (IsTrue (any_global es) → global ≡ (after a.first a.seen).global)
    → IsAskedPart word global xs es → Heard i xs a b rs rs2 ds ds2 → Heard i es a b rs rs2 ds ds2
heard_part i word global xs es a b rs rs2 ds ds2 read known part h =
    let d : Board = after a.first a.seen in
    record {
      grows = subst (λ (m : List Mark). Grows a b m) (answers_part d word global xs es read known part (mark_of a.number)) h.grows;
      records = h.records ∙ ap (λ z. rs ++ z) (hears_part d word global xs es read known part _);
      disables = h.disables ∙ ap (λ z. ds ++ z) (answers_part d word global xs es read known part _);
    }

-- of a step without a location
pub unwinding_part : (i global : ℕ) (xs es : List Happening) (a b : Told) (rs rs2 : List Record) → AreGlobal es → (IsTrue (any_global es) → global ≡ (after a.first a.seen).global) → IsAskedPart 0 global xs es → Grows a b []
    → UnwindingHeard i xs a b rs rs2 → UnwindingHeard i es a b rs rs2
unwinding_part i global xs es a b rs rs2 all known part grows h =
    let d : Board = after a.first (take (length a.seen) b.seen) in
    let same : take (length a.seen) b.seen ≡ a.seen = whole a.seen b.seen grows.begins in
    let asked : IsTrue (any_global es) → global ≡ d.global = λ y. known y ∙ ap (λ (w : List Mark). (after a.first w).global) (sym same) in
    let read : AreReadBy d 0 es = global_read d 0 es all in
    record {
      records = h.records;
      records_are = h.records_are;
      step = record {
        more = h.step.more;
        grown = h.step.grown;
        low = h.step.low;
        high = h.step.high;
        own_read = h.step.own_read;
        own_all = h.step.own_all ∙ ap (λ z. offs a.number a.seen ++ z) (answers_part d 0 global xs es read asked part (mark_of a.number));
        records_are = h.step.records_are ∙ hears_part d 0 global xs es read asked part _;
        disables_are = h.step.disables_are ∙ answers_part d 0 global xs es read asked part _;
      };
    }
