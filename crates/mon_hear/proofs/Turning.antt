-- One step more.
use Rattle.std.proofs.Common.{◌≡◌, ℕ, zero, suc, ◌+◌, ◌<◌, Bool, cond, List, [], ◌∷◌, ◌++◌, length, get_or, refl, sym, ap, ◌∙◌, subst, arith, append_assoc, append-nil, length-append}
use Rattle.mon_words.specs.Told.{Told, Grows}
use Rattle.mon_words.specs.declared.tally.Load.{Load}
use Rattle.mon_words.specs.Tallies.{positions}
use Rattle.mon_words.specs.declared.history.Board.{Board}
use Rattle.mon_words.specs.declared.history.Mark.{Mark}
use Rattle.mon_recorders.specs.declared.happening.Happening.{Happening}
use Rattle.mon_recorders.specs.declared.record.Record.{Record}
use Rattle.mon_recorders.specs.declared.record.Disabled.{Disabled}
use Rattle.mon_recorders.specs.Happenings.{for_tools}
use Rattle.mon_recorders.specs.Readings.{OneStep, Reader}
use Rattle.mon_recorders.specs.Boards.{reader, AreAt}
use Rattle.mon_recorders.proofs.Spans.{span_none, span_more}
use Rattle.mon_hear.specs.declared.turns.Turn.{Turn}
use Rattle.mon_hear.specs.Words.{any_global, any_enabled, loads, global_load, callback_loads}
use Rattle.mon_hear.specs.Hearing.{StepHeard}
use Rattle.mon_hear.specs.Turns.{events_of, AreTurns, AllHeard}
use Rattle.mon_words.proofs.Growing.{grows_refl, grows_trans}

positions_append : (xs ys : List Load) → positions (xs ++ ys) ≡ positions xs ++ positions ys
positions_append [] ys = refl
positions_append (Load.Location l at ∷ xs) ys = ap (λ z. at ∷ z) (positions_append xs ys)
positions_append (Load.Global ∷ xs) ys = positions_append xs ys
positions_append (Load.Callbacks t ∷ xs) ys = positions_append xs ys

no_position : (x : Bool) (t : ℕ) → positions (cond x (Load.Callbacks t ∷ []) []) ≡ []
no_position Rattle.std.proofs.Common.true t = refl
no_position Rattle.std.proofs.Common.false t = refl

no_global : (x : Bool) → positions (cond x (Load.Global ∷ []) []) ≡ []
no_global Rattle.std.proofs.Common.true = refl
no_global Rattle.std.proofs.Common.false = refl

no_callback : (test : ℕ → Bool) (n : ℕ) → positions (for_tools test Load.Callbacks n) ≡ []
unfolding for_tools
no_callback test zero = refl
no_callback test (suc n) = positions_append (for_tools test Load.Callbacks n) (cond (test n) (Load.Callbacks n ∷ []) []) ∙ (let a = no_callback test n in let b = no_position (test n) n in λ i. a i ++ b i)

no_positions : (word global : ℕ) (es : List Happening) → positions (loads word global es) ≡ []
no_positions word global es = positions_append (global_load es) (callback_loads word global es 6)
    ∙ (let a = no_global (any_global es) in let b = no_callback (λ t. any_enabled word global t es) 6 in λ i. a i ++ b i)

-- the k-th of some steps
turn_at : (b : Board) (ts : List Turn) (k : ℕ) (t : Turn) → AreTurns b ts → k < length ts → t ≡ get_or ts k t → (t.location < length b.cells) × AreAt t.location t.events × (events_of ts k ≡ t.events)
turn_at b [] k t a h is = absurd (omega arith)
turn_at b (x ∷ xs) zero t a h is = subst (λ (y : Turn). (y.location < length b.cells) × AreAt y.location y.events × (x.events ≡ y.events)) (sym is) (a.0, a.1, refl)
turn_at b (x ∷ xs) (suc k) t a h is = turn_at b xs k t a.2 (omega arith) is

pub turn_fits : (a c : Told) (ts : List Turn) (k : ℕ) (t : Turn) (m : List Mark) → Grows a c m → AreTurns a.first ts → k < length ts → t ≡ get_or ts k t → (t.location < length c.first.cells) × AreAt t.location t.events
turn_fits a c ts k t m g w h is = let p = turn_at a.first ts k t w h is in let f : c.first ≡ a.first = ap (λ (x : Told). x.first) g.rest in
    (subst (λ (b : Board). t.location < length b.cells) (sym f) p.0, p.1)

pub none_heard : (turns : List Turn) (first : ℕ) (a : Told) (rs : List Record) (ds : List Disabled) → AllHeard turns 0 first a a rs rs ds ds
none_heard turns first a rs ds = record {
  marks = [];
  grows = grows_refl a;
  at = [];
  count = refl;
  loaded = sym (append-nil _);
  records = [];
  disables = [];
  records_are = sym (append-nil rs);
  disables_are = sym (append-nil ds);
  span = span_none (reader a.number a.first) (events_of turns) first a.seen;
}

pub one_heard : (turns : List Turn) (k first : ℕ) (t : Turn) (a b c : Told) (rs rs2 rs3 : List Record) (ds ds2 ds3 : List Disabled) (m : List Mark) → AreTurns a.first turns → k < length turns → t ≡ get_or turns k t
    → AllHeard turns k first a b rs rs2 ds ds2 → Grows b c m → StepHeard (first + k) t.location t.events b c rs2 rs3 ds2 ds3 → AllHeard turns (k + 1) first a c rs rs3 ds ds3
one_heard turns k first t a b c rs rs2 rs3 ds ds2 ds3 m are low is h g s =
    let number : b.number ≡ a.number = ap (λ (x : Told). x.number) h.grows.rest in
    let board : b.first ≡ a.first = ap (λ (x : Told). x.first) h.grows.rest in
    let events : t.events ≡ events_of turns (length h.at) = sym ((turn_at a.first turns k t are low is).2) ∙ ap (events_of turns) (sym h.count) in
    let r : reader b.number b.first ≡ reader a.number a.first = λ i. reader (number i) (board i) in
    let n : first + k ≡ first + length h.at = ap (λ x. first + x) (sym h.count) in
    let step : OneStep (reader a.number a.first) (events_of turns (length h.at)) (first + length h.at) s.at b.seen c.seen s.records s.disables =
    subst (λ (z : Reader Mark × List Happening × ℕ). OneStep z.0 z.1 z.2 s.at b.seen c.seen s.records s.disables) (λ i. (r i, events i, n i)) s.step in
    record {
      marks = h.marks ++ m;
      grows = grows_trans a b c h.marks m h.grows g;
      at = h.at ++ s.at ∷ [];
      count = length-append h.at (s.at ∷ []) ∙ ap (λ x. x + 1) h.count;
      loaded = ap positions s.loaded ∙ (positions_append b.tally.loads (Load.Location t.location s.at ∷ loads s.word s.global t.events)
          ∙ ((let x = h.loaded in let y = no_positions s.word s.global t.events in λ i. x i ++ s.at ∷ y i) ∙ append_assoc (positions a.tally.loads) h.at (s.at ∷ [])));
      records = h.records ++ s.records;
      disables = h.disables ++ s.disables;
      records_are = s.records_are ∙ (ap (λ z. z ++ s.records) h.records_are ∙ append_assoc rs h.records s.records);
      disables_are = s.disables_are ∙ (ap (λ z. z ++ s.disables) h.disables_are ∙ append_assoc ds h.disables s.disables);
      span = span_more (reader a.number a.first) (events_of turns) first h.at a.seen b.seen c.seen h.records h.disables s.at s.records s.disables h.span step;
    }
