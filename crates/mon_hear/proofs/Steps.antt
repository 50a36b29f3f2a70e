-- One step of a handle, and the parts of it.
use Rattle.std.proofs.Common.{◌≡◌, ℕ, zero, suc, ◌+◌, ◌<◌, ◌≤◌, Bool, List, [], ◌∷◌, ◌++◌, length, take, set, get_or, sym, ap, ◌∙◌, subst, arith, append_assoc, length-append, Result, Ok, Err, OnOk}
use Rattle.std.proofs.lemmas.List.{take-append-le, take_all, get_or-set_same, get_or-set_other}
use Rattle.std.proofs.Math.Seq.{take-suc}
use mathlib.Core.Logic.{dite}
use native.Mathlib.Decide.{ℕ_discrete}
use Rattle.mon_words.specs.Words.{cell_of}
use Rattle.mon_words.specs.History.{after, offs, cell_at, Begins}
use Rattle.mon_words.specs.Told.{Told, Grows, Loads, Owns}
use Rattle.mon_words.specs.declared.tally.Load.{Load}
use Rattle.mon_words.specs.declared.tally.Tally.{Tally}
use Rattle.mon_words.specs.Tallies.{loaded_at}
use Rattle.mon_words.specs.declared.history.Board.{Board}
use Rattle.mon_words.specs.declared.history.Mark.{Mark}
use Rattle.mon_recorders.specs.declared.happening.Happening.{Happening}
use Rattle.mon_recorders.specs.declared.happening.Kind.{Kind}
use Rattle.mon_recorders.specs.declared.record.Record.{Record}
use Rattle.mon_recorders.specs.declared.record.Disabled.{Disabled}
use Rattle.mon_recorders.specs.Happenings.{Filter, answers, delivered, for_tools, records_in, disables_in}
use Rattle.mon_recorders.specs.Readings.{OneStep}
use Rattle.mon_recorders.specs.Boards.{let_through, mark_of, reader, IsReadBy, AreReadBy, IsAt, AreAt}
use Rattle.mon_recorders.proofs.Folds.{delivered_one}
use Rattle.mon_hear.specs.Hearing.{Disabling, IsWithin, AreWithin, Retiring, Heard, StepHeard}
use Rattle.mon_hear.specs.Words.{Agree, loads}
use Rattle.mon_words.proofs.Histories.{begins_trans}
use Rattle.mon_words.proofs.Growing.{grows_trans}
use Rattle.mon_hear.proofs.Growing.{SameWords, steady, disabling_trans, disabling_none}
use Rattle.mon_hear.proofs.Agreeing.{hears_same, answers_same}

pub on_ok : {T E : Type 0} {P : Type 0} (r : Result T E) → P → OnOk r P
on_ok (Ok x) p = p
on_ok (Err e) p = tt

pub on_ok-then : {T E : Type 0} {P Q : Type 0} (r : Result T E) → (P → Q) → OnOk r P → OnOk r Q
on_ok-then (Ok x) f p = f p
on_ok-then (Err e) f p = tt

pub on_ok-both : {T E : Type 0} {P Q R : Type 0} (r : Result T E) → (P → Q → R) → OnOk r P → OnOk r Q → OnOk r R
on_ok-both (Ok x) f p q = f p q
on_ok-both (Err e) f p q = tt

-- the words stay while nothing but disables is added
pub words_stay : (a b : Told) (m : List Mark) → Grows a b m → SameWords (after a.first a.seen) (after b.first b.seen)
words_stay a b m g =
    let first : b.first ≡ a.first = ap (λ (t : Told). t.first) g.rest in
    subst (λ (f : Board). SameWords (after a.first a.seen) (after f b.seen)) (sym first) (steady a.first a.seen b.seen g.begins g.quiet)

-- one more word of a table
pub next_value : (xs ys : List ℕ) (P : ℕ → Type 0) (n v : ℕ) → n < length xs → ((t : ℕ) → t < n → P t → get_or xs t 0 ≡ get_or ys t 0) → (P n → v ≡ get_or ys n 0)
    → (t : ℕ) → t < n + 1 → P t → get_or (set xs n v) t 0 ≡ get_or ys t 0
next_value xs ys P n v l old new t h p = dite (ℕ_discrete t n)
    (λ is. ap (λ j. get_or (set xs n v) j 0) is ∙ (get_or-set_same xs n v 0 l ∙ (new (subst P is p) ∙ ap (λ j. get_or ys j 0) (sym is))))
    (λ ne. get_or-set_other xs n t v 0 ne ∙ old t (omega arith) p)

pub one_more_load : {A : Type 0} (x y z f g c : List A) → x ≡ y ++ c → y ≡ z ++ f → g ≡ f ++ c → x ≡ z ++ g
one_more_load x y z f g c e h k = e ∙ (ap (λ l. l ++ c) h ∙ (append_assoc z f c ∙ ap (λ l. z ++ l) (sym k)))

-- the events in turn
pub take_item : (es : List Happening) (i : ℕ) (e : Happening) → i < length es → e ≡ get_or es i e → take (i + 1) es ≡ take i es ++ e ∷ []
take_item es i e h is = let n : i + 1 ≡ suc i = omega arith in ap (λ j. take j es) n ∙ (take-suc es i e h ∙ ap (λ x. take i es ++ x ∷ []) (sym is))

pub delivered_more : {A : Type 0} (test : ℕ → Happening → Bool) (make : Happening → ℕ → A) (es : List Happening) (i : ℕ) (e : Happening) → i < length es → e ≡ get_or es i e
    → delivered test make (take (i + 1) es) ≡ delivered test make (take i es) ++ for_tools (λ t. test t e) (make e) 6
delivered_more test make es i e h is = ap (delivered test make) (take_item es i e h is) ∙ delivered_one test make (take i es) e

within_here : (a : Told) (es : List Happening) (i : ℕ) (e : Happening) → AreWithin a es → i < length es → e ≡ get_or es i e → IsWithin a e.kind
within_here a [] i e w h is = absurd (omega arith)
within_here a (x ∷ xs) zero e w h is = subst (λ (y : Happening). IsWithin a y.kind) (sym is) w.0
within_here a (x ∷ xs) (suc i) e w h is = within_here a xs i e w.1 (omega arith) is

within_same : (a b : Told) (k : Kind) → b.first ≡ a.first → IsWithin a k → IsWithin b k
within_same a b (Kind.Local l s) e h = subst (λ (f : Board). l < length f.cells) (sym e) h
within_same a b (Kind.Ancillary l) e h = tt
within_same a b Kind.Global e h = tt

pub within_at : (a b : Told) (es : List Happening) (i : ℕ) (e : Happening) → b.first ≡ a.first → AreWithin a es → i < length es → e ≡ get_or es i e → IsWithin b e.kind
within_at a b es i e f w h is = within_same a b e.kind f (within_here a es i e w h is)

one_within : (a : Told) (location : ℕ) (k : Kind) → location < length a.first.cells → IsAt location k → IsWithin a k
one_within a location (Kind.Local l s) h e = subst (λ j. j < length a.first.cells) (sym e) h
one_within a location (Kind.Ancillary l) h e = tt
one_within a location Kind.Global h e = tt

pub all_within : (a : Told) (location : ℕ) (es : List Happening) → location < length a.first.cells → AreAt location es → AreWithin a es
all_within a location [] h p = tt
all_within a location (e ∷ es) h p = (one_within a location e.kind h p.0, all_within a location es h p.1)

one_read : (b : Board) (word location : ℕ) (k : Kind) → cell_of word ≡ cell_at b location → IsAt location k → IsReadBy b word k
one_read b word location (Kind.Local l s) e p = e ∙ ap (cell_at b) (sym p)
one_read b word location (Kind.Ancillary l) e p = e ∙ ap (cell_at b) (sym p)
one_read b word location Kind.Global e p = tt

pub all_read : (b : Board) (word location : ℕ) (es : List Happening) → cell_of word ≡ cell_at b location → AreAt location es → AreReadBy b word es
all_read b word location [] e p = tt
all_read b word location (x ∷ xs) e p = (one_read b word location x.kind e p.0, all_read b word location xs e p.1)

-- after a load the word is lawful
pub word_read : (a b : Told) (location word : ℕ) → Loads a location word b → cell_of word ≡ cell_at (after b.first b.seen) location
word_read a b location word l = l.shows.0 ∙ ap (λ (t : Told). cell_at (after t.first b.seen) location) (sym l.rest)

pub begins_length : (xs ys : List Mark) → Begins xs ys → length xs ≤ length ys
begins_length xs ys a = omega (arith, ap length a.is, length-append xs a.more)

pub whole : (xs ys : List Mark) → Begins xs ys → take (length xs) ys ≡ xs
whole xs ys b = ap (take (length xs)) b.is ∙ (take-append-le (length xs) xs b.more (omega arith) ∙ take_all (length xs) xs (omega arith))

-- what is heard by the board of the history up to the load is one step of the reading
one_step_at : (a b : Told) (seen : List Mark) (tally : Tally) (i : ℕ) (es : List Happening) → Owns a → Begins a.seen seen → offs a.number seen ≡ a.own
    → Grows (record a { seen = seen; tally = tally }) b (delivered (answers (let_through (after a.first seen))) (mark_of a.number) es)
    → OneStep (reader a.number a.first) es i (length seen) a.seen b.seen (records_in (let_through (after a.first seen)) i es) (disables_in (let_through (after a.first seen)) i es)
one_step_at a b seen tally i es own begins still g =
    let t : take (length seen) b.seen ≡ seen = whole seen b.seen g.begins in
    let f : let_through (after a.first seen) ≡ let_through (after a.first (take (length seen) b.seen)) = ap (λ (s : List Mark). let_through (after a.first s)) (sym t) in
    let number : b.number ≡ a.number = ap (λ (t : Told). t.number) g.rest in
    record {
      more = (begins_trans a.seen seen b.seen begins g.begins).more;
      grown = (begins_trans a.seen seen b.seen begins g.begins).is;
      low = begins_length a.seen seen begins;
      high = begins_length seen b.seen g.begins;
      own_read = ap (offs a.number) t ∙ (still ∙ sym own);
      own_all = ap (λ n. offs n b.seen) (sym number) ∙ (g.owns still ∙ (g.own ∙ (λ i. sym own i ++ delivered (answers (f i)) (mark_of a.number) es)));
      records_are = ap (λ (x : Filter). records_in x i es) f;
      disables_are = ap (λ (x : Filter). disables_in x i es) f;
    }

pub one_step : (a c b : Told) (word location i : ℕ) (es : List Happening) → Owns a → Loads a location word c
    → Grows c b (delivered (answers (let_through (after c.first c.seen))) (mark_of c.number) es)
    → OneStep (reader a.number a.first) es i (length c.seen) a.seen b.seen (records_in (let_through (after c.first c.seen)) i es) (disables_in (let_through (after c.first c.seen)) i es)
one_step a c b word location i es own l =
    let e : Grows (record a { seen = c.seen; tally = loaded_at a.tally location (length c.seen) }) b (delivered (answers (let_through (after a.first c.seen))) (mark_of a.number) es)
    → OneStep (reader a.number a.first) es i (length c.seen) a.seen b.seen (records_in (let_through (after a.first c.seen)) i es) (disables_in (let_through (after a.first c.seen)) i es) =
    one_step_at a b c.seen (loaded_at a.tally location (length c.seen)) i es own l.extends.begins l.extends.own in
    subst (λ (t : Told). Grows t b (delivered (answers (let_through (after t.first t.seen))) (mark_of t.number) es)
    → OneStep (reader a.number a.first) es i (length t.seen) a.seen b.seen (records_in (let_through (after t.first t.seen)) i es) (disables_in (let_through (after t.first t.seen)) i es)) (sym l.rest) e

pub retiring_from : (a c b : Told) (location word : ℕ) → c.tally.retirements ≡ a.tally.retirements → Retiring c b location word → Retiring a b location word
retiring_from a c b location word e r = record {
  due = λ t. let d = r.due t in (d.0, d.1 ∙ ap (λ z. z ++ record { location = location; old = word; done = d.0 } ∷ []) e);
  not_due = λ t. r.not_due t ∙ e;
}

pub retiring_to : (a c b : Told) (location word : ℕ) → Retiring a c location word → b.tally.retirements ≡ c.tally.retirements → Retiring a b location word
retiring_to a c b location word r e = record {
  due = λ t. let d = r.due t in (d.0, e ∙ d.1);
  not_due = λ t. e ∙ r.not_due t;
}

-- the parts of a hearing: words were loaded, records made, a word retired, disables made
pub heard : (i : ℕ) (es : List Happening) (g : Filter) (a b c d : Told) (old_records new_records : List Record) (old_disables new_disables : List Disabled)
    → Agree (let_through (after a.first a.seen)) g es → Grows a b [] → Grows b c [] → new_records ≡ old_records ++ records_in g i es
    → Disabling c d (delivered (answers g) (mark_of c.number) es) → new_disables ≡ old_disables ++ disables_in g i es
    → Heard i es a d old_records new_records old_disables new_disables
heard i es g a b c d old_records new_records old_disables new_disables agree ab bc records cd disables =
    let f : Filter = let_through (after a.first a.seen) in
    let ac : Grows a c [] = grows_trans a b c [] [] ab bc in
    let number : c.number ≡ a.number = ap (λ (t : Told). t.number) ac.rest in
    let marks : delivered (answers g) (mark_of c.number) es ≡ delivered (answers f) (mark_of a.number) es =
    ap (λ n. delivered (answers g) (mark_of n) es) number ∙ answers_same f g (mark_of a.number) es agree in
    record {
      grows = grows_trans a c d [] (delivered (answers f) (mark_of a.number) es) ac (subst (λ (m : List Mark). Grows c d m) marks cd.grows);
      records = records ∙ ap (λ z. old_records ++ z) (hears_same f g _ es agree);
      disables = disables ∙ ap (λ z. old_disables ++ z) (answers_same f g _ es agree);
    }

-- a load, and what is heard by it
pub step_heard : (i location word : ℕ) (es : List Happening) (a c b : Told) (old_records new_records : List Record) (old_disables new_disables : List Disabled)
    → Owns a → Loads a location word c → Heard i es c b old_records new_records old_disables new_disables → Retiring c b location word
    → b.tally.loads ≡ c.tally.loads ++ loads word (after c.first c.seen).global es → StepHeard i location es a b old_records new_records old_disables new_disables
step_heard i location word es a c b old_records new_records old_disables new_disables own l h r loaded = record {
  at = length c.seen;
  records = records_in (let_through (after c.first c.seen)) i es;
  disables = disables_in (let_through (after c.first c.seen)) i es;
  records_are = h.records;
  disables_are = h.disables;
  step = one_step a c b word location i es own l h.grows;
  word = word;
  global = (after c.first c.seen).global;
  loaded = loaded ∙ (ap (λ z. z ++ loads word (after c.first c.seen).global es) (ap (λ (t : Told). t.tally.loads) l.rest)
      ∙ append_assoc a.tally.loads (Load.Location location (length c.seen) ∷ []) (loads word (after c.first c.seen).global es));
  retired = retiring_from a c b location word (ap (λ (t : Told). t.tally.retirements) l.rest) r;
}

pub disabled_none : (a b : Told) (m : List Mark) → m ≡ [] → a ≡ b → Disabling a b m
disabled_none a b m e s = subst (λ (z : List Mark). Disabling a b z) (sym e) (subst (λ (t : Told). Disabling a t []) s (disabling_none a))

pub disabled_more : (a b c : Told) (xs all : List Mark) (ys : ℕ → List Mark) → Disabling a b xs → Disabling b c (ys b.number) → all ≡ xs ++ ys a.number → Disabling a c all
disabled_more a b c xs all ys h k e =
    let number : b.number ≡ a.number = ap (λ (t : Told). t.number) h.grows.rest in
    subst (λ (z : List Mark). Disabling a c z) (sym e) (disabling_trans a b c xs (ys a.number) h (subst (λ n. Disabling b c (ys n)) number k))

pub all_within_of : (a b : Told) (location : ℕ) (es : List Happening) → b.first ≡ a.first → location < length a.first.cells → AreAt location es → AreWithin b es
all_within_of a b location es e h p = all_within b location es (subst (λ (f : Board). location < length f.cells) (sym e) h) p
