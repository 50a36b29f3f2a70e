-- What the steps of the gate have in common: bounds on the sums, the seats that do not step, and all of the rule but what a
-- step changes.
use Rattle.std.proofs.Common.{◌≡◌, ℕ, zero, suc, ◌+◌, ◌*◌, ◌<◌, ◌≤◌, ◌≢◌, List, [], ◌∷◌, map, length, get_or, set, sym, refl, ap, ◌∙◌, subst, ⊎_elim, arith, length-set, get_or-set_other, get_or-set_same}
use mathlib.Core.Logic.{dite}
use mathlib.Core.Option.{some, some-injective, some-ne-none}
use native.Mathlib.Decide.{ℕ_discrete, dec_le}
use lib.ListN.{get_elem?}
use Rattle.atomic_table.specs.Table.{keeps, stepped}
use Rattle.atomic_table.proofs.Lists.{at_set, set_here, set_else}
use Rattle.mon_words.specs.Words.{stop_bit}
use Rattle.mon_words.specs.History.{after, offs, puts, Begins, Still, UpTo, Placed, HasBases, Based, base_in}
use Rattle.mon_words.specs.Standing.{Right}
use Rattle.mon_words.specs.declared.history.Board.{Board}
use Rattle.mon_words.specs.declared.history.Mark.{Mark}
use Rattle.mon_words.specs.declared.tally.Tally.{Tally}
use Rattle.mon_words.proofs.Histories.{still-quiet}
use Rattle.mon_words.proofs.Standing.{after-bases}
use Rattle.mon_gate.specs.Sums.{total, only, once_below}
use Rattle.mon_gate.specs.Places.{gate_word, claim_word, count_at, count_place}
use Rattle.mon_gate.specs.Rule.{St, inside, works, numbered, leads, asks, stops, alive, ended_as, has, claims, first_board, first_bases, Gated, Numbered, Works, Leads, SeatOk, EachSeat, Counted, Kept}
use Rattle.mon_gate.specs.Plays.{Sat}
use Rattle.mon_gate.specs.Laws.{StoppedIsAlone}
use Rattle.mon_gate.specs.declared.view.View.{View}
use Rattle.mon_gate.specs.declared.view.Ended.{Ended}
use Rattle.mon_gate.specs.declared.view.Plan.{Plan}
use Rattle.mon_gate.specs.declared.view.Phase.{Phase}
use Rattle.mon_gate.specs.declared.view.Phase.TheVariants.{Plain, Out, Attached, Retreating, Idle, Asked, Stopped, Spent}
use Rattle.mon_gate.proofs.Totals.{total-set, term_le, terms_le, total_le, only-same, below_le, apart_below}

pub works_le : (p : Phase) → works p ≤ inside p
works_le Plain = omega arith
works_le Out = omega arith
works_le Attached = omega arith
works_le Retreating = omega arith
works_le Idle = omega arith
works_le Asked = omega arith
works_le Stopped = omega arith
works_le Spent = omega arith

pub inside_le : (p : Phase) → inside p ≤ numbered p
inside_le Plain = omega arith
inside_le Out = omega arith
inside_le Attached = omega arith
inside_le Retreating = omega arith
inside_le Idle = omega arith
inside_le Asked = omega arith
inside_le Stopped = omega arith
inside_le Spent = omega arith

pub asks_le : (p : Phase) → asks p ≤ leads p
asks_le Plain = omega arith
asks_le Out = omega arith
asks_le Attached = omega arith
asks_le Retreating = omega arith
asks_le Idle = omega arith
asks_le Asked = omega arith
asks_le Stopped = omega arith
asks_le Spent = omega arith

pub stops_le : (p : Phase) → stops p ≤ asks p
stops_le Plain = omega arith
stops_le Out = omega arith
stops_le Attached = omega arith
stops_le Retreating = omega arith
stops_le Idle = omega arith
stops_le Asked = omega arith
stops_le Stopped = omega arith
stops_le Spent = omega arith

-- a seat with a number that is no more at work
pub leaves : (about : Plan) (log : List Mark) (ws : List ℕ) (v : View) → SeatOk about log ws v → Works log about.threads ws v → Still (length v.seen) v.number v.stored log
leaves about log ws v ok o = dite (dec_le (works v.phase) 0)
    (λ z. o.still (omega arith))
    (λ w. let same = o.all (omega arith) in subst (λ (l : List Mark). Still (length v.seen) v.number v.stored l) (sym ok.begins.is) (still-quiet v.number v.stored v.seen ok.begins.more (same ∙ ap puts ok.begins.is)))

pub at_length : (vs : List View) (id : ℕ) (v : View) → get_elem? vs id ≡ some v → id < length vs
at_length [] id v e = absurd (some-ne-none v (sym e))
at_length (x ∷ xs) zero v e = omega arith
at_length (x ∷ xs) (suc id) v e = omega (arith, at_length xs id v e)

abbrev pub in_of : View → ℕ
in_of v = inside v.phase

abbrev pub works_of : View → ℕ
works_of v = works v.phase

abbrev pub leads_of : View → ℕ
leads_of v = leads v.phase

abbrev pub asks_of : View → ℕ
asks_of v = asks v.phase

abbrev pub stops_of : View → ℕ
stops_of v = stops v.phase

abbrev pub tickets_of : View → ℕ
tickets_of v = v.tickets

-- few are inside, and one at most asks
pub record Bounds (s : St) : Type 0 where
  pub few : total in_of s.views < 256
  pub one : total asks_of s.views ≤ 1
  pub stop : total stops_of s.views ≤ total asks_of s.views
  pub idle : total works_of s.views ≤ total in_of s.views

pub bounds : (about : Plan) (s : St) → Kept about s → Bounds s
bounds about s r =
    let a = total_le in_of claims (λ v. omega (arith, inside_le v.phase)) s.views in
    let b = total_le asks_of leads_of (λ v. asks_le v.phase) s.views in
    let c = r.numbers.counted in let d = r.numbers.tickets in let e = r.few in let f = r.gated.one in
    record {
      few = omega arith;
      one = omega arith;
      stop = total_le stops_of asks_of (λ v. stops_le v.phase) s.views;
      idle = total_le works_of in_of (λ v. works_le v.phase) s.views;
    }

-- a count stays
pub count_stays : (ws : List ℕ) (i k x : ℕ) → count_place x ≢ i → count_at (set ws i k) x ≡ count_at ws x
count_stays ws i k x ne = get_or-set_other ws i (count_place x) k 0 ne

-- ---- numbers

-- w has the numbers and tickets of v
pub record SameNumbers (v w : View) : Type 0 where
  pub phase : numbered w.phase ≡ numbered v.phase
  pub number : w.number ≡ v.number
  pub ended : w.ended ≡ v.ended
  pub tickets : w.tickets ≡ v.tickets

pub has_same : (x : ℕ) (v w : View) → SameNumbers v w → has x w ≡ has x v
has_same x v w n = λ i. n.phase i * only x (n.number i) + total (ended_as x) (n.ended i)

pub claims_same : (v w : View) → SameNumbers v w → claims w ≡ claims v
claims_same v w n = λ i. n.phase i + length (n.ended i)

pub numbers_stay : (threads : ℕ) (s : St) (id : ℕ) (ws : List ℕ) (v w : View) → Numbered threads s → get_elem? s.views id ≡ some v → SameNumbers v w → claim_word ws ≡ claim_word s.words
    → Numbered threads record { words = ws; homes = s.homes; views = set s.views id w }
numbers_stay threads s id ws v w r at n is = record {
  drawn = λ x. omega (arith, total-set (has x) s.views id v w at, has_same x v w n, r.drawn x, ap (once_below x) is);
  counted = omega (arith, total-set claims s.views id v w at, claims_same v w n, r.counted);
  tickets = omega (arith, total-set tickets_of s.views id v w at, n.tickets, r.tickets);
}

pub has_mine : (v : View) → 0 < numbered v.phase → 0 < has v.number v
has_mine v l = let e : numbered v.phase * only v.number v.number ≡ numbered v.phase * 1 = ap (λ (z : ℕ). numbered v.phase * z) (only-same v.number) in omega arith

pub has_done : (v : View) (j : ℕ) (e : Ended) → get_elem? v.ended j ≡ some e → 0 < has e.number v
has_done v j e at = let t = term_le (ended_as e.number) v.ended j e at in let o = only-same e.number in omega arith

-- a number that a seat has is below word 1, and the other seats do not have it
pub has_low : (threads : ℕ) (s : St) (k : ℕ) (u : View) (x : ℕ) → Numbered threads s → get_elem? s.views k ≡ some u → 0 < has x u → x < claim_word s.words
has_low threads s k u x r at h = below_le x (claim_word s.words) (omega (arith, term_le (has x) s.views k u at, r.drawn x))

pub has_apart : (threads : ℕ) (s : St) (id k : ℕ) (v u : View) (x y : ℕ) → Numbered threads s → k ≢ id → get_elem? s.views id ≡ some v → get_elem? s.views k ≡ some u → 0 < has x v → 0 < has y u → x ≢ y
has_apart threads s id k v u x y r ne at there mine theirs e =
    let t = terms_le (has y) s.views id k v u ne at there in let d = r.drawn y in let b = apart_below y (claim_word s.words) in
    let m : 0 < has y v = subst (λ (z : ℕ). 0 < has z v) e mine in absurd (omega arith)

-- ---- seats

-- nothing that is said of the number x changes
pub record Stays (log log' : List Mark) (ws ws' : List ℕ) (x : ℕ) : Type 0 where
  pub count : count_at ws' x ≡ count_at ws x
  pub marks : offs x log' ≡ offs x log
  pub still : (n c : ℕ) → count_at ws x ≡ c → Still n x c log → Still n x c log'
  pub grow : (xs : List Mark) → Begins xs log → Begins xs log'

pub seat_frame : (about : Plan) (log log' : List Mark) (ws ws' : List ℕ) (u : View) → SeatOk about log ws u
    → (Begins u.seen log → Begins u.seen log')
    → ((x : ℕ) → x < about.threads → 0 < has x u → Stays log log' ws ws' x)
    → (0 < works u.phase → puts log' ≡ puts log)
    → (0 < leads u.phase → Leads log (first_board about) about.threads ws u → Leads log' (first_board about) about.threads ws' u)
    → SeatOk about log' ws' u
seat_frame about log log' ws ws' u ok grow stays quiet lead = record {
  told = ok.told;
  begins = grow ok.begins;
  works = λ l. let o = ok.works l in let t = stays u.number o.low (has_mine u l) in record {
    low = o.low;
    marks = t.marks ∙ o.marks;
    count = t.count ∙ o.count;
    all = λ w. o.all w ∙ sym (quiet w);
    still = λ z. t.still (length u.seen) u.stored o.count (o.still z);
  };
  leads = λ l. lead l (ok.leads l);
  done = λ j e at. let o = ok.done j e at in let t = stays e.number o.low (has_done u j e at) in record {
    low = o.low;
    marks = t.marks ∙ o.marks;
    begins = t.grow e.seen o.begins;
    still = t.still (length e.seen) e.last o.count o.still;
    count = t.count ∙ o.count;
  };
}

pub each_set : (P Q : View → Type 0) (vs : List View) (id : ℕ) (w : View) → EachSeat P vs → Q w → ((k : ℕ) (u : View) → k ≢ id → get_elem? vs k ≡ some u → P u → Q u) → EachSeat Q (set vs id w)
each_set P Q vs id w all mine others k u e = ⊎_elim (λ (t : (k ≡ id) × (w ≡ u)). subst Q t.1 mine) (λ (t : (k ≢ id) × (get_elem? vs k ≡ some u)). others k u t.0 t.1 (all k u t.1)) (at_set vs id k w u e)

-- the words but for 0 are as they were, and so is the history
pub same_stays : (log : List Mark) (ws ws' : List ℕ) → ((i : ℕ) → get_or ws' (suc i) 0 ≡ get_or ws (suc i) 0) → (x : ℕ) → Stays log log ws ws' x
same_stays log ws ws' same x = record {
  count = let t = same (1 + x) in subst (λ (p : ℕ). get_or ws' p 0 ≡ get_or ws p 0) (omega arith) t;
  marks = refl;
  still = λ n c e h. h;
  grow = λ xs b. b;
}

pub leads_words : (log : List Mark) (first : Board) (threads : ℕ) (ws ws' : List ℕ) (u : View) → ((i : ℕ) → get_or ws' (suc i) 0 ≡ get_or ws (suc i) 0) → Leads log first threads ws u → Leads log first threads ws' u
leads_words log first threads ws ws' u same o = record {
  marks = o.marks;
  all = o.all;
  noted = λ j p at. let t = o.noted j p at in (t.0, subst (λ (i : ℕ). get_or ws' i 0 ≡ get_or ws i 0) (omega arith) (same (1 + p.number)) ∙ t.1);
  right = λ l h. subst (Right first (after first log) u.written l) (sym (subst (λ (i : ℕ). get_or ws' i 0 ≡ get_or ws i 0) (omega arith) (same (1 + threads + l)))) (o.right l h);
  clean = o.clean;
}

pub seat_words : (about : Plan) (log : List Mark) (ws ws' : List ℕ) (u : View) → ((i : ℕ) → get_or ws' (suc i) 0 ≡ get_or ws (suc i) 0) → SeatOk about log ws u → SeatOk about log ws' u
seat_words about log ws ws' u same ok = seat_frame about log log ws ws' u ok (λ b. b) (λ x l h. same_stays log ws ws' same x) (λ _. refl) (λ _ o. leads_words log (first_board about) about.threads ws ws' u same o)

pub counts_words : (threads : ℕ) (log : List Mark) (ws ws' : List ℕ) → ((i : ℕ) → get_or ws' (suc i) 0 ≡ get_or ws (suc i) 0) → Counted threads log ws → Counted threads log ws'
counts_words threads log ws ws' same c = let at : (x : ℕ) → count_at ws' x ≡ count_at ws x = λ x. subst (λ (i : ℕ). get_or ws' i 0 ≡ get_or ws i 0) (omega arith) (same (1 + x)) in
    let one : claim_word ws' ≡ claim_word ws = subst (λ (i : ℕ). get_or ws' i 0 ≡ get_or ws i 0) (omega arith) (same 0) in record {
      fresh = λ x a b. at x ∙ c.fresh x (omega arith) b;
      none = λ x a. c.none x (omega arith);
      high = λ x a. subst (λ (z : ℕ). UpTo x z log) (sym (at x)) (c.high x a);
    }

pub other_words : (ws : List ℕ) (k i : ℕ) → get_or (set ws 0 k) (suc i) 0 ≡ get_or ws (suc i) 0
other_words ws k i = get_or-set_other ws 0 (suc i) k 0 (λ e. absurd (omega arith))

-- the seat that steps has then seen the whole history, or the seat that had seen it still has
pub longest_set : (log : List Mark) (vs : List View) (id : ℕ) (v w : View) → get_elem? vs id ≡ some v → (k : ℕ) × (u : View) × (get_elem? vs k ≡ some u) × (u.seen ≡ log) → (v.seen ≡ log → w.seen ≡ log)
    → (k : ℕ) × (u : View) × (get_elem? (set vs id w) k ≡ some u) × (u.seen ≡ log)
longest_set log vs id v w at l keep = dite (ℕ_discrete l.0 id)
    (λ e. (id, w, set_here vs id w (at_length vs id v at), keep (ap (λ (x : View). x.seen) (some-injective v l.1 (sym at ∙ (ap (get_elem? vs) (sym e) ∙ l.2))) ∙ l.3)))
    (λ ne. (l.0, l.1, set_else vs id l.0 w ne ∙ l.2, l.3))

-- the tally and the word found last are nothing to the rule
pub retallied : (about : Plan) (log : List Mark) (ws : List ℕ) (v : View) (x : ℕ) (t : Tally) → SeatOk about log ws v → SeatOk about log ws (record v { found = x; tally = t })
retallied about log ws v x t ok = record {
  told = ok.told;
  begins = ok.begins;
  works = λ h. let o = ok.works h in record { low = o.low; marks = o.marks; count = o.count; all = o.all; still = o.still };
  leads = λ h. let o = ok.leads h in record { marks = o.marks; all = o.all; noted = o.noted; right = o.right; clean = o.clean };
  done = ok.done;
}

-- a step on word 0 that keeps the numbers and the history
pub gate_step : (about : Plan) (s : St) (r : Kept about s) (id k : ℕ) (m : Sat) (w : View) → get_elem? s.views id ≡ some m.0
    → SameNumbers m.0 w → leads w.phase ≡ leads m.0.phase
    → k + inside m.0.phase + asks m.0.phase * stop_bit ≡ gate_word s.words + inside w.phase + asks w.phase * stop_bit
    → (0 < total stops_of s.views + stops w.phase → stops m.0.phase < total stops_of s.views + stops w.phase → total works_of s.views + works w.phase ≡ works m.0.phase)
    → (m.0.seen ≡ r.log → w.seen ≡ r.log)
    → SeatOk about r.log s.words w
    → Kept about (stepped s 0 k id m.1 w keeps)
gate_step about s r id k m w at n lead word calm seen mine = let v = m.0 in let wide = r.wide in
    let here = get_or-set_same s.words 0 k 0 (omega arith) in
    let a = total-set in_of s.views id v w at in let b = total-set asks_of s.views id v w at in let c = total-set leads_of s.views id v w at in
    let d = total-set stops_of s.views id v w at in let e = total-set works_of s.views id v w at in
    let old = r.gated.word in let one = r.gated.one in let ws : List ℕ = set s.words 0 k in
    record {
      log = r.log;
      wide = length-set s.words 0 k ∙ wide;
      few = r.few;
      gated = record { word = omega arith; one = omega arith; calm = λ l. let t = calm (omega arith) (omega arith) in omega arith };
      numbers = numbers_stay about.threads s id ws v w r.numbers at n (get_or-set_other s.words 0 1 k 0 (λ e. omega arith));
      counts = counts_words about.threads r.log s.words ws (other_words s.words k) r.counts;
      first = r.first;
      based = r.based;
      placed = r.placed;
      seats = each_set (SeatOk about r.log s.words) (SeatOk about r.log ws) s.views id w r.seats (seat_words about r.log s.words ws w (other_words s.words k) mine) (λ j u _ _ ok. seat_words about r.log s.words ws u (other_words s.words k) ok);
      longest = longest_set r.log s.views id v w at r.longest seen;
    }

-- a step on another word than the first two, by which a seat learns
pub step_on : (about : Plan) (s : St) (r : Kept about s) (log : List Mark) (i id k : ℕ) (m : Sat) (w : View) → get_elem? s.views id ≡ some m.0 → 1 < i
    → SameNumbers m.0 w → w.phase ≡ m.0.phase
    → Counted about.threads log (set s.words i k) → Based (first_bases about) log → Placed (length (first_board about).cells) log
    → SeatOk about log (set s.words i k) w
    → ((j : ℕ) (u : View) → j ≢ id → get_elem? s.views j ≡ some u → SeatOk about r.log s.words u → SeatOk about log (set s.words i k) u)
    → (j : ℕ) × (u : View) × (get_elem? (set s.views id w) j ≡ some u) × (u.seen ≡ log)
    → Kept about (stepped s i k id m.1 w keeps)
step_on about s r log i id k m w at big n same counts based placed mine others long = let v = m.0 in
    let a = total-set in_of s.views id v w at in let b = total-set asks_of s.views id v w at in let c = total-set leads_of s.views id v w at in
    let d = total-set stops_of s.views id v w at in let e = total-set works_of s.views id v w at in
    let q₀ = ap inside same in let q₁ = ap asks same in let q₂ = ap leads same in let q₃ = ap stops same in let q₄ = ap works same in
    let zero-stays : gate_word (set s.words i k) ≡ gate_word s.words = get_or-set_other s.words i 0 k 0 (λ e. absurd (omega arith)) in
    let old = r.gated.word in let one = r.gated.one in let calm = r.gated.calm in
    record {
      log = log;
      wide = length-set s.words i k ∙ r.wide;
      few = r.few;
      gated = record { word = omega arith; one = omega arith; calm = λ l. let t = calm (omega arith) in omega arith };
      numbers = numbers_stay about.threads s id (set s.words i k) v w r.numbers at n (get_or-set_other s.words i 1 k 0 (λ e. absurd (omega arith)));
      counts = counts;
      first = r.first;
      based = based;
      placed = placed;
      seats = each_set (SeatOk about r.log s.words) (SeatOk about log (set s.words i k)) s.views id w r.seats mine others;
      longest = long;
    }

-- the first pass is some seat
pub a_leader : (vs : List View) → 0 < total leads_of vs → (k : ℕ) × (u : View) × (get_elem? vs k ≡ some u) × (0 < leads u.phase)
a_leader [] l = absurd (omega arith)
a_leader (x ∷ xs) l = dite (dec_le (leads x.phase) 0) (λ z. let t = a_leader xs (omega arith) in (suc t.0, t.1, t.2, t.3)) (λ p. (0, x, refl, omega arith))

-- the number of a seat is in none of its ended ones
pub own_apart : (threads : ℕ) (s : St) (id : ℕ) (v : View) (j : ℕ) (e : Ended) → Numbered threads s → get_elem? s.views id ≡ some v → 0 < numbered v.phase → get_elem? v.ended j ≡ some e → v.number ≢ e.number
own_apart threads s id v j e r at l there is =
    let x : ℕ = e.number in let a = term_le (has x) s.views id v at in let d = r.drawn x in let b = apart_below x (claim_word s.words) in let t = term_le (ended_as x) v.ended j e there in let o = only-same x in
    let mine : only x v.number ≡ 1 = ap (only x) is ∙ only-same x in let e₁ : numbered v.phase * only x v.number ≡ numbered v.phase * 1 = ap (λ (z : ℕ). numbered v.phase * z) mine in absurd (omega arith)

-- while a seat works the first pass is not stopped
pub not_stopped : (about : Plan) (s : St) (r : Kept about s) (id : ℕ) (v : View) → get_elem? s.views id ≡ some v → works v.phase ≡ 1 → (j : ℕ) (u : View) → get_elem? s.views j ≡ some u → stops u.phase ≡ 0
not_stopped about s r id v at is j u there = let mine = term_le works_of s.views id v at in let t = term_le stops_of s.views j u there in let calm = r.gated.calm in
    dite (dec_le (total stops_of s.views) 0) (λ z. omega arith) (λ h. let q = calm (omega arith) in absurd (omega arith))

-- the first pass is one seat
pub one_leader : (s : St) → Gated s → (id : ℕ) (v : View) → get_elem? s.views id ≡ some v → leads v.phase ≡ 1 → (j : ℕ) (u : View) → j ≢ id → get_elem? s.views j ≡ some u → leads u.phase ≡ 0
one_leader s g id v at is j u ne there = let t = terms_le leads_of s.views id j v u ne at there in let one = g.one in omega arith

-- a stopped controller's own steps touch nothing that others know
pub quiet_others : (about : Plan) (s : St) (r : Kept about s) (id i k : ℕ) (v : View) → get_elem? s.views id ≡ some v → leads v.phase ≡ 1 → 1 < i → ((z : ℕ) → z < about.threads → count_at (set s.words i k) z ≡ count_at s.words z)
    → (j : ℕ) (u : View) → j ≢ id → get_elem? s.views j ≡ some u → SeatOk about r.log s.words u → SeatOk about r.log (set s.words i k) u
quiet_others about s r id i k v at is big count-stays j u ne there q = seat_frame about r.log r.log s.words (set s.words i k) u q (λ b. b)
    (λ z h _. record { count = count-stays z h; marks = refl; still = λ f g e q. q; grow = λ xs b. b }) (λ _. refl) (λ l _. absurd (omega (arith, one_leader s r.gated id v at is j u ne there)))

-- a word is set to itself
pub same_counts : (about : Plan) (log : List Mark) (ws ws' : List ℕ) → ws' ≡ ws → Counted about.threads log ws → Counted about.threads log ws'
same_counts about log ws ws' e c = subst (Counted about.threads log) (sym e) c

pub same_seat : (about : Plan) (log : List Mark) (ws ws' : List ℕ) (v : View) → ws' ≡ ws → SeatOk about log ws v → SeatOk about log ws' v
same_seat about log ws ws' v e ok = subst (λ (z : List ℕ). SeatOk about log z v) (sym e) ok

-- what a live seat knows of the base opcodes
pub has_bases : (about : Plan) (s : St) (r : Kept about s) (id : ℕ) (v : View) → get_elem? s.views id ≡ some v → 0 < alive v.phase → HasBases (map base_in v.first.cells) (after v.first r.log)
has_bases about s r id v at live = let told = (r.seats id v at).told live in
    subst (λ (f : Board). HasBases (map base_in f.cells) (after f r.log)) (sym told.first_is) (after-bases (first_bases about) (first_board about) r.log r.based r.first)

pub stopped_is_alone : StoppedIsAlone
stopped_is_alone about s r i j u v there stopped at attached =
    let mine : works v.phase ≡ 1 = ap works attached in
    let theirs : stops u.phase ≡ 1 = ap stops stopped in
    let none : stops u.phase ≡ 0 = not_stopped about s r j v at mine i u there in
    absurd (omega arith)
