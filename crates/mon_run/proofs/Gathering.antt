-- What is known of the first pass is kept where it takes in the pass of a thread that has ended.
use Rattle.std.proofs.Common.{◌≡◌, ◌≢◌, ℕ, zero, suc, ◌+◌, ◌<◌, List, [], ◌∷◌, ◌++◌, length, set, Option, Some, slice_get, sym, refl, ap, ◌∙◌, subst, arith, ⊎_elim, length-set, length-append}
use mathlib.Core.Option.{some, some-ne-none}
use lib.ListN.{get_elem?}
use Rattle.atomic_table.proofs.Lists.{at_snoc}
use Rattle.mon_code.specs.Programs.{Parts}
use Rattle.mon_code.specs.Sites.{sites_of}
use Rattle.mon_words.specs.History.{puts, Begins}
use Rattle.mon_words.specs.declared.history.Board.{Board}
use Rattle.mon_words.specs.declared.history.Mark.{Mark}
use Rattle.mon_words.proofs.Histories.{begins_all}
use Rattle.mon_recorders.specs.declared.report.ThreadReport.{ThreadReport}
use Rattle.mon_gate.specs.Rule.{leads, numbered}
use Rattle.mon_gate.specs.Plays.{Whole, closed, ended_of, joined}
use Rattle.mon_gate.specs.declared.view.View.{View}
use Rattle.mon_gate.specs.declared.view.Ended.{Ended}
use Rattle.mon_gate.specs.declared.view.Phase.{Phase}
use Rattle.mon_gate.specs.declared.view.Phase.TheVariants.{Out, Idle}
use Rattle.mon_history.specs.Stands.{StandsFor}
use Rattle.mon_history.proofs.Growing.{stands_on}
use Rattle.mon_control.specs.View.{Shown}
use Rattle.mon_forms.specs.declared.plan.Workload.{Workload}
use Rattle.mon_run.specs.Rounds.{Worked}
use Rattle.mon_run.specs.Controlling.{Governs}
use Rattle.mon_run.specs.Crowding.{Placed, Gathered, Came}
use Rattle.mon_run.proofs.Reading.{bare_behind}

long_enough : {A : Type 0} (xs : List A) (k : ℕ) (x : A) → get_elem? xs k ≡ some x → k < length xs
long_enough [] k x e = absurd (some-ne-none x (sym e))
long_enough (y ∷ ys) zero x e = omega arith
long_enough (y ∷ ys) (suc k) x e = let h = long_enough ys k x e in omega arith

last_here : {A : Type 0} (xs : List A) (x : A) → get_elem? (xs ++ x ∷ []) (length xs) ≡ some x
last_here [] x = refl
last_here (y ∷ ys) x = last_here ys x

set_at : {A : Type 0} (xs : List A) (k : ℕ) (x y : A) → slice_get (set xs k x) k ≡ Some y → x ≡ y
set_at [] k x y e = absurd (cc)
set_at (z ∷ zs) zero x y e = cc
set_at (z ∷ zs) (suc k) x y e = set_at zs k x y e

set_apart : {A : Type 0} (xs : List A) (k j : ℕ) (x : A) → j ≢ k → slice_get (set xs k x) j ≡ slice_get xs j
set_apart [] k j x ne = refl
set_apart (z ∷ zs) zero zero x ne = absurd (ne refl)
set_apart (z ∷ zs) zero (suc j) x ne = refl
set_apart (z ∷ zs) (suc k) zero x ne = refl
set_apart (z ∷ zs) (suc k) (suc j) x ne = set_apart zs k j x (λ e. ne (ap suc e))

closed_one : (u : View) → u.phase ≡ Out → u.ended ≡ [] → closed u ≡ ended_of u ∷ []
closed_one u out none = ap (λ (z : Phase × List Ended). closed (record u { phase = z.0; ended = z.1 })) (λ i. (out i, none i))

-- one number more has ended
pub one_ended : (v u w : View) (log : List Mark) → w ≡ record (joined v u) { seen = log } → u.phase ≡ Out → u.ended ≡ [] → length w.ended ≡ length v.ended + 1
one_ended v u w log is out none = ap (λ (z : View). length z.ended) is ∙ (ap (λ z. length (v.ended ++ z)) (closed_one u out none) ∙ length-append v.ended (ended_of u ∷ []))

-- v is the first pass before, u the other, x where they are joined, and w where that has seen the whole history
pub settled_view : (v u x w : View) → x ≡ joined v u → w ≡ record x { seen = w.seen } → w ≡ record (joined v u) { seen = w.seen }
settled_view v u x w is on = on ∙ ap (λ (z : View). record z { seen = w.seen }) is

module _ (p : Parts) (plan : Workload) (c : Shown) (v u w : View) (number : ℕ) (report : Option ThreadReport) (slots : List (Option ThreadReport)) (home : Gathered p plan c v slots) (came : Came p plan v.first number u report)
    (is : w ≡ record (joined v u) { seen = w.seen }) (begins : Begins v.seen w.seen) (whole : Whole (joined v u) w.seen) where
  first : w.first ≡ v.first
  first = ap (λ (z : View). z.first) is

  mine : w.mine ≡ v.mine
  mine = ap (λ (z : View). z.mine) is

  boards : puts w.seen ≡ v.mine
  boards = whole.changes (let l = ap leads home.idle in omega arith)

  governs : Governs p c w
  governs =
      let rest : List Mark = begins.more in
      let bare : puts rest ≡ [] = bare_behind v.seen rest (ap puts (sym begins.is) ∙ (boards ∙ sym home.governs.own)) in
      record {
        threads = ap (λ (z : View). z.threads) is ∙ home.governs.threads;
        codes = home.governs.codes;
        lawful = home.governs.lawful;
        stands = subst (λ (z : Board × List Mark). StandsFor (sites_of p) c.journal z.0 z.1) (λ i. (sym first i, sym begins.is i)) (stands_on (sites_of p) c.journal v.first v.seen rest home.governs.stands bare);
        own = boards ∙ sym mine;
      }

  all_ended : v.ended ++ closed u ≡ v.ended ++ ended_of u ∷ []
  all_ended = ap (λ z. v.ended ++ z) (closed_one u came.out came.ended)

  -- two ended numbers, the last of which is the new one
  different : (j : ℕ) (e : Ended) → get_elem? v.ended j ≡ some e → get_elem? (v.ended ++ ended_of u ∷ []) j ≡ some e → e.number ≢ number
  different j e at there same =
      let low = long_enough v.ended j e at in
      whole.apart j (length v.ended) e (ended_of u) (λ z. absurd (omega arith)) (ap (λ es. get_elem? es j) all_ended ∙ there) (ap (λ es. get_elem? es (length v.ended)) all_ended ∙ last_here v.ended (ended_of u)) (same ∙ sym came.number_is)

  placed : Placed p plan v.first (v.ended ++ ended_of u ∷ []) (set slots number report)
  placed j e r at there = ⊎_elim
      (λ (old : get_elem? v.ended j ≡ some e). home.placed j e r old (sym (set_apart slots number e.number report (different j e old at)) ∙ there))
      (λ (new : ended_of u ≡ e). subst (λ (z : Ended). Worked p plan v.first z r) new
      (came.worked r (set_at slots number report (Some r) (ap (slice_get (set slots number report)) (sym came.number_is ∙ ap (λ (z : Ended). z.number) new) ∙ there))))
      (at_snoc v.ended (ended_of u) e j at)

  pub taken : Gathered p plan c w (set slots number report)
  taken = record {
    idle = ap (λ (z : View). z.phase) is ∙ home.idle;
    threads = ap (λ (z : View). z.threads) is ∙ home.threads;
    governs = governs;
    wide = length-set slots number report ∙ home.wide;
    placed = subst (λ (z : Board × List Ended). Placed p plan z.0 z.1 (set slots number report)) (λ i. (sym first i, sym (ap (λ (z : View). z.ended) is ∙ all_ended) i)) placed;
  }

-- the first pass sees the whole history once more
pub whole_of : (v w : View) → v.phase ≡ Idle → w ≡ record v { seen = w.seen } → Whole v w.seen → Whole w w.seen
whole_of v w idle is h =
    let leader : numbered v.phase ≡ 0 = ap numbered idle in
    let x : View = record v { seen = w.seen } in
    let there : Whole x w.seen = record {
      begins = begins_all w.seen;
      changes = λ l. h.changes l;
      goes = λ l. absurd (omega arith);
      placed = h.placed;
      past = h.past;
      apart = h.apart;
      each = h.each;
      others = h.others;
    } in
    subst (λ (z : View). Whole z w.seen) (sym is) there

module _ (p : Parts) (plan : Workload) (c : Shown) (v w : View) (slots : List (Option ThreadReport)) (home : Gathered p plan c v slots) (is : w ≡ record v { seen = w.seen }) (whole : Whole v w.seen) where
  pub settled : Gathered p plan c w slots
  settled =
      let boards : puts w.seen ≡ v.mine = whole.changes (let l = ap leads home.idle in omega arith) in
      let rest : List Mark = whole.begins.more in
      let bare : puts rest ≡ [] = bare_behind v.seen rest (ap puts (sym whole.begins.is) ∙ (boards ∙ sym home.governs.own)) in
      let board : w.first ≡ v.first = ap (λ (z : View). z.first) is in
      record {
        idle = ap (λ (z : View). z.phase) is ∙ home.idle;
        threads = ap (λ (z : View). z.threads) is ∙ home.threads;
        governs = record {
          threads = ap (λ (z : View). z.threads) is ∙ home.governs.threads;
          codes = home.governs.codes;
          lawful = home.governs.lawful;
          stands = subst (λ (z : Board × List Mark). StandsFor (sites_of p) c.journal z.0 z.1) (λ i. (sym board i, sym whole.begins.is i)) (stands_on (sites_of p) c.journal v.first v.seen rest home.governs.stands bare);
          own = boards ∙ sym (ap (λ (z : View). z.mine) is);
        };
        wide = home.wide;
        placed = subst (λ (z : Board × List Ended). Placed p plan z.0 z.1 slots) (λ i. (sym board i, sym (ap (λ (z : View). z.ended) is) i)) home.placed;
      }
