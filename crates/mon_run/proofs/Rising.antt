-- The steps of the records and disables of a legal report never fall, and their codes are the program's.
use Rattle.std.proofs.Common.{◌≡◌, ℕ, zero, suc, ◌+◌, ◌<◌, ◌≤◌, Bool, true, false, List, [], ◌∷◌, ◌++◌, length, map, cond, sym, subst, arith}
use Rattle.std.specs.List.{AllByRecursion}
use Rattle.std.proofs.lemmas.List.{map-append}
use Rattle.mon_code.specs.Sites.{sites_of}
use Rattle.mon_recorders.specs.declared.happening.Happening.{Happening}
use Rattle.mon_recorders.specs.declared.record.Record.{Record}
use Rattle.mon_recorders.specs.declared.record.Disabled.{Disabled}
use Rattle.mon_recorders.specs.Happenings.{answers, delivered, for_tools, record_of, disabled_of, records_in, disables_in}
use Rattle.mon_recorders.specs.Readings.{Between, in_turn, read_at}
use Rattle.mon_machine.specs.Advances.{events_from}
use Rattle.mon_machine.specs.Laws.{NamesCode}
use Rattle.mon_machine.proofs.Heard.{all_append}
use Rattle.mon_history.specs.Readings.{reader}
use Rattle.mon_run.specs.Reports.{begins}
use Rattle.mon_run.specs.Laws.{LegalStepsRise, LegalNamesCodes}
use Rattle.mon_run.proofs.Starting.{named_plan}

all_as : {A : Type 0} (P Q : A → Type 0) (xs : List A) → ((x : A) → P x → Q x) → AllByRecursion P xs → AllByRecursion Q xs
all_as P Q [] f a = tt
all_as P Q (x ∷ xs) f a = (f x a.0, all_as P Q xs f a.1)

tools_all : {A : Type 0} (P : A → Type 0) (test : ℕ → Bool) (make : ℕ → A) (n : ℕ) → ((t : ℕ) → P (make t)) → AllByRecursion P (for_tools test make n)
unfolding for_tools
tools_all P test make zero h = tt
tools_all P test make (suc n) h = all_append P (for_tools test make n) (cond (test n) (make n ∷ []) []) (tools_all P test make n h) (one (test n))
  where
    one : (b : Bool) → AllByRecursion P (cond b (make n ∷ []) [])
    one true = (h n, tt)
    one false = tt

delivered_all : {A : Type 0} (P : A → Type 0) (test : ℕ → Happening → Bool) (make : Happening → ℕ → A) (es : List Happening) → ((e : Happening) (t : ℕ) → P (make e t)) → AllByRecursion P (delivered test make es)
delivered_all P test make [] h = tt
delivered_all P test make (e ∷ es) h = all_append P (for_tools (λ t. test t e) (make e) 6) (delivered test make es) (tools_all P (λ t. test t e) (make e) 6 (h e)) (delivered_all P test make es h)

-- where the items of the events are such, each event having Q
delivered_of : {A : Type 0} (Q : Happening → Type 0) (P : A → Type 0) (test : ℕ → Happening → Bool) (make : Happening → ℕ → A) (es : List Happening) → ((e : Happening) (t : ℕ) → Q e → P (make e t)) → AllByRecursion Q es → AllByRecursion P (delivered test make es)
delivered_of Q P test make [] h all = tt
delivered_of Q P test make (e ∷ es) h all = all_append P (for_tools (λ t. test t e) (make e) 6) (delivered test make es) (tools_all P (λ t. test t e) (make e) 6 (λ t. h e t all.0)) (delivered_of Q P test make es h all.1)

-- items at the high end
ends_at : {A : Type 0} (f : A → ℕ) (low high next : ℕ) (ys : List A) → low ≤ high → high ≤ next → AllByRecursion (λ y. f y ≡ high) ys → Between low (map f ys) next
ends_at f low high next [] l n h = omega arith
ends_at f low high next (y ∷ ys) l n h = (let e = h.0 in omega arith, ends_at f (f y) high next ys (let e = h.0 in omega arith) n h.1)

behind : {A : Type 0} (f : A → ℕ) (low high next : ℕ) (xs ys : List A) → Between low (map f xs) high → high ≤ next → AllByRecursion (λ y. f y ≡ high) ys → Between low (map f xs ++ map f ys) next
behind f low high next [] ys b n h = ends_at f low high next ys b n h
behind f low high next (x ∷ xs) ys b n h = (b.0, behind f (f x) high next xs ys b.1 n h)

-- items made step by step
module _ {A : Type 0} (f : A → ℕ) (g : ℕ → List A) (steps : (k : ℕ) → AllByRecursion (λ x. f x ≡ k) (g k)) where
  rise : (n : ℕ) → Between 0 (map f (in_turn g n)) n
  unfolding in_turn
  rise zero = omega arith
  rise (suc n) = subst (λ z. Between 0 z (suc n)) (sym (map-append f (in_turn g n) (g n))) (behind f 0 n (suc n) (in_turn g n) (g n) (rise n) (omega arith) (steps n))

  below : (n : ℕ) → AllByRecursion (λ x. f x < n) (in_turn g n)
  unfolding in_turn
  below zero = tt
  below (suc n) = all_append (λ x. f x < suc n) (in_turn g n) (g n) (all_as (λ x. f x < n) (λ x. f x < suc n) (in_turn g n) (λ x h. omega arith) (below n)) (all_as (λ x. f x ≡ n) (λ x. f x < suc n) (g n) (λ x e. omega arith) (steps n))

pub legal_steps_rise : LegalStepsRise
legal_steps_rise p plan report legal t s r is at =
    let reads = legal.1.reads t s r is at in let span = reads.reading.span in
    let R = reader (sites_of p) report.journal.lines t in
    let rec : ℕ → List Record = λ k. records_in (read_at R legal.0 reads.at k) (0 + k) (events_from p (begins p s) k) in
    let dis : ℕ → List Disabled = λ k. disables_in (read_at R legal.0 reads.at k) (0 + k) (events_from p (begins p s) k) in
    let records : (k : ℕ) → AllByRecursion (λ (x : Record). x.step ≡ k) (rec k) = λ k. let z : 0 + k ≡ k = omega arith in
    delivered_all (λ (x : Record). x.step ≡ k) (read_at R legal.0 reads.at k).hears (record_of (0 + k)) (events_from p (begins p s) k) (λ e u. z) in
    let disables : (k : ℕ) → AllByRecursion (λ (x : Disabled). x.step ≡ k) (dis k) = λ k. let z : 0 + k ≡ k = omega arith in
    delivered_all (λ (x : Disabled). x.step ≡ k) (answers (read_at R legal.0 reads.at k)) (disabled_of (0 + k)) (events_from p (begins p s) k) (λ e u. z) in
    record {
      records = subst (λ (z : List Record × ℕ). Between 0 (map (λ x. x.step) z.0) z.1) (λ i. (sym span.records_are i, reads.steps i)) (rise (λ (x : Record). x.step) rec records (length reads.at));
      disables = subst (λ (z : List Disabled × ℕ). Between 0 (map (λ x. x.step) z.0) z.1) (λ i. (sym span.disables_are i, reads.steps i)) (rise (λ (x : Disabled). x.step) dis disables (length reads.at));
      records_below = subst (λ (z : List Record × ℕ). AllByRecursion (λ (x : Record). x.step < z.1) z.0) (λ i. (sym span.records_are i, reads.steps i)) (below (λ (x : Record). x.step) rec records (length reads.at));
      disables_below = subst (λ (z : List Disabled × ℕ). AllByRecursion (λ (x : Disabled). x.step < z.1) z.0) (λ i. (sym span.disables_are i, reads.steps i)) (below (λ (x : Disabled). x.step) dis disables (length reads.at));
    }

all_turns : {A : Type 0} (P : A → Type 0) (g : ℕ → List A) (n : ℕ) → ((k : ℕ) → AllByRecursion P (g k)) → AllByRecursion P (in_turn g n)
unfolding in_turn
all_turns P g zero h = tt
all_turns P g (suc n) h = all_append P (in_turn g n) (g n) (all_turns P g n h) (h n)

pub legal_names_codes : LegalNamesCodes
legal_names_codes p plan report checked fits legal t s r is at =
    let reads = legal.1.reads t s r is at in let span = reads.reading.span in
    let R = reader (sites_of p) report.journal.lines t in
    let events : ℕ → List Happening = events_from p (begins p s) in
    let named : (k : ℕ) → AllByRecursion (NamesCode p) (events k) = named_plan p plan t s checked fits is in
    let rec : ℕ → List Record = λ k. records_in (read_at R legal.0 reads.at k) (0 + k) (events k) in
    let dis : ℕ → List Disabled = λ k. disables_in (read_at R legal.0 reads.at k) (0 + k) (events k) in record {
      records = subst (AllByRecursion (λ (x : Record). x.code < length p.codes)) (sym span.records_are) (all_turns (λ (x : Record). x.code < length p.codes) rec (length reads.at)
          (λ k. delivered_of (NamesCode p) (λ (x : Record). x.code < length p.codes) (read_at R legal.0 reads.at k).hears (record_of (0 + k)) (events k) (λ e u h. h) (named k)));
      disables = subst (AllByRecursion (λ (x : Disabled). x.code < length p.codes)) (sym span.disables_are) (all_turns (λ (x : Disabled). x.code < length p.codes) dis (length reads.at)
          (λ k. delivered_of (NamesCode p) (λ (x : Disabled). x.code < length p.codes) (answers (read_at R legal.0 reads.at k)) (disabled_of (0 + k)) (events k) (λ e u h. h) (named k)));
    }
