-- Journals and word histories that grow at their ends.
use Rattle.std.proofs.Common.{◌≡◌, ℕ, zero, suc, ◌+◌, ◌<◌, ◌≤◌, ◌⊎◌, List, [], ◌∷◌, ◌++◌, map, length, take, get_or, Option, Some, None, slice_get, is_some, sym, refl, ap, ◌∙◌, subst, arith, length-append}
use Rattle.std.proofs.lemmas.List.{take-append-le, take_all}
use mathlib.Core.Logic.{dite, inl, inr}
use native.Mathlib.Decide.{ℕ_discrete, dec_le}
use Rattle.mon_events.specs.Sets.{slot_of, tool_of}
use Rattle.mon_words.specs.History.{puts}
use Rattle.mon_words.specs.declared.history.Board.{Board}
use Rattle.mon_words.specs.declared.history.Mark.{Mark}
use Rattle.mon_words.specs.declared.history.Mark.TheVariants.{Off, Put}
use Rattle.mon_code.specs.declared.site.Site.{Site}
use Rattle.mon_history.specs.declared.journal.Entry.{Entry}
use Rattle.mon_history.specs.declared.journal.JournalLine.{JournalLine}
use Rattle.mon_history.specs.Configuration.{Configuration, nothing, switched_off}
use Rattle.mon_history.specs.Registry.{reply, next, stops, change}
use Rattle.mon_history.specs.Journal.{replay_from, replay, IsLawful, if_stopped, stopping}
use Rattle.mon_history.specs.Histories.{config_after, after_from, changed, entries}
use Rattle.mon_history.specs.Stands.{BoardOf, StandsFor, counts_with}
use Rattle.mon_history.proofs.Boards.{after-more}

-- a list with one item more
pub last_at : {A : Type 0} (xs : List A) (x : A) → slice_get (xs ++ x ∷ []) (length xs) ≡ Some x
last_at [] x = refl
last_at (y ∷ ys) x = last_at ys x

pub front_at : {A : Type 0} (xs ys : List A) (k : ℕ) → k < length xs → slice_get (xs ++ ys) k ≡ slice_get xs k
front_at [] ys k h = absurd (omega arith)
front_at (x ∷ xs) ys zero h = refl
front_at (x ∷ xs) ys (suc k) h = front_at xs ys k (omega arith)

some_same : {A : Type 0} (x y : A) → Some x ≡ Some y → x ≡ y
some_same x y e = cc

none_some : {A : Type 0} (x : A) → None ≡ Some x → ⊥
none_some x e = absurd (cc)

past_end : {A : Type 0} (xs : List A) (x y : A) (k : ℕ) → length xs < k → slice_get (xs ++ x ∷ []) k ≡ Some y → ⊥
past_end [] x y zero h e = omega arith
past_end [] x y (suc k) h e = none_some y e
past_end (z ∷ zs) x y zero h e = absurd (omega arith)
past_end (z ∷ zs) x y (suc k) h e = past_end zs x y k (omega arith) e

-- an item of it is one of before, or the last
pub at_end : {A : Type 0} (xs : List A) (x y : A) (k : ℕ) → slice_get (xs ++ x ∷ []) k ≡ Some y → ((k < length xs) × (slice_get xs k ≡ Some y)) ⊎ ((k ≡ length xs) × (x ≡ y))
at_end xs x y k e = dite (dec_le (suc k) (length xs))
    (λ l. inl (l, sym (front_at xs (x ∷ []) k l) ∙ e))
    (λ g. dite (ℕ_discrete k (length xs))
    (λ is. inr (is, some_same x y (sym (last_at xs x) ∙ (ap (λ j. slice_get (xs ++ x ∷ []) j) (sym is) ∙ e))))
    (λ ne. absurd (past_end xs x y k (omega arith) e)))

pub whole : {A : Type 0} (xs ys : List A) → take (length xs) (xs ++ ys) ≡ xs
whole xs ys = take-append-le (length xs) xs ys (omega arith) ∙ take_all (length xs) xs (omega arith)

pub replay-more : (C : Configuration) (J : List JournalLine) (line : JournalLine) → replay_from C (J ++ line ∷ []) ≡ next (replay_from C J) line.call
replay-more C [] line = refl
replay-more C (x ∷ xs) line = replay-more (next C x.call) xs line

-- what a line has to meet behind a lawful journal
pub record Fits (threads : ℕ) (J : List JournalLine) (line : JournalLine) : Type 0 where
  pub reply_is : line.reply ≡ reply (replay J) line.call
  pub stopped : is_some line.stops ≡ stops (replay J) line.call
  pub wide : (counts : List ℕ) → line.stops ≡ Some counts → length counts ≡ threads
  pub above : (j : ℕ) (early : JournalLine) (low high : List ℕ) → slice_get J j ≡ Some early → early.stops ≡ Some low → line.stops ≡ Some high → (t : ℕ) → t < threads → get_or low t 0 ≤ get_or high t 0

pub lawful_more : (threads : ℕ) (J : List JournalLine) (line : JournalLine) → IsLawful threads J → Fits threads J line → IsLawful threads (J ++ line ∷ [])
lawful_more threads J line r f =
    let front : (k : ℕ) → k ≤ length J → take k (J ++ line ∷ []) ≡ take k J = λ k h. take-append-le k J (line ∷ []) h in
    let end : (k : ℕ) → k ≡ length J → take k (J ++ line ∷ []) ≡ J = λ k e. ap (λ j. take j (J ++ line ∷ [])) e ∙ whole J (line ∷ []) in record {
      replies = λ k x e. elim (at_end J line x k e) as (λ _. x.reply ≡ reply (replay (take k (J ++ line ∷ []))) x.call) [
        | inl p ↦ r.replies k x p.1 ∙ ap (λ z. reply (replay z) x.call) (sym (front k (omega arith)))
        | inr p ↦ subst (λ (y : JournalLine). y.reply ≡ reply (replay (take k (J ++ line ∷ []))) y.call) p.1 (f.reply_is ∙ ap (λ z. reply (replay z) line.call) (sym (end k p.0)))
      ];
      stopped = λ k x e. elim (at_end J line x k e) as (λ _. is_some x.stops ≡ stops (replay (take k (J ++ line ∷ []))) x.call) [
        | inl p ↦ r.stopped k x p.1 ∙ ap (λ z. stops (replay z) x.call) (sym (front k (omega arith)))
        | inr p ↦ subst (λ (y : JournalLine). is_some y.stops ≡ stops (replay (take k (J ++ line ∷ []))) y.call) p.1 (f.stopped ∙ ap (λ z. stops (replay z) line.call) (sym (end k p.0)))
      ];
      wide = λ k x counts e s. elim (at_end J line x k e) as (λ _. length counts ≡ threads)
          [ inl p ↦ r.wide k x counts p.1 s | inr p ↦ f.wide counts (ap (λ (y : JournalLine). y.stops) p.1 ∙ s) ];
      rising = λ j k early late low high l e g s u t h. elim (at_end J line late k g) as (λ _. get_or low t 0 ≤ get_or high t 0) [
        | inl p ↦ r.rising j k early late low high l (sym (front_at J (line ∷ []) j (omega arith)) ∙ e) p.1 s u t h
        | inr p ↦ f.above j early low high (sym (front_at J (line ∷ []) j (omega arith)) ∙ e) s (ap (λ (y : JournalLine). y.stops) p.1 ∙ u) t h
      ];
    }

-- the stopping calls
pub stopping-more : (J : List JournalLine) (line : JournalLine) (counts : List ℕ) → line.stops ≡ Some counts → stopping (J ++ line ∷ []) ≡ stopping J ++ line ∷ []
stopping-more [] line counts e = ap (λ o. if_stopped line o []) e
stopping-more (x ∷ xs) line counts e = ap (if_stopped x x.stops) (stopping-more xs line counts e) ∙ pulled x.stops
  where
    pulled : (o : Option (List ℕ)) → if_stopped x o (stopping xs ++ line ∷ []) ≡ if_stopped x o (stopping xs) ++ line ∷ []
    pulled (Some c) = refl
    pulled None = refl

pub stopping-quiet : (J : List JournalLine) (line : JournalLine) → line.stops ≡ None → stopping (J ++ line ∷ []) ≡ stopping J
stopping-quiet [] line e = ap (λ o. if_stopped line o []) e
stopping-quiet (x ∷ xs) line e = ap (if_stopped x x.stops) (stopping-quiet xs line e)

-- a history reads of a journal the calls that it numbers
abbrev pub Below : ℕ → List Entry → Type 0
Below n [] = Unit {0}
Below n (Entry.Change k c ∷ H) = (k < n) × Below n H
Below n (Entry.Disable t l s u ∷ H) = Below n H

pub after_longer : (J K : List JournalLine) (n : ℕ) → ((k : ℕ) → k < n → slice_get (stopping K) k ≡ slice_get (stopping J) k) → (C : Configuration) (H : List Entry) → Below n H → after_from K C H ≡ after_from J C H
after_longer J K n h C [] b = refl
after_longer J K n h C (Entry.Change k c ∷ H) b = ap (λ o. after_from K (changed o C) H) (h k b.0) ∙ after_longer J K n h (changed (slice_get (stopping J) k) C) H b.1
after_longer J K n h C (Entry.Disable t l s u ∷ H) b = after_longer J K n h (switched_off C l s u) H b

pub entries_below : (k n : ℕ) (W : List Mark) → k + length (counts_with W) ≤ n → Below n (entries k W)
entries_below k n [] h = tt
entries_below k n (Off t l j ∷ ms) h = entries_below k n ms h
entries_below k n (Put c b ∷ ms) h = (omega arith, entries_below (suc k) n ms (omega arith))

pub counts_take : (p : ℕ) (W : List Mark) → length (counts_with (take p W)) ≤ length (counts_with W)
counts_take zero W = omega arith
counts_take (suc p) [] = omega arith
counts_take (suc p) (Off t l k ∷ ms) = counts_take p ms
counts_take (suc p) (Put c b ∷ ms) = let h = counts_take p ms in omega arith

pub entries-put : (k : ℕ) (W : List Mark) (counts : List ℕ) (b : Board) → entries k (W ++ Put counts b ∷ []) ≡ entries k W ++ Entry.Change (k + length (counts_with W)) counts ∷ []
entries-put k [] counts b = let e : k ≡ k + 0 = omega arith in ap (λ j. Entry.Change j counts ∷ []) e
entries-put k (Off t l j ∷ ms) counts b = ap (λ z. Entry.Disable t l (slot_of j) (tool_of j) ∷ z) (entries-put k ms counts b)
entries-put k (Put c d ∷ ms) counts b = let e : suc k + length (counts_with ms) ≡ k + suc (length (counts_with ms)) = omega arith in
    ap (λ z. Entry.Change k c ∷ z) (entries-put (suc k) ms counts b ∙ ap (λ j. entries (suc k) ms ++ Entry.Change j counts ∷ []) e)

pub counts-put : (W : List Mark) (counts : List ℕ) (b : Board) → counts_with (W ++ Put counts b ∷ []) ≡ counts_with W ++ Some counts ∷ []
counts-put [] counts b = refl
counts-put (Off t l k ∷ ms) counts b = counts-put ms counts b
counts-put (Put c d ∷ ms) counts b = ap (λ z. Some c ∷ z) (counts-put ms counts b)

map_last : (J : List JournalLine) (line : JournalLine) → map (λ (x : JournalLine). x.stops) (J ++ line ∷ []) ≡ map (λ (x : JournalLine). x.stops) J ++ line.stops ∷ []
map_last [] line = refl
map_last (x ∷ xs) line = ap (λ z. x.stops ∷ z) (map_last xs line)

map_long : (J : List JournalLine) → length (map (λ (x : JournalLine). x.stops) J) ≡ length J
map_long [] = refl
map_long (x ∷ xs) = omega (arith, map_long xs)

pub as_many : (sites : List Site) (J : List JournalLine) (first : Board) (W : List Mark) → StandsFor sites J first W → length (counts_with W) ≡ length (stopping J)
as_many sites J first W s = ap length s.boards ∙ map_long (stopping J)

-- a call that does not stop the world leaves what stands
pub stands_quiet : (sites : List Site) (J : List JournalLine) (first : Board) (W : List Mark) (line : JournalLine) → StandsFor sites J first W → line.stops ≡ None → StandsFor sites (J ++ line ∷ []) first W
stands_quiet sites J first W line s e = let q = stopping-quiet J line e in record {
  begins = s.begins;
  boards = s.boards ∙ ap (map (λ (x : JournalLine). x.stops)) (sym q);
  boards_are = λ p counts b h.
      let n : ℕ = length (counts_with W) in let t = counts_take (suc p) W in
      let same : config_after (J ++ line ∷ []) (entries 0 (take (suc p) W)) ≡ config_after J (entries 0 (take (suc p) W)) =
      after_longer J (J ++ line ∷ []) n (λ k _. ap (λ z. slice_get z k) q) nothing (entries 0 (take (suc p) W)) (entries_below 0 n (take (suc p) W) (omega arith)) in
      subst (λ (C : Configuration). BoardOf sites C b) (sym same) (s.boards_are p counts b h);
}

-- disables behind a word history that stands for a journal
pub counts_quiet : (W xs : List Mark) → puts xs ≡ [] → counts_with (W ++ xs) ≡ counts_with W
counts_quiet [] [] e = refl
counts_quiet [] (Off t l k ∷ ms) e = counts_quiet [] ms e
counts_quiet [] (Put c b ∷ ms) e = absurd (cc)
counts_quiet (Off t l k ∷ ms) xs e = counts_quiet ms xs e
counts_quiet (Put c b ∷ ms) xs e = ap (λ z. Some c ∷ z) (counts_quiet ms xs e)

no_put : (xs : List Mark) (k : ℕ) (c : List ℕ) (b : Board) → puts xs ≡ [] → slice_get xs k ≡ Some (Put c b) → ⊥
no_put [] k c b p e = none_some (Put c b) e
no_put (Off t l j ∷ ms) zero c b p e = absurd (cc (e))
no_put (Off t l j ∷ ms) (suc k) c b p e = no_put ms k c b p e
no_put (Put d f ∷ ms) k c b p e = absurd (cc)

back_at : (W xs : List Mark) (k : ℕ) (m : Mark) → length W ≤ k → slice_get (W ++ xs) k ≡ Some m → (j : ℕ) × (slice_get xs j ≡ Some m)
back_at [] xs k m h e = (k, e)
back_at (x ∷ W) xs zero m h e = absurd (omega arith)
back_at (x ∷ W) xs (suc k) m h e = back_at W xs k m (omega arith) e

pub stands_on : (sites : List Site) (J : List JournalLine) (first : Board) (W xs : List Mark) → StandsFor sites J first W → puts xs ≡ [] → StandsFor sites J first (W ++ xs)
stands_on sites J first W xs s e = record {
  begins = s.begins;
  boards = counts_quiet W xs e ∙ s.boards;
  boards_are = λ p counts b h. dite (dec_le (suc p) (length W))
      (λ l. subst (λ (z : List Mark). BoardOf sites (config_after J (entries 0 z)) b) (sym (take-append-le (suc p) W xs l)) (s.boards_are p counts b (sym (front_at W xs p l) ∙ h)))
      (λ g. let k = back_at W xs p (Put counts b) (omega arith) h in absurd (no_put xs k.0 counts b e k.1));
}

-- one board more, with its call
pub stands_more : (sites : List Site) (J : List JournalLine) (first : Board) (W : List Mark) (line : JournalLine) (counts : List ℕ) (b : Board) → StandsFor sites J first W → line.stops ≡ Some counts
    → BoardOf sites (change line.call (config_after J (entries 0 W))) b → StandsFor sites (J ++ line ∷ []) first (W ++ Put counts b ∷ [])
stands_more sites J first W line counts b s e is =
    let K : List JournalLine = J ++ line ∷ [] in let V : List Mark = W ++ Put counts b ∷ [] in
    let m = stopping-more J line counts e in let many = as_many sites J first W s in let n : ℕ = length (counts_with W) in
    let early : (k : ℕ) → k < n → slice_get (stopping K) k ≡ slice_get (stopping J) k = λ k h. ap (λ z. slice_get z k) m ∙ front_at (stopping J) (line ∷ []) k (omega arith) in
    let same : (p : ℕ) → config_after K (entries 0 (take p W)) ≡ config_after J (entries 0 (take p W)) = λ p. let t = counts_take p W in after_longer J K n early nothing (entries 0 (take p W)) (entries_below 0 n (take p W) (omega arith)) in
    let all : config_after K (entries 0 W) ≡ config_after J (entries 0 W) = after_longer J K n early nothing (entries 0 W) (entries_below 0 n W (omega arith)) in
    let here : slice_get (stopping K) (0 + n) ≡ Some line = ap (λ z. slice_get z (0 + n)) m ∙ (let i : 0 + n ≡ length (stopping J) = omega arith in ap (slice_get (stopping J ++ line ∷ [])) i ∙ last_at (stopping J) line) in
    let new : config_after K (entries 0 V) ≡ change line.call (config_after J (entries 0 W)) =
    ap (config_after K) (entries-put 0 W counts b) ∙ (after-more K nothing (entries 0 W) (Entry.Change (0 + n) counts) ∙ (ap (λ o. changed o (config_after K (entries 0 W))) here ∙ ap (change line.call) all)) in record {
      begins = s.begins;
      boards = counts-put W counts b ∙ ((λ i. s.boards i ++ sym e i ∷ []) ∙ (sym (map_last (stopping J) line) ∙ ap (map (λ (x : JournalLine). x.stops)) (sym m)));
      boards_are = λ p c d h. elim (at_end W (Put counts b) (Put c d) p h) as (λ _. BoardOf sites (config_after K (entries 0 (take (suc p) V))) d) [
        | inl q ↦ subst (λ (C : Configuration). BoardOf sites C d) (sym (ap (λ z. config_after K (entries 0 z)) (take-append-le (suc p) W (Put counts b ∷ []) (omega arith)) ∙ same (suc p))) (s.boards_are p c d q.1)
        | inr q ↦ let t : take (suc p) V ≡ V = take_all (suc p) V (omega (arith, length-append W (Put counts b ∷ []))) in let f : b ≡ d = cc (q.1) in
            subst (λ (z : Configuration × Board). BoardOf sites z.0 z.1) (λ i. (sym (ap (λ z. config_after K (entries 0 z)) t ∙ new) i, f i)) is
      ];
    }
