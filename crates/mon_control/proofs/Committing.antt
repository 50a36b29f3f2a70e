-- What calls leave: the journal, and the words in a stopped world.
use Rattle.std.proofs.Common.{◌≡◌, ℕ, zero, suc, ◌-◌, ◌/◌, ◌%◌, ◌<◌, ◌≤◌, ◌++◌, Bool, true, false, ◌&&◌, ◌||◌, cond, eqb, List, [], ◌∷◌, map, take, length, get_or, set, Option, Some, None, slice_get, refl, sym, ap, ◌∙◌, subst, arith, eq-eqb, ne_eqb, get_or-set_same, get_or-set_other, nat_abs}
use Rattle.std.specs.Prelude.{Result, Ok, Err, OnOk, OnErr}
use Rattle.std.proofs.lemmas.List.{take_all}
use mathlib.Core.Logic.{dite}
use native.Mathlib.Decide.{ℕ_discrete}
use Rattle.mon_events.specs.declared.event.Event.{Event}
use Rattle.mon_events.specs.declared.event.Slot.{Slot}
use Rattle.mon_code.specs.Programs.{Parts}
use Rattle.mon_words.specs.History.{after, cell_at, UpTo}
use Rattle.mon_words.specs.Halted.{Halt, noted_also}
use Rattle.mon_words.specs.declared.history.Board.{Board}
use Rattle.mon_words.specs.declared.history.Mark.{Mark}
use Rattle.mon_words.specs.declared.history.Mark.TheVariants.{Off, Put}
use Rattle.mon_code.specs.declared.site.Site.{Site}
use Rattle.mon_code.specs.Sites.{site_at, sites_of}
use Rattle.mon_history.specs.Configuration.{Configuration, nothing, put}
use Rattle.mon_history.specs.Registry.{reply, next, change, stops}
use Rattle.mon_history.specs.Journal.{replay, IsLawful, stopping, if_stopped}
use Rattle.mon_history.specs.Histories.{config_after, entries}
use Rattle.mon_history.specs.Stands.{wants_bit, BoardOf, StandsFor, counts_with, globals, callbacks, global_event}
use Rattle.mon_events.specs.Sets.{packed}
use Rattle.mon_code.specs.Sites.{slot_event}
use Rattle.mon_history.specs.Kept.{config_of, IsKept}
use Rattle.mon_history.specs.declared.calls.ControlCall.{ControlCall}
use Rattle.mon_history.specs.declared.calls.Reply.{Reply}
use Rattle.mon_history.specs.declared.calls.Who.{Who}
use Rattle.mon_history.specs.declared.config.Config.{Config}
use Rattle.mon_history.specs.declared.journal.JournalLine.{JournalLine}
use Rattle.mon_history.proofs.Boards.{boards}
use Rattle.mon_history.proofs.Growing.{lawful_more, replay-more, stands_more}
use Rattle.mon_history.proofs.Replays.{SameSets, change_same, sets_same}
use Rattle.mon_instrument.specs.Due.{IsLaidOut, Walked, Worded, reached_cell, is_reached, chosen, differs, walked_also, callback_words}
use Rattle.mon_instrument.proofs.Chosen.{chosen_same}
use Rattle.mon_instrument.specs.declared.walking.Reach.{Reach}
use Rattle.mon_instrument.proofs.Standing.{LivesAre, Stays, lives_kept, lives_all, all_stay, wanted_as, board_after}
use Rattle.mon_control.specs.View.{IsControl, line_of, reach_of, restarts, Counted, Commits}
use Rattle.mon_control.proofs.Accepting.{stops_next}

-- counts
pub counted_none : (counts : List ℕ) (h : Halt) → Counted 0 counts h h
counted_none counts h = record { noted = h.noted; is = refl; noted_are = λ t low. absurd (omega arith) }

pub counted_more : (n m count : ℕ) (counts next : List ℕ) (h g k : Halt) → m ≡ suc n → n < length counts → next ≡ set counts n count → k ≡ noted_also g n count → Counted n counts h g → Counted m next h k
counted_more n m count counts next h g k e low is new w = record {
  noted = λ t. cond (eqb t n) (Some count) (w.noted t);
  is = new ∙ ap (λ z. noted_also z n count) w.is;
  noted_are = λ t l. dite (ℕ_discrete t n)
      (λ q. ap (λ b. cond b (Some count) (w.noted t)) (eq-eqb t n q)
      ∙ ap (λ x. Some x) (sym (ap (λ z. get_or z t 0) is ∙ (ap (λ z. get_or (set counts n count) z 0) q ∙ get_or-set_same counts n count 0 low))))
      (λ ne. ap (λ b. cond b (Some count) (w.noted t)) (ne_eqb t n ne)
      ∙ (w.noted_are t (omega arith) ∙ ap (λ x. Some x) (sym (ap (λ z. get_or z t 0) is ∙ get_or-set_other counts n t count 0 ne))));
}

pub high_more : (n m count : ℕ) (counts next : List ℕ) (h g : Halt) → m ≡ suc n → n < length counts → next ≡ set counts n count → Counted n counts h g → UpTo n count g.seen
    → ((t : ℕ) → t < n → UpTo t (get_or counts t 0) h.seen) → (t : ℕ) → t < m → UpTo t (get_or next t 0) h.seen
high_more n m count counts next h g e low is w up old t l = dite (ℕ_discrete t n)
    (λ q. let v : get_or next t 0 ≡ count = ap (λ z. get_or z t 0) is ∙ (ap (λ z. get_or (set counts n count) z 0) q ∙ get_or-set_same counts n count 0 low) in
    let s : g.seen ≡ h.seen = ap (λ (z : Halt). z.seen) w.is in
    subst (λ (z : ℕ × (ℕ × List Mark)). UpTo z.0 z.1.0 z.1.1) (λ i. (sym q i, (sym v i, s i))) up)
    (λ ne. let v : get_or next t 0 ≡ get_or counts t 0 = ap (λ z. get_or z t 0) is ∙ get_or-set_other counts n t count 0 ne in
    subst (λ z. UpTo t z h.seen) (sym v) (old t (omega arith)))

-- a count that no board of the history exceeds is not below an earlier call's
up_to_each : (t n : ℕ) (W : List Mark) (i : ℕ) (cs : List ℕ) → UpTo t n W → slice_get (counts_with W) i ≡ Some (Some cs) → get_or cs t 0 ≤ n
up_to_each t n [] i cs u e = absurd (cc)
up_to_each t n (Off v l k ∷ ms) i cs u e = up_to_each t n ms i cs u e
up_to_each t n (Put d b ∷ ms) zero cs u e = let q : d ≡ cs = some_some d cs e in subst (λ z. get_or z t 0 ≤ n) q u.0
  where
    some_some : (x y : List ℕ) → Some (Some x) ≡ Some (Some y) → x ≡ y
    some_some x y r = cc
up_to_each t n (Put d b ∷ ms) (suc i) cs u e = up_to_each t n ms i cs u.1 e

stop_in : (J : List JournalLine) (j : ℕ) (early : JournalLine) (low : List ℕ) → slice_get J j ≡ Some early → early.stops ≡ Some low → (i : ℕ) × (slice_get (map (λ (x : JournalLine). x.stops) (stopping J)) i ≡ Some (Some low))
stop_in [] j early low e s = absurd (cc)
stop_in (x ∷ xs) zero early low e s = let q : x ≡ early = cc in first x.stops refl (ap (λ (y : JournalLine). y.stops) q ∙ s)
  where
    first : (o : Option (List ℕ)) → o ≡ x.stops → x.stops ≡ Some low → (i : ℕ) × (slice_get (map (λ (y : JournalLine). y.stops) (if_stopped x o (stopping xs))) i ≡ Some (Some low))
    first (Some c) o k = (0, ap (λ z. Some z) k)
    first None o k = absurd (cc (o, k))
stop_in (x ∷ xs) (suc j) early low e s = let r = stop_in xs j early low e s in later x.stops r
  where
    later : (o : Option (List ℕ)) → (i : ℕ) × (slice_get (map (λ (y : JournalLine). y.stops) (stopping xs)) i ≡ Some (Some low)) → (i : ℕ) × (slice_get (map (λ (y : JournalLine). y.stops) (if_stopped x o (stopping xs))) i ≡ Some (Some low))
    later (Some c) r = (suc r.0, r.1)
    later None r = r

-- the board that stands is that of the configuration
pub stood : (sites : List Site) (J : List JournalLine) (first b : Board) (W : List Mark) → StandsFor sites J first W → b ≡ after first W → BoardOf sites (config_after J (entries 0 W)) b
stood sites J first b W s e =
    let all : take (length W) W ≡ W = take_all (length W) W (omega arith) in
    subst (λ (z : Board). BoardOf sites (config_after J (entries 0 W)) z) (sym e) (subst (λ (z : List Mark). BoardOf sites (config_after J (entries 0 z)) (after first z)) all (boards sites J first W s (length W) (omega arith)))

pub laid_of : (sites : List Site) (C : Configuration) (b : Board) → BoardOf sites C b → IsLaidOut sites b
laid_of sites C b o = record { wide = o.wide; six = o.six; bases = o.bases }

-- the live bits that are due after a call
lives_of : (sites : List Site) (call : ControlCall) (D : Configuration) (b : Board) → BoardOf sites D b → LivesAre sites (restarts call) (change call D) b
lives_of sites (ControlCall.UseToolId id name) D b o = lives_kept sites D (change (ControlCall.UseToolId id name) D) b o refl
lives_of sites (ControlCall.FreeToolId id) D b o = lives_kept sites D (change (ControlCall.FreeToolId id) D) b o refl
lives_of sites (ControlCall.GetTool id) D b o = lives_kept sites D D b o refl
lives_of sites (ControlCall.SetEvents id s) D b o = lives_kept sites D (change (ControlCall.SetEvents id s) D) b o refl
lives_of sites (ControlCall.GetEvents id) D b o = lives_kept sites D D b o refl
lives_of sites (ControlCall.SetLocalEvents id code s) D b o = lives_kept sites D (change (ControlCall.SetLocalEvents id code s) D) b o refl
lives_of sites (ControlCall.GetLocalEvents id code) D b o = lives_kept sites D D b o refl
lives_of sites (ControlCall.RegisterCallback id s policy) D b o = lives_kept sites D (change (ControlCall.RegisterCallback id s policy) D) b o refl
lives_of sites ControlCall.RestartEvents D b o = lives_all sites (change ControlCall.RestartEvents D) b refl

-- where a call does not reach
put_else : (g : ℕ → ℕ → Event → Bool) (k code : ℕ) (f : Event → Bool) (t c : ℕ) (e : Event) → eqb c code ≡ false → put g k (put (g k) code f) t c e ≡ g t c e
put_else g k code f t c e away = dite (ℕ_discrete t k)
    (λ is. ap (λ b. cond b (put (g k) code f) (g t) c e) (eq-eqb t k is) ∙ (ap (λ b. cond b f (g k c) e) away ∙ ap (λ z. g z c e) (sym is)))
    (λ ne. ap (λ b. cond b (put (g k) code f) (g t) c e) (ne_eqb t k ne))

quiet_stays : (sites : List Site) (reach : Reach) (C D : Configuration) (b : Board) → BoardOf sites D b
    → ((l : ℕ) (t : ℕ) (e : Event) → is_reached reach (site_at sites l) ≡ false → (D.wants t e || D.local t (site_at sites l).code e) ≡ (C.wants t e || C.local t (site_at sites l).code e)) → Stays sites reach false C b
quiet_stays sites reach C D b o h l s t low tool away = (o.wants l s t low tool ∙ wanted_as D C t (site_at sites l).code (slot_event (site_at sites l) s) (λ e. h l t e away), refl)

kept_sets : (C E : Configuration) → SameSets C E → (t code : ℕ) (e : Event) → (E.wants t e || E.local t code e) ≡ (C.wants t e || C.local t code e)
kept_sets C E s t code e = λ i. sym s.wants i t e || sym s.local i t code e

stays_of : (sites : List Site) (call : ControlCall) (C D : Configuration) (b : Board) → BoardOf sites D b → SameSets C (change call D) → Stays sites (reach_of call) (restarts call) C b
stays_of sites (ControlCall.UseToolId id name) C D b o s = quiet_stays sites Reach.Nowhere C D b o (λ l t e _. kept_sets C (change (ControlCall.UseToolId id name) D) s t (site_at sites l).code e)
stays_of sites (ControlCall.FreeToolId id) C D b o s = quiet_stays sites Reach.Nowhere C D b o (λ l t e _. kept_sets C (change (ControlCall.FreeToolId id) D) s t (site_at sites l).code e)
stays_of sites (ControlCall.GetTool id) C D b o s = quiet_stays sites Reach.Nowhere C D b o (λ l t e _. kept_sets C D s t (site_at sites l).code e)
stays_of sites (ControlCall.SetEvents id set) C D b o s = all_stay sites false C b
stays_of sites (ControlCall.GetEvents id) C D b o s = quiet_stays sites Reach.Nowhere C D b o (λ l t e _. kept_sets C D s t (site_at sites l).code e)
stays_of sites (ControlCall.SetLocalEvents id code set) C D b o s = quiet_stays sites (Reach.Code code) C D b o (λ l t e away.
    ap (λ x. D.wants t e || x) (sym (put_else D.local (nat_abs id) code _ t (site_at sites l).code e away)) ∙ kept_sets C (change (ControlCall.SetLocalEvents id code set) D) s t (site_at sites l).code e)
stays_of sites (ControlCall.GetLocalEvents id code) C D b o s = quiet_stays sites Reach.Nowhere C D b o (λ l t e _. kept_sets C D s t (site_at sites l).code e)
stays_of sites (ControlCall.RegisterCallback id set policy) C D b o s = quiet_stays sites Reach.Nowhere C D b o (λ l t e _. kept_sets C (change (ControlCall.RegisterCallback id set policy) D) s t (site_at sites l).code e)
stays_of sites ControlCall.RestartEvents C D b o s = all_stay sites true C b

-- two lists of equal length with the same items
same_items : (xs ys : List ℕ) → length xs ≡ length ys → ((t : ℕ) → t < length xs → get_or xs t 0 ≡ get_or ys t 0) → xs ≡ ys
same_items [] [] l h = refl
same_items [] (y ∷ ys) l h = absurd (omega arith)
same_items (x ∷ xs) [] l h = absurd (omega arith)
same_items (x ∷ xs) (y ∷ ys) l h = let a : x ≡ y = h 0 (omega arith) in let b = same_items xs ys (omega arith) (λ t k. h (suc t) (omega arith)) in λ i. a i ∷ b i

callback_at : (C : Configuration) (t : ℕ) → t < 6 → get_or (callback_words C) t 0 ≡ callbacks C t
callback_at C zero h = refl
callback_at C (suc zero) h = refl
callback_at C (suc (suc zero)) h = refl
callback_at C (suc (suc (suc zero))) h = refl
callback_at C (suc (suc (suc (suc zero)))) h = refl
callback_at C (suc (suc (suc (suc (suc zero))))) h = refl
callback_at C (suc (suc (suc (suc (suc (suc t)))))) h = absurd (omega arith)

-- a call in a stopped world
module _ (p : Parts) (threads : ℕ) (J : List JournalLine) (who : Who) (call : ControlCall) (counts : List ℕ) (C : Configuration) (h0 h1 : Halt)
    (lawful : IsLawful threads J) (stop : stops (replay J) call ≡ true) (changes : C ≡ change call (replay J)) (wide : length counts ≡ threads)
    (stands : StandsFor (sites_of p) J h0.first h0.seen) (board : h0.board ≡ after h0.first h0.seen) (counted : Counted threads counts h0 h1) where
  line : JournalLine
  line = line_of J who call (Some counts)

  D : Configuration
  D = config_after J (entries 0 h0.seen)

  old : BoardOf (sites_of p) (config_after J (entries 0 h0.seen)) h1.board
  old = subst (λ (z : Board). BoardOf (sites_of p) (config_after J (entries 0 h0.seen)) z) (sym (ap (λ (z : Halt). z.board) counted.is)) (stood (sites_of p) J h0.first h0.board h0.seen stands board)

  pub laid_now : IsLaidOut (sites_of p) h1.board
  laid_now = laid_of (sites_of p) (config_after J (entries 0 h0.seen)) h1.board old

  -- the words that stand are those of the configuration before the call
  sets : SameSets (replay J) (config_after J (entries 0 h0.seen))
  sets = sets_same (sites_of p) J h0.first h0.seen stands threads lawful

  pub global_now : (word : ℕ) → word ≡ globals (replay J) → h1.board.global ≡ word
  global_now word is = old.global_is ∙ sym (is ∙ ap (λ f. packed (λ k. f (k % 6) (global_event (k / 6))) 30) sets.wants)

  pub callbacks_now : (words : List ℕ) → words ≡ callback_words (replay J) → h1.board.callbacks ≡ words
  callbacks_now words is =
      let six = old.six in
      same_items h1.board.callbacks (callback_words (config_after J (entries 0 h0.seen))) old.six (λ t low. old.callbacks_are t (omega arith) ∙ sym (callback_at (config_after J (entries 0 h0.seen)) t (omega arith)))
      ∙ sym (is ∙ ap (λ f. callback_words (record (replay J) { calls = f })) sets.calls)

  pub lawful_now : ((t : ℕ) → t < threads → UpTo t (get_or counts t 0) h0.seen) → IsLawful threads (J ++ line_of J who call (Some counts) ∷ [])
  lawful_now high = lawful_more threads J (line_of J who call (Some counts)) lawful (record {
    reply_is = refl;
    stopped = sym stop;
    wide = λ cs e. let q : counts ≡ cs = same_some counts cs e in ap length (sym q) ∙ wide;
    above = λ j early low cs e s u t l. let q : counts ≡ cs = same_some counts cs u in
        let i = stop_in J j early low e s in
        subst (λ z. get_or low t 0 ≤ get_or z t 0) q (up_to_each t (get_or counts t 0) h0.seen i.0 low (high t l) (ap (λ z. slice_get z i.0) stands.boards ∙ i.1));
  })
    where
      same_some : (x y : List ℕ) → Some x ≡ Some y → x ≡ y
      same_some x y e = cc

  pub replays_now : C ≡ replay (J ++ line_of J who call (Some counts) ∷ [])
  replays_now = changes ∙ (sym (stops_next (replay J) call stop) ∙ sym (replay-more nothing J (line_of J who call (Some counts))))

  pub commits : (h2 h3 : Halt) (K : List JournalLine) → Walked (reached_cell C (sites_of p) (reach_of call) (restarts call)) (λ l. is_reached (reach_of call) (site_at (sites_of p) l)) 0 (length (sites_of p)) h1 h2 → Worded C 6 h2 h3
      → K ≡ J ++ line_of J who call (Some counts) ∷ [] → Commits p threads J who call h0 h3 K
  commits h2 h3 K w v is =
      let E : Configuration = change call (config_after J (entries 0 h0.seen)) in
      let same : SameSets C E = subst (λ (z : Configuration). SameSets z E) (sym changes) (change_same call (replay J) (config_after J (entries 0 h0.seen)) (sets_same (sites_of p) J h0.first h0.seen stands threads lawful)) in
      let new : BoardOf (sites_of p) E h3.board = board_after (sites_of p) C E (reach_of call) (restarts call) h1 h2 h3 same laid_now
      (stays_of (sites_of p) call C (config_after J (entries 0 h0.seen)) h1.board old same) (lives_of (sites_of p) call (config_after J (entries 0 h0.seen)) h1.board old) w v in
      let whole : length (sites_of p) - 0 ≡ length (sites_of p) = omega arith in
      let altered : ℕ → Bool = λ l. differs (reached_cell C (sites_of p) (reach_of call) (restarts call) l (cell_at h1.board l)) (cell_at h1.board l) in
      let at : (l : ℕ) → l < length (sites_of p) → cell_at h3.board l ≡ reached_cell C (sites_of p) (reach_of call) (restarts call) l (cell_at h1.board l) = λ l low.
      ap (λ (z : Halt). cell_at z.board l) v.is ∙ (ap (λ (z : Halt). cell_at z.board l) w.is ∙ w.inside l (omega arith) low) in
      let before : (l : ℕ) → cell_at h1.board l ≡ cell_at h0.board l = λ l. ap (λ (z : Halt). cell_at z.board l) counted.is in
      record {
        counts = counts;
        is = is;
        wide = wide;
        noted = λ t l. ap (λ (z : Halt). z.noted t) v.is ∙ (ap (λ (z : Halt). z.noted t) w.is ∙ (ap (λ (z : Halt). z.noted t) counted.is ∙ counted.noted_are t l));
        stands = subst (λ (z : List JournalLine). StandsFor (sites_of p) z h0.first (h0.seen ++ Put counts h3.board ∷ [])) (sym is) (stands_more (sites_of p) J h0.first h0.seen (line_of J who call (Some counts)) counts h3.board stands refl new);
        first = ap (λ (z : Halt). z.first) v.is ∙ (ap (λ (z : Halt). z.first) w.is ∙ ap (λ (z : Halt). z.first) counted.is);
        threads_are = ap (λ (z : Halt). z.threads) v.is ∙ (ap (λ (z : Halt). z.threads) w.is ∙ ap (λ (z : Halt). z.threads) counted.is);
        seen = ap (λ (z : Halt). z.seen) v.is ∙ (ap (λ (z : Halt). z.seen) w.is ∙ ap (λ (z : Halt). z.seen) counted.is);
        more = w.more;
        written = ap (λ (z : Halt). z.written) v.is ∙ (ap (λ (z : Halt). z.written) w.is ∙ ap (λ (z : Halt). z.written ++ w.more) counted.is);
        normals = w.normals;
        stored = w.stored ∙ (ap (chosen altered 0) whole ∙ chosen_same altered (λ l. differs (cell_at h3.board l) (cell_at h0.board l)) 0 (length (sites_of p))
            (λ l _ low. λ i. differs (sym (at l (omega arith)) i) (before l i)));
        tally = ap (λ (z : Halt). z.tally) v.is ∙ (ap (λ (z : Halt). z.tally) w.is
            ∙ (ap (λ n. walked_also h1.tally (chosen (λ l. is_reached (reach_of call) (site_at (sites_of p) l)) 0 n) (length w.more)) whole
            ∙ ap (λ (z : Halt). walked_also z.tally (chosen (λ l. is_reached (reach_of call) (site_at (sites_of p) l)) 0 (length (sites_of p))) (length w.more)) counted.is));
      }

-- a call for which the world is not stopped
pub settled : {E : Type 0} (result : Result Reply E) (config new : Config) (threads codes : ℕ) (J K : List JournalLine) (who : Who) (call : ControlCall) → IsControl config J threads codes → stops (config_of config) call ≡ false
    → OnOk result (config_of new ≡ next (config_of config) call) → OnOk result (K ≡ J ++ record { call = call; who = who; reply = reply (config_of config) call; stops = None } ∷ []) → (IsKept codes config → IsKept codes new)
    → OnErr result (new ≡ config) → OnErr result (K ≡ J) → IsControl new K threads codes
settled (Ok r) config new threads codes J K who call is quiet change_is line kept same lines =
    let e : line_of J who call None ≡ record { call = call; who = who; reply = reply (config_of config) call; stops = None } = ap (λ C. record { call = call; who = who; reply = reply C call; stops = None }) (sym is.replays) in
    let k : K ≡ J ++ line_of J who call None ∷ [] = line ∙ ap (λ x. J ++ x ∷ []) (sym e) in record {
      lawful = subst (λ (z : List JournalLine). IsLawful threads z) (sym k) (lawful_more threads J (line_of J who call None) is.lawful (record {
        reply_is = refl;
        stopped = sym quiet ∙ ap (λ C. stops C call) is.replays;
        wide = λ cs u. absurd (cc);
        above = λ j early low cs g s u t l. absurd (cc);
      }));
      replays = change_is ∙ (ap (λ C. next C call) is.replays ∙ (sym (replay-more nothing J (line_of J who call None)) ∙ ap replay (sym k)));
      kept = kept is.kept;
    }
settled (Err x) config new threads codes J K who call is quiet change_is line kept same lines =
    subst (λ (z : Config × List JournalLine). IsControl z.0 z.1 threads codes) (λ i. (sym same i, sym lines i)) is
