-- A control call on the halted board, and some steps of a thread by its handle.
use Rattle.std.proofs.Common.{◌≡◌, ℕ, zero, suc, ◌<◌, ◌⊎◌, inl, inr, Bool, true, false, ltb, le-ltb, List, [], ◌∷◌, ◌++◌, length, get_or, set, cond, Some, None, sym, refl, ap, ◌∙◌, subst, arith}
use mathlib.Core.List.{append-nil}
use Rattle.mon_code.specs.Programs.{Parts}
use Rattle.mon_code.specs.Sites.{sites_of}
use Rattle.mon_words.specs.History.{puts}
use Rattle.mon_words.specs.Told.{Told}
use Rattle.mon_words.specs.Standing.{table, noted_of, count_of}
use Rattle.mon_words.specs.declared.history.Board.{Board}
use Rattle.mon_words.specs.declared.history.Mark.{Mark}
use Rattle.mon_words.specs.declared.history.Mark.TheVariants.{Put}
use Rattle.mon_words.specs.declared.tally.Tally.{Tally}
use Rattle.mon_board.specs.Plain.{standing, put_of}
use Rattle.mon_board.specs.PlainViews.{plain_told, plain_halt, other_counts, other_marks, IsRunning}
use Rattle.mon_board.specs.declared.plain_view.PlainView.{PlainView}
use Rattle.mon_recorders.specs.Readings.{Span}
use Rattle.mon_recorders.specs.Boards.{reader}
use Rattle.mon_machine.specs.State.{goes}
use Rattle.mon_machine.specs.Advances.{Progress, Advanced, Stays, events_from, is_asked}
use Rattle.mon_history.specs.Registry.{stops}
use Rattle.mon_history.specs.Journal.{IsLawful, replay}
use Rattle.mon_history.specs.Stands.{StandsFor}
use Rattle.mon_history.specs.declared.calls.ControlCall.{ControlCall}
use Rattle.mon_history.specs.declared.calls.Who.{Who}
use Rattle.mon_history.specs.declared.journal.JournalLine.{JournalLine}
use Rattle.mon_history.proofs.Growing.{stands_quiet}
use Rattle.mon_control.specs.View.{Shown, line_of, Commits}
use Rattle.mon_control.proofs.Noting.{noted_counts}
use Rattle.mon_run.specs.Serial.{line_at}
use Rattle.mon_run.specs.Replaying.{Called, Took}

-- two lists of equal length with the same items
same_items : (xs ys : List ℕ) → length xs ≡ length ys → ((t : ℕ) → t < length xs → get_or xs t 0 ≡ get_or ys t 0) → xs ≡ ys
same_items [] [] l h = refl
same_items [] (y ∷ ys) l h = absurd (omega arith)
same_items (x ∷ xs) [] l h = absurd (omega arith)
same_items (x ∷ xs) (y ∷ ys) l h = let a : x ≡ y = h 0 (omega arith) in let b = same_items xs ys (omega arith) (λ t k. h (suc t) (omega arith)) in λ i. a i ∷ b i

-- the line that is due, where the call stops the world and where it does not
line_due : (J : List JournalLine) (who : Who) (call : ControlCall) (counts : List ℕ) (b : Bool) → stops (replay J) call ≡ b → line_of J who call (cond b (Some counts) None) ≡ line_at J who call counts
line_due J who call counts b e = ap (λ z. line_of J who call (cond z (Some counts) None)) (sym e)

-- a call on the halted board: v before, h when it was halted, x at the end of the call, and y behind the release
pub committed : (p : Parts) (c d : Shown) (v h x y : PlainView) (who : Who) (call : ControlCall) → h ≡ v → v.threads ≡ c.threads → length v.counts ≡ v.threads → stops (replay c.journal) call ≡ true → d.threads ≡ c.threads → IsLawful d.threads d.journal
    → Commits p c.threads c.journal who call (plain_halt h) (plain_halt x) d.journal → x.counts ≡ h.counts → ((t n : ℕ) → noted_of x.noted t ≡ Some n → n ≡ get_or x.counts t 0) → y ≡ record x { seen = x.seen ++ put_of x ∷ []; noted = []; written = [] }
    → Called p who call v y c.journal d.journal
committed p c d v h x y who call same few long stopped count lawful made kept' counted is =
    let m : Commits p c.threads c.journal who call (plain_halt v) (plain_halt x) d.journal = subst (λ (z : PlainView). Commits p c.threads c.journal who call (plain_halt z) (plain_halt x) d.journal) same made in
    let kept : x.counts ≡ v.counts = kept' ∙ ap (λ (z : PlainView). z.counts) same in
    let wide = m.wide in
    let counts : m.counts ≡ v.counts = same_items m.counts v.counts (wide ∙ sym (long ∙ few)) (λ t l. counted t (get_or m.counts t 0) (m.noted t (omega arith)) ∙ ap (λ z. get_or z t 0) kept) in
    let more : x.threads ≡ v.threads = m.threads_are in
    let noted : table x.threads (count_of x.noted) ≡ m.counts =
    noted_counts m.counts (noted_of x.noted) x.threads (omega arith) (λ t l. m.noted t (omega arith)) in
    let put : put_of x ≡ Put v.counts (standing x) = ap (λ z. Put z (standing x)) (noted ∙ counts) in
    let seen : y.seen ≡ v.seen ++ Put v.counts (standing x) ∷ [] = ap (λ (z : PlainView). z.seen) is ∙ (λ i. m.seen i ++ put i ∷ []) in
    let first : y.first ≡ v.first = ap (λ (z : PlainView). z.first) is ∙ m.first in record {
      running = (ap (λ (z : PlainView). z.written) is, ap (λ (z : PlainView). z.noted) is);
      first = first;
      threads = ap (λ (z : PlainView). z.threads) is ∙ more;
      counts = ap (λ (z : PlainView). z.counts) is ∙ kept;
      is = m.is ∙ (ap (λ z. c.journal ++ line_of c.journal who call (Some z) ∷ []) counts ∙ ap (λ z. c.journal ++ z ∷ []) (line_due c.journal who call v.counts true stopped));
      lawful = subst (λ n. IsLawful n d.journal) (count ∙ sym few) lawful;
      stop = Some (standing x);
      stop_is = sym (ap (λ z. cond z (Some v.counts) None) stopped);
      seen = seen;
      stands = subst (λ (z : Board × List Mark). StandsFor (sites_of p) d.journal z.0 z.1) (λ i. (sym first i, (ap (λ z. v.seen ++ Put z (standing x) ∷ []) counts ∙ sym seen) i)) m.stands;
    }

-- a call that did not stop the world
pub called_quiet : (p : Parts) (c d : Shown) (v : PlainView) (who : Who) (call : ControlCall) → v.threads ≡ c.threads → IsRunning v → StandsFor (sites_of p) c.journal v.first v.seen → d.threads ≡ c.threads → IsLawful d.threads d.journal
    → stops (replay c.journal) call ≡ false → d.journal ≡ c.journal ++ line_of c.journal who call None ∷ [] → Called p who call v v c.journal d.journal
called_quiet p c d v who call few running stands count lawful quiet is = record {
  running = running;
  first = refl;
  threads = refl;
  counts = refl;
  is = is ∙ ap (λ z. c.journal ++ z ∷ []) (line_due c.journal who call v.counts false quiet);
  lawful = subst (λ n. IsLawful n d.journal) (count ∙ sym few) lawful;
  stop = None;
  stop_is = sym (ap (λ z. cond z (Some v.counts) None) quiet);
  seen = sym (append-nil v.seen);
  stands = subst (λ (z : List JournalLine). StandsFor (sites_of p) z v.first v.seen) (sym is) (stands_quiet (sites_of p) c.journal v.first v.seen (line_of c.journal who call None) stands refl);
}

-- the counts of which all but one are as before
counts_back : (xs ys : List ℕ) (t c : ℕ) → set xs t 0 ≡ set ys t 0 → t < length xs → get_or xs t 0 ≡ c → xs ≡ set ys t c
counts_back [] ys t c e h g = absurd (omega arith)
counts_back (x ∷ xs) [] zero c e h g = absurd (cc)
counts_back (x ∷ xs) [] (suc t) c e h g = absurd (cc)
counts_back (x ∷ xs) (y ∷ ys) zero c e h g = let r : xs ≡ ys = cc in λ i. g i ∷ r i
counts_back (x ∷ xs) (y ∷ ys) (suc t) c e h g = let a : x ≡ y = cc in let b : set xs t 0 ≡ set ys t 0 = cc in let r = counts_back xs ys t c b (omega arith) g in λ i. a i ∷ r i

-- nobody asks for a stop on the board of one thread
unasked : (m n : ℕ) → n ≡ 0 → ltb m n ≡ false
unasked m n e = le-ltb m n (omega arith)

either : (b : Bool) {P : Type 0} → (b ≡ true → P) → P ⊎ (b ≡ false)
either true h = inl (h refl)
either false h = inr refl

-- a thread entered, advanced and left: its handle was over x then, over y when it had advanced, and over w when it had left
pub took : (p : Parts) (t n steps : ℕ) (v x y w : PlainView) (a b d : ℕ) (tally : Tally) (q u : Progress) → x ≡ record v { current = t; attached = true; tally = tally } → a ≡ t
    → Advanced p n (plain_told a x) (plain_told b y) q u → y.tally.polled ≡ 0 → Stays (plain_told a x) (plain_told b y)
    → plain_told d w ≡ record (plain_told b y) { attached = false; count = steps } → steps ≡ u.steps
    → other_counts d w.counts ≡ other_counts a x.counts → other_marks d w.seen ≡ other_marks a x.seen
    → IsRunning w → w.threads ≡ v.threads → length w.counts ≡ w.threads → t < v.threads
    → Took p t n v w q u
took p t n steps v x y w a b d tally q u before same advanced polled stays left counted others marks running few long low =
    let ran = advanced.ran in
    let no : is_asked (plain_told a x) (plain_told b y) ≡ false = unasked x.tally.polled y.tally.polled polled in
    let inside : b ≡ a = ap (λ (z : Told). z.number) stays.rest in
    let end : d ≡ t = ap (λ (z : Told). z.number) left ∙ (inside ∙ same) in
    let seen : y.seen ≡ w.seen = sym (ap (λ (z : Told). z.seen) left) in
    let seen-first : x.seen ≡ v.seen = ap (λ (z : PlainView). z.seen) before in
    let board : x.first ≡ v.first = ap (λ (z : PlainView). z.first) before in
    let there : get_or w.counts t 0 ≡ u.steps = ap (λ z. get_or w.counts z 0) (sym end) ∙ (ap (λ (z : Told). z.count) left ∙ counted) in record {
      running = running;
      first = ap (λ (z : Told). z.first) left ∙ (ap (λ (z : Told). z.first) stays.rest ∙ board);
      threads = few;
      counts = counts_back w.counts v.counts t u.steps ((λ i. other_counts (sym end i) w.counts) ∙ (others ∙ (λ i. other_counts (same i) (before i).counts))) (omega arith) there;
      quiet = ap puts (sym seen) ∙ (stays.quiet ∙ ap puts seen-first);
      alone = (λ i. other_marks (sym end i) w.seen) ∙ (marks ∙ (λ i. other_marks (same i) (before i).seen));
      at = advanced.at;
      goes_on = ran.goes;
      state = ran.state;
      printed = ran.printed;
      steps = ran.steps;
      records = ran.records;
      disables = ran.disables;
      records_are = ran.records_are;
      disables_are = ran.disables_are;
      span = subst (λ (z : (ℕ × Board) × (List Mark × List Mark)). Span (reader z.0.0 z.0.1) (events_from p q.state) q.steps advanced.at z.1.0 z.1.1 ran.records ran.disables) (λ i. ((same i, board i), (seen-first i, seen i))) ran.span;
      most = advanced.within;
      done = either (goes u.state.mode) (advanced.spent no);
    }
