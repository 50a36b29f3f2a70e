-- The rule of a board with one seat, and what each kind of its steps tells. First comes a step count for each thread, then the
-- words of the board: the global word, six callback words, and a word for each location.
use Rattle.std.specs.Prelude.{◌≡◌, ℕ, ◌+◌, ◌-◌, ◌<◌, ◌==◌, true, false, List, [], ◌∷◌, ◌++◌, map, drop, length, replicate, slice_index, slice_set}
use mathlib.Core.Option.{some}
use lib.ListN.{get_elem?}
use Rattle.atomic_table.specs.Table.{State, Me, Step}
use Rattle.mon_words.specs.Words.{before_locations, Shows, mask_of, normal}
use Rattle.mon_words.specs.History.{cell_at, after, UpTo, HasBases, Based, base_in}
use Rattle.mon_words.specs.Standing.{size, board_of, Stands, overlay, Right, count_of, table}
use Rattle.mon_words.specs.Tallies.{no_tally, loaded_at, loaded_global, loaded_callbacks, disabled_once, tried, polled_once, entered_once, read_at, rewritten_once}
use Rattle.mon_words.specs.declared.history.Board.{Board}
use Rattle.mon_words.specs.declared.history.Mark.{Mark}
use Rattle.mon_words.specs.declared.history.Mark.TheVariants.{Off, Put}
use Rattle.mon_words.specs.declared.history.Noted.{Noted}
use Rattle.mon_board.specs.declared.plain_view.PlainView.{PlainView}
use Rattle.mon_board.specs.declared.plain_view.PlainPlan.{PlainPlan}

abbrev pub first_board : PlainPlan → Board
first_board about = board_of (drop about.threads about.words.value.items)

-- where a word lies: the count of a thread, and the word j of the board
abbrev pub count_place : ℕ → ℕ
count_place t = t

abbrev pub word_place : ℕ → ℕ → ℕ
word_place threads j = threads + j

-- the base opcodes of the locations
abbrev pub first_bases : PlainPlan → List ℕ
first_bases about = map base_in (first_board about).cells

-- Each count word is its thread's stored count, and no board of the history has more. Each count that was noted is the stored
-- one. Each word of the board is what was stored last since the board was halted, or is lawful at the history.
pub record PlainOk (about : PlainPlan) (words : List ℕ) (v : PlainView) : Type 0 where
  pub threads_are : v.threads ≡ about.threads
  pub first_is : v.first ≡ first_board about
  pub based : Based (first_bases about) v.seen
  pub long : length v.counts ≡ about.threads
  pub counts : (t : ℕ) → t < about.threads → slice_index words (count_place t) ≡ slice_index v.counts t
  pub high : (t : ℕ) → t < about.threads → UpTo t (slice_index v.counts t) v.seen
  pub noted : (i : ℕ) (p : Noted) → get_elem? v.noted i ≡ some p → (p.number < about.threads) × (slice_index v.counts p.number ≡ p.count)
  pub right : (j : ℕ) → j < size (first_board about) → Right (first_board about) (after (first_board about) v.seen) v.written j (slice_index words (word_place about.threads j))

pub record PlainKept (about : PlainPlan) (s : State (Unit {0}) PlainView) : Type 0 where
  pub wide : length s.words ≡ about.threads + size (first_board about)
  pub one : length s.views ≡ 1
  pub first : HasBases (first_bases about) (first_board about)
  pub ok : (k : ℕ) (v : PlainView) → get_elem? s.views k ≡ some v → PlainOk about s.words v

abbrev pub first_plain : ℕ → Board → PlainView
first_plain threads first = record { threads = threads; first = first; seen = []; counts = replicate threads 0; current = 0; attached = false; noted = []; written = []; tally = no_tally }

abbrev pub starting : PlainPlan → PlainView
starting about = first_plain about.threads (first_board about)

abbrev pub Sat : Type 0
Sat = Me (Unit {0}) PlainView

abbrev pub Tells : Type 1
Tells = Step (Unit {0}) → Sat → ℕ → Sat → Type 0

-- the board that stands
abbrev pub standing : PlainView → Board
standing v = overlay (after v.first v.seen) v.written

-- the number of the step's word among the words of the board, and among the locations
abbrev pub spot : Step (Unit {0}) → Sat → ℕ
spot st m = st.word - m.0.threads

abbrev pub location_of : Step (Unit {0}) → Sat → ℕ
location_of st m = spot st m - before_locations

-- the handle of the thread whose count this is
abbrev pub turned_to : Tells
turned_to st m n m' = m' ≡ (record m.0 { current = st.word; attached = false }, m.1)

-- a load of the count of the thread whose handle is out: as it enters, and as a poll, which finds no stop
abbrev pub entered : Tells
entered st m n m' = st.word ≡ count_place m.0.current → m' ≡ (record m.0 { attached = true; tally = entered_once m.0.tally }, m.1)

abbrev pub polled : Tells
polled st m n m' = st.word ≡ count_place m.0.current → m' ≡ (record m.0 { tally = polled_once m.0.tally false }, m.1)

-- a load by the thread whose handle is out: of a location, of the global word, of a callback word
abbrev pub loaded : Tells
loaded st m n m' = Stands (standing m.0) (spot st m) n × (m' ≡ (record m.0 { tally = loaded_at m.0.tally (location_of st m) (length m.0.seen) }, m.1))

abbrev pub loaded_globally : Tells
loaded_globally st m n m' = Stands (standing m.0) (spot st m) n × (m' ≡ (record m.0 { tally = loaded_global m.0.tally }, m.1))

abbrev pub loaded_for_tool : Tells
loaded_for_tool st m n m' = Stands (standing m.0) (spot st m) n × (m' ≡ (record m.0 { tally = loaded_callbacks m.0.tally (spot st m - 1) }, m.1))

-- a disable by the thread whose handle is out, by the bit that the mask clears
abbrev pub disabled : Tells
disabled st m n m' = (k : ℕ) → k < 24 → st.first ≡ mask_of k
    → Shows (cell_at (standing m.0) (location_of st m)) n × (m' ≡ (record m.0 { seen = m.0.seen ++ Off m.0.current (location_of st m) k ∷ []; tally = disabled_once m.0.tally }, m.1))

-- the old word of a location gives way to its normal word, where it is found
abbrev pub retired : Tells
retired st m n m' = st.second ≡ normal st.first
    → Shows (cell_at (standing m.0) (location_of st m)) n × (m' ≡ (record m.0 { tally = tried m.0.tally (location_of st m) st.first (n == st.first) }, m.1))

-- a thread leaves with its count
abbrev pub counted : Tells
counted st m n m' = m' ≡ (record m.0 { counts = slice_set m.0.counts st.word n; attached = false }, m.1)

-- the count of a thread
abbrev pub noted : Tells
noted st m n m' = (n ≡ slice_index m.0.counts st.word) × UpTo st.word n m.0.seen
    × (m' ≡ (record m.0 { noted = record { number = st.word; count = n } ∷ m.0.noted }, m.1))

-- a location is read while the board is halted
abbrev pub read : Tells
read st m n m' = Stands (standing m.0) (spot st m) n × (m' ≡ (record m.0 { tally = read_at m.0.tally (location_of st m) }, m.1))

-- a word of the board is stored: a location's, or another
abbrev pub rewritten : Tells
rewritten st m n m' = m' ≡ (record m.0 { written = record { place = spot st m; word = n } ∷ m.0.written; tally = rewritten_once m.0.tally }, m.1)

abbrev pub stored : Tells
stored st m n m' = m' ≡ (record m.0 { written = record { place = spot st m; word = n } ∷ m.0.written }, m.1)

-- the mark of a release: the counts that were noted and the board that stands
abbrev pub put_of : PlainView → Mark
put_of v = Put (table v.threads (count_of v.noted)) (standing v)

abbrev pub released : Tells
released st m n m' = m' ≡ (record m.0 { seen = m.0.seen ++ put_of m.0 ∷ []; noted = []; written = [] }, m.1)
