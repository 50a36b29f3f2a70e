-- Where the words of a gate lie. First come the gate word and the count of the claimed numbers, then a step count for each
-- thread, and then the words of the board. Which word an entry, a poll and an observation look at, and when such a word counts
-- an attached thread, is said here alone.
use Rattle.std.specs.Prelude.{ℕ, ◌+◌, ◌-◌, ◌%◌, Bool, List, [], ◌∷◌, nat_lt, slice_index}
use Rattle.mon_words.specs.Words.{before_locations}

abbrev pub gate_place : ℕ
gate_place = 0

abbrev pub claim_place : ℕ
claim_place = 1

-- the step count of thread t
abbrev pub count_place : ℕ → ℕ
count_place t = 2 + t

-- the thread whose step count lies at a place
abbrev pub count_number : ℕ → ℕ
count_number place = place - count_place 0

-- where the words of the board begin, behind the counts of so many threads
abbrev pub board_place : ℕ → ℕ
board_place threads = 2 + threads

-- the word j of the board
abbrev pub word_place : ℕ → ℕ → ℕ
word_place threads j = board_place threads + j

-- the number of the word of the board at a place
abbrev pub word_number : ℕ → ℕ → ℕ
word_number threads place = place - board_place threads

abbrev pub location_place : ℕ → ℕ → ℕ
location_place threads l = word_place threads (before_locations + l)

-- the word that thread t looks at to enter
abbrev pub entry_word : ℕ → ℕ
entry_word t = gate_place

-- the word that thread t looks at for a poll
abbrev pub poll_word : ℕ → ℕ
poll_word t = gate_place

-- the words that are looked at for whether the world has stopped, among those of so many threads
abbrev pub observed_words : ℕ → List ℕ
observed_words threads = gate_place ∷ []

-- an observed word counts an attached thread: its low 32 bits are not 0
abbrev pub counts_attached : ℕ → Bool
counts_attached n = nat_lt 0 (n % 4294967296)

abbrev pub gate_word : List ℕ → ℕ
gate_word words = slice_index words gate_place

abbrev pub claim_word : List ℕ → ℕ
claim_word words = slice_index words claim_place

abbrev pub count_at : List ℕ → ℕ → ℕ
count_at words t = slice_index words (count_place t)

-- the word j of the board
abbrev pub word_at : ℕ → List ℕ → ℕ → ℕ
word_at threads words j = slice_index words (word_place threads j)
