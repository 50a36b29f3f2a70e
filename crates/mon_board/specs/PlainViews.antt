-- What the one seat of a plain board tells of a thread, and of the halted board.
use Rattle.std.specs.Prelude.{◌≡◌, ℕ, List, [], ◌∷◌, cond, ◌==◌, slice_index, slice_set, IsTrue, is_some}
use Rattle.mon_words.specs.History.{offs}
use Rattle.mon_words.specs.Told.{Told}
use Rattle.mon_words.specs.Halted.{Halt}
use Rattle.mon_words.specs.Standing.{noted_of, rewrites}
use Rattle.mon_words.specs.declared.history.Mark.{Mark}
use Rattle.mon_words.specs.declared.history.Mark.TheVariants.{Off, Put}
use Rattle.mon_board.specs.Plain.{standing}
use Rattle.mon_board.specs.declared.plain_view.PlainView.{PlainView}

abbrev pub plain_told : ℕ → PlainView → Told
plain_told thread v = record { number = thread; first = v.first; seen = v.seen; own = offs thread v.seen; attached = v.attached; count = slice_index v.counts thread; tally = v.tally }

-- the stored counts, with 0 in place of the thread's own
abbrev pub other_counts : ℕ → List ℕ → List ℕ
other_counts thread counts = slice_set counts thread 0

-- the marks that are not disables of the thread
abbrev pub other_marks : ℕ → List Mark → List Mark
other_marks thread [] = []
other_marks thread (Off t l k ∷ ms) = cond (t == thread) (other_marks thread ms) (Off t l k ∷ other_marks thread ms)
other_marks thread (Put stops b ∷ ms) = Put stops b ∷ other_marks thread ms

abbrev pub plain_halt : PlainView → Halt
plain_halt v = record { first = v.first; threads = v.threads; seen = v.seen; board = standing v; noted = noted_of v.noted; written = rewrites v.written; tally = v.tally }

-- nothing was stored or noted since the last release
abbrev pub IsRunning : PlainView → Type 0
IsRunning v = (v.written ≡ []) × (v.noted ≡ [])

-- the count of a thread was read since the board was halted
abbrev pub IsNoted : PlainView → ℕ → Type 0
IsNoted v thread = IsTrue (is_some (noted_of v.noted thread))
