use Rattle.std.proofs.Common.{◌≡◌, ℕ, ◌+◌, List, [], map, Bool, true, false, cond, refl}
use Rattle.std.specs.Prelude.{if◌then◌else◌}
use Rattle.mon_words.specs.Tallies.{no_tally}
use Rattle.mon_words.specs.Words.{cell_of}
use Rattle.mon_words.specs.Told.{Told, Polls}
use Rattle.mon_words.specs.declared.tally.Load.{Load}
use Rattle.mon_interp_tests.proofs.tests.LoudWordsHandle.poll.Goals as goal

answered : (before answer : Bool) → before ≡ false → cond answer 1 0 ≡ (if answer then cond before 1 0 + 1 else cond before 1 0)
answered before true e = rw e refl
answered before false e = rw e refl

abbrev told_of : (words callbacks : List ℕ) → Bool → (polls polled : ℕ) → List Load → Told
told_of words callbacks attached polls polled loads = record { number = 0; first = record { global = 0; callbacks = callbacks; cells = map cell_of words }; seen = []; own = []; attached = attached; count = 0; tally = record no_tally { polls = polls; polled = polled; loads = loads } }

polls : (words callbacks : List ℕ) (attached : Bool) (loads : List Load) (n m : ℕ) (before answer : Bool) → m ≡ n + 1 → before ≡ false → Polls (told_of words callbacks attached n (cond before 1 0) loads) answer (told_of words callbacks attached m (cond answer 1 0) loads)
polls words callbacks attached loads n m before answer more e = record {
  owns = refl;
  rest = λ i. told_of words callbacks attached (more i) (answered before answer e i) loads;
}

pub returns-clause-told : goal.returns-clause-told
returns-clause-told g c = polls _ _ _ _ _ _ _ _ refl cc
