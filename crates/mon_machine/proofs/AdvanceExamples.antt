-- The definitions give what they should.
use Rattle.std.proofs.Common.{◌≡◌, ℕ, zero, suc, ◌<◌, List, [], ◌∷◌, take, get_or, refl, arith}
use Rattle.mon_recorders.specs.Happenings.{for_tools}
use Rattle.mon_recorders.specs.Readings.{in_turn, entries_by}
use Rattle.mon_recorders.specs.Boards.{reader}
use Rattle.mon_words.specs.History.{offs}
use Rattle.mon_machine.specs.Step.{step}
use Rattle.mon_machine.specs.Run.{after_steps, printed_by, Goes}
use Rattle.mon_machine.specs.Advances.{instruction_due, polls_of, events_from}
use Rattle.mon_machine.specs.AdvanceExamples.{program, called, board, marks, WorkedAdvance}

positions : List ℕ
positions = 0 ∷ 0 ∷ 1 ∷ 1 ∷ 2 ∷ []

pub worked : WorkedAdvance
unfolding positions step after_steps printed_by Goes in_turn for_tools instruction_due polls_of
worked = record {
  at = positions;
  ran = record {
    number = refl;
    first = refl;
    goes = (refl, (refl, (refl, (refl, (refl, tt)))));
    state = refl;
    printed = refl;
    steps = refl;
    records = _;
    disables = _;
    records_are = refl;
    disables_are = refl;
    span = record {
      more = _;
      grown = refl;
      between = (omega arith, (omega arith, (omega arith, (omega arith, (omega arith, omega arith)))));
      own_all = refl;
      own_read = pick;
      records_are = refl;
      disables_are = refl;
    };
    loads = refl;
  };
  within = omega arith;
  unwinds = λ e. cc;
  polls = record { polls = refl; polled = refl };
  asked = λ e. cc;
  spent = λ e h. cc;
}
  where
    pick : (k : ℕ) → k < 5 → offs 4 (take (get_or positions k 0) marks) ≡ entries_by (reader 4 board) marks positions (events_from program called) k
    pick zero h = refl
    pick (suc zero) h = refl
    pick (suc (suc zero)) h = refl
    pick (suc (suc (suc zero))) h = refl
    pick (suc (suc (suc (suc zero)))) h = refl
    pick (suc (suc (suc (suc (suc k))))) h = absurd (omega (arith, h))
