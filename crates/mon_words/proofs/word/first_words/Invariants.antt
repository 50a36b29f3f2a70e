use Rattle.std.proofs.Common.{◌≡◌, ◌++◌, map, replicate, take}
use Rattle.mon_words.specs.Words.{before_locations, first_word}
use Rattle.mon_words.proofs.word.first_words.Given as goal

abbrev pub invariant-loop : goal.invariant-loop
invariant-loop l = l.words.items ≡ replicate l.counter 0

abbrev pub invariant-loop-base : goal.invariant-loop-base
invariant-loop-base l = l.words.items ≡ replicate before_locations 0 ++ map first_word (take l.base-index l.bases)
