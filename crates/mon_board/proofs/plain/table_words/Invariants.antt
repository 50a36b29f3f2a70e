use Rattle.std.proofs.Common.{◌≡◌, ◌++◌, replicate, take}
use Rattle.mon_board.proofs.plain.table_words.Given as goal

abbrev pub invariant-loop : goal.invariant-loop
invariant-loop l = l.words.items ≡ replicate l.counter 0

abbrev pub invariant-loop-word : goal.invariant-loop-word
invariant-loop-word l = l.words.items ≡ replicate l.threads 0 ++ take l.word-index l.first
