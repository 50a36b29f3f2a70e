use Rattle.std.proofs.Common.{◌≡◌, ◌+◌, ◌++◌, replicate, take}
use Rattle.mon_gate.proofs.gate.table_words.Given as goal

abbrev pub invariant-loop : goal.invariant-loop
invariant-loop l = l.words.items ≡ replicate (2 + l.counter) 0

abbrev pub invariant-loop-word : goal.invariant-loop-word
invariant-loop-word l = l.words.items ≡ replicate (2 + l.threads) 0 ++ take l.word-index l.first
