use Rattle.std.proofs.Common.{◌≡◌, ◌++◌, drop, string_bytes}
use Rattle.mon_forms.specs.Texts.{numbers_text}
use Rattle.mon_forms.proofs.texts.write_numbers.Given as goal

abbrev pub invariant-loop-n : goal.invariant-loop-n
invariant-loop-n l = string_bytes l.out ++ numbers_text (drop l.n-index l.numbers) ≡ string_bytes l.initial.out ++ numbers_text l.numbers
