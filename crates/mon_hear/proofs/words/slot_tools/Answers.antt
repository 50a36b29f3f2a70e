use Rattle.std.proofs.Common.{◌∙◌, ◌+◌, ◌*◌, ℕ, ap, bit_and, ◌/◌, ◌%◌}
use Rattle.mon_words.specs.Words.{is_bit}
use Rattle.mon_hear.proofs.Bits.{slot_bits}
use Rattle.mon_hear.proofs.words.slot_tools.Goals as goal

pub returns : goal.returns
returns c = λ t l. c.six_bits.ensures t l ∙ (ap (λ (n : ℕ). is_bit (bit_and (c.args.word / 65536 % 16777216) (c.args.word / 1099511627776)) (6 * n + t)) c.number.ensures ∙ slot_bits c.args.word c.args.slot t)
