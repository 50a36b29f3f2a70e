use Rattle.std.proofs.Common.{◌∙◌, ◌*◌, ◌/◌, ◌%◌, ◌^◌, ℕ, nat_lt, ap, sym, bit_and}
use Rattle.mon_hear.proofs.Parting.{slot_unasked}
use Rattle.mon_hear.proofs.words.asks_slot.Goals as goal

pub returns-clause-nothing : goal.returns-clause-nothing
returns-clause-nothing c = λ e. slot_unasked c.args.word c.args.slot (ap (λ (n : ℕ). nat_lt 0 (bit_and (c.args.word / 65536 % 16777216) (c.args.word / 1099511627776) / 2 ^ (6 * n) % 64)) (sym c.number.ensures) ∙ e)
