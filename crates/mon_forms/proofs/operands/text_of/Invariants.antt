use Rattle.std.proofs.Common.{◌≡◌, take}
use Rattle.mon_forms.proofs.operands.text_of.Given as goal

abbrev pub invariant-loop-byte : goal.invariant-loop-byte
invariant-loop-byte l = l.text ≡ take l.byte-index l.bytes
