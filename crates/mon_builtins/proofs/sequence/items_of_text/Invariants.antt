use Rattle.std.proofs.Common.{◌≡◌, map, take}
use Rattle.mon_frames.specs.Items.{one_char}
use Rattle.mon_builtins.proofs.sequence.items_of_text.Given as goal

abbrev pub invariant-loop-c : goal.invariant-loop-c
invariant-loop-c l = l.items.items ≡ map one_char (take l.c-index l.chars)
