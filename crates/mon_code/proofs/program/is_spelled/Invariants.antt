use Rattle.std.proofs.Common.{◌≡◌, chars}
use Rattle.std.specs.Str.{IsUtf8}
use Rattle.std.specs.Str.Iter.{chars_rest}
use Rattle.mon_code.specs.Programs as spec
use Rattle.mon_code.proofs.program.is_spelled.Given as goal

abbrev pub invariant-loop-c : goal.invariant-loop-c
invariant-loop-c l = record {
  utf8 : IsUtf8 (chars_rest l.c-iterator);
  so_far : spec.is_text l.text (chars l.string) ≡ spec.is_text l.left (chars (chars_rest l.c-iterator));
}
