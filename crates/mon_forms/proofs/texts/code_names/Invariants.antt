use Rattle.std.proofs.Common.{◌≡◌, map, take, string_bytes, encode_utf8_all}
use Rattle.mon_forms.proofs.texts.code_names.Given as goal

abbrev pub invariant-loop-name : goal.invariant-loop-name
invariant-loop-name l = map string_bytes l.names.items ≡ map encode_utf8_all (take l.name-index l.program.names)
