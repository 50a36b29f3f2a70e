use Rattle.std.proofs.Common.{◌≡◌, ◌++◌, drop, string_bytes}
use Rattle.mon_forms.specs.Listing.{code_lines, listing}
use Rattle.mon_forms.specs.Texts.{each_from}
use Rattle.mon_forms.proofs.listing.write_codes.Given as goal

abbrev pub invariant-loop-number : goal.invariant-loop-number
invariant-loop-number l = string_bytes l.out ++ each_from (code_lines l.program) l.number (drop l.number l.program.codes) ≡ string_bytes l.initial.out ++ listing l.program
