-- What a seat and a stopped controller of a gate tell.
use Rattle.std.specs.Prelude.{Bool, true, false}
use Rattle.mon_words.specs.Told.{Told}
use Rattle.mon_words.specs.Halted.{Halt}
use Rattle.mon_words.specs.Standing.{noted_of, rewrites}
use Rattle.mon_gate.specs.Plays.{standing}
use Rattle.mon_gate.specs.declared.view.View.{View}
use Rattle.mon_gate.specs.declared.view.Phase.{Phase}
use Rattle.mon_gate.specs.declared.view.Phase.TheVariants.{Attached}

abbrev pub is_attached : Phase → Bool
is_attached Attached = true
is_attached _ = false

abbrev pub told_of : View → Told
told_of v = record { number = v.number; first = v.first; seen = v.seen; own = v.mine; attached = is_attached v.phase; count = v.stored; tally = v.tally }

abbrev pub halt_of : View → Halt
halt_of v = record { first = v.first; threads = v.threads; seen = v.seen; board = standing v; noted = noted_of v.noted; written = rewrites v.written; tally = v.tally }
