use Rattle.std.proofs.Common.{◌≡◌, drop}
use Rattle.mon_outside.specs.Memories.{contents_of}
use Rattle.mon_outside.proofs.memory.contents.Given as goal

abbrev pub invariant-loop-file : goal.invariant-loop-file
invariant-loop-file l = contents_of l.fn.files l.fn.name ≡ contents_of (drop l.file-index l.files) l.name
