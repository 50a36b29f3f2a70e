-- The worked rows.
use Rattle.std.proofs.Common.{refl}
use Rattle.mon_recorders.specs.RowExamples.{LinesOfAllThreads, CallsByName, BranchesBySide, LinesCovered}

pub lines : LinesOfAllThreads
lines = refl

pub calls : CallsByName
calls = refl

pub branches : BranchesBySide
branches = refl

pub covered : LinesCovered
covered = refl
