-- The top frame, while it is lent.
use Rattle.std.specs.Borrow.{Lends, MutBor, Fml}
use Rattle.mon_frames.specs.declared.frame.Frame.{Frame}
use Rattle.mon_frames.specs.contracts.frame.Frame as frame
use Rattle.mon_frames.specs.Views.{FramesView, with_top}
use Rattle.mon_frames.specs.contracts.stack.Frames as frames

-- the innermost call ends with the last frame behind r, and nothing else changes
abbrev pub LendsTop : MutBor FramesView → MutBor Frame → Fml
LendsTop s r = Lends frames.the_row frame.the_row s r (λ frame. record s.now { calls = with_top s.now.calls frame })
