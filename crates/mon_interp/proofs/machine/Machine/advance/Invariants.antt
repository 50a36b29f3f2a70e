use Rattle.std.proofs.Common.{◌≡◌, ◌+◌}
use Rattle.mon_interp.specs.Machines.{progress_of}
use Rattle.mon_interp.proofs.Going.{Going}
use Rattle.mon_interp.proofs.machine.Machine.advance.Given as goal

abbrev pub invariant-loop-turn : goal.invariant-loop-turn
invariant-loop-turn g l = record {
  going : Going l.program l._turn (g.H.Handle.told l.fn.handle) (g.H.Handle.told l.handle) (progress_of l.fn.self) (progress_of l.self);
  rest : g.H.Handle.rest l.handle ≡ g.H.Handle.rest l.fn.handle;
  counted : l.self.steps ≡ l.fn.self.steps + l._turn;
}
