use Rattle.std.proofs.Common.{◌∙◌, subst}
use Rattle.mon_code.specs.Checked.{IsChecked}
use Rattle.mon_code.specs.Programs.{Parts}
use Rattle.mon_control_tests.proofs.Standing.{begun}
use Rattle.mon_control_tests.proofs.tests.world.World.new.Goals as goal

pub invariant_of-result : goal.invariant_of-result
invariant_of-result c = record {
  ready = begun c.in_ok-program.program c.in_ok-control.control c.in_ok-board.board.chair.me.0 c.args.threads c.as_slice.result.now (subst IsChecked c.program.view_is c.program.invariant) (c.as_slice.ensures.value ∙ c.in_ok-program.ensures) c.first_board.ensures.bytes
      c.in_ok-control.ensures.journal c.in_ok-control.ensures.threads c.in_ok-control.ensures.codes c.in_ok-board.ensures.view;
}
