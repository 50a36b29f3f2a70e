use Rattle.std.proofs.Common.{◌≡◌, ◌<◌, ◌∷◌, List, drop, length, sym, ap, ◌∙◌, arith}
use Rattle.mon_values.specs.declared.value.Value.{Value}
use Rattle.mon_frames.proofs.Lists.{drop_one_more}
use Rattle.mon_machine.specs.Moves.{with_stack}
use Rattle.mon_interp.proofs.Taking.{first_dropped, some_dropped}
use Rattle.mon_interp.proofs.call.take_call.Goals as goal

pub unreachable-requires : goal.unreachable-requires
unreachable-requires c =
    let within : c.args.count < length c.args.frame.now.stack = omega (arith, c.if-len-count.false, c.len.ensures) in
    some_dropped c.args.frame.now.stack c.args.count within (sym c.in_ok-args.ensures.left ∙ c.in-None.ensures.0)

pub returns : goal.returns
returns c =
    let stack : List Value = c.args.frame.now.stack in
    let stood : drop c.args.count stack ≡ c.in-Some.callee ∷ c.pop.new.self = sym c.in_ok-args.ensures.left ∙ c.in-Some.ensures in (
      first_dropped stack c.args.count c.in-Some.callee c.pop.new.self stood,
      c.in_ok-args.ensures.taken,
      ap (λ (l : List Value). with_stack c.args.frame.now l) (sym (drop_one_more stack c.args.count c.in-Some.callee c.pop.new.self stood)),
    )
