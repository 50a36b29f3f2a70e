use Rattle.std.proofs.Common.{◌∙◌, ◌+◌, length, slice_get, slice_set, ap, sym, arith}
use Rattle.mon_run.specs.Serial.{World}
use Rattle.mon_run.specs.Replaying.{calls_left, progress_all, world_of}
use Rattle.mon_run.proofs.Moving.{next_some, one_left}
use Rattle.mon_run.proofs.Turning.{read_at}
use Rattle.mon_run.proofs.moves.ask_next.Goals as goal

pub ask-requires-clause-few : goal.ask-requires-clause-few
ask-requires-clause-few c =
    let left = one_left c.args.plan.now.scripts c.args.replay.now.made.items c.args.number c.index-made.result.now c.in-Some.script.now (sym c.in-Some.ensures.value) (omega (arith, c.requires.low, c.requires.holds.wide)) c.index-made.ensures (omega (arith, c.len.ensures, c.if-len-made.false)) in
    omega (arith, left, c.requires.few)

pub returns-clause-world : goal.returns-clause-world
returns-clause-world c =
    let w = world_of c.args.replay.now.board.chair.me.0 c.args.replay.now.control.journal (progress_all c.args.replay.now.threads.items) c.args.replay.now.made.items in
    let n = c.index-made.result.now in
    ap (λ (z : World). record z { made = slice_set z.made c.args.number (n + 1) }) c.in_ok-ask.ensures.world
    ∙ next_some c.args.plan.now w c.args.number n c.in-Some.script.now c.index-as_slice-made.result (sym c.in-Some.ensures.value) (omega (arith, c.requires.low, c.requires.holds.wide)) c.index-made.ensures
    (ap (λ xs. slice_get xs n) (sym c.as_slice.ensures) ∙ read_at c.as_slice.result.now n c.index-as_slice-made.result (omega (arith, c.len.ensures, c.if-len-made.false, ap length c.as_slice.ensures)) c.index-as_slice-made.is)

pub returns-clause-few : goal.returns-clause-few
returns-clause-few c =
    let left = one_left c.args.plan.now.scripts c.args.replay.now.made.items c.args.number c.index-made.result.now c.in-Some.script.now (sym c.in-Some.ensures.value) (omega (arith, c.requires.low, c.requires.holds.wide)) c.index-made.ensures (omega (arith, c.len.ensures, c.if-len-made.false)) in
    let made = ap (λ z. calls_left c.args.plan.now.scripts (slice_set z.items c.args.number (c.index-made.result.now + 1))) c.ask.ensures.made in
    omega (arith, left, made, c.in_ok-ask.ensures.calls, c.requires.few)
