use Rattle.std.proofs.Common.{◌∙◌, Bool, refl, sym, ap, subst, arith, map}
use Rattle.mon_words.specs.History.{base_in}
use Rattle.mon_words.specs.Told.{Told}
use Rattle.mon_words.specs.declared.history.Board.{Board}
use Rattle.mon_interp.specs.Machines.{progress_of, StepOrStop}
use Rattle.mon_interp.proofs.Going.{going_none, going_more, going_asked, asked_retired}
use Rattle.mon_interp.proofs.machine.Machine.advance.Goals as goal

pub loop-turn-init : goal.loop-turn-init
loop-turn-init g c = record {
  going = going_none c.args.program.now (g.H.Handle.told c.args.handle.now) (progress_of c.args.self.now);
  rest = refl;
  counted = omega arith;
}

pub one_step-requires-clause-attached : goal.one_step-requires-clause-attached
one_step-requires-clause-attached g c = ap (λ (t : Told). t.attached) c.loop-turn.invariant.going.stays.rest ∙ c.requires.attached

pub one_step-requires-clause-owns : goal.one_step-requires-clause-owns
one_step-requires-clause-owns g c = c.loop-turn.invariant.going.stays.owns c.requires.owns

pub one_step-requires-clause-bases : goal.one_step-requires-clause-bases
one_step-requires-clause-bases g c = ap (λ (b : Board). map base_in b.cells) c.loop-turn.invariant.going.ran.first ∙ c.requires.bases

pub loop-turn-preserved : goal.loop-turn-preserved
loop-turn-preserved g c =
    let i = c.loop-turn.invariant in
    let p = c.args.program.now in
    let a = g.H.Handle.told c.args.handle.now in
    let b = g.H.Handle.told c.loop-turn.handle in
    let d = g.H.Handle.told c.one_step.new.handle in
    let old = progress_of c.args.self.now in
    let mid = progress_of c.loop-turn.self in
    let new = progress_of c.one_step.new.self in
    let going = going_more p c.loop-turn._turn a b d old mid new i.going c.one_step.ensures.stays (subst (λ (x : Bool). StepOrStop x p b d mid new) c.if-not-done.false c.in_ok-done.ensures.step) in
    record {
      going = going;
      rest = c.one_step.ensures.rest ∙ i.rest;
      counted = omega (arith, going.ran.steps, going.count);
    }

pub returns-then-not-done-clause-run : goal.returns-then-not-done-clause-run
returns-then-not-done-clause-run g c =
    let p = c.args.program.now in
    let b = g.H.Handle.told c.loop-turn.handle in
    let d = g.H.Handle.told c.one_step.new.handle in
    let mid = progress_of c.loop-turn.self in
    let new = progress_of c.one_step.new.self in
    going_asked p c.loop-turn._turn c.args.steps (g.H.Handle.told c.args.handle.now) b d (progress_of c.args.self.now) mid new c.loop-turn.invariant.going c.loop-turn-test.true (sym c.goes.ensures ∙ c.if-not-goes.false)
    (subst (λ (x : Bool). StepOrStop x p b d mid new) c.if-not-done.true c.in_ok-done.ensures.step)

pub returns-then-not-done-clause-retired : goal.returns-then-not-done-clause-retired
returns-then-not-done-clause-retired g c =
    let p = c.args.program.now in
    let b = g.H.Handle.told c.loop-turn.handle in
    let d = g.H.Handle.told c.one_step.new.handle in
    let mid = progress_of c.loop-turn.self in
    let new = progress_of c.one_step.new.self in
    asked_retired p c.loop-turn._turn (g.H.Handle.told c.args.handle.now) b d (progress_of c.args.self.now) mid new c.loop-turn.invariant.going
    (subst (λ (x : Bool). StepOrStop x p b d mid new) c.if-not-done.true c.in_ok-done.ensures.step)
