use Rattle.std.proofs.Common.{rules, ◌≡◌, ◌∙◌, ap, sym}
use Rattle.mon_gate.specs.declared.view.View.{View}
use Rattle.mon_run.proofs.Governing.{stopped, released, made_stop}
use Rattle.mon_run.proofs.controller.stop_for.Goals as goal

pub commit_stopped-requires-clause-stands : goal.commit_stopped-requires-clause-stands
commit_stopped-requires-clause-stands g c =
    let v : View = c.args.idle.chair.me.0 in let a : View = c.ask.result.chair.me.0 in let w : View = c.stop-stopped.result.chair.me.0 in
    let first : w.first ≡ v.first = ap (λ (z : View). z.first) c.stop-stopped.ensures.view ∙ ap (λ (z : View). z.first) c.ask.ensures.view in
    stopped c.args.program.now c.args.control.now v w c.requires.governs first (search rules) (c.stop-stopped.ensures.seen.1 ∙ ap (λ (z : View). z.mine) c.ask.ensures.view)

pub returns-clause-governs : goal.returns-clause-governs
returns-clause-governs g c =
    let v : View = c.args.idle.chair.me.0 in let a : View = c.ask.result.chair.me.0 in let w : View = c.stop-stopped.result.chair.me.0 in
    let x : View = c.commit_stopped.new.stopped.chair.me.0 in let y : View = c.release.result.chair.me.0 in
    let few : w.threads ≡ c.args.control.now.threads = ap (λ (z : View). z.threads) c.stop-stopped.ensures.view ∙ (ap (λ (z : View). z.threads) c.ask.ensures.view ∙ c.requires.governs.threads) in
    let mine : w.mine ≡ a.mine = ap (λ (z : View). z.mine) c.stop-stopped.ensures.view in
    released c.args.program.now c.args.control.now c.commit_stopped.new.control c.args.ready.who c.args.ready.call w x y c.commit_stopped.ensures.commits few
    c.commit_stopped.ensures.sizes.threads c.commit_stopped.ensures.sizes.codes c.requires.governs.codes c.commit_stopped.ensures.lawful (c.stop-stopped.ensures.seen.1 ∙ sym mine) c.commit_stopped.ensures.mine
    (ap (λ (z : View). z.threads) c.release.ensures.view) (ap (λ (z : View). z.first) c.release.ensures.view) (ap (λ (z : View). z.seen) c.release.ensures.view) (ap (λ (z : View). z.mine) c.release.ensures.view)

pub returns-clause-made : goal.returns-clause-made
returns-clause-made g c =
    let v : View = c.args.idle.chair.me.0 in let w : View = c.stop-stopped.result.chair.me.0 in
    let x : View = c.commit_stopped.new.stopped.chair.me.0 in let y : View = c.release.result.chair.me.0 in
    let same : w.threads ≡ v.threads = ap (λ (z : View). z.threads) c.stop-stopped.ensures.view ∙ ap (λ (z : View). z.threads) c.ask.ensures.view in
    let tickets : x.tickets ≡ v.tickets = c.commit_stopped.ensures.tickets ∙ (ap (λ (z : View). z.tickets) c.stop-stopped.ensures.view ∙ ap (λ (z : View). z.tickets) c.ask.ensures.view) in
    made_stop c.args.program.now c.args.control.now c.commit_stopped.new.control c.args.ready.who c.args.ready.call w x y c.commit_stopped.ensures.commits (same ∙ c.requires.governs.threads) v c.release.ensures.unclaimed tickets same
