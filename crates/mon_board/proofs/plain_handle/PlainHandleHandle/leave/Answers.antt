use Rattle.std.proofs.Common.{rules, ap, ◌≡◌, ◌∙◌}
use Rattle.mon_board.specs.PlainViews.{other_counts, other_marks}
use Rattle.mon_board.specs.declared.plain_view.PlainView.{PlainView}
use Rattle.mon_board.proofs.Telling.{leaves, other_counts-set}
use Rattle.mon_board.proofs.plain_handle.PlainHandleHandle.leave.Goals as goal

pub returns-clause-rest : goal.returns-clause-rest
returns-clause-rest c = let h = c.args.self.now in let v : PlainView = h.board.now.chair.me.0 in let w : PlainView = c.count.new.self.chair.me.0 in let e = c.count.ensures.view in
    let threads = c.count.ensures.threads in
    let counts : other_counts h.thread w.counts ≡ other_counts h.thread v.counts = ap (λ (z : PlainView). other_counts h.thread z.counts) e ∙ other_counts-set h.thread c.args.steps v.counts in
    let marks : other_marks h.thread w.seen ≡ other_marks h.thread v.seen = ap (λ (z : PlainView). other_marks h.thread z.seen) e in
    λ i. record { borrow = h.board.ghost_name; threads = threads i; counts = counts i; marks = marks i }

pub returns-clause-told : goal.returns-clause-told
returns-clause-told c = let h = c.args.self.now in leaves h.thread c.args.steps h.board.now.chair.me.0 c.count.new.self.chair.me.0 (search rules) c.count.ensures.view
