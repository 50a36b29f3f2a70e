use Rattle.std.proofs.Common.{ap, ◌≡◌, ◌∙◌, ℕ, [], ◌∷◌, ◌++◌}
use Rattle.mon_words.specs.declared.history.Mark.TheVariants.{Off}
use Rattle.mon_board.specs.PlainViews.{other_counts, other_marks}
use Rattle.mon_board.specs.declared.plain_view.PlainView.{PlainView}
use Rattle.mon_board.proofs.Telling.{clears, other_marks-own}
use Rattle.mon_board.proofs.plain_handle.PlainHandleHandle.disable.Goals as goal

pub returns-clause-rest : goal.returns-clause-rest
returns-clause-rest c = let h = c.args.self.now in let v : PlainView = h.board.now.chair.me.0 in let w : PlainView = c.disable.new.self.chair.me.0 in let b = c.requires.mask in let e = c.disable.ensures.view b.0 b.1 b.2 in
    let threads = c.disable.ensures.threads in
    let counts : other_counts h.thread w.counts ≡ other_counts h.thread v.counts = ap (λ (z : PlainView). other_counts h.thread z.counts) e in
    let marks : other_marks h.thread w.seen ≡ other_marks h.thread v.seen = ap (λ (z : PlainView). other_marks h.thread z.seen) e
    ∙ (ap (λ (z : ℕ). other_marks h.thread (v.seen ++ Off z c.args.location b.0 ∷ [])) h.current ∙ other_marks-own h.thread c.args.location b.0 v.seen) in
    λ i. record { borrow = h.board.ghost_name; threads = threads i; counts = counts i; marks = marks i }

pub returns-clause-told : goal.returns-clause-told
returns-clause-told c k low is = let h = c.args.self.now in let v : PlainView = h.board.now.chair.me.0 in
    clears h.thread v c.disable.new.self.chair.me.0 h.running.0 c.args.location k c.disable.result h.current (c.disable.ensures.view k low is) c.disable.ensures.word
