use Rattle.std.proofs.Common.{◌+◌, arith, sym, ap, ◌∙◌}
use Rattle.mon_words.specs.History.{cell_at}
use Rattle.mon_words.specs.declared.history.Cell.{Cell}
use Rattle.mon_code.specs.Sites.{site_in}
use Rattle.mon_history.specs.Kept.{config_of}
use Rattle.mon_instrument.specs.Due.{due_cell, differs}
use Rattle.mon_instrument.proofs.Chosen.{other_cell}
use Rattle.mon_instrument.proofs.Walks.{walked_kept, walked_one, due_is, same_word}
use Rattle.mon_instrument.proofs.refreshing.refresh.Goals as goal

pub returns-then-due-word-clause-told : goal.returns-then-due-word-clause-told
returns-then-due-word-clause-told g c =
    let h = g.S.Halted.halt c.args.s.now in
    let d = due_is (config_of c.args.config.now) c.args.code c.args.index c.args.location.now c.args.all c.read-word.result c.due_word-due.result c.want_bits.result c.new.result (cell_at h.board c.args.l)
    c.read-word.ensures.shows.0 c.new.ensures c.want_bits.ensures.value c.due_word-due.ensures.cell in
    walked_one (λ k (z : Cell). due_cell (config_of c.args.config.now) (site_in c.args.code c.args.index c.args.location.now z.base) c.args.all z) c.args.l (c.args.l + 1) c.due_word-due.result
    h (g.S.Halted.halt c.read-word.new.self) (g.S.Halted.halt c.rewrite.new.self) (omega arith) c.requires.within (sym d) (sym (λ i. differs (d i) (c.read-word.ensures.shows.0 i)) ∙ other_cell c.due_word-due.result c.read-word.result (omega (arith, c.if-due-word.true))) c.due_word-due.ensures.normal c.read-word.ensures.halt c.rewrite.ensures.halt

pub returns-else-due-word-clause-told : goal.returns-else-due-word-clause-told
returns-else-due-word-clause-told g c =
    let h = g.S.Halted.halt c.args.s.now in
    let d = due_is (config_of c.args.config.now) c.args.code c.args.index c.args.location.now c.args.all c.read-word.result c.due_word-due.result c.want_bits.result c.new.result (cell_at h.board c.args.l)
    c.read-word.ensures.shows.0 c.new.ensures c.want_bits.ensures.value c.due_word-due.ensures.cell in
    let s = same_word c.due_word-due.result c.read-word.result (ap (λ (z : Cell). z.base) c.due_word-due.ensures.cell) (omega (arith, c.if-due-word.false)) in
    walked_kept (λ k (z : Cell). due_cell (config_of c.args.config.now) (site_in c.args.code c.args.index c.args.location.now z.base) c.args.all z) c.args.l (c.args.l + 1)
    h (g.S.Halted.halt c.read-word.new.self) (omega arith) (sym d ∙ (s ∙ c.read-word.ensures.shows.0)) c.read-word.ensures.halt
