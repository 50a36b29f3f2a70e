use Rattle.std.proofs.Common.{rules}
use Rattle.mon_forms.proofs.Words.{found_line, last_part}
use Rattle.mon_forms.proofs.lines.next_line.Goals as goal

pub returns-then-end-text : goal.returns-then-end-text
returns-then-end-text c =
    rw c.without_return.ensures (found_line _ _ (search rules) c.find_feed-end.ensures.before (c.find_feed-end.ensures.found (search rules)))

pub returns-else-end-text : goal.returns-else-end-text
returns-else-end-text c = last_part c.args.text.now c.find_feed-end.result (search rules) (search rules) c.find_feed-end.ensures.before
