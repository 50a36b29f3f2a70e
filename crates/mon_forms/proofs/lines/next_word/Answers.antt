use Rattle.std.proofs.Common.{rules, ◌<◌, length}
use Rattle.mon_forms.proofs.Words.{found_word, plain_parts}
use Rattle.mon_forms.proofs.lines.next_word.Goals as goal

pub returns-clause-words : goal.returns-clause-words
returns-clause-words c =
    let some : 0 < length c.skip_blanks-word.result.now = search rules in
    found_word _ _ _ c.skip_blanks-word.ensures.words some c.skip_blanks-word.ensures.within (c.skip_blanks-word.ensures.front some) c.find_blank-end.ensures.within c.find_blank-end.ensures.before c.find_blank-end.ensures.found

pub returns-clause-plain : goal.returns-clause-plain
returns-clause-plain c = λ h. plain_parts c.skip_blanks-word.result.now c.find_blank-end.result (c.skip_blanks-word.ensures.plain h)
