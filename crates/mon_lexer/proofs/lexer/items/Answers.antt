use Rattle.std.proofs.Common.{◌∙◌}
use Rattle.mon_lexer.specs.Top.{Answers}
use Rattle.mon_lexer.proofs.Spelled.{items_spell}
use Rattle.mon_lexer.proofs.Texts.{too_long, not_utf8, utf8_answers}
use Rattle.mon_lexer.proofs.lexer.items.Goals as goal

pub returns-then-text-gt-LIMIT : goal.returns-then-text-gt-LIMIT
returns-then-text-gt-LIMIT c = record { answers = too_long c.args.text.now c.if-text-gt-LIMIT.true; spells = tt }

pub returns-in-Err : goal.returns-in-Err
returns-in-Err c = record { answers = not_utf8 c.args.text.now c.valid_up_to.result c.if-text-gt-LIMIT.false c.in-Err.ensures.cases.0 (c.valid_up_to.ensures ∙ c.in-Err.ensures.valid_len); spells = tt }

pub returns-in-Ok : goal.returns-in-Ok
returns-in-Ok c =
    let a : Answers c.items_of.result c.args.text.now = utf8_answers c.items_of.result c.args.text.now c.in-Ok.text.now c.if-text-gt-LIMIT.false c.in-Ok.ensures.cases.1 c.in-Ok.ensures.cases.0 c.items_of.ensures in
    record { answers = a; spells = items_spell c.items_of.result c.args.text.now a }
