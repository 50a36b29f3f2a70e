use Rattle.std.proofs.Common.{◌≡◌, ◌∙◌, ◌++◌, ap, sym, arith}
use Rattle.std.proofs.lemmas.Grind.{common_steps}
use Rattle.std.specs.Char.{encode_utf8}
use Rattle.std.specs.Str.Iter.{chars_rest}
use Rattle.mon_code.proofs.Names.{rest_utf8, text_next, text_end, nothing_left}
use Rattle.mon_code.proofs.program.is_spelled.Goals as goal

pub loop-c-preserved : goal.loop-c-preserved
loop-c-preserved c =
    let bs = chars_rest c.loop-c.c-iterator in
    let rest = chars_rest c.next.new.self in
    let e : bs ≡ encode_utf8 c.in-Some.c ++ rest = c.in-Some.ensures.steps.0 in
    let next = text_next c.loop-c.left.now bs rest c.in-Some.c c.loop-c.invariant.utf8 e in
    record {
      utf8 = rest_utf8 bs rest c.in-Some.c c.loop-c.invariant.utf8 e;
      so_far = grind (arith, common_steps);
    }

pub returns : goal.returns
returns c =
    c.is_empty.ensures
    ∙ nothing_left c.loop-c.left.now
    ∙ sym (text_end c.loop-c.left.now (chars_rest c.loop-c.c-iterator) c.in-None.ensures.steps.0.0)
    ∙ sym c.loop-c.invariant.so_far
