use Rattle.std.proofs.Common.{◌≡◌, ◌<◌, length, get_or, arith, ◌∙◌, sym}
use Rattle.std.proofs.lemmas.Grind.{common_steps}
use Rattle.mon_forms.proofs.Written.{named_none, named_some}
use Rattle.mon_forms.proofs.texts.name_of.Goals as goal

pub returns-in-None : goal.returns-in-None
returns-in-None c = λ p a. sym (named_none p c.args.names.now c.args.code c.in-None.ensures.lookup.3 a)

pub returns-in-Some : goal.returns-in-Some
returns-in-Some c = λ p a.
    let low : c.args.code < length c.args.names.now = omega (arith, c.in-Some.ensures.lookup.3) in
    let is : c.in-Some.name.now ≡ get_or c.args.names.now c.args.code c.in-Some.name.now = grind (arith, common_steps, c.in-Some.ensures.lookup) in
    c.as_str.ensures.value ∙ sym (named_some p c.args.names.now c.args.code c.in-Some.name.now low is a)
