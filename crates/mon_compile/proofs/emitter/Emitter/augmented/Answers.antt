use Rattle.std.proofs.Common.{◌∙◌, ap, refl, arith}
use Rattle.mon_events.specs.declared.op.Op.{Op}
use Rattle.mon_compile.specs.declared.assembly.Argument.TheVariants.{Number}
use Rattle.mon_compile.specs.Contexts.{put, above}
use Rattle.mon_compile.specs.Emission.{emitted}
use Rattle.mon_compile.specs.Expressions as scheme
use Rattle.mon_compile.proofs.Emissions.{frame_of, code_of, step, stop, stop_one, one_more}
use Rattle.mon_compile.proofs.Sizes.{augmented_size}
use Rattle.mon_compile.proofs.emitter.Emitter.augmented.Goals as goal

pub returns-in_err-expression : goal.returns-in_err-expression
returns-in_err-expression c =
    let e0 = c.args.self.now in
    let n = scheme.number_of_local e0.locals c.args.name.now in
    let e1 = c.put_number.new.self in
    let same = ap frame_of c.in_ok-put_number.ensures in
    let part = λ (k : scheme.Locals). scheme.expression_code k c.args.expression.now c.above-up.result in
    let next = emitted e1 (part e1.locals) in
    let right = step part (frame_of e0) e1 next same refl in
    stop _ _ e0 _ e1 _ (part e1.locals) _ c.from_residual-in_err-expression.ensures.1 same (omega (arith, augmented_size (scheme.expression_code e0.locals c.args.expression.now) c.args.spot c.above-up.result _ (put c.args.spot Op.LoadFast (Number n)) (put (above 2 c.args.spot) Op.BinaryOp (Number (scheme.binary_number c.args.op))) (put (above 1 c.args.spot) Op.StoreFast (Number n)) e0.code e1.code next.code c.above-up.ensures.spot (ap code_of c.in_ok-put_number.ensures) right.1)) c.in_err-expression.ensures

pub returns-in_err-put_number-2 : goal.returns-in_err-put_number-2
returns-in_err-put_number-2 c =
    let e0 = c.args.self.now in
    let n = scheme.number_of_local e0.locals c.args.name.now in
    let e1 = c.put_number.new.self in
    let same = ap frame_of c.in_ok-put_number.ensures in
    let part = λ (k : scheme.Locals). scheme.expression_code k c.args.expression.now c.above-up.result in
    let e2 = c.expression.new.self in
    let right = step part (frame_of e0) e1 e2 same c.in_ok-expression.ensures in
    stop_one _ _ e0 _ e2 _ _ _ c.from_residual-in_err-put_number-2.ensures.1 right.0 (omega (arith, augmented_size (scheme.expression_code e0.locals c.args.expression.now) c.args.spot c.above-up.result _ (put c.args.spot Op.LoadFast (Number n)) (put (above 2 c.args.spot) Op.BinaryOp (Number (scheme.binary_number c.args.op))) (put (above 1 c.args.spot) Op.StoreFast (Number n)) e0.code e1.code e2.code c.above-up.ensures.spot (ap code_of c.in_ok-put_number.ensures) right.1)) c.in_err-put_number-2.ensures

pub returns-in_err-put_number-3 : goal.returns-in_err-put_number-3
returns-in_err-put_number-3 c =
    let e0 = c.args.self.now in
    let n = scheme.number_of_local e0.locals c.args.name.now in
    let e1 = c.put_number.new.self in
    let same = ap frame_of c.in_ok-put_number.ensures in
    let part = λ (k : scheme.Locals). scheme.expression_code k c.args.expression.now c.above-up.result in
    let e2 = c.expression.new.self in
    let e3 = c.put_number-2.new.self in
    let right = step part (frame_of e0) e1 e2 same c.in_ok-expression.ensures in
    stop_one _ _ e0 _ e3 _ _ _ c.from_residual-in_err-put_number-3.ensures.1 (ap frame_of c.in_ok-put_number-2.ensures ∙ right.0)
    (omega (arith, augmented_size (scheme.expression_code e0.locals c.args.expression.now) c.args.spot c.above-up.result _ (put c.args.spot Op.LoadFast (Number n)) (put (above 2 c.args.spot) Op.BinaryOp (Number (scheme.binary_number c.args.op))) (put (above 1 c.args.spot) Op.StoreFast (Number n)) e0.code e1.code e2.code c.above-up.ensures.spot (ap code_of c.in_ok-put_number.ensures) right.1, one_more e2 e3 _ c.in_ok-put_number-2.ensures)) c.in_err-put_number-3.ensures
