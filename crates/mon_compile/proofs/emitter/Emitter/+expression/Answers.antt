use Rattle.std.proofs.Common.{ℕ, ◌+◌, ◌∙◌, [], ◌∷◌, ◌++◌, length, map, ap, refl, sym, arith, length-append}
use Rattle.std.proofs.lemmas.List.{length-map}
use Rattle.mon_events.specs.declared.op.Op.{Op}
use Rattle.mon_compile.specs.Contexts.{Spot, put, none, bare}
use Rattle.mon_compile.specs.Emission.{emitted}
use Rattle.mon_compile.specs.Expressions as scheme
use Rattle.mon_compile.proofs.Nodes.{nodes_within}
use Rattle.mon_compile.proofs.Emissions.{frame_of, code_of, step, whole, stop, stop_one}
use Rattle.mon_compile.proofs.Grown.{grown_one, grown_all}
use Rattle.mon_compile.proofs.ExpressionHoles.{short_written, conditional_written}
use Rattle.mon_compile.proofs.Sizes.{two_size, short_size, conditional_size}
use Rattle.mon_compile.proofs.Turns.{turn_next, called, call_written, method_written}
use Rattle.mon_compile.proofs.emitter.Emitter.+expression.Goals as goal

abbrev stack_of : Spot → ℕ
stack_of s = s.stack

pub expressions-expression-requires : goal.expressions-expression-requires
expressions-expression-requires t c = (omega (arith, nodes_within _ _ _ c.loop-expression-test.true c.expression-item.is, c.decreases), c.loop-expression.invariant.deep)

pub expressions-loop-expression-preserved : goal.expressions-loop-expression-preserved
expressions-loop-expression-preserved t c =
    record {
      made = turn_next c.args.expressions.now _ _ _ _ c.loop-expression.self _ _ c.loop-expression-test.true c.expression-item.is c.above-up.ensures.spot c.in_ok-expression.ensures c.loop-expression.invariant.made;
      deep = omega (arith, ap stack_of c.above-up.ensures.spot, c.loop-expression.invariant.deep, grown_one _ _ _ _ _ c.in_ok-expression.ensures);
    }

pub tuple-count-count-requires : goal.tuple-count-count-requires
tuple-count-count-requires t c = omega (arith, grown_all _ _ _ c.args.parts.now _ c.in_ok-expressions.ensures)

pub arguments-count-values-requires : goal.arguments-count-values-requires
arguments-count-values-requires t c = omega (arith, grown_all _ _ _ c.args.args.now _ c.in_ok-expressions.ensures)

pub arguments-count-number-requires : goal.arguments-count-number-requires
arguments-count-number-requires t c = omega (arith, c.requires.near, grown_all _ _ _ c.args.args.now _ c.in_ok-expressions.ensures)

pub call-returns : goal.call-returns
call-returns t c =
    let l = c.args.self.now.locals in
    let args = c.args.args.now in
    let coder = scheme.expression_code l in
    let part = λ (k : scheme.Locals) (at : ℕ). called (map (scheme.expression_code k) args) (length args) (length args) c.above-up.result at in
    let last = step part (frame_of c.args.self.now) _ _ (ap frame_of c.in_ok-expression.ensures) c.in_ok-arguments.ensures in
    whole c.args.self.now c.arguments.new.self _ last.0
    (call_written (coder c.args.f.now) (map coder args) c.args.spot _ _ c.args.self.now.code _ _ (sym (length-map args coder)) (ap code_of c.in_ok-expression.ensures) c.above-up.ensures.spot last.1)

pub method_call-returns : goal.method_call-returns
method_call-returns t c =
    let l = c.args.self.now.locals in
    let args = c.args.args.now in
    let coder = scheme.expression_code l in
    let part = λ (k : scheme.Locals) (at : ℕ). called (map (scheme.expression_code k) args) (length args) (length args + 1) c.above-higher.result at in
    let last = step part (frame_of c.args.self.now) _ _ (ap frame_of c.in_ok-put_number.ensures ∙ ap frame_of c.in_ok-expression.ensures) c.in_ok-arguments.ensures in
    whole c.args.self.now c.arguments.new.self _ last.0
    (method_written (coder c.args.object.now) (map coder args) c.args.spot _ _ _ _ _ c.args.self.now.code _ _ _ (sym (length-map args coder)) c.method_number.ensures (ap code_of c.in_ok-expression.ensures) c.above-up.ensures.spot (ap code_of c.in_ok-put_number.ensures) c.above-higher.ensures.spot last.1)

pub short-returns : goal.short-returns
short-returns t c =
    let l = c.args.self.now.locals in
    let a = scheme.expression_code l c.args.a.now in
    let b = scheme.expression_code l c.args.b.now in
    let same = ap frame_of c.in_ok-put_plain-2.ensures ∙ ap frame_of c.in_ok-put_plain.ensures ∙ ap frame_of c.in_ok-put_number.ensures ∙ ap frame_of c.in_ok-expression.ensures in
    let right = step (λ k. scheme.expression_code k c.args.b.now c.args.spot) (frame_of c.args.self.now) _ _ same c.in_ok-expression-2.ensures in
    whole c.args.self.now c.jump_here.new.self _ (ap frame_of c.jump_here.ensures ∙ right.0)
    (ap code_of c.jump_here.ensures
    ∙ short_written a b c.args.jump c.args.spot _ _ c.args.self.now.code _ _ _ _ _ _ _ _ _
    c.above-up.ensures.spot c.above-higher.ensures.spot (ap code_of c.in_ok-expression.ensures) (ap code_of c.in_ok-put_number.ensures) c.here-hole.ensures (ap code_of c.in_ok-put_plain.ensures) (ap code_of c.in_ok-put_plain-2.ensures) right.1 refl refl)

pub conditional-returns : goal.conditional-returns
conditional-returns t c =
    let l = c.args.self.now.locals in
    let a = scheme.expression_code l c.args.a.now in
    let test = scheme.expression_code l c.args.test.now in
    let b = scheme.expression_code l c.args.b.now in
    let same = ap frame_of c.in_ok-put_plain.ensures ∙ ap frame_of c.in_ok-expression.ensures in
    let left = step (λ k. scheme.expression_code k c.args.a.now c.args.spot) (frame_of c.args.self.now) _ _ same c.in_ok-expression-2.ensures in
    let right = step (λ k. scheme.expression_code k c.args.b.now c.args.spot) (frame_of c.args.self.now) _ _ (ap frame_of c.in_ok-put_plain-2.ensures ∙ left.0) c.in_ok-expression-3.ensures in
    whole c.args.self.now c.set_jump-2.new.self _ (ap frame_of c.set_jump-2.ensures ∙ ap frame_of c.set_jump.ensures ∙ right.0)
    (ap code_of c.set_jump-2.ensures
    ∙ conditional_written a test b c.args.spot _ _ c.args.self.now.code _ _ _ _ _ _ _ _ _ _ _ _ _ _
    c.above-up.ensures.spot (c.bare-low.ensures ∙ ap (λ (z : Spot). bare z) c.above-up.ensures.spot) (ap code_of c.in_ok-expression.ensures) c.here-branch.ensures (ap code_of c.in_ok-put_plain.ensures) left.1
    c.here-jump.ensures (ap code_of c.in_ok-put_plain-2.ensures) c.here-other.ensures right.1 c.here-end.ensures refl (ap code_of c.set_jump.ensures) refl)

-- where a part is too long

pub binary-returns-in_err-expression-2 : goal.binary-returns-in_err-expression-2
binary-returns-in_err-expression-2 t c =
    let e0 = c.args.self.now in
    let e = c.expression.new.self in
    let same = ap frame_of c.in_ok-expression.ensures in
    let part = λ (k : scheme.Locals). scheme.expression_code k c.args.b.now c.above-up.result in
    let right = step part (frame_of e0) e (emitted e (part e.locals)) same refl in
    stop _ _ e0 _ e _ (part e.locals) _ c.from_residual-in_err-expression-2.ensures.1 same
    (omega (arith, two_size (scheme.expression_code e0.locals c.args.a.now) (scheme.expression_code e0.locals c.args.b.now) c.args.op c.args.number c.args.spot c.above-up.result e0.code e.code (emitted e (part e.locals)).code c.above-up.ensures.spot (ap code_of c.in_ok-expression.ensures) right.1))
    c.in_err-expression-2.ensures

pub binary-returns-in_err-put_number : goal.binary-returns-in_err-put_number
binary-returns-in_err-put_number t c =
    let e0 = c.args.self.now in
    let e = c.expression-2.new.self in
    let part = λ (k : scheme.Locals). scheme.expression_code k c.args.b.now c.above-up.result in
    let right = step part (frame_of e0) _ e (ap frame_of c.in_ok-expression.ensures) c.in_ok-expression-2.ensures in
    stop_one _ _ e0 _ e _ _ _ c.from_residual-in_err-put_number.ensures.1 right.0
    (omega (arith, two_size (scheme.expression_code e0.locals c.args.a.now) (scheme.expression_code e0.locals c.args.b.now) c.args.op c.args.number c.args.spot c.above-up.result e0.code c.expression.new.self.code e.code c.above-up.ensures.spot (ap code_of c.in_ok-expression.ensures) right.1))
    c.in_err-put_number.ensures

pub short-returns-in_err-expression-2 : goal.short-returns-in_err-expression-2
short-returns-in_err-expression-2 t c =
    let e0 = c.args.self.now in
    let e = c.put_plain-2.new.self in
    let same = ap frame_of c.in_ok-put_plain-2.ensures ∙ ap frame_of c.in_ok-put_plain.ensures ∙ ap frame_of c.in_ok-put_number.ensures ∙ ap frame_of c.in_ok-expression.ensures in
    let part = λ (k : scheme.Locals). scheme.expression_code k c.args.b.now c.args.spot in
    let right = step part (frame_of e0) e (emitted e (part e.locals)) same refl in
    stop _ _ e0 _ e _ (part e.locals) _ c.from_residual-in_err-expression-2.ensures.1 same
    (omega (
      arith,
      short_size (scheme.expression_code e0.locals c.args.a.now) (scheme.expression_code e0.locals c.args.b.now) c.args.jump c.args.spot e0.code c.expression.new.self.code c.put_number.new.self.code c.put_plain.new.self.code e.code (emitted e (part e.locals)).code _ _ _
          (ap code_of c.in_ok-expression.ensures) (ap code_of c.in_ok-put_number.ensures) (ap code_of c.in_ok-put_plain.ensures) (ap code_of c.in_ok-put_plain-2.ensures) right.1,
    ))
    c.in_err-expression-2.ensures

pub conditional-returns-in_err-expression-2 : goal.conditional-returns-in_err-expression-2
conditional-returns-in_err-expression-2 t c =
    let e0 = c.args.self.now in
    let a = scheme.expression_code e0.locals c.args.a.now in
    let test = scheme.expression_code e0.locals c.args.test.now in
    let b = scheme.expression_code e0.locals c.args.b.now in
    let c2 = c.put_plain.new.self in
    let same = ap frame_of c.in_ok-put_plain.ensures ∙ ap frame_of c.in_ok-expression.ensures in
    let part = λ (k : scheme.Locals). scheme.expression_code k c.args.a.now c.args.spot in
    let c3 = emitted c2 (part c2.locals) in
    let left = step part (frame_of e0) c2 c3 same refl in
    let c4 = c3.code ++ (put c.args.spot Op.Nop none ∷ []) in
    let right = b c.args.spot (length c4) in
    stop _ _ e0 _ c2 _ (part c2.locals) _ c.from_residual-in_err-expression-2.ensures.1 same
    (omega (arith, conditional_size a test b c.args.spot e0.code c.expression.new.self.code c2.code c3.code c4 (c4 ++ right) _ _ (ap code_of c.in_ok-expression.ensures) (ap code_of c.in_ok-put_plain.ensures) left.1 refl refl, length-append c3.code (put c.args.spot Op.Nop none ∷ []), length-append c4 right))
    c.in_err-expression-2.ensures

pub conditional-returns-in_err-put_plain-2 : goal.conditional-returns-in_err-put_plain-2
conditional-returns-in_err-put_plain-2 t c =
    let e0 = c.args.self.now in
    let a = scheme.expression_code e0.locals c.args.a.now in
    let test = scheme.expression_code e0.locals c.args.test.now in
    let b = scheme.expression_code e0.locals c.args.b.now in
    let c2 = c.put_plain.new.self in
    let same = ap frame_of c.in_ok-put_plain.ensures ∙ ap frame_of c.in_ok-expression.ensures in
    let part = λ (k : scheme.Locals). scheme.expression_code k c.args.a.now c.args.spot in
    let c3 = c.expression-2.new.self in
    let left = step part (frame_of e0) c2 c3 same c.in_ok-expression-2.ensures in
    let c4 = c3.code ++ (put c.args.spot Op.Nop none ∷ []) in
    let right = b c.args.spot (length c4) in
    stop_one _ _ e0 _ c3 _ _ _ c.from_residual-in_err-put_plain-2.ensures.1 left.0
    (omega (arith, conditional_size a test b c.args.spot e0.code c.expression.new.self.code c2.code c3.code c4 (c4 ++ right) _ _ (ap code_of c.in_ok-expression.ensures) (ap code_of c.in_ok-put_plain.ensures) left.1 refl refl, length-append c3.code (put c.args.spot Op.Nop none ∷ []), length-append c4 right))
    c.in_err-put_plain-2.ensures

pub conditional-returns-in_err-expression-3 : goal.conditional-returns-in_err-expression-3
conditional-returns-in_err-expression-3 t c =
    let e0 = c.args.self.now in
    let a = scheme.expression_code e0.locals c.args.a.now in
    let test = scheme.expression_code e0.locals c.args.test.now in
    let b = scheme.expression_code e0.locals c.args.b.now in
    let c2 = c.put_plain.new.self in
    let same = ap frame_of c.in_ok-put_plain.ensures ∙ ap frame_of c.in_ok-expression.ensures in
    let part = λ (k : scheme.Locals). scheme.expression_code k c.args.a.now c.args.spot in
    let c3 = c.expression-2.new.self in
    let left = step part (frame_of e0) c2 c3 same c.in_ok-expression-2.ensures in
    let c4 = c.put_plain-2.new.self in
    let last = λ (k : scheme.Locals). scheme.expression_code k c.args.b.now c.args.spot in
    let same4 = ap frame_of c.in_ok-put_plain-2.ensures ∙ left.0 in
    let right = step last (frame_of e0) c4 (emitted c4 (last c4.locals)) same4 refl in
    stop _ _ e0 _ c4 _ (last c4.locals) _ c.from_residual-in_err-expression-3.ensures.1 same4
    (omega (arith, conditional_size a test b c.args.spot e0.code c.expression.new.self.code c2.code c3.code c4.code (emitted c4 (last c4.locals)).code _ _ (ap code_of c.in_ok-expression.ensures) (ap code_of c.in_ok-put_plain.ensures) left.1 (ap code_of c.in_ok-put_plain-2.ensures) right.1))
    c.in_err-expression-3.ensures
