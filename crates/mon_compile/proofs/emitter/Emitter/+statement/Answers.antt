use Rattle.std.specs.Prelude.{slice_set}
use Rattle.std.proofs.Common.{◌≡◌, ◌+◌, ◌≤◌, [], ◌∷◌, ◌++◌, length-append, ◌∙◌, sym, ap, refl, arith, length, map, drop, append-nil}
use Rattle.mon_events.specs.declared.op.Op.{Op}
use Rattle.mon_compile.specs.declared.assembly.Argument.TheVariants.{Destination}
use Rattle.mon_compile.specs.declared.assembly.Label.TheVariants.{At, EndOf, HandlerOf}
use Rattle.mon_compile.specs.declared.surroundings.Surroundings.TheOpen.{Surroundings-F}
use Rattle.mon_compile.specs.declared.surroundings.Surroundings.TheFolds.{fold-roll-Surroundings}
use Rattle.mon_compile.specs.declared.surroundings.Surroundings.TheViews as view
use Rattle.mon_compile.specs.Contexts.{Context, Spot, While, For, Try, Except, ExceptAs, Raised, Returning, put, none, above, bare, at_line, no_line, left_by_return, left_by_break}
use Rattle.mon_compile.specs.Emission.{Emission, emitted, one}
use Rattle.mon_compile.specs.Expressions as scheme
use Rattle.mon_compile.specs.Open.{open_step, open_context, inside, ending}
use Rattle.mon_compile.specs.Statements as statements
use Rattle.mon_compile.proofs.Clauses.{bare_of, clauses_last, clauses_next}
use Rattle.mon_compile.proofs.Emissions.{frame_of, code_of, step, whole, stop, stop_one}
use Rattle.mon_compile.proofs.Grown.{grown}
use Rattle.mon_compile.proofs.Labels.{body_carries, clauses_carry, guarded_carries}
use Rattle.mon_compile.proofs.StatementLabels.{clauses_carrying}
use Rattle.mon_compile.proofs.Loops.{while_settles, for_settles, try_settles, except_as_settles, entry_over, finally_settles, inside_length, part_inside, ending_length, clauses_ending, covered_length, covered_settled}
use Rattle.mon_compile.proofs.Continued.{opened, part_then, left_then, block_next, return_then, assign_then, try_then, finally_then}
use Rattle.mon_compile.proofs.Nodes.{statement_within, handler_within}
use Rattle.mon_compile.proofs.Sizes.{written_size, changed_size, bare_size}
use Rattle.mon_compile.proofs.StatementHoles.{while_written, for_written, if_written, if_else_written, handlers_written, except_written, except_as_written, finally_written}
use Rattle.mon_compile.proofs.emitter.Emitter.+statement.Goals as goal

pub block-statement-requires : goal.block-statement-requires
block-statement-requires t c = (omega (arith, statement_within _ _ _ c.loop-statement-test.true c.statement-item.is, c.decreases), c.loop-statement.invariant.deep)

pub each_clause-clause-requires : goal.each_clause-clause-requires
each_clause-clause-requires t c = (omega (arith, handler_within _ _ _ c.loop-clause-test.true c.clause-item.is, c.decreases), c.loop-clause.invariant.deep)

pub while_body-returns : goal.while_body-returns
while_body-returns t c =
    let context = c.args.context.now in
    let e = c.args.self.now in
    let body = statements.block_code e.locals c.args.body.now in
    let here : open_context e.locals (view.While c.args.start c.args.context) ≡ While c.args.start (EndOf (length (open_context e.locals context))) ∷ open_context e.locals context = ap (open_context e.locals) (sym (view.rolls-While c.args.start c.args.context)) ∙ fold-roll-Surroundings Context (open_step e.locals) (Surroundings-F.While c.args.start c.args.context) in
    let made = ap code_of c.in_ok-block.ensures ∙ ap (λ (z : Context). e.code ++ body z (length e.code)) here in
    whole c.args.self.now c.settle_behind.new.self _ (ap frame_of c.settle_behind.ensures ∙ ap frame_of c.in_ok-block.ensures)
    (ap code_of c.settle_behind.ensures ∙ part_inside body (λ g. body_carries g e.locals c.args.body.now) (While c.args.start) _ _ (while_settles c.args.start e.locals context) 1 _ _ e.code _ (ap EndOf c.depth.ensures) c.here-from.ensures made)

pub for_body-returns : goal.for_body-returns
for_body-returns t c =
    let context = c.args.context.now in
    let e = c.args.self.now in
    let body = statements.block_code e.locals c.args.body.now in
    let here : open_context e.locals (view.For c.args.start c.args.context) ≡ For c.args.start (EndOf (length (open_context e.locals context))) ∷ open_context e.locals context = ap (open_context e.locals) (sym (view.rolls-For c.args.start c.args.context)) ∙ fold-roll-Surroundings Context (open_step e.locals) (Surroundings-F.For c.args.start c.args.context) in
    let made = ap code_of c.in_ok-block.ensures ∙ ap (λ (z : Context). e.code ++ body z (length e.code)) here in
    whole c.args.self.now c.settle_behind.new.self _ (ap frame_of c.settle_behind.ensures ∙ ap frame_of c.in_ok-block.ensures)
    (ap code_of c.settle_behind.ensures ∙ part_inside body (λ g. body_carries g e.locals c.args.body.now) (For c.args.start) _ _ (for_settles c.args.start e.locals context) 2 _ _ e.code _ (ap EndOf c.depth.ensures) c.here-from.ensures made)

pub try_body-returns : goal.try_body-returns
try_body-returns t c =
    let context = c.args.context.now in
    let e = c.args.self.now in
    let body = statements.block_code e.locals c.args.body.now in
    let here : open_context e.locals (view.Try c.args.context) ≡ Try (HandlerOf (length (open_context e.locals context))) ∷ open_context e.locals context = ap (open_context e.locals) (sym (view.rolls-Try c.args.context)) ∙ fold-roll-Surroundings Context (open_step e.locals) (Surroundings-F.Try c.args.context) in
    let made = ap code_of c.in_ok-block.ensures ∙ ap (λ (z : Context). e.code ++ body z (length e.code)) here in
    whole c.args.self.now c.settle_behind.new.self _ (ap frame_of c.settle_behind.ensures ∙ ap frame_of c.in_ok-block.ensures)
    (ap code_of c.settle_behind.ensures ∙ part_inside body (λ g. body_carries g e.locals c.args.body.now) Try _ _ (try_settles e.locals context) 1 _ _ e.code _ (ap HandlerOf c.depth.ensures) c.here-from.ensures made)

pub named_body-returns : goal.named_body-returns
named_body-returns t c =
    let context = c.args.context.now in
    let e = c.args.self.now in
    let body = statements.block_code e.locals c.args.body.now in
    let here : open_context e.locals (view.ExceptAs c.args.local c.args.context) ≡ ExceptAs c.args.local (HandlerOf (length (open_context e.locals context))) ∷ open_context e.locals context = ap (open_context e.locals) (sym (view.rolls-ExceptAs c.args.local c.args.context)) ∙ fold-roll-Surroundings Context (open_step e.locals) (Surroundings-F.ExceptAs c.args.local c.args.context) in
    let made = ap code_of c.in_ok-block.ensures ∙ ap (λ (z : Context). e.code ++ body z (length e.code)) here in
    whole c.args.self.now c.settle_behind.new.self _ (ap frame_of c.settle_behind.ensures ∙ ap frame_of c.in_ok-block.ensures)
    (ap code_of c.settle_behind.ensures ∙ part_inside body (λ g. body_carries g e.locals c.args.body.now) (ExceptAs c.args.local) _ _ (except_as_settles c.args.local e.locals context) 3 _ _ e.code _ (ap HandlerOf c.depth.ensures) c.here-from.ensures made)

pub clauses-returns : goal.clauses-returns
clauses-returns t c =
    let e = c.args.self.now in
    let clauses = map (statements.handler_code e.locals) c.args.clauses.now in
    whole c.args.self.now c.settle_behind.new.self _ (ap frame_of c.settle_behind.ensures ∙ ap frame_of c.in_ok-each_clause.ensures)
    (ap code_of c.settle_behind.ensures ∙ clauses_ending (statements.clauses_code clauses) (λ g. clauses_carrying g clauses (clauses_carry g e.locals c.args.clauses.now)) e.locals c.args.context.now _ _ e.code _ c.depth.ensures c.here-from.ensures (ap code_of c.in_ok-each_clause.ensures))

pub while_loop-returns : goal.while_loop-returns
while_loop-returns t c =
    let context = c.args.context.now in
    let l = c.args.self.now.locals in
    let body = statements.block_code l c.args.body.now in
    let same = ap frame_of c.in_ok-put_plain.ensures ∙ ap frame_of c.in_ok-expression.ensures in
    let inner = step (λ k. inside (While c.here-start.result) 1 (statements.block_code k c.args.body.now) (open_context k context)) (frame_of c.args.self.now) _ _ same c.in_ok-while_body.ensures in
    whole c.args.self.now c.jump_here.new.self _ (ap frame_of c.jump_here.ensures ∙ ap frame_of c.in_ok-put_jump.ensures ∙ inner.0)
    (ap code_of c.jump_here.ensures
    ∙ while_written c.args.line (scheme.expression_code l c.args.test.now) body (open_context l context)
    (λ x. inside_length body (λ g. body_carries g l c.args.body.now) (While x) _ _ (while_settles x l context) 1) _ _ _ _ _ c.args.self.now.code _ _ _ _ _
    c.here-start.ensures c.at_line-spot.ensures.spot (ap code_of c.in_ok-expression.ensures) c.here-branch.ensures c.above-up.ensures.spot (ap code_of c.in_ok-put_plain.ensures) inner.1 c.no_line-low.ensures.spot (ap code_of c.in_ok-put_jump.ensures))

pub for_loop-returns : goal.for_loop-returns
for_loop-returns t c =
    let context = c.args.context.now in
    let l = c.args.self.now.locals in
    let body = statements.block_code l c.args.body.now in
    let same = ap frame_of c.in_ok-put_plain-2.ensures ∙ ap frame_of c.in_ok-put_plain.ensures ∙ ap frame_of c.in_ok-ending.ensures in
    let stored = step (λ k at. scheme.store_code k c.args.targets.now c.above-up.result) (frame_of c.args.self.now) _ _ same c.in_ok-store.ensures in
    let inner = step (λ k. inside (For c.here-start.result) 2 (statements.block_code k c.args.body.now) (open_context k context)) (frame_of c.args.self.now) _ _ stored.0 c.in_ok-for_body.ensures in
    whole c.args.self.now c.put_plain-3.new.self _ (ap frame_of c.in_ok-put_plain-3.ensures ∙ ap frame_of c.jump_here.ensures ∙ ap frame_of c.in_ok-put_jump.ensures ∙ inner.0)
    (ap code_of c.in_ok-put_plain-3.ensures
    ∙ for_written l c.args.line c.args.targets.now (scheme.expression_code l c.args.whole.now) body (open_context l context)
    (λ x. inside_length body (λ g. body_carries g l c.args.body.now) (For x) _ _ (for_settles x l context) 2) _ _ _ _ _ _ c.args.self.now.code _ _ _ _ _ _ _ _
    c.at_line-spot.ensures.spot (ap code_of c.in_ok-ending.ensures) c.here-start.ensures c.above-up.ensures.spot (ap code_of c.in_ok-put_plain.ensures) c.here-branch.ensures c.above-higher.ensures.spot (ap code_of c.in_ok-put_plain-2.ensures)
    stored.1 inner.1 c.bare-low.ensures (ap code_of c.in_ok-put_jump.ensures) (ap code_of c.jump_here.ensures))

pub if_alone-returns : goal.if_alone-returns
if_alone-returns t c =
    let context = open_context c.args.self.now.locals c.args.context.now in
    let l = c.args.self.now.locals in
    let same = ap frame_of c.in_ok-put_plain.ensures ∙ ap frame_of c.in_ok-expression.ensures in
    let inner = step (λ k. statements.block_code k c.args.body.now (open_context k c.args.context.now)) (frame_of c.args.self.now) _ _ same c.in_ok-block.ensures in
    whole c.args.self.now c.jump_here.new.self _ (ap frame_of c.jump_here.ensures ∙ inner.0)
    (ap code_of c.jump_here.ensures
    ∙ if_written c.args.line (scheme.expression_code l c.args.test.now) (statements.block_code l c.args.body.now) context _ _ _ c.args.self.now.code _ _ _ _
    c.at_line-spot.ensures.spot (ap code_of c.in_ok-expression.ensures) c.here-branch.ensures c.above-up.ensures.spot (ap code_of c.in_ok-put_plain.ensures) inner.1)

pub if_else-returns : goal.if_else-returns
if_else-returns t c =
    let context = open_context c.args.self.now.locals c.args.context.now in
    let l = c.args.self.now.locals in
    let same = ap frame_of c.in_ok-put_plain.ensures ∙ ap frame_of c.in_ok-expression.ensures in
    let inner = step (λ k. statements.block_code k c.args.body.now (open_context k c.args.context.now)) (frame_of c.args.self.now) _ _ same c.in_ok-block.ensures in
    let other = step (λ k. statements.block_code k c.args.other.now (open_context k c.args.context.now)) (frame_of c.args.self.now) _ _ (ap frame_of c.jump_here.ensures ∙ ap frame_of c.in_ok-put_plain-2.ensures ∙ inner.0) c.in_ok-block-2.ensures in
    whole c.args.self.now c.jump_here-2.new.self _ (ap frame_of c.jump_here-2.ensures ∙ other.0)
    (ap code_of c.jump_here-2.ensures
    ∙ if_else_written c.args.line (scheme.expression_code l c.args.test.now) (statements.block_code l c.args.body.now) (statements.block_code l c.args.other.now) context
    _ _ _ _ _ c.args.self.now.code _ _ _ _ _ _ _ _
    c.at_line-spot.ensures.spot (ap code_of c.in_ok-expression.ensures) c.here-branch.ensures c.above-up.ensures.spot (ap code_of c.in_ok-put_plain.ensures) inner.1 c.here-jump.ensures c.no_line-low.ensures.spot
    (ap code_of c.in_ok-put_plain-2.ensures) (ap code_of c.jump_here.ensures) other.1)

pub handlers-returns : goal.handlers-returns
handlers-returns t c =
    let context = c.args.context.now in
    let l = c.args.self.now.locals in
    let body = statements.block_code l c.args.body.now in
    let clauses = map (statements.handler_code l) c.args.clauses.now in
    let same = ap frame_of c.in_ok-put_plain-2.ensures ∙ ap frame_of c.in_ok-put_plain.ensures ∙ ap frame_of c.in_ok-try_body.ensures in
    let caught = step (λ k. ending (statements.clauses_code (map (statements.handler_code k) c.args.clauses.now)) (open_context k context)) (frame_of c.args.self.now) _ _ same c.in_ok-clauses.ensures in
    whole c.args.self.now c.jump_here.new.self _ (ap frame_of c.jump_here.ensures ∙ caught.0)
    (ap code_of c.jump_here.ensures
    ∙ handlers_written body clauses (open_context l context) (inside_length body (λ g. body_carries g l c.args.body.now) Try _ _ (try_settles l context) 1)
    (ending_length (statements.clauses_code clauses) (λ g. clauses_carrying g clauses (clauses_carry g l c.args.clauses.now)) l context) _ _ _ c.args.self.now.code _ _ _ _ _
    (ap code_of c.in_ok-try_body.ensures) c.here-jump.ensures c.no_line-low.ensures.spot (ap code_of c.in_ok-put_plain.ensures) c.above-up.ensures.spot (ap code_of c.in_ok-put_plain-2.ensures) caught.1)

pub except-returns : goal.except-returns
except-returns t c =
    let context = open_context c.args.self.now.locals c.args.context.now in
    let l = c.args.self.now.locals in
    let same = ap frame_of c.in_ok-put_plain-2.ensures ∙ ap frame_of c.in_ok-put_plain.ensures ∙ ap frame_of c.in_ok-ending.ensures in
    let inner = step (λ k. statements.except_body (statements.block_code k c.args.body.now) c.args.end (open_context k c.args.context.now)) (frame_of c.args.self.now) _ _ same c.in_ok-except_body.ensures in
    whole c.args.self.now c.jump_here.new.self _ (ap frame_of c.jump_here.ensures ∙ inner.0)
    (ap code_of c.jump_here.ensures
    ∙ except_written c.args.line (scheme.expression_code l c.args.class.now) (statements.block_code l c.args.body.now) c.args.end context _ _ _ c.args.self.now.code _ _ _ _ _
    (c.in_clause-spot.ensures.spot ∙ ap (λ (z : Spot). statements.in_clause z) c.at_line-low.ensures.spot) (ap code_of c.in_ok-ending.ensures) c.here-branch.ensures c.above-up.ensures.spot (ap code_of c.in_ok-put_plain.ensures) (ap code_of c.in_ok-put_plain-2.ensures) inner.1)

pub except_as-returns : goal.except_as-returns
except_as-returns t c =
    let context = open_context c.args.self.now.locals c.args.context.now in
    let l = c.args.self.now.locals in
    let same = ap frame_of c.in_ok-put_number.ensures ∙ ap frame_of c.in_ok-put_plain.ensures ∙ ap frame_of c.in_ok-ending.ensures in
    let inner = step (λ k. statements.except_as_body c.args.local (statements.block_code k c.args.body.now) c.args.end (open_context k c.args.context.now)) (frame_of c.args.self.now) _ _ same c.in_ok-except_as_body.ensures in
    whole c.args.self.now c.jump_here.new.self _ (ap frame_of c.jump_here.ensures ∙ inner.0)
    (ap code_of c.jump_here.ensures
    ∙ except_as_written c.args.line (scheme.expression_code l c.args.class.now) c.args.local (statements.block_code l c.args.body.now) c.args.end context _ _ _ c.args.self.now.code _ _ _ _ _
    (c.in_clause-spot.ensures.spot ∙ ap (λ (z : Spot). statements.in_clause z) c.at_line-low.ensures.spot) (ap code_of c.in_ok-ending.ensures) c.here-branch.ensures c.above-up.ensures.spot (ap code_of c.in_ok-put_plain.ensures) (ap code_of c.in_ok-put_number.ensures) inner.1)

pub each_clause-returns-then-is_none : goal.each_clause-returns-then-is_none
each_clause-returns-then-is_none t c =
    let e = c.loop-clause.self in
    let left = c.loop-clause.invariant.made in
    whole c.args.self.now c.clause.new.self _ (ap frame_of c.in_ok-clause.ensures ∙ ap frame_of left)
    (clauses_last e.locals _ _ _ c.args.end _ e.code _ _ c.loop-clause-test.true c.clause-item.is (ap code_of c.in_ok-clause.ensures) (bare_of e.locals c.clause-item.result _ c.if-is_none.ensures) (ap code_of left))

pub each_clause-loop-clause-preserved : goal.each_clause-loop-clause-preserved
each_clause-loop-clause-preserved t c =
    let context = open_context c.args.self.now.locals c.args.context.now in
    let e = c.loop-clause.self in
    let s = c.args.self.now in
    let clauses = c.args.clauses.now in
    let rest = λ (z : Emission). emitted z (statements.clauses_code (map (statements.handler_code z.locals) (drop (c.loop-clause.clause-index + 1) clauses)) c.args.end (open_context z.locals c.args.context.now)) in
    let piece = (statements.handler_code e.locals c.clause-item.result).code c.args.end (open_context e.locals c.args.context.now) in
    let left = c.loop-clause.invariant.made in
    record {
      made = ap rest c.in_ok-clause.ensures
          ∙ whole s (rest (emitted e piece)) _ (ap frame_of left)
          (clauses_next e.locals _ _ _ c.args.end _ e.code _ _ c.loop-clause-test.true c.clause-item.is refl (bare_of e.locals c.clause-item.result _ c.if-is_none.ensures) (ap code_of left));
      deep = omega (arith, c.loop-clause.invariant.deep, grown e c.clause.new.self piece c.in_ok-clause.ensures);
    }

-- where a part is too long

pub while_body-returns-in_err-block : goal.while_body-returns-in_err-block
while_body-returns-in_err-block t c =
    let context = c.args.context.now in
    let e = c.args.self.now in
    let body = statements.block_code e.locals c.args.body.now in
    let within = open_context e.locals (view.While c.args.start c.args.context) in
    let here : within ≡ While c.args.start (EndOf (length (open_context e.locals context))) ∷ open_context e.locals context = ap (open_context e.locals) (sym (view.rolls-While c.args.start c.args.context)) ∙ fold-roll-Surroundings Context (open_step e.locals) (Surroundings-F.While c.args.start c.args.context) in
    let made = e.code ++ body within (length e.code) in
    let settled = part_inside body (λ g. body_carries g e.locals c.args.body.now) (While c.args.start) _ _ (while_settles c.args.start e.locals context) 1 _ _ e.code made (ap EndOf c.depth.ensures) c.here-from.ensures (ap (λ (z : Context). e.code ++ body z (length e.code)) here) in
    stop _ _ e _ e _ (body within) _ c.from_residual.ensures.1 refl (omega (arith, changed_size _ _ _ _ settled)) c.in_err-block.ensures

pub for_body-returns-in_err-block : goal.for_body-returns-in_err-block
for_body-returns-in_err-block t c =
    let context = c.args.context.now in
    let e = c.args.self.now in
    let body = statements.block_code e.locals c.args.body.now in
    let within = open_context e.locals (view.For c.args.start c.args.context) in
    let here : within ≡ For c.args.start (EndOf (length (open_context e.locals context))) ∷ open_context e.locals context = ap (open_context e.locals) (sym (view.rolls-For c.args.start c.args.context)) ∙ fold-roll-Surroundings Context (open_step e.locals) (Surroundings-F.For c.args.start c.args.context) in
    let made = e.code ++ body within (length e.code) in
    let settled = part_inside body (λ g. body_carries g e.locals c.args.body.now) (For c.args.start) _ _ (for_settles c.args.start e.locals context) 2 _ _ e.code made (ap EndOf c.depth.ensures) c.here-from.ensures (ap (λ (z : Context). e.code ++ body z (length e.code)) here) in
    stop _ _ e _ e _ (body within) _ c.from_residual.ensures.1 refl (omega (arith, changed_size _ _ _ _ settled)) c.in_err-block.ensures

pub try_body-returns-in_err-block : goal.try_body-returns-in_err-block
try_body-returns-in_err-block t c =
    let context = c.args.context.now in
    let e = c.args.self.now in
    let body = statements.block_code e.locals c.args.body.now in
    let within = open_context e.locals (view.Try c.args.context) in
    let here : within ≡ Try (HandlerOf (length (open_context e.locals context))) ∷ open_context e.locals context = ap (open_context e.locals) (sym (view.rolls-Try c.args.context)) ∙ fold-roll-Surroundings Context (open_step e.locals) (Surroundings-F.Try c.args.context) in
    let made = e.code ++ body within (length e.code) in
    let settled = part_inside body (λ g. body_carries g e.locals c.args.body.now) Try _ _ (try_settles e.locals context) 1 _ _ e.code made (ap HandlerOf c.depth.ensures) c.here-from.ensures (ap (λ (z : Context). e.code ++ body z (length e.code)) here) in
    stop _ _ e _ e _ (body within) _ c.from_residual.ensures.1 refl (omega (arith, changed_size _ _ _ _ settled)) c.in_err-block.ensures

pub named_body-returns-in_err-block : goal.named_body-returns-in_err-block
named_body-returns-in_err-block t c =
    let context = c.args.context.now in
    let e = c.args.self.now in
    let body = statements.block_code e.locals c.args.body.now in
    let within = open_context e.locals (view.ExceptAs c.args.local c.args.context) in
    let here : within ≡ ExceptAs c.args.local (HandlerOf (length (open_context e.locals context))) ∷ open_context e.locals context = ap (open_context e.locals) (sym (view.rolls-ExceptAs c.args.local c.args.context)) ∙ fold-roll-Surroundings Context (open_step e.locals) (Surroundings-F.ExceptAs c.args.local c.args.context) in
    let made = e.code ++ body within (length e.code) in
    let settled = part_inside body (λ g. body_carries g e.locals c.args.body.now) (ExceptAs c.args.local) _ _ (except_as_settles c.args.local e.locals context) 3 _ _ e.code made (ap HandlerOf c.depth.ensures) c.here-from.ensures (ap (λ (z : Context). e.code ++ body z (length e.code)) here) in
    stop _ _ e _ e _ (body within) _ c.from_residual.ensures.1 refl (omega (arith, changed_size _ _ _ _ settled)) c.in_err-block.ensures

pub clauses-returns-in_err-each_clause : goal.clauses-returns-in_err-each_clause
clauses-returns-in_err-each_clause t c =
    let e = c.args.self.now in
    let clauses = map (statements.handler_code e.locals) c.args.clauses.now in
    let part = statements.clauses_code clauses (EndOf c.depth.result) (open_context e.locals c.args.context.now) in
    let settled = clauses_ending (statements.clauses_code clauses) (λ g. clauses_carrying g clauses (clauses_carry g e.locals c.args.clauses.now)) e.locals c.args.context.now _ _ e.code (e.code ++ part (length e.code)) c.depth.ensures c.here-from.ensures refl in
    stop _ _ e _ e _ part _ c.from_residual.ensures.1 refl (omega (arith, changed_size _ _ _ _ settled)) c.in_err-each_clause.ensures

pub while_loop-returns-in_err-while_body : goal.while_loop-returns-in_err-while_body
while_loop-returns-in_err-while_body t c =
    let context = c.args.context.now in
    let e0 = c.args.self.now in
    let l = e0.locals in
    let same = ap frame_of c.in_ok-put_plain.ensures ∙ ap frame_of c.in_ok-expression.ensures in
    let body = statements.block_code l c.args.body.now in
    let part = λ (k : scheme.Locals). inside (While c.here-start.result) 1 (statements.block_code k c.args.body.now) (open_context k context) in
    let back = put (no_line (open_context l context)) Op.JumpBackward (Destination (At c.here-start.result)) ∷ [] in
    let e = c.put_plain.new.self in
    let next = emitted e (part e.locals) in
    let inner = step part (frame_of e0) e next same refl in
    let written = while_written c.args.line (scheme.expression_code l c.args.test.now) body (open_context l context) (λ x. inside_length body (λ g. body_carries g l c.args.body.now) (While x) _ _ (while_settles x l context) 1) _ _ (no_line (open_context l context)) _ _ e0.code _ _ next.code (next.code ++ back) _ c.here-start.ensures c.at_line-spot.ensures.spot (ap code_of c.in_ok-expression.ensures) c.here-branch.ensures c.above-up.ensures.spot (ap code_of c.in_ok-put_plain.ensures) inner.1 refl refl in
    stop _ _ e0 _ e _ (part e.locals) _ c.from_residual-in_err-while_body.ensures.1 same (omega (arith, written_size _ _ _ _ written, length-append next.code back)) c.in_err-while_body.ensures

pub while_loop-returns-in_err-put_jump : goal.while_loop-returns-in_err-put_jump
while_loop-returns-in_err-put_jump t c =
    let context = c.args.context.now in
    let e0 = c.args.self.now in
    let l = e0.locals in
    let same = ap frame_of c.in_ok-put_plain.ensures ∙ ap frame_of c.in_ok-expression.ensures in
    let body = statements.block_code l c.args.body.now in
    let part = λ (k : scheme.Locals). inside (While c.here-start.result) 1 (statements.block_code k c.args.body.now) (open_context k context) in
    let back = put (no_line (open_context l context)) Op.JumpBackward (Destination (At c.here-start.result)) ∷ [] in
    let e = c.while_body.new.self in
    let inner = step part (frame_of e0) _ e same c.in_ok-while_body.ensures in
    let written = while_written c.args.line (scheme.expression_code l c.args.test.now) body (open_context l context) (λ x. inside_length body (λ g. body_carries g l c.args.body.now) (While x) _ _ (while_settles x l context) 1) _ _ (no_line (open_context l context)) _ _ e0.code _ _ e.code (e.code ++ back) _ c.here-start.ensures c.at_line-spot.ensures.spot (ap code_of c.in_ok-expression.ensures) c.here-branch.ensures c.above-up.ensures.spot (ap code_of c.in_ok-put_plain.ensures) inner.1 refl refl in
    stop_one _ _ e0 _ e _ _ _ c.from_residual-in_err-put_jump.ensures.1 inner.0 (omega (arith, written_size _ _ _ _ written, length-append e.code back)) c.in_err-put_jump.ensures

pub for_loop-returns-in_err-for_body : goal.for_loop-returns-in_err-for_body
for_loop-returns-in_err-for_body t c =
    let context = c.args.context.now in
    let e0 = c.args.self.now in
    let l = e0.locals in
    let same = ap frame_of c.in_ok-put_plain-2.ensures ∙ ap frame_of c.in_ok-put_plain.ensures ∙ ap frame_of c.in_ok-ending.ensures in
    let body = statements.block_code l c.args.body.now in
    let stored = step (λ k at. scheme.store_code k c.args.targets.now c.above-up.result) (frame_of e0) _ _ same c.in_ok-store.ensures in
    let part = λ (k : scheme.Locals). inside (For c.here-start.result) 2 (statements.block_code k c.args.body.now) (open_context k context) in
    let low = bare c.above-up.result in
    let back = put low Op.JumpBackward (Destination (At c.here-start.result)) ∷ [] in
    let end = put low Op.EndFor none ∷ [] in
    let e = c.store.new.self in
    let next = emitted e (part e.locals) in
    let inner = step part (frame_of e0) e next stored.0 refl in
    let c6 = next.code ++ back in
    let c7 = slice_set c6 c.here-branch.result (put c.above-higher.result Op.PopJumpIfDone (Destination (At (length c6)))) in
    let written = for_written l c.args.line c.args.targets.now (scheme.expression_code l c.args.whole.now) body (open_context l context) (λ x. inside_length body (λ g. body_carries g l c.args.body.now) (For x) _ _ (for_settles x l context) 2) _ _ _ low _ _ e0.code _ _ _ _ next.code c6 c7 _ c.at_line-spot.ensures.spot (ap code_of c.in_ok-ending.ensures) c.here-start.ensures c.above-up.ensures.spot (ap code_of c.in_ok-put_plain.ensures) c.here-branch.ensures c.above-higher.ensures.spot (ap code_of c.in_ok-put_plain-2.ensures) stored.1 inner.1 refl refl refl in
    stop _ _ e0 _ e _ (part e.locals) _ c.from_residual-in_err-for_body.ensures.1 stored.0 (omega (arith, ap length (sym written), length-append c7 end, written_size c6 c7 _ _ refl, length-append next.code back)) c.in_err-for_body.ensures

pub for_loop-returns-in_err-put_jump : goal.for_loop-returns-in_err-put_jump
for_loop-returns-in_err-put_jump t c =
    let context = c.args.context.now in
    let e0 = c.args.self.now in
    let l = e0.locals in
    let same = ap frame_of c.in_ok-put_plain-2.ensures ∙ ap frame_of c.in_ok-put_plain.ensures ∙ ap frame_of c.in_ok-ending.ensures in
    let body = statements.block_code l c.args.body.now in
    let stored = step (λ k at. scheme.store_code k c.args.targets.now c.above-up.result) (frame_of e0) _ _ same c.in_ok-store.ensures in
    let part = λ (k : scheme.Locals). inside (For c.here-start.result) 2 (statements.block_code k c.args.body.now) (open_context k context) in
    let low = bare c.above-up.result in
    let back = put low Op.JumpBackward (Destination (At c.here-start.result)) ∷ [] in
    let end = put low Op.EndFor none ∷ [] in
    let next = c.for_body.new.self in
    let inner = step part (frame_of e0) _ next stored.0 c.in_ok-for_body.ensures in
    let c6 = next.code ++ back in
    let c7 = slice_set c6 c.here-branch.result (put c.above-higher.result Op.PopJumpIfDone (Destination (At (length c6)))) in
    let written = for_written l c.args.line c.args.targets.now (scheme.expression_code l c.args.whole.now) body (open_context l context) (λ x. inside_length body (λ g. body_carries g l c.args.body.now) (For x) _ _ (for_settles x l context) 2) _ _ _ low _ _ e0.code _ _ _ _ next.code c6 c7 _ c.at_line-spot.ensures.spot (ap code_of c.in_ok-ending.ensures) c.here-start.ensures c.above-up.ensures.spot (ap code_of c.in_ok-put_plain.ensures) c.here-branch.ensures c.above-higher.ensures.spot (ap code_of c.in_ok-put_plain-2.ensures) stored.1 inner.1 refl refl refl in
    stop_one _ _ e0 _ next _ _ _ c.from_residual-in_err-put_jump.ensures.1 inner.0 (omega (arith, ap length (sym written), length-append c7 end, written_size c6 c7 _ _ refl, length-append next.code back)) c.in_err-put_jump.ensures

pub for_loop-returns-in_err-put_plain-3 : goal.for_loop-returns-in_err-put_plain-3
for_loop-returns-in_err-put_plain-3 t c =
    let context = c.args.context.now in
    let e0 = c.args.self.now in
    let l = e0.locals in
    let same = ap frame_of c.in_ok-put_plain-2.ensures ∙ ap frame_of c.in_ok-put_plain.ensures ∙ ap frame_of c.in_ok-ending.ensures in
    let body = statements.block_code l c.args.body.now in
    let stored = step (λ k at. scheme.store_code k c.args.targets.now c.above-up.result) (frame_of e0) _ _ same c.in_ok-store.ensures in
    let part = λ (k : scheme.Locals). inside (For c.here-start.result) 2 (statements.block_code k c.args.body.now) (open_context k context) in
    let next = c.for_body.new.self in
    let inner = step part (frame_of e0) _ next stored.0 c.in_ok-for_body.ensures in
    let e = c.jump_here.new.self in
    let end = put c.bare-low.result Op.EndFor none ∷ [] in
    let written = for_written l c.args.line c.args.targets.now (scheme.expression_code l c.args.whole.now) body (open_context l context) (λ x. inside_length body (λ g. body_carries g l c.args.body.now) (For x) _ _ (for_settles x l context) 2) _ _ _ c.bare-low.result _ _ e0.code _ _ _ _ next.code _ e.code _ c.at_line-spot.ensures.spot (ap code_of c.in_ok-ending.ensures) c.here-start.ensures c.above-up.ensures.spot (ap code_of c.in_ok-put_plain.ensures) c.here-branch.ensures c.above-higher.ensures.spot (ap code_of c.in_ok-put_plain-2.ensures) stored.1 inner.1 c.bare-low.ensures (ap code_of c.in_ok-put_jump.ensures) (ap code_of c.jump_here.ensures) in
    stop_one _ _ e0 _ e _ _ _ c.from_residual-in_err-put_plain-3.ensures.1 (ap frame_of c.jump_here.ensures ∙ ap frame_of c.in_ok-put_jump.ensures ∙ inner.0) (omega (arith, ap length (sym written), length-append e.code end)) c.in_err-put_plain-3.ensures

pub if_else-returns-in_err-block-2 : goal.if_else-returns-in_err-block-2
if_else-returns-in_err-block-2 t c =
    let context = open_context c.args.self.now.locals c.args.context.now in
    let e0 = c.args.self.now in
    let l = e0.locals in
    let same = ap frame_of c.in_ok-put_plain.ensures ∙ ap frame_of c.in_ok-expression.ensures in
    let inner = step (λ k. statements.block_code k c.args.body.now (open_context k c.args.context.now)) (frame_of e0) _ _ same c.in_ok-block.ensures in
    let part = λ (k : scheme.Locals). statements.block_code k c.args.other.now (open_context k c.args.context.now) in
    let e = c.jump_here.new.self in
    let same5 = ap frame_of c.jump_here.ensures ∙ ap frame_of c.in_ok-put_plain-2.ensures ∙ inner.0 in
    let other = step part (frame_of e0) e (emitted e (part e.locals)) same5 refl in
    let written = if_else_written c.args.line (scheme.expression_code l c.args.test.now) (statements.block_code l c.args.body.now) (statements.block_code l c.args.other.now) context
    _ _ _ _ _ e0.code _ _ _ _ _ _ _ _
    c.at_line-spot.ensures.spot (ap code_of c.in_ok-expression.ensures) c.here-branch.ensures c.above-up.ensures.spot (ap code_of c.in_ok-put_plain.ensures) inner.1 c.here-jump.ensures c.no_line-low.ensures.spot
    (ap code_of c.in_ok-put_plain-2.ensures) (ap code_of c.jump_here.ensures) other.1 in
    stop _ _ e0 _ e _ (part e.locals) _ c.from_residual-in_err-block-2.ensures.1 same5 (omega (arith, written_size _ _ _ _ written)) c.in_err-block-2.ensures

pub handlers-returns-in_err-clauses : goal.handlers-returns-in_err-clauses
handlers-returns-in_err-clauses t c =
    let context = c.args.context.now in
    let e0 = c.args.self.now in
    let l = e0.locals in
    let same = ap frame_of c.in_ok-put_plain-2.ensures ∙ ap frame_of c.in_ok-put_plain.ensures ∙ ap frame_of c.in_ok-try_body.ensures in
    let body = statements.block_code l c.args.body.now in
    let clauses = map (statements.handler_code l) c.args.clauses.now in
    let e = c.put_plain-2.new.self in
    let part = λ (k : scheme.Locals). ending (statements.clauses_code (map (statements.handler_code k) c.args.clauses.now)) (open_context k context) in
    let caught = step part (frame_of e0) e (emitted e (part e.locals)) same refl in
    let written = handlers_written body clauses (open_context l context) (inside_length body (λ g. body_carries g l c.args.body.now) Try _ _ (try_settles l context) 1)
    (ending_length (statements.clauses_code clauses) (λ g. clauses_carrying g clauses (clauses_carry g l c.args.clauses.now)) l context) _ _ _ e0.code _ _ _ _ _
    (ap code_of c.in_ok-try_body.ensures) c.here-jump.ensures c.no_line-low.ensures.spot (ap code_of c.in_ok-put_plain.ensures) c.above-up.ensures.spot (ap code_of c.in_ok-put_plain-2.ensures) caught.1 in
    stop _ _ e0 _ e _ (part e.locals) _ c.from_residual-in_err-clauses.ensures.1 same (omega (arith, written_size _ _ _ _ written)) c.in_err-clauses.ensures

pub except-returns-in_err-except_body : goal.except-returns-in_err-except_body
except-returns-in_err-except_body t c =
    let context = open_context c.args.self.now.locals c.args.context.now in
    let e0 = c.args.self.now in
    let l = e0.locals in
    let same = ap frame_of c.in_ok-put_plain-2.ensures ∙ ap frame_of c.in_ok-put_plain.ensures ∙ ap frame_of c.in_ok-ending.ensures in
    let e = c.put_plain-2.new.self in
    let part = λ (k : scheme.Locals). statements.except_body (statements.block_code k c.args.body.now) c.args.end (open_context k c.args.context.now) in
    let inner = step part (frame_of e0) e (emitted e (part e.locals)) same refl in
    let written = except_written c.args.line (scheme.expression_code l c.args.class.now) (statements.block_code l c.args.body.now) c.args.end context _ _ _ e0.code _ _ _ _ _
    (c.in_clause-spot.ensures.spot ∙ ap (λ (z : Spot). statements.in_clause z) c.at_line-low.ensures.spot) (ap code_of c.in_ok-ending.ensures) c.here-branch.ensures c.above-up.ensures.spot (ap code_of c.in_ok-put_plain.ensures) (ap code_of c.in_ok-put_plain-2.ensures) inner.1 in
    stop _ _ e0 _ e _ (part e.locals) _ c.from_residual-in_err-except_body.ensures.1 same (omega (arith, written_size _ _ _ _ written)) c.in_err-except_body.ensures

pub except_as-returns-in_err-except_as_body : goal.except_as-returns-in_err-except_as_body
except_as-returns-in_err-except_as_body t c =
    let context = open_context c.args.self.now.locals c.args.context.now in
    let e0 = c.args.self.now in
    let l = e0.locals in
    let same = ap frame_of c.in_ok-put_number.ensures ∙ ap frame_of c.in_ok-put_plain.ensures ∙ ap frame_of c.in_ok-ending.ensures in
    let e = c.put_number.new.self in
    let part = λ (k : scheme.Locals). statements.except_as_body c.args.local (statements.block_code k c.args.body.now) c.args.end (open_context k c.args.context.now) in
    let inner = step part (frame_of e0) e (emitted e (part e.locals)) same refl in
    let written = except_as_written c.args.line (scheme.expression_code l c.args.class.now) c.args.local (statements.block_code l c.args.body.now) c.args.end context _ _ _ e0.code _ _ _ _ _
    (c.in_clause-spot.ensures.spot ∙ ap (λ (z : Spot). statements.in_clause z) c.at_line-low.ensures.spot) (ap code_of c.in_ok-ending.ensures) c.here-branch.ensures c.above-up.ensures.spot (ap code_of c.in_ok-put_plain.ensures) (ap code_of c.in_ok-put_number.ensures) inner.1 in
    stop _ _ e0 _ e _ (part e.locals) _ c.from_residual-in_err-except_as_body.ensures.1 same (omega (arith, written_size _ _ _ _ written)) c.in_err-except_as_body.ensures

pub except_bare-returns-in_err-except_body : goal.except_bare-returns-in_err-except_body
except_bare-returns-in_err-except_body t c =
    let context = open_context c.args.self.now.locals c.args.context.now in
    let e0 = c.args.self.now in
    let e = c.put_plain.new.self in
    let same = ap frame_of c.in_ok-put_plain.ensures in
    let part = λ (k : scheme.Locals). statements.except_body (statements.block_code k c.args.body.now) c.args.end (open_context k c.args.context.now) in
    let inner = step part (frame_of e0) e (emitted e (part e.locals)) same refl in
    stop _ _ e0 _ e _ (part e.locals) _ c.from_residual-in_err-except_body.ensures.1 same
    (bare_size (part e0.locals) _ (put (statements.in_clause (at_line c.args.line context)) Op.PopTop none) e0.code e.code (emitted e (part e.locals)).code (ap code_of c.in_ok-put_plain.ensures) inner.1)
    c.in_err-except_body.ensures

pub block-loop-statement-preserved : goal.block-loop-statement-preserved
block-loop-statement-preserved t c =
    let e = c.loop-statement.self in
    record {
      made = block_next c.args.context.now c.args.body.now _ _ e c.statement.new.self _ c.loop-statement-test.true c.statement-item.is c.in_ok-statement.ensures c.loop-statement.invariant.made;
      deep = omega (arith, c.loop-statement.invariant.deep, grown e c.statement.new.self (statements.statement_code e.locals c.statement-item.result (open_context e.locals c.args.context.now)) c.in_ok-statement.ensures);
    }

pub covered-returns : goal.covered-returns
covered-returns t c =
    let l = c.args.self.now.locals in
    let e0 = c.args.self.now in
    let context = c.args.context.now in
    let o = open_context l context in
    let a : statements.Scheme = statements.guarded (statements.block_code l c.args.body.now) (map (statements.handler_code l) c.args.clauses.now) in
    let f : statements.Scheme = statements.block_code l c.args.last.now in
    let within = open_context l (view.Finally c.args.last c.args.context) in
    let here : within ≡ entry_over f o (HandlerOf (length o)) ∷ o = opened l (view.Finally c.args.last c.args.context) (Surroundings-F.Finally c.args.last c.args.context) (sym (view.rolls-Finally c.args.last c.args.context)) in
    let part = λ (k : scheme.Locals). statements.block_code k c.args.last.now (open_context k context) in
    let made = ap code_of c.in_ok-guarded.ensures ∙ ap (λ (z : Context). e0.code ++ a z (length e0.code)) here in
    let usual = step part (frame_of e0) _ _ (ap frame_of c.in_ok-guarded.ensures) c.in_ok-block.ensures in
    whole e0 c.settle_behind.new.self _ (ap frame_of c.settle_behind.ensures ∙ usual.0)
    (ap code_of c.settle_behind.ensures ∙ covered_settled a f (λ g. guarded_carries g l c.args.body.now c.args.clauses.now) (λ g. body_carries g l c.args.last.now) _ o (finally_settles c.args.last.now l context) _ _ e0.code _ _ (ap HandlerOf c.depth.ensures) c.here-from.ensures made usual.1)

pub covered-returns-in_err-guarded : goal.covered-returns-in_err-guarded
covered-returns-in_err-guarded t c =
    let l = c.args.self.now.locals in
    let e0 = c.args.self.now in
    let context = c.args.context.now in
    let o = open_context l context in
    let a : statements.Scheme = statements.guarded (statements.block_code l c.args.body.now) (map (statements.handler_code l) c.args.clauses.now) in
    let f : statements.Scheme = statements.block_code l c.args.last.now in
    let within = open_context l (view.Finally c.args.last c.args.context) in
    let here : within ≡ entry_over f o (HandlerOf (length o)) ∷ o = opened l (view.Finally c.args.last c.args.context) (Surroundings-F.Finally c.args.last c.args.context) (sym (view.rolls-Finally c.args.last c.args.context)) in
    let c1 = e0.code ++ a within (length e0.code) in
    let usual = f o (length c1) in
    let settled = covered_settled a f (λ g. guarded_carries g l c.args.body.now c.args.clauses.now) (λ g. body_carries g l c.args.last.now) _ o (finally_settles c.args.last.now l context) _ _ e0.code c1 (c1 ++ usual) (ap HandlerOf c.depth.ensures) c.here-from.ensures (ap (λ (z : Context). e0.code ++ a z (length e0.code)) here) refl in
    stop _ _ e0 _ e0 _ (a within) _ c.from_residual.ensures.1 refl (omega (arith, changed_size _ _ _ _ settled, length-append c1 usual)) c.in_err-guarded.ensures

pub covered-returns-in_err-block : goal.covered-returns-in_err-block
covered-returns-in_err-block t c =
    let l = c.args.self.now.locals in
    let e0 = c.args.self.now in
    let context = c.args.context.now in
    let o = open_context l context in
    let a : statements.Scheme = statements.guarded (statements.block_code l c.args.body.now) (map (statements.handler_code l) c.args.clauses.now) in
    let f : statements.Scheme = statements.block_code l c.args.last.now in
    let within = open_context l (view.Finally c.args.last c.args.context) in
    let here : within ≡ entry_over f o (HandlerOf (length o)) ∷ o = opened l (view.Finally c.args.last c.args.context) (Surroundings-F.Finally c.args.last c.args.context) (sym (view.rolls-Finally c.args.last c.args.context)) in
    let part = λ (k : scheme.Locals). statements.block_code k c.args.last.now (open_context k context) in
    let e = c.guarded.new.self in
    let made = ap code_of c.in_ok-guarded.ensures ∙ ap (λ (z : Context). e0.code ++ a z (length e0.code)) here in
    let next = emitted e (part e.locals) in
    let usual = step part (frame_of e0) e next (ap frame_of c.in_ok-guarded.ensures) refl in
    let settled = covered_settled a f (λ g. guarded_carries g l c.args.body.now c.args.clauses.now) (λ g. body_carries g l c.args.last.now) _ o (finally_settles c.args.last.now l context) _ _ e0.code e.code next.code (ap HandlerOf c.depth.ensures) c.here-from.ensures made usual.1 in
    stop _ _ e0 _ e _ (part e.locals) _ c.from_residual-in_err-block.ensures.1 (ap frame_of c.in_ok-guarded.ensures) (omega (arith, changed_size _ _ _ _ settled)) c.in_err-block.ensures

pub finally-returns : goal.finally-returns
finally-returns t c =
    let l = c.args.self.now.locals in
    let e0 = c.args.self.now in
    let context = c.args.context.now in
    let o = open_context l context in
    let a : statements.Scheme = statements.guarded (statements.block_code l c.args.body.now) (map (statements.handler_code l) c.args.clauses.now) in
    let f : statements.Scheme = statements.block_code l c.args.last.now in
    let here : open_context l (view.Raised c.args.context) ≡ Raised ∷ o = opened l (view.Raised c.args.context) (Surroundings-F.Raised c.args.context) (sym (view.rolls-Raised c.args.context)) in
    let part = λ (k : scheme.Locals). statements.block_code k c.args.last.now (open_context k (view.Raised c.args.context)) in
    let same = ap frame_of c.in_ok-put_plain-2.ensures ∙ ap frame_of c.in_ok-put_plain.ensures ∙ ap frame_of c.in_ok-covered.ensures in
    let e3 = c.put_plain-2.new.self in
    let raised = step part (frame_of e0) e3 _ same c.in_ok-block.ensures in
    let made = raised.1 ∙ ap (λ (z : Context). e3.code ++ f z (length e3.code)) here in
    whole e0 c.jump_here.new.self _ (ap frame_of c.jump_here.ensures ∙ ap frame_of c.in_ok-put_plain-3.ensures ∙ raised.0)
    (ap code_of c.jump_here.ensures
    ∙ finally_written a f o (covered_length a f (λ g. guarded_carries g l c.args.body.now c.args.clauses.now) _ o (finally_settles c.args.last.now l context)) _ _ _ _ e0.code _ _ _ _ _ _ (ap code_of c.in_ok-covered.ensures) c.here-jump.ensures c.no_line-low.ensures.spot (ap code_of c.in_ok-put_plain.ensures) c.above-up.ensures.spot (ap code_of c.in_ok-put_plain-2.ensures) made c.in_clause-spot.ensures.spot (ap code_of c.in_ok-put_plain-3.ensures))

pub finally-returns-in_err-block : goal.finally-returns-in_err-block
finally-returns-in_err-block t c =
    let l = c.args.self.now.locals in
    let e0 = c.args.self.now in
    let context = c.args.context.now in
    let o = open_context l context in
    let a : statements.Scheme = statements.guarded (statements.block_code l c.args.body.now) (map (statements.handler_code l) c.args.clauses.now) in
    let f : statements.Scheme = statements.block_code l c.args.last.now in
    let here : open_context l (view.Raised c.args.context) ≡ Raised ∷ o = opened l (view.Raised c.args.context) (Surroundings-F.Raised c.args.context) (sym (view.rolls-Raised c.args.context)) in
    let part = λ (k : scheme.Locals). statements.block_code k c.args.last.now (open_context k (view.Raised c.args.context)) in
    let same = ap frame_of c.in_ok-put_plain-2.ensures ∙ ap frame_of c.in_ok-put_plain.ensures ∙ ap frame_of c.in_ok-covered.ensures in
    let e3 = c.put_plain-2.new.self in
    let next = emitted e3 (part e3.locals) in
    let raised = step part (frame_of e0) e3 next same refl in
    let made = raised.1 ∙ ap (λ (z : Context). e3.code ++ f z (length e3.code)) here in
    let end = put c.in_clause-spot.result Op.Reraise none ∷ [] in
    let written = finally_written a f o (covered_length a f (λ g. guarded_carries g l c.args.body.now c.args.clauses.now) _ o (finally_settles c.args.last.now l context)) _ _ _ _ e0.code _ _ _ next.code (next.code ++ end) _ (ap code_of c.in_ok-covered.ensures) c.here-jump.ensures c.no_line-low.ensures.spot (ap code_of c.in_ok-put_plain.ensures) c.above-up.ensures.spot (ap code_of c.in_ok-put_plain-2.ensures) made c.in_clause-spot.ensures.spot refl in
    stop _ _ e0 _ e3 _ (part e3.locals) _ c.from_residual-in_err-block.ensures.1 same (omega (arith, written_size _ _ _ _ written, length-append next.code end)) c.in_err-block.ensures

pub finally-returns-in_err-put_plain-3 : goal.finally-returns-in_err-put_plain-3
finally-returns-in_err-put_plain-3 t c =
    let l = c.args.self.now.locals in
    let e0 = c.args.self.now in
    let context = c.args.context.now in
    let o = open_context l context in
    let a : statements.Scheme = statements.guarded (statements.block_code l c.args.body.now) (map (statements.handler_code l) c.args.clauses.now) in
    let f : statements.Scheme = statements.block_code l c.args.last.now in
    let here : open_context l (view.Raised c.args.context) ≡ Raised ∷ o = opened l (view.Raised c.args.context) (Surroundings-F.Raised c.args.context) (sym (view.rolls-Raised c.args.context)) in
    let part = λ (k : scheme.Locals). statements.block_code k c.args.last.now (open_context k (view.Raised c.args.context)) in
    let same = ap frame_of c.in_ok-put_plain-2.ensures ∙ ap frame_of c.in_ok-put_plain.ensures ∙ ap frame_of c.in_ok-covered.ensures in
    let e3 = c.put_plain-2.new.self in
    let e = c.block.new.self in
    let raised = step part (frame_of e0) e3 e same c.in_ok-block.ensures in
    let made = raised.1 ∙ ap (λ (z : Context). e3.code ++ f z (length e3.code)) here in
    let end = put c.in_clause-spot.result Op.Reraise none ∷ [] in
    let written = finally_written a f o (covered_length a f (λ g. guarded_carries g l c.args.body.now c.args.clauses.now) _ o (finally_settles c.args.last.now l context)) _ _ _ _ e0.code _ _ _ e.code (e.code ++ end) _ (ap code_of c.in_ok-covered.ensures) c.here-jump.ensures c.no_line-low.ensures.spot (ap code_of c.in_ok-put_plain.ensures) c.above-up.ensures.spot (ap code_of c.in_ok-put_plain-2.ensures) made c.in_clause-spot.ensures.spot refl in
    stop_one _ _ e0 _ e _ _ _ c.from_residual-in_err-put_plain-3.ensures.1 raised.0 (omega (arith, written_size _ _ _ _ written, length-append e.code end)) c.in_err-put_plain-3.ensures

pub if_alone-returns-in_err-block : goal.if_alone-returns-in_err-block
if_alone-returns-in_err-block t c =
    let e0 = c.args.self.now in
    let l = e0.locals in
    let context = open_context l c.args.context.now in
    let same = ap frame_of c.in_ok-put_plain.ensures ∙ ap frame_of c.in_ok-expression.ensures in
    let part = λ (k : scheme.Locals). statements.block_code k c.args.body.now (open_context k c.args.context.now) in
    let e = c.put_plain.new.self in
    let inner = step part (frame_of e0) e (emitted e (part e.locals)) same refl in
    let written = if_written c.args.line (scheme.expression_code l c.args.test.now) (statements.block_code l c.args.body.now) context _ _ _ e0.code _ _ _ _
    c.at_line-spot.ensures.spot (ap code_of c.in_ok-expression.ensures) c.here-branch.ensures c.above-up.ensures.spot (ap code_of c.in_ok-put_plain.ensures) inner.1 in
    stop _ _ e0 _ e _ (part e.locals) _ c.from_residual-in_err-block.ensures.1 same (omega (arith, written_size _ _ _ _ written)) c.in_err-block.ensures

pub if_else-returns-in_err-block : goal.if_else-returns-in_err-block
if_else-returns-in_err-block t c =
    let e0 = c.args.self.now in
    let l = e0.locals in
    let context = open_context l c.args.context.now in
    let same = ap frame_of c.in_ok-put_plain.ensures ∙ ap frame_of c.in_ok-expression.ensures in
    let part = λ (k : scheme.Locals). statements.block_code k c.args.body.now (open_context k c.args.context.now) in
    let e = c.put_plain.new.self in
    let next = emitted e (part e.locals) in
    let inner = step part (frame_of e0) e next same refl in
    let c4 = next.code ++ (put c.no_line-low.result Op.JumpForward none ∷ []) in
    let c5 = slice_set c4 c.here-branch.result (put c.above-up.result Op.PopJumpIfFalse (Destination (At (length c4)))) in
    let more = statements.block_code l c.args.other.now context (length c5) in
    let written = if_else_written c.args.line (scheme.expression_code l c.args.test.now) (statements.block_code l c.args.body.now) (statements.block_code l c.args.other.now) context
    _ _ _ _ (length next.code) e0.code _ _ next.code c4 c5 (c5 ++ more) _ _
    c.at_line-spot.ensures.spot (ap code_of c.in_ok-expression.ensures) c.here-branch.ensures c.above-up.ensures.spot (ap code_of c.in_ok-put_plain.ensures) inner.1 refl c.no_line-low.ensures.spot refl refl refl in
    let longer : length next.code + 1 ≤ length (e0.code ++ statements.if_else_code c.args.line (scheme.expression_code l c.args.test.now) (statements.block_code l c.args.body.now) (statements.block_code l c.args.other.now) context (length e0.code))
    = omega (arith, written_size _ _ _ _ written, length-append c5 more, written_size c4 c5 _ _ refl, length-append next.code (put c.no_line-low.result Op.JumpForward none ∷ [])) in
    stop _ _ e0 _ e _ (part e.locals) _ c.from_residual-in_err-block.ensures.1 same (omega (arith, longer)) c.in_err-block.ensures

pub if_else-returns-in_err-put_plain-2 : goal.if_else-returns-in_err-put_plain-2
if_else-returns-in_err-put_plain-2 t c =
    let e0 = c.args.self.now in
    let l = e0.locals in
    let context = open_context l c.args.context.now in
    let same = ap frame_of c.in_ok-put_plain.ensures ∙ ap frame_of c.in_ok-expression.ensures in
    let part = λ (k : scheme.Locals). statements.block_code k c.args.body.now (open_context k c.args.context.now) in
    let e = c.block.new.self in
    let inner = step part (frame_of e0) _ e same c.in_ok-block.ensures in
    let c4 = e.code ++ (put c.no_line-low.result Op.JumpForward none ∷ []) in
    let c5 = slice_set c4 c.here-branch.result (put c.above-up.result Op.PopJumpIfFalse (Destination (At (length c4)))) in
    let more = statements.block_code l c.args.other.now context (length c5) in
    let written = if_else_written c.args.line (scheme.expression_code l c.args.test.now) (statements.block_code l c.args.body.now) (statements.block_code l c.args.other.now) context
    _ _ _ _ (length e.code) e0.code _ _ e.code c4 c5 (c5 ++ more) _ _
    c.at_line-spot.ensures.spot (ap code_of c.in_ok-expression.ensures) c.here-branch.ensures c.above-up.ensures.spot (ap code_of c.in_ok-put_plain.ensures) inner.1 refl c.no_line-low.ensures.spot refl refl refl in
    let longer : length e.code + 1 ≤ length (e0.code ++ statements.if_else_code c.args.line (scheme.expression_code l c.args.test.now) (statements.block_code l c.args.body.now) (statements.block_code l c.args.other.now) context (length e0.code))
    = omega (arith, written_size _ _ _ _ written, length-append c5 more, written_size c4 c5 _ _ refl, length-append e.code (put c.no_line-low.result Op.JumpForward none ∷ [])) in
    stop_one _ _ e0 _ e _ _ _ c.from_residual-in_err-put_plain-2.ensures.1 inner.0 longer c.in_err-put_plain-2.ensures

pub leave_all-returns-in-While : goal.leave_all-returns-in-While
leave_all-returns-in-While t c =
    let e0 = c.args.self.now in
    let l = e0.locals in
    let o = open_context l c.in-While.outer.now in
    left_then statements.leave_all c.leave_all.result e0 e0 _ c.args.context.now c.in-While.outer.now (While c.in-While.field-0 (EndOf (length o))) [] (opened l c.args.context.now (Surroundings-F.While c.in-While.field-0 c.in-While.outer) (c.in-While.is ∙ sym (view.rolls-While c.in-While.field-0 c.in-While.outer))) refl refl (sym (append-nil e0.code)) c.leave_all.ensures

pub leave_all-returns-in_ok-drop_under-in-For : goal.leave_all-returns-in_ok-drop_under-in-For
leave_all-returns-in_ok-drop_under-in-For t c =
    let e0 = c.args.self.now in
    let l = e0.locals in
    let o = open_context l c.in-For.outer.now in
    left_then statements.leave_all c.leave_all-in-For.result e0 c.drop_under.new.self _ c.args.context.now c.in-For.outer.now (For c.in-For.field-0 (EndOf (length o))) (left_by_return (For c.in-For.field-0 (EndOf (length o))) o (length e0.code)) (opened l c.args.context.now (Surroundings-F.For c.in-For.field-0 c.in-For.outer) (c.in-For.is ∙ sym (view.rolls-For c.in-For.field-0 c.in-For.outer))) refl (ap frame_of c.in_ok-drop_under-in-For.ensures) (ap code_of c.in_ok-drop_under-in-For.ensures) c.leave_all-in-For.ensures

pub leave_all-returns-in-Try : goal.leave_all-returns-in-Try
leave_all-returns-in-Try t c =
    let e0 = c.args.self.now in
    let l = e0.locals in
    let o = open_context l c.in-Try.outer.now in
    left_then statements.leave_all c.leave_all-in-Try.result e0 e0 _ c.args.context.now c.in-Try.outer.now (Try (HandlerOf (length o))) [] (opened l c.args.context.now (Surroundings-F.Try c.in-Try.outer) (c.in-Try.is ∙ sym (view.rolls-Try c.in-Try.outer))) refl refl (sym (append-nil e0.code)) c.leave_all-in-Try.ensures

pub leave_all-returns-in_ok-finish_clause-in-Except : goal.leave_all-returns-in_ok-finish_clause-in-Except
leave_all-returns-in_ok-finish_clause-in-Except t c =
    let e0 = c.args.self.now in
    let l = e0.locals in
    let o = open_context l c.in-Except.outer.now in
    left_then statements.leave_all c.leave_all-in-Except.result e0 c.finish_clause.new.self _ c.args.context.now c.in-Except.outer.now Except (left_by_return Except o (length e0.code)) (opened l c.args.context.now (Surroundings-F.Except c.in-Except.outer) (c.in-Except.is ∙ sym (view.rolls-Except c.in-Except.outer))) refl (ap frame_of c.in_ok-finish_clause-in-Except.ensures) (ap code_of c.in_ok-finish_clause-in-Except.ensures) c.leave_all-in-Except.ensures

pub leave_all-returns-in_ok-finish_clause-in-ExceptAs : goal.leave_all-returns-in_ok-finish_clause-in-ExceptAs
leave_all-returns-in_ok-finish_clause-in-ExceptAs t c =
    let e0 = c.args.self.now in
    let l = e0.locals in
    let o = open_context l c.in-ExceptAs.outer.now in
    left_then statements.leave_all c.leave_all-in-ExceptAs.result e0 c.finish_clause-in-ExceptAs.new.self _ c.args.context.now c.in-ExceptAs.outer.now (ExceptAs c.in-ExceptAs.local (HandlerOf (length o))) (left_by_return (ExceptAs c.in-ExceptAs.local (HandlerOf (length o))) o (length e0.code)) (opened l c.args.context.now (Surroundings-F.ExceptAs c.in-ExceptAs.local c.in-ExceptAs.outer) (c.in-ExceptAs.is ∙ sym (view.rolls-ExceptAs c.in-ExceptAs.local c.in-ExceptAs.outer))) refl (ap frame_of c.in_ok-finish_clause-in-ExceptAs.ensures) (ap code_of c.in_ok-finish_clause-in-ExceptAs.ensures) c.leave_all-in-ExceptAs.ensures

pub leave_all-returns-in_ok-block-in-Finally : goal.leave_all-returns-in_ok-block-in-Finally
leave_all-returns-in_ok-block-in-Finally t c =
    let e0 = c.args.self.now in
    let l = e0.locals in
    let o = open_context l c.in-Finally.outer.now in
    left_then statements.leave_all c.leave_all-in-Finally.result e0 c.block.new.self _ c.args.context.now c.in-Finally.outer.now (entry_over (statements.block_code l c.in-Finally.last.now) o (HandlerOf (length o))) (left_by_return (entry_over (statements.block_code l c.in-Finally.last.now) o (HandlerOf (length o))) o (length e0.code)) (opened l c.args.context.now (Surroundings-F.Finally c.in-Finally.last c.in-Finally.outer) (c.in-Finally.is ∙ sym (view.rolls-Finally c.in-Finally.last c.in-Finally.outer))) refl (ap frame_of c.in_ok-block-in-Finally.ensures) (ap code_of c.in_ok-block-in-Finally.ensures ∙ ap (λ (z : Context). e0.code ++ statements.block_code l c.in-Finally.last.now z (length e0.code)) (opened l (view.Returning c.in-Finally.outer) (Surroundings-F.Returning c.in-Finally.outer) (sym (view.rolls-Returning c.in-Finally.outer)))) c.leave_all-in-Finally.ensures

pub leave_all-returns-in_ok-finish_raised-in-Raised : goal.leave_all-returns-in_ok-finish_raised-in-Raised
leave_all-returns-in_ok-finish_raised-in-Raised t c =
    let e0 = c.args.self.now in
    let l = e0.locals in
    let o = open_context l c.in-Raised.outer.now in
    left_then statements.leave_all c.leave_all-in-Raised.result e0 c.finish_raised.new.self _ c.args.context.now c.in-Raised.outer.now Raised (left_by_return Raised o (length e0.code)) (opened l c.args.context.now (Surroundings-F.Raised c.in-Raised.outer) (c.in-Raised.is ∙ sym (view.rolls-Raised c.in-Raised.outer))) refl (ap frame_of c.in_ok-finish_raised-in-Raised.ensures) (ap code_of c.in_ok-finish_raised-in-Raised.ensures) c.leave_all-in-Raised.ensures

pub leave_all-returns-in_ok-drop_under-in-Returning : goal.leave_all-returns-in_ok-drop_under-in-Returning
leave_all-returns-in_ok-drop_under-in-Returning t c =
    let e0 = c.args.self.now in
    let l = e0.locals in
    let o = open_context l c.in-Returning.outer.now in
    left_then statements.leave_all c.leave_all-in-Returning.result e0 c.drop_under-in-Returning.new.self _ c.args.context.now c.in-Returning.outer.now Returning (left_by_return Returning o (length e0.code)) (opened l c.args.context.now (Surroundings-F.Returning c.in-Returning.outer) (c.in-Returning.is ∙ sym (view.rolls-Returning c.in-Returning.outer))) refl (ap frame_of c.in_ok-drop_under-in-Returning.ensures) (ap code_of c.in_ok-drop_under-in-Returning.ensures) c.leave_all-in-Returning.ensures

pub leave_loop-returns-in-Try : goal.leave_loop-returns-in-Try
leave_loop-returns-in-Try t c =
    let e0 = c.args.self.now in
    let l = e0.locals in
    let o = open_context l c.in-Try.outer.now in
    left_then (statements.leave_loop c.args.line) c.leave_loop.result e0 e0 _ c.args.context.now c.in-Try.outer.now (Try (HandlerOf (length o))) [] (opened l c.args.context.now (Surroundings-F.Try c.in-Try.outer) (c.in-Try.is ∙ sym (view.rolls-Try c.in-Try.outer))) refl refl (sym (append-nil e0.code)) c.leave_loop.ensures

pub leave_loop-returns-in_ok-leave_clause-in-Except : goal.leave_loop-returns-in_ok-leave_clause-in-Except
leave_loop-returns-in_ok-leave_clause-in-Except t c =
    let e0 = c.args.self.now in
    let l = e0.locals in
    let o = open_context l c.in-Except.outer.now in
    left_then (statements.leave_loop c.args.line) c.leave_loop-in-Except.result e0 c.leave_clause.new.self _ c.args.context.now c.in-Except.outer.now Except (left_by_break Except o (length e0.code)) (opened l c.args.context.now (Surroundings-F.Except c.in-Except.outer) (c.in-Except.is ∙ sym (view.rolls-Except c.in-Except.outer))) refl (ap frame_of c.in_ok-leave_clause-in-Except.ensures) (ap code_of c.in_ok-leave_clause-in-Except.ensures) c.leave_loop-in-Except.ensures

pub leave_loop-returns-in_ok-leave_clause-in-ExceptAs : goal.leave_loop-returns-in_ok-leave_clause-in-ExceptAs
leave_loop-returns-in_ok-leave_clause-in-ExceptAs t c =
    let e0 = c.args.self.now in
    let l = e0.locals in
    let o = open_context l c.in-ExceptAs.outer.now in
    left_then (statements.leave_loop c.args.line) c.leave_loop-in-ExceptAs.result e0 c.leave_clause-in-ExceptAs.new.self _ c.args.context.now c.in-ExceptAs.outer.now (ExceptAs c.in-ExceptAs.local (HandlerOf (length o))) (left_by_break (ExceptAs c.in-ExceptAs.local (HandlerOf (length o))) o (length e0.code)) (opened l c.args.context.now (Surroundings-F.ExceptAs c.in-ExceptAs.local c.in-ExceptAs.outer) (c.in-ExceptAs.is ∙ sym (view.rolls-ExceptAs c.in-ExceptAs.local c.in-ExceptAs.outer))) refl (ap frame_of c.in_ok-leave_clause-in-ExceptAs.ensures) (ap code_of c.in_ok-leave_clause-in-ExceptAs.ensures) c.leave_loop-in-ExceptAs.ensures

pub leave_loop-returns-in_ok-block-in-Finally : goal.leave_loop-returns-in_ok-block-in-Finally
leave_loop-returns-in_ok-block-in-Finally t c =
    let e0 = c.args.self.now in
    let l = e0.locals in
    let o = open_context l c.in-Finally.outer.now in
    left_then (statements.leave_loop c.args.line) c.leave_loop-in-Finally.result e0 c.block.new.self _ c.args.context.now c.in-Finally.outer.now (entry_over (statements.block_code l c.in-Finally.last.now) o (HandlerOf (length o))) (left_by_break (entry_over (statements.block_code l c.in-Finally.last.now) o (HandlerOf (length o))) o (length e0.code)) (opened l c.args.context.now (Surroundings-F.Finally c.in-Finally.last c.in-Finally.outer) (c.in-Finally.is ∙ sym (view.rolls-Finally c.in-Finally.last c.in-Finally.outer))) refl (ap frame_of c.in_ok-block-in-Finally.ensures) (ap code_of c.in_ok-block-in-Finally.ensures) c.leave_loop-in-Finally.ensures

pub leave_loop-returns-in_ok-leave_raised-in-Raised : goal.leave_loop-returns-in_ok-leave_raised-in-Raised
leave_loop-returns-in_ok-leave_raised-in-Raised t c =
    let e0 = c.args.self.now in
    let l = e0.locals in
    let o = open_context l c.in-Raised.outer.now in
    left_then (statements.leave_loop c.args.line) c.leave_loop-in-Raised.result e0 c.leave_raised.new.self _ c.args.context.now c.in-Raised.outer.now Raised (left_by_break Raised o (length e0.code)) (opened l c.args.context.now (Surroundings-F.Raised c.in-Raised.outer) (c.in-Raised.is ∙ sym (view.rolls-Raised c.in-Raised.outer))) refl (ap frame_of c.in_ok-leave_raised-in-Raised.ensures) (ap code_of c.in_ok-leave_raised-in-Raised.ensures) c.leave_loop-in-Raised.ensures

pub leave_loop-returns-in_ok-drop_value-in-Returning : goal.leave_loop-returns-in_ok-drop_value-in-Returning
leave_loop-returns-in_ok-drop_value-in-Returning t c =
    let e0 = c.args.self.now in
    let l = e0.locals in
    let o = open_context l c.in-Returning.outer.now in
    left_then (statements.leave_loop c.args.line) c.leave_loop-in-Returning.result e0 c.drop_value-in-Returning.new.self _ c.args.context.now c.in-Returning.outer.now Returning (left_by_break Returning o (length e0.code)) (opened l c.args.context.now (Surroundings-F.Returning c.in-Returning.outer) (c.in-Returning.is ∙ sym (view.rolls-Returning c.in-Returning.outer))) refl (ap frame_of c.in_ok-drop_value-in-Returning.ensures) (ap code_of c.in_ok-drop_value-in-Returning.ensures) c.leave_loop-in-Returning.ensures

pub next_turn-returns-in-Try : goal.next_turn-returns-in-Try
next_turn-returns-in-Try t c =
    let e0 = c.args.self.now in
    let l = e0.locals in
    let o = open_context l c.in-Try.outer.now in
    left_then (statements.next_turn c.args.line) c.next_turn.result e0 e0 _ c.args.context.now c.in-Try.outer.now (Try (HandlerOf (length o))) [] (opened l c.args.context.now (Surroundings-F.Try c.in-Try.outer) (c.in-Try.is ∙ sym (view.rolls-Try c.in-Try.outer))) refl refl (sym (append-nil e0.code)) c.next_turn.ensures

pub next_turn-returns-in_ok-leave_clause-in-Except : goal.next_turn-returns-in_ok-leave_clause-in-Except
next_turn-returns-in_ok-leave_clause-in-Except t c =
    let e0 = c.args.self.now in
    let l = e0.locals in
    let o = open_context l c.in-Except.outer.now in
    left_then (statements.next_turn c.args.line) c.next_turn-in-Except.result e0 c.leave_clause.new.self _ c.args.context.now c.in-Except.outer.now Except (left_by_break Except o (length e0.code)) (opened l c.args.context.now (Surroundings-F.Except c.in-Except.outer) (c.in-Except.is ∙ sym (view.rolls-Except c.in-Except.outer))) refl (ap frame_of c.in_ok-leave_clause-in-Except.ensures) (ap code_of c.in_ok-leave_clause-in-Except.ensures) c.next_turn-in-Except.ensures

pub next_turn-returns-in_ok-leave_clause-in-ExceptAs : goal.next_turn-returns-in_ok-leave_clause-in-ExceptAs
next_turn-returns-in_ok-leave_clause-in-ExceptAs t c =
    let e0 = c.args.self.now in
    let l = e0.locals in
    let o = open_context l c.in-ExceptAs.outer.now in
    left_then (statements.next_turn c.args.line) c.next_turn-in-ExceptAs.result e0 c.leave_clause-in-ExceptAs.new.self _ c.args.context.now c.in-ExceptAs.outer.now (ExceptAs c.in-ExceptAs.local (HandlerOf (length o))) (left_by_break (ExceptAs c.in-ExceptAs.local (HandlerOf (length o))) o (length e0.code)) (opened l c.args.context.now (Surroundings-F.ExceptAs c.in-ExceptAs.local c.in-ExceptAs.outer) (c.in-ExceptAs.is ∙ sym (view.rolls-ExceptAs c.in-ExceptAs.local c.in-ExceptAs.outer))) refl (ap frame_of c.in_ok-leave_clause-in-ExceptAs.ensures) (ap code_of c.in_ok-leave_clause-in-ExceptAs.ensures) c.next_turn-in-ExceptAs.ensures

pub next_turn-returns-in_ok-block-in-Finally : goal.next_turn-returns-in_ok-block-in-Finally
next_turn-returns-in_ok-block-in-Finally t c =
    let e0 = c.args.self.now in
    let l = e0.locals in
    let o = open_context l c.in-Finally.outer.now in
    left_then (statements.next_turn c.args.line) c.next_turn-in-Finally.result e0 c.block.new.self _ c.args.context.now c.in-Finally.outer.now (entry_over (statements.block_code l c.in-Finally.last.now) o (HandlerOf (length o))) (left_by_break (entry_over (statements.block_code l c.in-Finally.last.now) o (HandlerOf (length o))) o (length e0.code)) (opened l c.args.context.now (Surroundings-F.Finally c.in-Finally.last c.in-Finally.outer) (c.in-Finally.is ∙ sym (view.rolls-Finally c.in-Finally.last c.in-Finally.outer))) refl (ap frame_of c.in_ok-block-in-Finally.ensures) (ap code_of c.in_ok-block-in-Finally.ensures) c.next_turn-in-Finally.ensures

pub next_turn-returns-in_ok-leave_raised-in-Raised : goal.next_turn-returns-in_ok-leave_raised-in-Raised
next_turn-returns-in_ok-leave_raised-in-Raised t c =
    let e0 = c.args.self.now in
    let l = e0.locals in
    let o = open_context l c.in-Raised.outer.now in
    left_then (statements.next_turn c.args.line) c.next_turn-in-Raised.result e0 c.leave_raised.new.self _ c.args.context.now c.in-Raised.outer.now Raised (left_by_break Raised o (length e0.code)) (opened l c.args.context.now (Surroundings-F.Raised c.in-Raised.outer) (c.in-Raised.is ∙ sym (view.rolls-Raised c.in-Raised.outer))) refl (ap frame_of c.in_ok-leave_raised-in-Raised.ensures) (ap code_of c.in_ok-leave_raised-in-Raised.ensures) c.next_turn-in-Raised.ensures

pub next_turn-returns-in_ok-drop_value-in-Returning : goal.next_turn-returns-in_ok-drop_value-in-Returning
next_turn-returns-in_ok-drop_value-in-Returning t c =
    let e0 = c.args.self.now in
    let l = e0.locals in
    let o = open_context l c.in-Returning.outer.now in
    left_then (statements.next_turn c.args.line) c.next_turn-in-Returning.result e0 c.drop_value.new.self _ c.args.context.now c.in-Returning.outer.now Returning (left_by_break Returning o (length e0.code)) (opened l c.args.context.now (Surroundings-F.Returning c.in-Returning.outer) (c.in-Returning.is ∙ sym (view.rolls-Returning c.in-Returning.outer))) refl (ap frame_of c.in_ok-drop_value-in-Returning.ensures) (ap code_of c.in_ok-drop_value-in-Returning.ensures) c.next_turn-in-Returning.ensures

pub leave_loop-returns-in_ok-drop_value-in-For : goal.leave_loop-returns-in_ok-drop_value-in-For
leave_loop-returns-in_ok-drop_value-in-For t c =
    let e0 = c.args.self.now in
    let l = e0.locals in
    let o = open_context l c.in-For.outer.now in
    part_then (λ k. one (put (at_line c.args.line (open_context k c.in-For.outer.now)) Op.JumpForward (Destination (EndOf (length (open_context k c.in-For.outer.now)))))) (statements.leave_loop c.args.line (open_context l c.args.context.now)) c.jump_to_end-in-For.result e0 c.drop_value.new.self _ (put (above 1 (no_line o)) Op.PopTop none ∷ [])
    (ap (λ (z : Context). statements.leave_loop c.args.line z (length e0.code)) (opened l c.args.context.now (Surroundings-F.For c.in-For.field-0 c.in-For.outer) (c.in-For.is ∙ sym (view.rolls-For c.in-For.field-0 c.in-For.outer)))) (ap frame_of c.in_ok-drop_value-in-For.ensures) (ap code_of c.in_ok-drop_value-in-For.ensures) c.jump_to_end-in-For.ensures

pub simple-returns-in_ok-returned-in-Return : goal.simple-returns-in_ok-returned-in-Return
simple-returns-in_ok-returned-in-Return t c =
    return_then c.args.line c.in-Return.value c.args.simple.now c.at_line-spot.result c.leave_function.result c.args.self.now c.returned.new.self _ c.args.context.now c.in-Return.is c.at_line-spot.ensures.spot c.in_ok-returned-in-Return.ensures c.leave_function.ensures

pub simple-returns-in_ok-expression-in-Assign : goal.simple-returns-in_ok-expression-in-Assign
simple-returns-in_ok-expression-in-Assign t c =
    assign_then c.args.line c.in-Assign.targets c.in-Assign.value c.args.simple.now c.at_line-spot.result c.store.result c.args.self.now c.expression.new.self _ c.args.context.now c.in-Assign.is c.at_line-spot.ensures.spot c.in_ok-expression-in-Assign.ensures c.store.ensures

pub try_statement-returns-then-is_empty : goal.try_statement-returns-then-is_empty
try_statement-returns-then-is_empty t c =
    try_then c.args.line c.at_line-spot.result c.handlers.result c.args.self.now c.put_plain.new.self _ c.args.context.now c.args.body.now c.args.clauses.now c.args.last.now c.if-is_empty.ensures c.at_line-spot.ensures.spot c.in_ok-put_plain.ensures c.handlers.ensures

pub try_statement-returns-else-is_empty : goal.try_statement-returns-else-is_empty
try_statement-returns-else-is_empty t c =
    finally_then c.args.line c.at_line-spot.result c.finally.result c.args.self.now c.put_plain.new.self _ c.args.context.now c.args.body.now c.args.clauses.now c.args.last.now c.if-is_empty.ensures c.at_line-spot.ensures.spot c.in_ok-put_plain.ensures c.finally.ensures
