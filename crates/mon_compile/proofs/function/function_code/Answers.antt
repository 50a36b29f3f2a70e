use Rattle.std.proofs.Common.{◌≡◌, ◌≤◌, ◌∙◌, ◌++◌, ℕ, Bool, List, [], length, ap, sym, subst, refl, arith, append_assoc, length-append}
use Rattle.std.specs.Prelude.{Result, Ok, Err, Vec}
use Rattle.std.specs.Result.{IsErrAnd}
use Rattle.std.specs.declared.alloc.Global.{Global}
use Rattle.mon_trees.specs.declared.tree.Function.{Function}
use Rattle.mon_trees.specs.declared.tree.Statement.{Statement}
use Rattle.mon_compile.specs.declared.assembly.Instruction.{Instruction}
use Rattle.mon_compile.specs.declared.emitter.EmitFault.{EmitFault}
use Rattle.mon_compile.specs.declared.emitter.EmitFault.TheVariants.{TooManyLocations, Memory}
use Rattle.mon_compile.specs.declared.surroundings.Surroundings as surroundings
use Rattle.mon_compile.specs.declared.surroundings.Surroundings.TheOpen.{Surroundings-F}
use Rattle.mon_compile.specs.declared.surroundings.Surroundings.TheFolds.{fold-roll-Surroundings}
use Rattle.mon_compile.specs.declared.surroundings.Surroundings.TheViews as views
use Rattle.mon_compile.specs.Answered.{AnswersCode}
use Rattle.mon_compile.specs.Contexts.{Context, FromAt}
use Rattle.mon_compile.specs.Emission.{Emission, emitted, Emits}
use Rattle.mon_compile.specs.Open.{open_step, open_context}
use Rattle.mon_compile.specs.Expressions.{Locals}
use Rattle.mon_compile.specs.Functions as spec
use Rattle.mon_compile.specs.Statements.{block_code}
use Rattle.mon_compile.proofs.Emissions.{code_of}
use Rattle.mon_compile.proofs.function.function_code.Goals as goal

top_open : (locals : Locals) → open_context locals surroundings.Top ≡ []
top_open locals = ap (open_context locals) (sym views.rolls-Top) ∙ fold-roll-Surroundings Context (open_step locals) Surroundings-F.Top

in_parts : (locals locals' : Locals) (body body' : List Statement) (g g' : Bool) (c0 c1 c2 c3 : List Instruction) → c0 ≡ [] → c1 ≡ c0 ++ spec.start_code g' → c2 ≡ c1 ++ block_code locals' body' (open_context locals' surroundings.Top) (length c1) → c3 ≡ c2 ++ spec.end_code
    → g' ≡ g → locals' ≡ locals → body' ≡ body → c3 ≡ spec.start_code g ++ (block_code locals body [] (length (spec.start_code g)) ++ spec.end_code)
in_parts locals locals' body body' g g' c0 c1 c2 c3 e0 e1 e2 e3 same same_locals same_body =
    let start = spec.start_code g in
    let one : c1 ≡ start = e1 ∙ ap (λ l. l ++ spec.start_code g') e0 ∙ ap spec.start_code same in
    let two : c2 ≡ start ++ block_code locals body [] (length start)
    = e2
    ∙ ap (λ (c : Context). c1 ++ block_code locals' body' c (length c1)) (top_open locals')
    ∙ ap (λ (l : List Instruction). l ++ block_code locals' body' [] (length l)) one
    ∙ ap (λ (n : Locals). start ++ block_code n body' [] (length start)) same_locals
    ∙ ap (λ (b : List Statement). start ++ block_code locals b [] (length start)) same_body in
    e3 ∙ ap (λ l. l ++ spec.end_code) two ∙ append_assoc start (block_code locals body [] (length start)) spec.end_code

stopped : (fault : EmitFault) (limit : ℕ) (f : Function) (e e' : Emission) (part : FromAt) → e.limit ≡ limit → length (emitted e part).code ≤ length (spec.function_code f) → Emits (Err fault) e e' part → AnswersCode (Err fault) limit f
stopped TooManyLocations limit f e e' part same h full = omega (arith, h, full, same)
stopped Memory limit f e e' part same h full = tt

-- a part that is too long makes the function's code too long
code_stop : (r : Result (Vec Instruction Global) EmitFault) (fault : EmitFault) (limit : ℕ) (f : Function) (e e' : Emission) (part : FromAt) → IsErrAnd r (λ x. x ≡ fault) → e.limit ≡ limit → length (emitted e part).code ≤ length (spec.function_code f) → Emits (Err fault) e e' part → AnswersCode r limit f
code_stop (Ok code) fault limit f e e' part is same h full = absurd is
code_stop (Err x) fault limit f e e' part is same h full = let P : EmitFault → Type 0 = λ z. AnswersCode (Err z) limit f in subst P (sym is) (stopped fault limit f e e' part same h full)

abbrev limit_of : Emission → ℕ
limit_of e = e.limit

abbrev names_of : Emission → Locals
names_of e = e.locals

pub returns : goal.returns
returns c =
    let f = c.args.function.now in
    let same = ap names_of c.in_ok-start.ensures ∙ ap names_of c.new-emitter.ensures ∙ c.requires.locals in (
      c.into_code.ensures.code
          ∙ in_parts (spec.locals_of f) _ f.body _ (spec.is_generator f) _ _ _ _ _ (ap code_of c.new-emitter.ensures) (ap code_of c.in_ok-start.ensures) (ap code_of c.in_ok-block.ensures) (ap code_of c.in_ok-end.ensures) c.is_generator.ensures same c.as_slice.ensures,
      omega (arith, c.into_code.ensures.few, ap limit_of c.in_ok-end.ensures, ap limit_of c.in_ok-block.ensures, ap limit_of c.in_ok-start.ensures, ap limit_of c.new-emitter.ensures),
    )

pub returns-in_err-start : goal.returns-in_err-start
returns-in_err-start c =
    let f = c.args.function.now in
    let e = c.new-emitter.result in
    let g = c.is_generator.result in
    let top = open_context (spec.locals_of f) surroundings.Top in
    let c1 = e.code ++ spec.start_code g in
    let c2 = c1 ++ block_code (spec.locals_of f) f.body top (length c1) in
    let all = in_parts (spec.locals_of f) (spec.locals_of f) f.body f.body (spec.is_generator f) g e.code c1 c2 (c2 ++ spec.end_code) (ap code_of c.new-emitter.ensures) refl refl refl c.is_generator.ensures refl refl in
    code_stop _ _ c.args.limit f e _ (λ at. spec.start_code g) c.from_residual.ensures.1 (ap limit_of c.new-emitter.ensures)
    (omega (arith, ap length all, length-append c1 (block_code (spec.locals_of f) f.body top (length c1)), length-append c2 spec.end_code))
    c.in_err-start.ensures

pub returns-in_err-block : goal.returns-in_err-block
returns-in_err-block c =
    let f = c.args.function.now in
    let e = c.start.new.self in
    let body = c.as_slice.result.now in
    let part = block_code e.locals body (open_context e.locals surroundings.Top) in
    let c2 = e.code ++ part (length e.code) in
    let same = ap names_of c.in_ok-start.ensures ∙ ap names_of c.new-emitter.ensures ∙ c.requires.locals in
    let all = in_parts (spec.locals_of f) e.locals f.body body (spec.is_generator f) _ _ e.code c2 (c2 ++ spec.end_code) (ap code_of c.new-emitter.ensures) (ap code_of c.in_ok-start.ensures) refl refl c.is_generator.ensures same c.as_slice.ensures in
    code_stop _ _ c.args.limit f e _ part c.from_residual-in_err-block.ensures.1 (ap limit_of c.in_ok-start.ensures ∙ ap limit_of c.new-emitter.ensures)
    (omega (arith, ap length all, length-append c2 spec.end_code))
    c.in_err-block.ensures

pub returns-in_err-end : goal.returns-in_err-end
returns-in_err-end c =
    let f = c.args.function.now in
    let e = c.block.new.self in
    let same = ap names_of c.in_ok-start.ensures ∙ ap names_of c.new-emitter.ensures ∙ c.requires.locals in
    let all = in_parts (spec.locals_of f) _ f.body _ (spec.is_generator f) _ _ _ e.code (e.code ++ spec.end_code) (ap code_of c.new-emitter.ensures) (ap code_of c.in_ok-start.ensures) (ap code_of c.in_ok-block.ensures) refl c.is_generator.ensures same c.as_slice.ensures in
    code_stop _ _ c.args.limit f e _ (λ at. spec.end_code) c.from_residual-in_err-end.ensures.1 (ap limit_of c.in_ok-block.ensures ∙ ap limit_of c.in_ok-start.ensures ∙ ap limit_of c.new-emitter.ensures)
    (omega (arith, ap length all))
    c.in_err-end.ensures
