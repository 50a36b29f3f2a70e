use Rattle.std.proofs.Common.{◌≡◌, ◌∙◌, ◌<◌, ℕ, List, [], ◌∷◌, ◌++◌, length, ap, arith, sym, subst}
use Rattle.std.specs.Prelude.{Some, Result, Ok, slice_get, slice_set}
use Rattle.std.proofs.lemmas.Option.{slice_get-get_or}
use Rattle.std.proofs.lemmas.Bool.Decides.{nat_tests}
use Rattle.mon_frames.specs.declared.call.Call.{Call}
use Rattle.mon_frames.specs.declared.generator.Generator.{Generator}
use Rattle.mon_frames.specs.declared.generator.Generator.TheVariants.{Running}
use Rattle.mon_frames.specs.declared.call.Origin.TheVariants.{Generator as Generated}
use Rattle.mon_frames.specs.declared.fault.ResumeFault.{ResumeFault}
use Rattle.mon_frames.specs.Views.{FramesView}
use Rattle.mon_frames.specs.Generators.{entered, waiting_frame}
use Rattle.mon_frames.specs.Answers.{AnswersResume}
use Rattle.mon_frames.proofs.Resuming.{seen, entered_runs}
use Rattle.mon_frames.proofs.stack.Frames.throw_into.Goals as goal

pub returns : goal.returns
returns c =
    let xs : List Call = c.self.inside.calls.items in
    let gens : List Generator = c.self.inside.generators.items in
    let its = c.self.inside.iterators.items in
    let number : ℕ = c.args.generator in
    let v_is : seen xs gens its ≡ c.args.self.now = c.self.view_is in
    let within : number < length gens = omega (arith, c.requires, ap (λ (p : FramesView). length p.generators) v_is) in
    let g : Generator = c.index_mut.result.now in
    let frame = c.in-Some.frame in
    let call : Call = record { frame = frame; origin = Generated number c.args.by } in
    let found : slice_get gens number ≡ Some g = slice_get-get_or gens number g within ∙ ap Some (sym c.index_mut.ensures.value) in
    let waits : waiting_frame g ≡ Some frame = sym c.in-Some.ensures.frame in
    let few : length xs < 1000 = grind (arith, nat_tests, c.if-not-has_room.false, c.has_room.ensures, c.as_slice.ensures) in
    let calls_are : c.push_reserved.new.self.items ≡ xs ++ call ∷ [] = c.push_reserved.ensures.items ∙ ap (λ (l : List Call). l ++ call ∷ []) c.reserve.ensures.items in
    let new_is : seen c.push_reserved.new.self.items (slice_set gens number c.take_frame.new.generator) its ≡ seen (xs ++ call ∷ []) (slice_set gens number Running) its
    = ap (λ (l : List Call). seen l (slice_set gens number c.take_frame.new.generator) its) calls_are ∙ ap (λ (h : Generator). seen (xs ++ call ∷ []) (slice_set gens number h) its) c.take_frame.ensures.runs in
    subst (λ (w : FramesView). AnswersResume {T = Unit {0}} (Ok tt) (entered w number c.args.by) w (seen c.push_reserved.new.self.items (slice_set gens number c.take_frame.new.generator) its)) v_is
    (subst (λ (r : Result FramesView ResumeFault). AnswersResume {T = Unit {0}} (Ok tt) r (seen xs gens its) (seen c.push_reserved.new.self.items (slice_set gens number c.take_frame.new.generator) its))
    (sym (entered_runs xs gens its number c.args.by g frame found waits few)) new_is)
