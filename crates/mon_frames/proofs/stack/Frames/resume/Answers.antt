use Rattle.std.proofs.Common.{◌≡◌, ◌∙◌, ◌<◌, List, [], ◌∷◌, ◌++◌, get_or, length, ap, arith, refl, sym, subst}
use Rattle.std.proofs.lemmas.Bool.Decides.{nat_tests}
use Rattle.mon_values.specs.declared.value.Value.{Value}
use Rattle.mon_frames.specs.declared.call.Call.{Call}
use Rattle.mon_frames.specs.declared.generator.Generator.{Generator}
use Rattle.mon_frames.specs.declared.call.Origin.TheVariants.{Generator as Generated}
use Rattle.mon_frames.specs.declared.stack.Frames.TheInside.{Inside}
use Rattle.mon_frames.specs.Views.{FramesView}
use Rattle.mon_frames.proofs.Resuming.{seen, Takes, resumed_done}
use Rattle.mon_frames.proofs.stack.Frames.resume.Goals as goal
use Rattle.mon_frames.proofs.stack.Frames.resume.Goals.{in-NotStarted+else-not-is_none, in-Suspended}

pub returns : goal.returns
returns c =
    let m : Inside = c.match-index.self-inside in
    let x : Value = c.args.sent in
    let g : Generator = c.index.result.now in
    let frame = c.in-Some.frame in
    let call : Call = record { frame = frame; origin = Generated c.args.generator c.args.by } in
    let ys_is : c.push_reserved.new.self.items ≡ m.calls.items ++ call ∷ [] = c.push_reserved.ensures.items ∙ ap (λ (l : List Call). l ++ call ∷ []) c.reserve.ensures.items in
    let few : length m.calls.items < 1000 = grind (arith, nat_tests, c.if-not-has_room.false, c.has_room.ensures, c.as_slice.ensures) in
    let done = λ (is : m ≡ c.self.inside) (takes : Takes x g).
    let v_is : seen m.calls.items m.generators.items m.iterators.items ≡ c.args.self.now = ap (λ (i : Inside). seen i.calls.items i.generators.items i.iterators.items) is ∙ c.self.view_is in
    let within : c.args.generator < length m.generators.items = omega (arith, c.requires, ap (λ (p : FramesView). length p.generators) v_is) in
    let g_is : g ≡ get_or m.generators.items c.args.generator g = c.index.ensures ∙ ap (λ (i : Inside). get_or i.generators.items c.args.generator g) (sym is) in
    resumed_done c.args.self.now m.calls.items c.push_reserved.new.self.items m.generators.items m.iterators.items c.args.generator x c.args.sent c.args.by
    g c.index_mut.result.now c.send.new.generator c.index_mut-2.result.now c.take_frame.new.generator frame
    v_is within few g_is takes c.index_mut.ensures.value refl c.in_ok-send.ensures.ok c.index_mut-2.ensures.value (sym c.in-Some.ensures.frame) ys_is c.take_frame.ensures.runs in
    elim c.match-index.branch [
      | in-NotStarted+else-not-is_none w ↦ done w.self-inside-is (subst (λ (y : Generator). Takes x y) (sym w.in-NotStarted.is) (sym w.if-not-is_none.ensures))
      | in-Suspended w ↦ done w.self-inside-is (subst (λ (y : Generator). Takes x y) (sym w.in-Suspended.is) tt)
    ]
