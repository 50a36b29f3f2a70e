use Rattle.std.proofs.Common.{◌≡◌, ◌∙◌, ◌<◌, ◌-◌, List, length, reverse, ap, refl, arith, sym}
use Rattle.std.proofs.lemmas.List.{length-reverse}
use Rattle.mon_values.specs.declared.value.Value.{Value}
use Rattle.mon_frames.specs.declared.frame.Frame.{Frame}
use Rattle.mon_frames.specs.declared.call.Call.{Call}
use Rattle.mon_frames.specs.declared.generator.Generator.{Generator}
use Rattle.mon_frames.specs.Views.{FramesView, with_top, top_of}
use Rattle.mon_frames.proofs.Tops.{with_top_set, top_last}
use Rattle.mon_frames.proofs.stack.Frames.top_mut.Goals as goal

pub returns : goal.returns
returns c =
    let xs : List Call = c.self.inside.calls.items in
    let calls_are : reverse xs ≡ c.args.self.now.calls = ap (λ (p : FramesView). p.calls) c.self.view_is in
    let generators_are : c.self.inside.generators.items ≡ c.args.self.now.generators = ap (λ (p : FramesView). p.generators) c.self.view_is in
    let iterators_are : c.self.inside.iterators.items ≡ c.args.self.now.iterators = ap (λ (p : FramesView). p.iterators) c.self.view_is in
    let some : 0 < length xs = omega (arith, c.requires, ap length calls_are, length-reverse xs) in
    let at : c.len-at.result - 1 ≡ length xs - 1 = omega (arith, c.len-at.ensures, c.self.inside.calls.ok.0) in
    let value = sym (ap (λ (l : List Call). top_of l) calls_are) ∙ top_last xs (c.len-at.result - 1) c.index_mut.result.now some at c.index_mut.ensures.value in (
      (
        refl,
        λ (w : Frame). ap (λ (l : List Call). record { calls = l; generators = c.self.inside.generators.items; iterators = c.self.inside.iterators.items }) (with_top_set xs (c.len-at.result - 1) c.index_mut.result.now w some at c.index_mut.ensures.value ∙ ap (λ (l : List Call). with_top l w) calls_are)
            ∙ ap (λ (l : List Generator). record { calls = with_top c.args.self.now.calls w; generators = l; iterators = c.self.inside.iterators.items }) generators_are
            ∙ ap (λ (l : List (List Value)). record { calls = with_top c.args.self.now.calls w; generators = c.args.self.now.generators; iterators = l }) iterators_are,
      ),
      record { writes_back = tt; value = value },
    )
