-- Values that are gone over, while the call stack stays.
use Rattle.std.proofs.Common.{◌≡◌, ℕ, List, sym, ap, ◌∙◌}
use Rattle.std.specs.Prelude.{Option, Some, None, Result, Ok, Err}
use Rattle.mon_values.specs.declared.value.Value.{Value}
use Rattle.mon_values.specs.declared.value.Value.TheOpen.{Value-F}
use Rattle.mon_values.specs.declared.value.Value.TheViews.{out-Value}
use Rattle.mon_values.specs.declared.value.Exc.{Exc}
use Rattle.mon_values.specs.declared.fault.Trouble.{Trouble}
use Rattle.mon_frames.specs.declared.frame.Frame.{Frame}
use Rattle.mon_frames.specs.declared.call.Call.{Call}
use Rattle.mon_frames.specs.Views.{FramesView, top_of}
use Rattle.mon_frames.specs.Items.{items_of}
use Rattle.mon_frames.specs.Iterating.{iterated, iterated_at, over, next_of}
use Rattle.mon_frames.specs.Answers.{AnswersIter}
use Rattle.mon_machine.specs.declared.mode.Ending.{Ending}
use Rattle.mon_machine.specs.State.{moved}
use Rattle.mon_machine.specs.Moves.{pushes, iterates, iterates_over, item_of, or_done}

kept_over : (v w : FramesView) (y : Value) (items : Option (List Value)) → AnswersIter (Ok y) (over v items) v w → w.calls ≡ v.calls
kept_over v w y None h = absurd h
kept_over v w y (Some items) h = ap (λ (z : FramesView). z.calls) h.1

kept_at : (v w : FramesView) (x y : Value) (c : Value-F Value Exc) → AnswersIter (Ok y) (iterated_at v x c) v w → w.calls ≡ v.calls
kept_at v w x y (Value-F.Gen number) h = ap (λ (z : FramesView). z.calls) h.1
kept_at v w x y (Value-F.Iter number) h = ap (λ (z : FramesView). z.calls) h.1
kept_at v w x y Value-F.None h = kept_over v w y (items_of x) h
kept_at v w x y (Value-F.Bool b) h = kept_over v w y (items_of x) h
kept_at v w x y (Value-F.Int n) h = kept_over v w y (items_of x) h
kept_at v w x y (Value-F.Text t) h = kept_over v w y (items_of x) h
kept_at v w x y (Value-F.Tuple t) h = kept_over v w y (items_of x) h
kept_at v w x y (Value-F.Function n) h = kept_over v w y (items_of x) h
kept_at v w x y (Value-F.Builtin n) h = kept_over v w y (items_of x) h
kept_at v w x y (Value-F.ExcClass n) h = kept_over v w y (items_of x) h
kept_at v w x y (Value-F.Exc e) h = kept_over v w y (items_of x) h
kept_at v w x y (Value-F.Range a b s) h = kept_over v w y (items_of x) h
kept_at v w x y (Value-F.Done e) h = kept_over v w y (items_of x) h

pub iterated_keeps : (v w : FramesView) (x y : Value) → AnswersIter (Ok y) (iterated v x) v w → w.calls ≡ v.calls
iterated_keeps v w x y h = kept_at v w x y (out-Value x) h

due_pushes : (v w : FramesView) (y : Value) (f : Frame) (due : Result (Value × FramesView) Trouble) → AnswersIter (Ok y) due v w → iterates v f due ≡ pushes w f y
due_pushes v w y f (Err t) h = absurd h
due_pushes v w y f (Ok due) h = ap (λ (z : Value). pushes due.1 f z) (sym h.0) ∙ ap (λ (z : FramesView). pushes z f y) (sym h.1)

-- what is gone over with is pushed
pub iterated_pushes : (v w last : FramesView) (x y : Value) (f : Frame) (ending : Ending) → AnswersIter (Ok y) (iterated v x) v w → ((g : Frame) → top_of w.calls ≡ Some g → pushes w g y ≡ moved last ending) → top_of v.calls ≡ Some f → iterates_over v f x ≡ moved last ending
iterated_pushes v w last x y f ending h made top =
    due_pushes v w y f (iterated v x) h ∙ made f (ap (λ (calls : List Call). top_of calls) (iterated_keeps v w x y h) ∙ top)

-- the next item is pushed, or the end of the loop
pub next_pushes : (v w last : FramesView) (number : ℕ) (item : Option Value) (x : Value) (f : Frame) (ending : Ending) → item ≡ (next_of v number).0 → w ≡ (next_of v number).1 → x ≡ or_done item
    → ((g : Frame) → top_of w.calls ≡ Some g → pushes w g x ≡ moved last ending) → top_of v.calls ≡ Some f → item_of f (next_of v number) ≡ moved last ending
next_pushes v w last number item x f ending first kept is made top =
    ap (λ (z : FramesView). pushes z f (or_done (next_of v number).0)) (sym kept)
    ∙ ap (λ (o : Option Value). pushes w f (or_done o)) (sym first)
    ∙ ap (λ (z : Value). pushes w f z) (sym is)
    ∙ made f (ap (λ (z : FramesView). top_of z.calls) kept ∙ top)
