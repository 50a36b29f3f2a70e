-- An instruction that is none of its own frame.
use Rattle.std.proofs.Common.{◌≡◌, ℕ, List, sym, ap, ◌∙◌}
use Rattle.std.specs.Prelude.{Option, Some, None}
use Rattle.mon_events.specs.declared.op.Op.{Op}
use Rattle.mon_code.specs.declared.program.Code.{Code}
use Rattle.mon_code.specs.Programs.{Parts}
use Rattle.mon_frames.specs.declared.frame.Frame.{Frame}
use Rattle.mon_frames.specs.declared.call.Call.{Call}
use Rattle.mon_frames.specs.Views.{FramesView, top_of, with_top}
use Rattle.mon_machine.specs.State.{FrameMove, Move, with_frame}
use Rattle.mon_machine.specs.Operations.{operation}
use Rattle.mon_machine.specs.Moves.{move_of, operated, effect}
use Rattle.mon_interp.proofs.Standing.{with_same}

pub of_frames : (p : Parts) (c : Code) (op : Op) (n : ℕ) (v : FramesView) (stood left f : Frame) (made : Move) → top_of v.calls ≡ Some stood → operation p c op n stood ≡ None → left ≡ stood
    → ((g : Frame) → top_of (with_top v.calls left) ≡ Some g → move_of p op n g (with_frame v left) ≡ made) → top_of v.calls ≡ Some f → effect p c op n f v ≡ made
of_frames p c op n v stood left f made is none same moves top =
    let one : f ≡ stood = cc in
    let calls : with_top v.calls left ≡ v.calls = ap (λ (g : Frame). with_top v.calls g) same ∙ with_same v.calls stood is in
    ap (λ (o : Option FrameMove). operated p op n f v o) (ap (λ (g : Frame). operation p c op n g) one ∙ none)
    ∙ ap (λ (l : List Call). move_of p op n f (record v { calls = l })) (sym calls)
    ∙ moves f (ap (λ (l : List Call). top_of l) calls ∙ top)
