-- An instruction, with the line that its frame notes first.
use Rattle.std.proofs.Common.{◌≡◌, ℕ, List, [], ◌∷◌, refl, sym, ap, ◌∙◌, subst}
use Rattle.std.specs.Prelude.{Option, Some}
use Rattle.mon_events.specs.declared.op.Op.{Op}
use Rattle.mon_code.specs.declared.program.Code.{Code}
use Rattle.mon_code.specs.declared.program.Location.{Location}
use Rattle.mon_code.specs.Programs.{Parts}
use Rattle.mon_frames.specs.declared.frame.Frame.{Frame}
use Rattle.mon_frames.specs.declared.call.Call.{Call}
use Rattle.mon_frames.specs.Views.{FramesView, top_of, with_top}
use Rattle.mon_machine.specs.State.{Move, FrameMove, moved, with_frame}
use Rattle.mon_machine.specs.Operations.{operation}
use Rattle.mon_machine.specs.Moves.{effect, operated}
use Rattle.mon_machine.specs.Step.{with_line}
use Rattle.mon_machine.specs.declared.mode.Ending.TheVariants.{Continues}
use Rattle.mon_interp.specs.Moving.{Stands, frame_move}
use Rattle.mon_interp.proofs.Standing.{top_with, stands_with, stands_within}

-- there is an innermost frame
pub innermost : (calls : List Call) → Stands calls → (f : Frame) × (top_of calls ≡ Some f)
innermost [] h = absurd h
innermost (call ∷ calls) h = (call.frame, refl)

pub noted_stands : (v w : FramesView) (line : Option ℕ) → ((f : Frame) → top_of v.calls ≡ Some f → w ≡ with_frame v (with_line line f)) → Stands v.calls → Stands w.calls
noted_stands v w line noted h =
    let i = innermost v.calls h in
    subst (λ (z : FramesView). Stands z.calls) (sym (noted i.0 i.1)) (stands_with v.calls i.0 (with_line line i.0) i.1 (stands_within v.calls i.0 h i.1))

with_again : (calls : List Call) (f g : Frame) → with_top (with_top calls f) g ≡ with_top calls g
with_again [] f g = refl
with_again (call ∷ calls) f g = refl

-- an instruction that was done in its own frame
pub in_top_alone : (p : Parts) (c : Code) (op : Op) (n : ℕ) (f g : Frame) (v w : FramesView) → operation p c op n f ≡ frame_move g (Some Continues) → w ≡ with_frame v g → effect p c op n f (with_frame v f) ≡ moved w Continues
in_top_alone p c op n f g v w is made =
    ap (λ (o : Option FrameMove). operated p op n f (with_frame v f) o) is
    ∙ ap (λ (l : List Call). moved (record v { calls = l }) Continues) (with_again v.calls f g)
    ∙ ap (λ (z : FramesView). moved z Continues) (sym made)

pub noted_effect : (p : Parts) (c : Code) (op : Op) (l : Location) (f : Frame) (v noted : FramesView) (m : Move) → top_of v.calls ≡ Some f → noted ≡ with_frame v (with_line l.line f)
    → ((g : Frame) → top_of noted.calls ≡ Some g → effect p c op l.argument g noted ≡ m) → effect p c op l.argument (with_line l.line f) (with_frame v (with_line l.line f)) ≡ m
noted_effect p c op l f v noted m top notes made =
    ap (λ (z : FramesView). effect p c op l.argument (with_line l.line f) z) (sym notes)
    ∙ made (with_line l.line f) (ap (λ (z : FramesView). top_of z.calls) notes ∙ top_with v.calls f (with_line l.line f) top)
