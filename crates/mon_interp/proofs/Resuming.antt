-- What is due where a generator was asked to go on.
use Rattle.std.proofs.Common.{◌≡◌, sym, ap, ◌∙◌}
use Rattle.std.specs.Prelude.{Result, Ok, Err}
use Rattle.mon_frames.specs.declared.generator.Closing.{Closing}
use Rattle.mon_frames.specs.declared.fault.ResumeFault.{ResumeFault}
use Rattle.mon_frames.specs.declared.fault.ResumeFault.TheVariants as fault
use Rattle.mon_frames.specs.Answers.{AnswersResume, AnswersClose}
use Rattle.mon_frames.specs.Views.{FramesView}

-- it goes on
pub resumed_ok : (due : Result FramesView ResumeFault) (v w : FramesView) → AnswersResume {T = Unit {0}} (Ok tt) due v w → due ≡ Ok w
resumed_ok (Ok x) v w h = ap (λ (z : FramesView). let r : Result FramesView ResumeFault = Ok z in r) (sym h)
resumed_ok (Err f) v w h = absurd h

-- a fault, but for want of memory, is the due one
abbrev pub IsDue : ResumeFault → Result FramesView ResumeFault → FramesView → FramesView → Type 0
IsDue f due v w = (due ≡ Err f) × (w ≡ v)

pub resumed_running : (due : Result FramesView ResumeFault) (v w : FramesView) → AnswersResume {T = Unit {0}} (Err fault.Running) due v w → IsDue fault.Running due v w
resumed_running (Ok x) v w h = absurd h
resumed_running (Err f) v w h = (ap (λ (g : ResumeFault). let r : Result FramesView ResumeFault = Err g in r) h.0, h.1)

pub resumed_finished : (due : Result FramesView ResumeFault) (v w : FramesView) → AnswersResume {T = Unit {0}} (Err fault.Finished) due v w → IsDue fault.Finished due v w
resumed_finished (Ok x) v w h = absurd h
resumed_finished (Err f) v w h = (ap (λ (g : ResumeFault). let r : Result FramesView ResumeFault = Err g in r) h.0, h.1)

pub resumed_not_none : (due : Result FramesView ResumeFault) (v w : FramesView) → AnswersResume {T = Unit {0}} (Err fault.NotNone) due v w → IsDue fault.NotNone due v w
resumed_not_none (Ok x) v w h = absurd h
resumed_not_none (Err f) v w h = (ap (λ (g : ResumeFault). let r : Result FramesView ResumeFault = Err g in r) h.0, h.1)

pub resumed_full : (due : Result FramesView ResumeFault) (v w : FramesView) → AnswersResume {T = Unit {0}} (Err fault.Full) due v w → IsDue fault.Full due v w
resumed_full (Ok x) v w h = absurd h
resumed_full (Err f) v w h = (ap (λ (g : ResumeFault). let r : Result FramesView ResumeFault = Err g in r) h.0, h.1)

-- a close that was made
pub closed_ok : (c : Closing) (due : Result (Closing × FramesView) ResumeFault) (v w : FramesView) → AnswersClose (Ok c) due v w → due ≡ Ok (c, w)
closed_ok c (Ok d) v w h =
    ap (λ (x : Closing). let r : Result (Closing × FramesView) ResumeFault = Ok (x, d.1) in r) (sym h.0)
    ∙ ap (λ (z : FramesView). let r : Result (Closing × FramesView) ResumeFault = Ok (c, z) in r) (sym h.1)
closed_ok c (Err f) v w h = absurd h
