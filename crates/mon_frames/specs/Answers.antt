-- A call's answer is the due one, or want of memory with the frames as before.
use Rattle.std.specs.Prelude.{ℕ, ◌≡◌, List, [], ◌∷◌, ◌++◌, length, Option, Some, None, Result, Ok, Err}
use Rattle.mon_values.specs.declared.value.Value.{Value, Iter}
use Rattle.mon_values.specs.declared.fault.Trouble.{Trouble}
use Rattle.mon_frames.specs.declared.fault.FrameFault.{FrameFault}
use Rattle.mon_frames.specs.declared.fault.FrameFault.TheVariants as frame
use Rattle.mon_frames.specs.declared.fault.IterFault.{IterFault}
use Rattle.mon_frames.specs.declared.fault.IterFault.TheVariants as iter
use Rattle.mon_frames.specs.declared.fault.ResumeFault.{ResumeFault}
use Rattle.mon_frames.specs.declared.fault.ResumeFault.TheVariants as resume
use Rattle.mon_frames.specs.declared.generator.Closing.{Closing}
use Rattle.mon_frames.specs.Views.{FramesView}

-- the frames that are due, or their fault
abbrev pub AnswersPush : {T : Type 0} → Result T FrameFault → Result FramesView FrameFault → FramesView → FramesView → Type 0
AnswersPush (Ok t) (Ok due) old new = new ≡ due
AnswersPush (Ok t) (Err fault) old new = ⊥
AnswersPush (Err frame.Memory) due old new = new ≡ old
AnswersPush (Err frame.Full) (Ok due) old new = ⊥
AnswersPush (Err frame.Full) (Err fault) old new = (fault ≡ frame.Full) × (new ≡ old)

-- the value and the frames that are due, or the exception
abbrev pub AnswersIter : Result Value IterFault → Result (Value × FramesView) Trouble → FramesView → FramesView → Type 0
AnswersIter (Ok x) (Ok due) old new = (x ≡ due.0) × (new ≡ due.1)
AnswersIter (Ok x) (Err u) old new = ⊥
AnswersIter (Err (iter.Trouble t)) (Ok due) old new = ⊥
AnswersIter (Err (iter.Trouble t)) (Err u) old new = (t ≡ u) × (new ≡ old)
AnswersIter (Err iter.Memory) due old new = new ≡ old

-- the value that is due, if one is left, and what then is so
abbrev pub AnswersNext : {E V : Type 0} → Result (Option Value) E → Option Value × V → V → V → Type 0
AnswersNext (Ok x) due old new = (x ≡ due.0) × (new ≡ due.1)
AnswersNext (Err e) due old new = new ≡ old

-- the first of what is left is given, and no more
abbrev pub GivesFirst : {E : Type 0} → Result (Option Value) E → List Value → List Value → Type 0
GivesFirst (Ok None) old new = (old ≡ []) × (new ≡ [])
GivesFirst (Ok (Some x)) old new = old ≡ x ∷ new
GivesFirst (Err e) old new = new ≡ old

-- a new iterator over these items
abbrev pub Adds : {E : Type 0} → Result Value E → List Value → FramesView → FramesView → Type 0
Adds (Ok x) items old new = (x ≡ Iter (length old.iterators)) × (new ≡ record old { iterators = old.iterators ++ items ∷ [] })
Adds (Err e) items old new = new ≡ old

-- the number and the frames that are due
abbrev pub AnswersPark : {E : Type 0} → Result ℕ E → ℕ × FramesView → FramesView → FramesView → Type 0
AnswersPark (Ok number) due old new = (number ≡ due.0) × (new ≡ due.1)
AnswersPark (Err e) due old new = new ≡ old

-- the frames that are due, or why a generator does not go on
abbrev pub AnswersResume : {T : Type 0} → Result T ResumeFault → Result FramesView ResumeFault → FramesView → FramesView → Type 0
AnswersResume (Ok t) (Ok due) old new = new ≡ due
AnswersResume (Ok t) (Err due) old new = ⊥
AnswersResume (Err resume.Memory) due old new = new ≡ old
AnswersResume (Err fault) (Ok due) old new = ⊥
AnswersResume (Err fault) (Err due) old new = (due ≡ fault) × (new ≡ old)

-- what a close did and the frames that are due, or why the generator was not closed
abbrev pub AnswersClose : Result Closing ResumeFault → Result (Closing × FramesView) ResumeFault → FramesView → FramesView → Type 0
AnswersClose (Ok closing) (Ok due) old new = (closing ≡ due.0) × (new ≡ due.1)
AnswersClose (Ok closing) (Err due) old new = ⊥
AnswersClose (Err resume.Memory) due old new = new ≡ old
AnswersClose (Err fault) (Ok due) old new = ⊥
AnswersClose (Err fault) (Err due) old new = (due ≡ fault) × (new ≡ old)
