-- Events that are listed where some tool asks for them.
use Rattle.std.proofs.Common.{inl, inr, ◌≡◌, ℕ, ◌<◌, Bool, true, false, List, [], ◌∷◌, ◌++◌, refl, sym, ap, ◌∙◌, subst, append-nil, append_assoc}
use Rattle.std.specs.Prelude.{◌==◌, Option, Some, None, if◌then◌else◌}
use Rattle.mon_events.specs.Events.{rank}
use Rattle.mon_events.specs.declared.event.Event.{Event}
use Rattle.mon_events.specs.declared.event.Slot.{Slot}
use Rattle.mon_values.specs.declared.value.Exc.{Exc}
use Rattle.mon_code.specs.Programs.{Parts}
use Rattle.mon_words.specs.Words.{is_wanted}
use Rattle.mon_frames.specs.declared.frame.Frame.{Frame}
use Rattle.mon_recorders.specs.declared.happening.Happening.{Happening}
use Rattle.mon_recorders.specs.declared.happening.Kind.TheVariants.{Local}
use Rattle.mon_hear.specs.Words.{IsAskedPart}
use Rattle.mon_hear.proofs.Parting.{slot_unasked, part_none, part_append}
use Rattle.mon_machine.specs.Events.{Shown, happens, in_main, line_events, slot_events, ancillary_events, of_exception}
use Rattle.mon_interp.specs.Asking.{asks_for, Adds}

-- ---- what is not asked for

line_choice : (word global : ℕ) (f : Frame) (location line : ℕ) → asks_for word Slot.Line ≡ false → (same : Bool) → IsAskedPart word global [] (if same then [] else happens Event.Line (Local location Slot.Line) f line ∷ [])
line_choice word global f location line unset true = refl
line_choice word global f location line unset false = inl (slot_unasked word Slot.Line unset, refl)

pub line_unasked : (word global : ℕ) (f : Frame) (location : ℕ) (line last : Option ℕ) → asks_for word Slot.Line ≡ false → IsAskedPart word global [] (line_events f location line last)
line_unasked word global f location None last unset = refl
line_unasked word global f location (Some line) None unset = inl (slot_unasked word Slot.Line unset, refl)
line_unasked word global f location (Some line) (Some last) unset = line_choice word global f location line unset (line == last)

pub instruction_unasked : (word global : ℕ) (f : Frame) (location at : ℕ) → asks_for word Slot.Instruction ≡ false → IsAskedPart word global [] (happens Event.Instruction (Local location Slot.Instruction) f at ∷ [])
instruction_unasked word global f location at unset = inl (slot_unasked word Slot.Instruction unset, refl)

pub main_unasked : (word global : ℕ) (f : Frame) (location : ℕ) (event : Option Event) (s : Option Shown) → asks_for word Slot.Main ≡ false → IsAskedPart word global [] (slot_events (in_main event s) location f)
main_unasked word global f location None s unset = refl
main_unasked word global f location (Some event) None unset = refl
main_unasked word global f location (Some event) (Some s) unset = inl (slot_unasked word Slot.Main unset, refl)

pub ancillary_unasked : (word global : ℕ) (f : Frame) (location : ℕ) (event : Option Event) (s : Shown) → asks_for word Slot.Main ≡ false → IsAskedPart word global [] (ancillary_events event s location f)
ancillary_unasked word global f location None s unset = refl
ancillary_unasked word global f location (Some event) s unset = inl (slot_unasked word Slot.Main unset, refl)

pub exception_unasked : (word global : ℕ) (p : Parts) (event : Event) (e : Exc) (f : Frame) → ((tool : ℕ) → tool < 6 → is_wanted global (rank event) tool ≡ false) → IsAskedPart word global [] (of_exception p event e f ∷ [])
exception_unasked word global p event e f unset = inl (unset, refl)

-- ---- what is added to a list

pub adds_none : (word global : ℕ) (old new es : List Happening) → new ≡ old → IsAskedPart word global [] es → Adds word global old new es
adds_none word global old new es same none = record { added = []; is = same ∙ sym (append-nil old); part = none }

pub adds_all : (word global : ℕ) (old new es : List Happening) → new ≡ old ++ es → Adds word global old new es
adds_all word global old new es is = record { added = es; is = is; part = part_none word global es }

pub adds_more : (word global : ℕ) (old mid new es fs : List Happening) → Adds word global old mid es → Adds word global mid new fs → Adds word global old new (es ++ fs)
adds_more word global old mid new es fs h k = record {
  added = h.added ++ k.added;
  is = k.is ∙ ap (λ (l : List Happening). l ++ k.added) h.is ∙ append_assoc old h.added k.added;
  part = part_append word global h.added es k.added fs h.part k.part;
}

-- into an empty list
pub adds_to_none : (word global : ℕ) (old new es : List Happening) → old ≡ [] → Adds word global old new es → IsAskedPart word global new es
adds_to_none word global old new es none h = subst (λ (l : List Happening). IsAskedPart word global l es) (sym (h.is ∙ ap (λ (l : List Happening). l ++ h.added) none)) h.part

-- events that no word asks for are no more to list
pub part_insert : (word global : ℕ) (xs before es after : List Happening) → IsAskedPart word global [] es → IsAskedPart word global xs (before ++ after) → IsAskedPart word global xs (before ++ (es ++ after))
part_insert word global xs [] es after none h = part_append word global [] es xs after none h
part_insert word global xs (e ∷ before) es after none (inl h) = inl (h.0, part_insert word global xs before es after none h.1)
part_insert word global xs (e ∷ before) es after none (inr h) = inr (h.0, h.1, part_insert word global h.0 before es after none h.2)

-- what was listed, as it is read
pub listed_part : (word global : ℕ) (old new seen es : List Happening) → old ≡ [] → seen ≡ new → Adds word global old new es → IsAskedPart word global seen es
listed_part word global old new seen es none same h = subst (λ (l : List Happening). IsAskedPart word global l es) (sym same) (adds_to_none word global old new es none h)
