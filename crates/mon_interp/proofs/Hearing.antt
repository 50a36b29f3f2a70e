-- A step that was done and heard is one of an advance.
use Rattle.std.proofs.Common.{◌≡◌, ℕ, ◌+◌, Bool, true, false, ◌||◌, cond, IsTrue, List, [], ◌∷◌, ◌++◌, length, take, Option, Some, None, refl, sym, ap, ◌∙◌, subst, arith, append-nil, append_assoc}
use Rattle.std.specs.Prelude.{◌==◌, nat_lt, if◌then◌else◌, Result, Ok, Err}
use Rattle.std.specs.Result.{is_err}
use Rattle.std.specs.List.{AllByRecursion}
use Rattle.mon_events.specs.declared.event.Event.{Event}
use Rattle.mon_events.specs.declared.event.Slot.{Slot}
use Rattle.mon_events.specs.declared.op.Op.{Op}
use Rattle.mon_code.specs.declared.program.Code.{Code}
use Rattle.mon_code.specs.declared.program.Location.{Location}
use Rattle.mon_code.specs.Programs.{Parts}
use Rattle.mon_words.specs.Words.{cell_of, is_enabled}
use Rattle.mon_words.specs.History.{after, cell_at, offs}
use Rattle.mon_words.proofs.Growing.{grows_refl}
use Rattle.std.proofs.Math.Seq.{take-length}
use Rattle.mon_words.specs.Told.{Told, Grows, Loads, Owns}
use Rattle.mon_words.specs.declared.tally.Load.{Load}
use Rattle.mon_words.specs.declared.history.Board.{Board}
use Rattle.mon_frames.specs.declared.frame.Frame.{Frame}
use Rattle.mon_frames.specs.declared.call.Call.{Call}
use Rattle.mon_interp.proofs.Standing.{some_call}
use Rattle.mon_frames.specs.Views.{FramesView}
use Rattle.mon_recorders.specs.declared.happening.Happening.{Happening}
use Rattle.mon_recorders.specs.declared.happening.Kind.{Kind}
use Rattle.mon_recorders.specs.declared.happening.Kind.TheVariants.{Local, Global, Ancillary}
use Rattle.mon_recorders.specs.declared.record.Record.{Record}
use Rattle.mon_recorders.specs.declared.record.Disabled.{Disabled}
use Rattle.mon_recorders.specs.Happenings.{is_global_kind, records_in, disables_in}
use Rattle.mon_recorders.specs.Boards.{let_through, is_enabled_by, IsReadBy, AreReadBy, AreAt}
use Rattle.mon_recorders.proofs.Folds.{for_tools_same, for_tools_never}
use Rattle.mon_hear.specs.Words.{loads, callback_loads, globals, any_global, any_enabled, IsAskedPart}
use Rattle.mon_hear.specs.Hearing.{Heard, UnwindingHeard, Retiring, AreGlobal}
use Rattle.mon_hear.proofs.Steps.{all_read, one_step, whole, word_read}
use Rattle.mon_hear.proofs.Agreeing.{loads_same}
use Rattle.mon_hear.proofs.Parting.{loads_part, heard_part, part_at, part_global}
use Rattle.mon_hear.proofs.Passing.{global_read}
use Rattle.mon_machine.specs.declared.mode.Answer.{Answer}
use Rattle.mon_machine.specs.declared.mode.Ending.{Ending}
use Rattle.mon_machine.specs.declared.mode.Mode.{Mode}
use Rattle.mon_machine.specs.State.{State, Move, with_frame, goes}
use Rattle.mon_machine.specs.Events as events
use Rattle.mon_events.specs.Ops.{main_event}
use Rattle.mon_machine.specs.Events.{Shown, SlotEvent, happens, shown, of_call, local_event, line_events, slot_events, ancillary_events, throw_events, raise_events, instruction_events, answer_events}
use Rattle.mon_machine.specs.Moves.{effect}
use Rattle.mon_machine.specs.Step.{Step, step, executed, performed, with_line, after_ending, stuck, unwinds, finished}
use Rattle.mon_values.specs.declared.value.Exc.{Exc}
use Rattle.mon_values.specs.declared.value.Value.{Value}
use Rattle.mon_interp.proofs.Steps.{unwinding, due_unwinds}
use Rattle.mon_machine.specs.Advances as advances
use Rattle.mon_machine.specs.Advances.{Progress, Due, RanStep, instruction_due, loads_for, loads_of, location_load, board_at}
use Rattle.mon_machine.specs.AdvanceLaws.{StandAt}
use Rattle.mon_machine.proofs.Locating.{events_stand, instruction_at}
use Rattle.mon_interp.specs.Asking.{asks_for}
use Rattle.mon_interp.specs.Machines.{HeardStep, answered_at}
use Rattle.mon_interp.specs.Moving.{raises}
use Rattle.mon_interp.specs.declared.events.Place.{Place}
use Rattle.mon_interp.specs.Places.{IsAt, standing}
use Rattle.mon_interp.proofs.Listing.{line_at, raise_at}
use Rattle.mon_interp.proofs.Asking.{instruction_unasked, main_unasked, ancillary_unasked, part_insert}

-- ---- loads

one_same : (b : Board) (word : ℕ) (k : Kind) (t : ℕ) (e : Event) → IsReadBy b word k → is_enabled_by (λ l. cell_of word) b.global k t e ≡ is_enabled_by (cell_at b) b.global k t e
one_same b word (Local l s) t e r = ap (λ c. is_enabled c s t) r
one_same b word (Ancillary l) t e r = ap (λ c. is_enabled c Slot.Main t) r
one_same b word Global t e r = refl

any_same : (b : Board) (word t : ℕ) (es : List Happening) → AreReadBy b word es → any_enabled word b.global t es ≡ advances.any_enabled b t es
any_same b word t [] r = refl
any_same b word t (e ∷ es) r = let x = one_same b word e.kind t e.event r.0 in let y = any_same b word t es r.1 in λ i. x i || y i

globals_same : (es : List Happening) → any_global es ≡ advances.any_global es
globals_same [] = refl
globals_same (e ∷ es) = ap (λ z. is_global_kind e.kind || z) (globals_same es)

pub loads_are : (b : Board) (word : ℕ) (es : List Happening) → AreReadBy b word es → loads word b.global es ≡ loads_for b es
loads_are b word es r =
    let x = globals_same es in
    let y = for_tools_same (λ t. any_enabled word b.global t es) (λ t. advances.any_enabled b t es) Load.Callbacks 6 (λ t h. any_same b word t es r) in
    λ i. cond (x i) (Load.Global ∷ []) [] ++ y i

any_global_locals : (es : List Happening) → any_global (globals es) ≡ any_global es
any_global_locals [] = refl
any_global_locals (e ∷ es) = split (any_global_locals es) (is_global_kind e.kind) refl
  where
    split : any_global (globals es) ≡ any_global es → (x : Bool) → is_global_kind e.kind ≡ x → any_global (cond x (e ∷ globals es) (globals es)) ≡ any_global (e ∷ es)
    split rest true n = ap (λ z. is_global_kind e.kind || z) rest
    split rest false n = rest ∙ ap (λ z. z || any_global es) (sym n)

pub no_loads : (word g : ℕ) → loads word g [] ≡ []
no_loads word g = for_tools_never (λ t. any_enabled word g t []) Load.Callbacks 6 (λ t h. refl)

-- ---- the global events of an instruction are those of what it raises
globals_append : (xs ys : List Happening) → globals (xs ++ ys) ≡ globals xs ++ globals ys
globals_append [] ys = refl
globals_append (x ∷ xs) ys = split (globals_append xs ys) (is_global_kind x.kind)
  where
    split : globals (xs ++ ys) ≡ globals xs ++ globals ys → (b : Bool) → cond b (x ∷ globals (xs ++ ys)) (globals (xs ++ ys)) ≡ cond b (x ∷ globals xs) (globals xs) ++ globals ys
    split rest true = ap (λ (l : List Happening). x ∷ l) rest
    split rest false = rest

line_local : (f : Frame) (location : ℕ) (line last : Option ℕ) → globals (line_events f location line last) ≡ []
line_local f location None last = refl
line_local f location (Some line) None = refl
line_local f location (Some line) (Some last) = pick (line == last)
  where
    pick : (b : Bool) → globals (if b then [] else happens Event.Line (Local location Slot.Line) f line ∷ []) ≡ []
    pick true = refl
    pick false = refl

slot_local : (e : Option SlotEvent) (location : ℕ) (f : Frame) → globals (slot_events e location f) ≡ []
slot_local None location f = refl
slot_local (Some e) location f = refl

ancillary_local : (e : Option Event) (s : Shown) (location : ℕ) (f : Frame) → globals (ancillary_events e s location f) ≡ []
ancillary_local None s location f = refl
ancillary_local (Some e) s location f = refl

throw_global : (p : Parts) (e : Exc) (calls : List Call) → globals (throw_events p e calls) ≡ throw_events p e calls
throw_global p e [] = refl
throw_global p e (call ∷ calls) = refl

raise_global : (p : Parts) (f : Frame) (calls : List Call) (ending : Ending) → globals (raise_events p f calls ending) ≡ raise_events p f calls ending
raise_global p f calls Ending.Continues = refl
raise_global p f calls (Ending.Raises e) = refl
raise_global p f calls (Ending.Reraises e) = refl
raise_global p f calls (Ending.Returns x) = refl
raise_global p f calls (Ending.Yields x) = refl
raise_global p f calls Ending.Parks = refl
raise_global p f calls (Ending.ThrowsIn e) = throw_global p e calls
raise_global p f calls Ending.Misses = refl

instruction_globals : (p : Parts) (op : Op) (n location : ℕ) (line : Option ℕ) (f : Frame) (m : Move) → globals (instruction_events p op n location line f m) ≡ raise_events p f m.frames.calls m.ending
instruction_globals p op n location line f m =
    let xs : List Happening = line_events f location line f.line in
    let main : List Happening = slot_events (local_event p op n f m) location f in
    let anc : List Happening = ancillary_events m.ancillary (of_call p n f.stack) location f in
    let raised : List Happening = raise_events p f m.frames.calls m.ending in
    let i : Happening = happens Event.Instruction (Local location Slot.Instruction) f (events.offset f) in
    globals_append xs (i ∷ (main ++ (anc ++ raised)))
    ∙ ap (λ (l : List Happening). l ++ globals (main ++ (anc ++ raised))) (line_local f location line f.line)
    ∙ globals_append main (anc ++ raised)
    ∙ ap (λ (l : List Happening). l ++ globals (anc ++ raised)) (slot_local (local_event p op n f m) location f)
    ∙ globals_append anc raised
    ∙ ap (λ (l : List Happening). l ++ globals raised) (ancillary_local m.ancillary (of_call p n f.stack) location f)
    ∙ raise_global p f m.frames.calls m.ending

throw_any : (p : Parts) (e : Exc) (calls : List Call) → any_global (throw_events p e calls) ≡ nat_lt 0 (length calls)
throw_any p e [] = refl
throw_any p e (call ∷ calls) =
    let thrown : any_global (throw_events p e (call ∷ calls)) ≡ true = refl in
    thrown ∙ sym (some_call (call ∷ calls) (omega arith))

any_global_raised : (p : Parts) (f : Frame) (calls : List Call) (ending : Ending) → any_global (raise_events p f calls ending) ≡ raises calls ending
any_global_raised p f calls Ending.Continues = refl
any_global_raised p f calls (Ending.Raises e) = refl
any_global_raised p f calls (Ending.Reraises e) = refl
any_global_raised p f calls (Ending.Returns x) = refl
any_global_raised p f calls (Ending.Yields x) = refl
any_global_raised p f calls Ending.Parks = refl
any_global_raised p f calls (Ending.ThrowsIn e) = throw_any p e calls
any_global_raised p f calls Ending.Misses = refl

raising : (p : Parts) (op : Op) (n location : ℕ) (line : Option ℕ) (f : Frame) (m : Move) → any_global (instruction_events p op n location line f m) ≡ raises m.frames.calls m.ending
raising p op n location line f m =
    sym (any_global_locals (instruction_events p op n location line f m)) ∙ ap any_global (instruction_globals p op n location line f m) ∙ any_global_raised p f m.frames.calls m.ending

-- ---- an instruction that was heard

-- without an event of a slot but LINE: the others are not asked for
pub plain_part : (p : Parts) (op : Op) (n location : ℕ) (line : Option ℕ) (f : Frame) (m : Move) (word global : ℕ) (xs : List Happening) → asks_for word Slot.Instruction ≡ false → asks_for word Slot.Main ≡ false
    → IsAskedPart word global xs (line_events f location line f.line ++ raise_events p f m.frames.calls m.ending) → IsAskedPart word global xs (instruction_events p op n location line f m)
plain_part p op n location line f m word global xs unset none h =
    let before : List Happening = line_events f location line f.line in
    let main : List Happening = slot_events (local_event p op n f m) location f in
    let anc : List Happening = ancillary_events m.ancillary (of_call p n f.stack) location f in
    let raised : List Happening = raise_events p f m.frames.calls m.ending in
    let i : Happening = happens Event.Instruction (Local location Slot.Instruction) f (events.offset f) in
    part_insert word global xs before (i ∷ []) (main ++ (anc ++ raised)) (instruction_unasked word global f location (events.offset f) unset)
    (part_insert word global xs before main (anc ++ raised) (main_unasked word global f location (main_event op n) (shown p op n f m.frames.calls) none)
    (part_insert word global xs before anc raised (ancillary_unasked word global f location m.ancillary (of_call p n f.stack) none) h))

-- by those of its events that are asked for
pub heard_asked : (p : Parts) (c : Code) (op : Op) (l : Location) (f : Frame) (v : FramesView) (m : Move) (word global location : ℕ) (a b : Told) (old new : Progress) (xs : List Happening)
    → cell_of word ≡ cell_at (after a.first a.seen) location → location ≡ c.first + f.index
    → effect p c op l.argument (with_line l.line f) (with_frame v (with_line l.line f)) ≡ m → after_ending p m.frames m.ending ≡ new.state → new.printed ≡ old.printed ++ m.printed → new.steps ≡ old.steps + 1
    → IsAskedPart word global xs (instruction_events p op l.argument location l.line f m) → (IsTrue (raises m.frames.calls m.ending) → global ≡ (after a.first a.seen).global)
    → Heard old.steps xs a b old.records new.records old.disables new.disables
    → b.tally.loads ≡ a.tally.loads ++ (cond (raises m.frames.calls m.ending) (Load.Global ∷ []) [] ++ callback_loads word global xs 6) → Retiring a b location word
    → HeardStep (executed p c op l f v) location word a b old new
heard_asked p c op l f v m word global location a b old new xs here number e state printed steps part known heard loaded retired =
    let d : Board = after a.first a.seen in
    let all : List Happening = instruction_events p op l.argument location l.line f m in
    let hears : any_global all ≡ raises m.frames.calls m.ending = raising p op l.argument location l.line f m in
    let asked : IsTrue (any_global all) → global ≡ d.global = λ y. known (sym hears ∙ y) in
    let at : AreAt location all = instruction_at p location f op l.argument l.line m in
    let loads : cond (raises m.frames.calls m.ending) (Load.Global ∷ []) [] ++ callback_loads word global xs 6 ≡ loads word d.global all =
    let x : callback_loads word global xs 6 ≡ callback_loads word d.global all 6 = loads_part word global xs all part ∙ loads_same word global d.global all asked in
    (λ i. cond (sym hears i) (Load.Global ∷ []) [] ++ x i) in
    let done : HeardStep (performed p op l location f m) location word a b old new = record {
      state = sym state;
      printed = printed;
      steps = steps;
      heard = heard_part old.steps word global xs all a b old.records new.records old.disables new.disables (all_read d word location all here at) asked part heard;
      loads = loaded ∙ ap (λ (x : List Load). a.tally.loads ++ x) loads;
      retired = retired;
    } in
    subst (λ (x : Move). HeardStep (performed p op l (c.first + f.index) f x) location word a b old new) (sym e)
    (subst (λ k. HeardStep (performed p op l k f m) location word a b old new) number done)

-- ---- a call that has its answer

answer_any : (p : Parts) (a : Answer) (location : ℕ) (f : Frame) (r : Result Value Exc) → any_global (answer_events p a location f r) ≡ is_err r
answer_any p a location f (Ok x) = refl
answer_any p a location f (Err e) = refl

pub answer_here : (p : Parts) (a : Answer) (location : ℕ) (f : Frame) (r : Result Value Exc) → AreAt location (answer_events p a location f r)
answer_here p a location f (Ok x) = (refl, tt)
answer_here p a location f (Err e) = (refl, (tt, tt))

-- the global word is in hand where an event that was listed is enabled by it
pub known_answer : (p : Parts) (a : Answer) (location : ℕ) (f : Frame) (r : Result Value Exc) (word global g : ℕ) (xs : List Happening) → IsAskedPart word global xs (answer_events p a location f r) → (IsTrue (is_err r) → global ≡ g) → IsTrue (any_global xs) → global ≡ g
known_answer p a location f r word global g xs part known y = known (sym (answer_any p a location f r) ∙ part_global word global xs (answer_events p a location f r) part y)

-- its finish step is heard by those of its events that are asked for
pub heard_answer : (p : Parts) (answer : Answer) (f : Frame) (v : FramesView) (word global location : ℕ) (a b : Told) (old new : Progress) (xs : List Happening)
    → cell_of word ≡ cell_at (after a.first a.seen) location → finished v f answer.result ≡ new.state → new.printed ≡ old.printed → new.steps ≡ old.steps + 1
    → IsAskedPart word global xs (answer_events p answer location f answer.result) → (IsTrue (is_err answer.result) → global ≡ (after a.first a.seen).global)
    → Heard old.steps xs a b old.records new.records old.disables new.disables
    → b.tally.loads ≡ a.tally.loads ++ (cond (is_err answer.result) (Load.Global ∷ []) [] ++ callback_loads word global xs 6) → Retiring a b location word
    → HeardStep (answered_at p answer location f v) location word a b old new
heard_answer p answer f v word global location a b old new xs here state printed steps part known heard loaded retired =
    let d : Board = after a.first a.seen in
    let all : List Happening = answer_events p answer location f answer.result in
    let raised : any_global all ≡ is_err answer.result = answer_any p answer location f answer.result in
    let asked : IsTrue (any_global all) → global ≡ d.global = λ y. known (sym raised ∙ y) in
    let loads : cond (is_err answer.result) (Load.Global ∷ []) [] ++ callback_loads word global xs 6 ≡ loads word d.global all =
    let x : callback_loads word global xs 6 ≡ callback_loads word d.global all 6 = loads_part word global xs all part ∙ loads_same word global d.global all asked in
    (λ i. cond (sym raised i) (Load.Global ∷ []) [] ++ x i) in
    record {
      state = sym state;
      printed = printed ∙ sym (append-nil old.printed);
      steps = steps;
      heard = heard_part old.steps word global xs all a b old.records new.records old.disables new.disables (all_read d word location all here (answer_here p answer location f answer.result)) asked part heard;
      loads = loaded ∙ ap (λ (x : List Load). a.tally.loads ++ x) loads;
      retired = retired;
    }

-- nothing to hear
pub heard_none : (i : ℕ) (a b : Told) (rs : List Record) (ds : List Disabled) → Grows a b [] → Heard i [] a b rs rs ds ds
heard_none i a b rs ds g = record { grows = g; records = sym (append-nil rs); disables = sym (append-nil ds) }

-- the global word is in hand where an event that was listed is enabled by it
pub known_part : (p : Parts) (op : Op) (n location : ℕ) (line : Option ℕ) (f : Frame) (m : Move) (word global g : ℕ) (xs : List Happening) → IsAskedPart word global xs (instruction_events p op n location line f m) → (IsTrue (raises m.frames.calls m.ending) → global ≡ g) → IsTrue (any_global xs) → global ≡ g
known_part p op n location line f m word global g xs part known y =
    known (sym (raising p op n location line f m) ∙ part_global word global xs (instruction_events p op n location line f m) part y)

-- LINE and what is raised, as listed by the place alone
pub plain_listed : (p : Parts) (place : Place) (f : Frame) (location : ℕ) (line last : Option ℕ) (calls : List Call) (ending : Ending) → IsAt place f → last ≡ f.line
    → line_events (standing place) location line last ++ raise_events p (standing place) calls ending ≡ line_events f location line f.line ++ raise_events p f calls ending
plain_listed p place f location line last calls ending at is =
    let x : line_events (standing place) location line last ≡ line_events f location line f.line = line_at place f at location line last ∙ ap (λ (l : Option ℕ). line_events f location line l) is in
    let y : raise_events p (standing place) calls ending ≡ raise_events p f calls ending = raise_at place f at p calls ending in
    λ i. x i ++ y i

at_append : (location : ℕ) (xs ys : List Happening) → AreAt location xs → AreAt location ys → AreAt location (xs ++ ys)
at_append location [] ys h k = k
at_append location (x ∷ xs) ys h k = (h.0, at_append location xs ys h.1 k)

throw_here : (p : Parts) (location : ℕ) (e : Exc) (calls : List Call) → AreAt location (throw_events p e calls)
throw_here p location e [] = tt
throw_here p location e (call ∷ calls) = (tt, (tt, tt))

raise_here : (p : Parts) (f : Frame) (location : ℕ) (calls : List Call) (ending : Ending) → AreAt location (raise_events p f calls ending)
raise_here p f location calls Ending.Continues = tt
raise_here p f location calls (Ending.Raises e) = (tt, tt)
raise_here p f location calls (Ending.Reraises e) = (tt, tt)
raise_here p f location calls (Ending.Returns x) = tt
raise_here p f location calls (Ending.Yields x) = tt
raise_here p f location calls Ending.Parks = tt
raise_here p f location calls (Ending.ThrowsIn e) = throw_here p location e calls
raise_here p f location calls Ending.Misses = tt

-- LINE alone
line_choice_here : (f : Frame) (location line : ℕ) (same : Bool) → AreAt location (if same then [] else happens Event.Line (Local location Slot.Line) f line ∷ [])
line_choice_here f location line true = tt
line_choice_here f location line false = (refl, tt)

line_here : (f : Frame) (location : ℕ) (line last : Option ℕ) → AreAt location (line_events f location line last)
line_here f location None last = tt
line_here f location (Some line) None = (refl, tt)
line_here f location (Some line) (Some last) = line_choice_here f location line (line == last)

line_not_global : (f : Frame) (location : ℕ) (line last : Option ℕ) → any_global (line_events f location line last) ≡ false
line_not_global f location line last = sym (any_global_locals (line_events f location line last)) ∙ ap any_global (line_local f location line last)

pub line_at_location : (word global location : ℕ) (f : Frame) (line last : Option ℕ) (xs : List Happening) → IsAskedPart word global xs (line_events f location line last) → AreAt location xs
line_at_location word global location f line last xs part = part_at word global location xs (line_events f location line last) part (line_here f location line last)

pub plain_at_location : (p : Parts) (word global location : ℕ) (f : Frame) (line last : Option ℕ) (calls : List Call) (ending : Ending) (xs : List Happening)
    → IsAskedPart word global xs (line_events f location line last ++ raise_events p f calls ending) → AreAt location xs
plain_at_location p word global location f line last calls ending xs part =
    part_at word global location xs (line_events f location line last ++ raise_events p f calls ending) part
    (at_append location (line_events f location line last) (raise_events p f calls ending) (line_here f location line last) (raise_here p f location calls ending))

pub line_known : (word global location : ℕ) (f : Frame) (line last : Option ℕ) (xs : List Happening) (g : ℕ) → IsAskedPart word global xs (line_events f location line last) → IsTrue (any_global xs) → 0 ≡ g
line_known word global location f line last xs g part y = absurd (cc (part_global word global xs (line_events f location line last) part y, line_not_global f location line last))

pub heard_line : (step word location : ℕ) (f : Frame) (line last : Option ℕ) (xs : List Happening) (a b : Told) (rs rs2 : List Record) (ds ds2 : List Disabled) → cell_of word ≡ cell_at (after a.first a.seen) location
    → IsAskedPart word 0 xs (line_events f location line last) → Heard step xs a b rs rs2 ds ds2 → Heard step (line_events f location line last) a b rs rs2 ds ds2
heard_line step word location f line last xs a b rs rs2 ds ds2 here part h =
    let es : List Happening = line_events f location line last in
    heard_part step word 0 xs es a b rs rs2 ds ds2 (all_read (after a.first a.seen) word location es here (line_here f location line last)) (λ y. absurd (cc (y, line_not_global f location line last))) part h

pub loads_line : (word location : ℕ) (f : Frame) (line last : Option ℕ) (xs : List Happening) (a b : List Load) → IsAskedPart word 0 xs (line_events f location line last) → b ≡ a ++ callback_loads word 0 xs 6 → b ≡ a ++ callback_loads word 0 (line_events f location line last) 6
loads_line word location f line last xs a b part e = e ∙ ap (λ (l : List Load). a ++ l) (loads_part word 0 xs (line_events f location line last) part)

pub loads_unheard : (word : ℕ) (a b : List Load) → b ≡ a → b ≡ a ++ callback_loads word 0 [] 6
loads_unheard word a b e = e ∙ sym (append-nil a) ∙ ap (λ (l : List Load). a ++ l) (sym (no_loads word 0))

-- ---- a step of an advance

-- one with an instruction
pub ran_located : (p : Parts) (due : Due) (word : ℕ) (a c b : Told) (old new : Progress) → Owns a → goes old.state.mode ≡ true → Loads a due.location word c → instruction_due p old.state ≡ Some due
    → HeardStep (step p old.state) due.location word c b old new → RanStep p (length c.seen) a b old new
ran_located p due word a c b old new own on l is h =
    let es : List Happening = (step p old.state).events in
    let at : AreAt due.location es = subst (λ (d : Option Due). StandAt d es) is (events_stand p old.state) in
    let begins = h.heard.grows.begins in
    let same : take (length c.seen) b.seen ≡ c.seen = whole c.seen b.seen begins in
    let first : c.first ≡ a.first = ap (λ (t : Told). t.first) l.rest in
    let board : after c.first c.seen ≡ board_at a.first b.seen (length c.seen) = λ i. after (first i) (sym same i) in
    let read : AreReadBy (after c.first c.seen) word es = all_read (after c.first c.seen) word due.location es (word_read a c due.location word l) at in
    record {
      goes = on;
      state = h.state;
      printed = h.printed;
      steps = h.steps;
      records = records_in (let_through (after c.first c.seen)) old.steps es;
      disables = disables_in (let_through (after c.first c.seen)) old.steps es;
      records_are = h.heard.records;
      disables_are = h.heard.disables;
      reads = one_step a c b word due.location old.steps es own l h.heard.grows;
      unwinds = λ none. absurd (cc (none, is));
      loads = h.loads ∙ (λ i. ap (λ (t : Told). t.tally.loads) l.rest i ++ loads_are (after c.first c.seen) word es read i)
          ∙ append_assoc a.tally.loads (Load.Location due.location (length c.seen) ∷ []) (loads_for (after c.first c.seen) es)
          ∙ (λ i. a.tally.loads ++ (location_load (sym is i) (length c.seen) ++ loads_for (board i) es));
    }

are_global : (es : List Happening) → AllByRecursion (λ (e : Happening). e.kind ≡ Global) es → AreGlobal es
are_global [] h = tt
are_global (e ∷ es) h = (ap is_global_kind h.0, are_global es h.1)

pub unwinds_global : (p : Parts) (s : State) → instruction_due p s ≡ None → AreGlobal (step p s).events
unwinds_global p s is = are_global (step p s).events (subst (λ (d : Option Due). StandAt d (step p s).events) is (events_stand p s))

-- one without
pub ran_elsewhere : (p : Parts) (a b : Told) (old new : Progress) → goes old.state.mode ≡ true → instruction_due p old.state ≡ None → Grows a b []
    → new.state ≡ (step p old.state).after → new.printed ≡ old.printed ++ (step p old.state).printed → new.disables ≡ old.disables → new.steps ≡ old.steps + 1
    → UnwindingHeard old.steps (step p old.state).events a b old.records new.records → b.tally.loads ≡ a.tally.loads ++ loads 0 (after a.first a.seen).global (step p old.state).events
    → RanStep p (length a.seen) a b old new
ran_elsewhere p a b old new on is grows state printed disables steps h loaded =
    let es : List Happening = (step p old.state).events in
    let same : take (length a.seen) b.seen ≡ a.seen = whole a.seen b.seen grows.begins in
    let board : after a.first a.seen ≡ board_at a.first b.seen (length a.seen) = ap (after a.first) (sym same) in
    let read : AreReadBy (after a.first a.seen) 0 es = global_read (after a.first a.seen) 0 es (unwinds_global p old.state is) in
    record {
      goes = on;
      state = state;
      printed = printed;
      steps = steps;
      records = h.records;
      disables = [];
      records_are = h.records_are;
      disables_are = disables ∙ sym (append-nil old.disables);
      reads = h.step;
      unwinds = λ none. refl;
      loads = loaded ∙ ap (λ (l : List Load). a.tally.loads ++ l) (loads_are (after a.first a.seen) 0 es read)
          ∙ (λ i. a.tally.loads ++ (location_load (sym is i) (length a.seen) ++ loads_for (board i) es));
    }

-- a step that got stuck was not heard
pub heard_stuck : (v : FramesView) (location word : ℕ) (a b : Told) (old new : Progress) → new ≡ record old { state = record { frames = v; mode = Mode.Stuck }; steps = old.steps + 1 } → Grows a b [] → b.tally.loads ≡ a.tally.loads → Retiring a b location word → HeardStep (stuck v) location word a b old new
heard_stuck v location word a b old new e grows loaded retired = record {
  state = ap (λ (x : Progress). x.state) e;
  printed = ap (λ (x : Progress). x.printed) e ∙ sym (append-nil old.printed);
  steps = ap (λ (x : Progress). x.steps) e;
  heard = record {
    grows = grows;
    records = ap (λ (x : Progress). x.records) e ∙ sym (append-nil old.records);
    disables = ap (λ (x : Progress). x.disables) e ∙ sym (append-nil old.disables);
  };
  loads = loaded ∙ sym (append-nil a.tally.loads) ∙ ap (λ (l : List Load). a.tally.loads ++ l) (sym (no_loads word (after a.first a.seen).global));
  retired = retired;
}

-- where there was no instruction
pub unheard_still : (i : ℕ) (a : Told) (old new : List Record) → Owns a → new ≡ old → UnwindingHeard i [] a a old new
unheard_still i a old new own e = record {
  records = [];
  records_are = e ∙ sym (append-nil old);
  step = record {
    more = [];
    grown = sym (append-nil a.seen);
    low = omega arith;
    high = omega arith;
    own_read = ap (offs a.number) (take-length a.seen);
    own_all = sym (append-nil (offs a.number a.seen));
    records_are = refl;
    disables_are = refl;
  };
}

pub ran_stuck : (p : Parts) (a : Told) (old new : Progress) → Owns a → goes old.state.mode ≡ true → instruction_due p old.state ≡ None → step p old.state ≡ stuck old.state.frames
    → new ≡ record old { state = record { frames = old.state.frames; mode = Mode.Stuck }; steps = old.steps + 1 } → RanStep p (length a.seen) a a old new
ran_stuck p a old new own on is stands e =
    let events : (step p old.state).events ≡ [] = ap (λ (s : Step). s.events) stands in
    ran_elsewhere p a a old new on is (grows_refl a)
    (ap (λ (x : Progress). x.state) e ∙ ap (λ (s : Step). s.after) (sym stands))
    (ap (λ (x : Progress). x.printed) e ∙ sym (append-nil old.printed) ∙ ap (λ (s : Step). old.printed ++ s.printed) (sym stands))
    (ap (λ (x : Progress). x.disables) e)
    (ap (λ (x : Progress). x.steps) e)
    (subst (λ (l : List Happening). UnwindingHeard old.steps l a a old.records new.records) (sym events) (unheard_still old.steps a old.records new.records own (ap (λ (x : Progress). x.records) e)))
    (sym (append-nil a.tally.loads) ∙ ap (λ (l : List Load). a.tally.loads ++ l) (sym (no_loads 0 (after a.first a.seen).global)) ∙ ap (λ (l : List Happening). a.tally.loads ++ loads 0 (after a.first a.seen).global l) (sym events))

-- by values that are the same
pub heard_by : (i j : ℕ) (es fs : List Happening) (a b : Told) (rs rs1 rs2 : List Record) (ds ds1 ds2 : List Disabled) → j ≡ i → fs ≡ es → rs1 ≡ rs → ds1 ≡ ds → Heard j fs a b rs1 rs2 ds1 ds2 → Heard i es a b rs rs2 ds ds2
heard_by i j es fs a b rs rs1 rs2 ds ds1 ds2 step events records disables h =
    subst (λ (z : ℕ × List Happening × List Record × List Disabled). Heard z.0 z.1 a b z.2 rs2 z.3 ds2) (λ k. (step k, events k, records k, disables k)) h

pub unwinding_global : (p : Parts) (v : FramesView) (e : Exc) → AreGlobal (unwinds p v e v.calls).events
unwinding_global p v e =
    let s : State = record { frames = v; mode = Mode.Unwind e } in
    subst (λ (x : Step). AreGlobal x.events) (unwinding p s e refl) (unwinds_global p s (due_unwinds p s e refl))
