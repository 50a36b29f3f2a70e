-- What an instruction makes of all frames keeps how they stand.
use Rattle.std.proofs.Common.{◌≡◌, ℕ, zero, suc, ◌+◌, ◌-◌, ◌<◌, ◌≤◌, Bool, true, false, inl, inr, List, [], ◌∷◌, ◌++◌, length, drop, refl, sym, subst, arith, nat_lt, length-drop}
use Rattle.std.specs.Prelude.{Option, Some, None, Result, Ok, Err, IsTrue, slice_get, slice_set, ◌==◌, if◌then◌else◌}
use Rattle.std.proofs.lemmas.Bool.Decides.{nat_tests}
use Rattle.mon_values.specs.declared.value.Value.{Value, Exc as Raised-value, None as Nothing, Iter, Done}
use Rattle.mon_values.specs.declared.value.Value.TheOpen.{Value-F}
use Rattle.mon_values.specs.declared.value.Value.TheViews.{out-Value}
use Rattle.mon_values.specs.declared.value.Exc.{Exc}
use Rattle.mon_values.specs.declared.fault.Trouble.{Trouble}
use Rattle.mon_values.specs.declared.operator.CmpOp.{CmpOp}
use Rattle.mon_values.specs.Troubles.{trouble, trouble_exc, not_iterable}
use Rattle.mon_values.specs.Weights.{made_exc, exc_of}
use Rattle.mon_events.specs.declared.event.Event.{Event}
use Rattle.mon_events.specs.declared.op.Op.{Op}
use Rattle.mon_code.specs.declared.program.Code.{Code}
use Rattle.mon_code.specs.declared.program.Location.{Location}
use Rattle.mon_code.specs.Programs.{Parts}
use Rattle.mon_code.specs.Checked.{IsChecked, IsCode, begins_generator}
use Rattle.mon_code.specs.Effects.{effect_of, plain, last}
use Rattle.mon_frames.specs.declared.frame.Frame.{Frame}
use Rattle.mon_frames.specs.declared.call.Call.{Call}
use Rattle.mon_frames.specs.declared.call.Origin.{Origin}
use Rattle.mon_frames.specs.declared.call.Origin.TheVariants.{Plain, Generator as Generated}
use Rattle.mon_frames.specs.declared.call.By.{By}
use Rattle.mon_frames.specs.declared.call.By.TheVariants as by
use Rattle.mon_frames.specs.declared.generator.Generator.{Generator}
use Rattle.mon_frames.specs.declared.generator.Generator.TheVariants.{NotStarted, Suspended, Running, Finished}
use Rattle.mon_frames.specs.declared.fault.FrameFault.TheVariants.{Full}
use Rattle.mon_frames.specs.declared.fault.ResumeFault.{ResumeFault}
use Rattle.mon_frames.specs.declared.fault.ResumeFault.TheVariants as fault
use Rattle.mon_frames.specs.Generators as generators
use Rattle.mon_frames.specs.Items.{items_of}
use Rattle.mon_frames.specs.Iterating.{over, iterated_at, next_of}
use Rattle.mon_frames.specs.Views.{FramesView, has_room, handled_in, on_top, pushed_in}
use Rattle.mon_frames.specs.Calls.{called}
use Rattle.mon_builtins.specs.declared.given.Given.{Given}
use Rattle.mon_builtins.specs.declared.given.Given.TheVariants as given
use Rattle.mon_builtins.specs.Builtins as builtins
use Rattle.mon_builtins.specs.Extremes.{extreme}
use Rattle.mon_machine.specs.declared.mode.Ending.{Ending}
use Rattle.mon_machine.specs.State.{FrameMove, Move, in_top, ends, goes_on}
use Rattle.mon_machine.specs.Operations.{operation, raises, raised, raise_top, instance_of}
use Rattle.mon_machine.specs.Moves as spec
use Rattle.mon_machine.proofs.Depths.{Stays, FaresAs, Fares, FaresIf, plain_goes, plain_raises, element, operation_fares}
use Rattle.mon_machine.proofs.Fitting.{checked_code}
use Rattle.mon_machine.proofs.Keeping.{IsAt, IsThrown, Waits, Rests, Comes, Past, generates, op_below, Waiting, HasTop, Idle, AllIdle, Works, ready, idle_at, idle_set, past_of, goes_at, jumps_at, stays_at, waits_at, loops_at, yields_at, parks_at, rest_gets, rest_throws, called_at}

-- the frames of a thread
abbrev pub view : Frame → Origin → List Call → List Generator → List (List Value) → FramesView
view f o below gens its = record { calls = record { frame = f; origin = o } ∷ below; generators = gens; iterators = its }

abbrev pub Any : Origin → Frame → Type 0
Any o f = Unit {0}

abbrev pub IsPlain : Origin → Type 0
IsPlain Plain = Unit {0}
IsPlain (Generated number by) = ⊥

abbrev pub IsGenerated : Origin → Type 0
IsGenerated Plain = ⊥
IsGenerated (Generated number by) = Unit {0}

abbrev pub Parks : Parts → Origin → Frame → Type 0
Parks p o f = IsPlain o × Rests p f

abbrev pub Yields : Parts → Origin → Frame → Type 0
Yields p o f = IsGenerated o × Rests p f

-- how the frames stand where an instruction ends so
abbrev pub Ends : Parts → List Call → Ending → Type 0
Ends p calls Ending.Continues = HasTop p (IsAt p) calls
Ends p calls (Ending.Raises e) = HasTop p (IsThrown p) calls
Ends p calls (Ending.Reraises e) = HasTop p (IsThrown p) calls
Ends p calls (Ending.Returns x) = HasTop p Any calls
Ends p calls (Ending.Yields x) = HasTop p (Yields p) calls
Ends p calls Ending.Parks = HasTop p (Parks p) calls
Ends p calls (Ending.ThrowsIn e) = HasTop p (IsThrown p) calls
Ends p calls Ending.Misses = ⊥

-- an event other than LINE, if there is one
abbrev pub IsOther : Option Event → Type 0
IsOther None = Unit {0}
IsOther (Some event) = event ≡ Event.Line → ⊥

pub record Moves (p : Parts) (m : Move) : Type 0 where
  pub generators : AllIdle p m.frames.generators
  pub stands : Ends p m.frames.calls m.ending
  pub ancillary : IsOther m.ancillary

module _ (p : Parts) (c : Code) (op : Op) (l : Location) (f : Frame) (o : Origin) (below : List Call) (w : Works p c op l f) (past : Past (generates p c) o f.index) (waiting : Waiting p o below) where
  fared : (g : Frame) (ending : Ending) (gens : List Generator) (its : List (List Value)) → FaresAs (effect_of op l.argument) l.argument f g ending → Ends p (view g o below gens its).calls ending
  fared g Ending.Continues gens its (inl m) = (goes_at p c op l o f g w past m, waiting)
  fared g Ending.Continues gens its (inr m) = (jumps_at p c op l o f g w past m, waiting)
  fared g (Ending.Raises e) gens its m = (stays_at p c op l o f g w past m, waiting)
  fared g (Ending.Reraises e) gens its m = (stays_at p c op l o f g w past m, waiting)
  fared g (Ending.Returns x) gens its m = absurd m
  fared g (Ending.Yields x) gens its m = absurd m
  fared g Ending.Parks gens its m = absurd m
  fared g (Ending.ThrowsIn e) gens its m = absurd m
  fared g Ending.Misses gens its m = absurd m

  -- of the top frame alone
  in_top_moves : (gens : List Generator) (its : List (List Value)) (m : FrameMove) → AllIdle p gens → Fares (effect_of op l.argument) l.argument f m → Moves p (in_top (view f o below gens its) m)
  in_top_moves gens its m idle fares = record { generators = idle; stands = fared m.frame m.ending gens its fares; ancillary = tt }

-- one of two
either : {X : Type 0} (P : X → Type 0) (b : Bool) (x y : X) → P x → P y → P (if b then x else y)
either P true x y a b = a
either P false x y a b = b

-- where a generator goes on, its frame is on top and such, and those below wait for it
abbrev Enters : Parts → (Origin → Frame → Type 0) → Result FramesView ResumeFault → Type 0
Enters p Is (Ok w) = AllIdle p w.generators × HasTop p Is w.calls
Enters p Is (Err refused) = Unit {0}

module _ (p : Parts) (v : FramesView) (number : ℕ) (by : By) (idle : AllIdle p v.generators) (waiting : Waiting p (Generated number by) v.calls) where
  running_enters : (Is : Origin → Frame → Type 0) (frame : Frame) → Is (Generated number by) frame → Enters p Is (generators.running v number by frame)
  running_enters Is frame is =
      let w = on_top (generators.with_generators v (slice_set v.generators number Running)) frame (Generated number by) in
      either (Enters p Is) (has_room v.calls) (Ok w) (Err fault.Full) (idle_set p v.generators number Running idle tt, (is, waiting)) tt

  resumed_enters : (x : Value) (g : Generator) → Idle p g → Enters p (IsAt p) (generators.resumed_in v number x by (Some g))
  resumed_enters x (NotStarted frame) rests =
      either (Enters p (IsAt p)) (generators.is_none x) (generators.running v number by (generators.sent_to frame x)) (Err fault.NotNone)
      (running_enters (IsAt p) (generators.sent_to frame x) (rest_gets p number by frame x rests)) tt
  resumed_enters x (Suspended frame) rests = running_enters (IsAt p) (generators.sent_to frame x) (rest_gets p number by frame x rests)
  resumed_enters x Running rests = tt
  resumed_enters x Finished rests = tt

  entered_enters : (g : Generator) → Idle p g → Enters p (IsThrown p) (generators.entered_in v number by (Some g))
  entered_enters (NotStarted frame) rests = running_enters (IsThrown p) frame (rest_throws p number by frame rests)
  entered_enters (Suspended frame) rests = running_enters (IsThrown p) frame (rest_throws p number by frame rests)
  entered_enters Running rests = tt
  entered_enters Finished rests = tt

  -- a generator of the pool
  resumed_from : (x : Value) (g : Generator) → slice_get v.generators number ≡ Some g → Enters p (IsAt p) (generators.resumed v number x by)
  resumed_from x g found = subst (λ (y : Option Generator). Enters p (IsAt p) (generators.resumed_in v number x by y)) (sym found) (resumed_enters x g (idle_at p v.generators number g idle found))

  entered_from : (g : Generator) → slice_get v.generators number ≡ Some g → Enters p (IsThrown p) (generators.entered v number by)
  entered_from g found = subst (λ (y : Option Generator). Enters p (IsThrown p) (generators.entered_in v number by y)) (sym found) (entered_enters g (idle_at p v.generators number g idle found))

module _ (p : Parts) (c : Code) (l : Location) (f : Frame) (o : Origin) (below : List Call) (gens : List Generator) (its : List (List Value)) (w : Works p c Op.GetIter l f) (past : Past (generates p c) o f.index) (waiting : Waiting p o below) (idle : AllIdle p gens) where
  abbrev iterating : (its' : List (List Value)) (m : FrameMove) → Fares (plain 1 1) l.argument f m → Moves p (in_top (view f o below gens its') m)
  iterating its' m fares = in_top_moves p c Op.GetIter l f o below w past waiting gens its' m idle fares

  over_moves : (rest : List Value) (items : Option (List Value)) → length f.stack ≡ 1 + length rest
      → (let g = spec.with_stack f rest in Moves p (spec.iterates (view g o below gens its) g (over (view g o below gens its) items)))
  over_moves rest None e = iterating its (raises f rest not_iterable) (plain_raises 1 1 l.argument f rest not_iterable (omega (arith, e)))
  over_moves rest (Some items) e = iterating (its ++ items ∷ []) (goes_on f (Iter (length its) ∷ rest)) (plain_goes 1 1 l.argument f (Iter (length its) ∷ rest) (omega (arith, e)))

  iterated_moves : (x : Value) (rest : List Value) (layer : Value-F Value Exc) → length f.stack ≡ 1 + length rest
      → (let g = spec.with_stack f rest in Moves p (spec.iterates (view g o below gens its) g (iterated_at (view g o below gens its) x layer)))
  iterated_moves x rest (Value-F.Gen number) e = iterating its (goes_on f (x ∷ rest)) (plain_goes 1 1 l.argument f (x ∷ rest) (omega (arith, e)))
  iterated_moves x rest (Value-F.Iter number) e = iterating its (goes_on f (x ∷ rest)) (plain_goes 1 1 l.argument f (x ∷ rest) (omega (arith, e)))
  iterated_moves x rest _ e = over_moves rest (items_of x) e

  get_iter : (stack : List Value) → length f.stack ≡ length stack → 1 ≤ length stack → Moves p (spec.get_iter (view f o below gens its) f stack)
  get_iter [] e has = absurd (omega arith)
  get_iter (x ∷ rest) e has = iterated_moves x rest (out-Value x) (omega (arith, e))

module _ (p : Parts) (c : Code) (l : Location) (f : Frame) (o : Origin) (below : List Call) (gens : List Generator) (its : List (List Value)) (w : Works p c Op.ForIter l f) (past : Past (generates p c) o f.index) (waiting : Waiting p o below) (idle : AllIdle p gens) where
  raises_for : (t : Trouble) → Moves p (spec.refuses (view f o below gens its) t)
  raises_for t = in_top_moves p c Op.ForIter l f o below w past waiting gens its (raises f f.stack t) idle (plain_raises 1 2 l.argument f f.stack t (omega arith))

  pushes_for : (its' : List (List Value)) (x : Value) → 1 ≤ length f.stack → Moves p (spec.pushes (view f o below gens its') f x)
  pushes_for its' x has = in_top_moves p c Op.ForIter l f o below w past waiting gens its' (goes_on f (x ∷ f.stack)) idle (plain_goes 1 2 l.argument f (x ∷ f.stack) (omega (arith, has)))

  loops : (r : Result FramesView ResumeFault) → Enters p (IsAt p) r → 1 ≤ length f.stack → Moves p (spec.loops (view f o below gens its) f r)
  loops (Ok w') enters has = record { generators = enters.0; stands = enters.1; ancillary = tt }
  loops (Err fault.Running) enters has = raises_for (trouble 9)
  loops (Err fault.Finished) enters has = pushes_for its (Done (Some builtins.stop_iteration)) has
  loops (Err fault.NotNone) enters has = raises_for (trouble 8)
  loops (Err fault.Full) enters has = raises_for (trouble 18)
  loops (Err fault.Memory) enters has = raises_for (trouble 18)

  for_generator : (number : ℕ) (g : Option Generator) → slice_get gens number ≡ g → 1 ≤ length f.stack → Moves p (spec.for_generator (view f o below gens its) f number g)
  for_generator number None found has = raises_for not_iterable
  for_generator number (Some g) found has =
      loops (generators.resumed (view f o below gens its) number Nothing by.For)
      (resumed_from p (view f o below gens its) number by.For idle (loops_at p c l o f w past has, waiting) Nothing g found) has

  for_iter_at : (layer : Value-F Value Exc) → 1 ≤ length f.stack → Moves p (spec.for_iter_at (view f o below gens its) f layer)
  for_iter_at (Value-F.Iter number) has =
      let due = next_of (view f o below gens its) number in
      pushes_for due.1.iterators (spec.or_done due.0) has
  for_iter_at (Value-F.Gen number) has = for_generator number (slice_get gens number) refl has
  for_iter_at _ has = raises_for not_iterable

  for_iter : (stack : List Value) → length f.stack ≡ length stack → 1 ≤ length stack → Moves p (spec.for_iter (view f o below gens its) f stack)
  for_iter [] e has = absurd (omega arith)
  for_iter (x ∷ rest) e has = for_iter_at (out-Value x) (omega (arith, e))

-- what is raised, the operands being taken
left : (n : ℕ) (f : Frame) (rest : List Value) → length f.stack ≡ n + length rest → Stays (last n 0) f (record f { stack = rest })
left n f rest e = record { same = record { code = refl; locals = refl; line = refl }; index = refl; stack = omega (arith, e); handling = omega arith }

raised_fares : (f : Frame) (rest : List Value) (r : Result Exc Trouble) → length f.stack ≡ 1 + length rest → Fares (last 1 0) 1 f (raised f rest r)
raised_fares f rest (Ok x) e = left 1 f rest e
raised_fares f rest (Err t) e = left 1 f rest e

raise_top_fares : (f : Frame) (stack : List Value) → length f.stack ≡ length stack → 1 ≤ length stack → Fares (last 1 0) 1 f (raise_top f stack)
raise_top_fares f [] e has = absurd (omega arith)
raise_top_fares f (v ∷ rest) e has = raised_fares f rest (instance_of v) (omega (arith, e))

module _ (p : Parts) (c : Code) (l : Location) (f : Frame) (o : Origin) (below : List Call) (gens : List Generator) (its : List (List Value)) (w : Works p c Op.RaiseVarargs l f) (past : Past (generates p c) o f.index) (waiting : Waiting p o below) (idle : AllIdle p gens) where
  raises_again : (e : Option Exc) → Stays (effect_of Op.RaiseVarargs l.argument) f f → Moves p (spec.raises_again (view f o below gens its) e)
  raises_again None m = in_top_moves p c Op.RaiseVarargs l f o below w past waiting gens its (raises f f.stack (trouble 21)) idle m
  raises_again (Some x) m = in_top_moves p c Op.RaiseVarargs l f o below w past waiting gens its (ends f (Ending.Reraises x)) idle m

  raise_varargs : (n : ℕ) → l.argument ≡ n → n < 2 → Moves p (spec.raise_varargs (view f o below gens its) n f)
  raise_varargs zero e h =
      raises_again (handled_in (view f o below gens its).calls) (record { same = record { code = refl; locals = refl; line = refl }; index = refl; stack = omega arith; handling = omega arith })
  raise_varargs (suc zero) e h =
      let has : 1 ≤ length f.stack = omega (arith, e, (ready p c Op.RaiseVarargs l f w).takes) in
      in_top_moves p c Op.RaiseVarargs l f o below w past waiting gens its (raise_top f f.stack) idle (subst (λ (k : ℕ). Fares (effect_of Op.RaiseVarargs k) k f (raise_top f f.stack)) (sym e) (raise_top_fares f f.stack refl has))
  raise_varargs (suc (suc n)) e h = absurd (omega arith)

-- what a builtin gives leaves the frames as they are, but for the iterators
abbrev Leaves : Frame → Origin → List Call → List Generator → Given × FramesView → Type 0
Leaves f o below gens due = (its : List (List Value)) × (due.1 ≡ view f o below gens its)

module _ (f : Frame) (o : Origin) (below : List Call) (gens : List Generator) (its : List (List Value)) where
  next_at : (layer : Value-F Value Exc) → Leaves f o below gens (builtins.next_at (view f o below gens its) layer)
  next_at (Value-F.Iter number) = ((next_of (view f o below gens its) number).1.iterators, refl)
  next_at (Value-F.Gen number) = (its, refl)
  next_at _ = (its, refl)

  next_due : (args : List Value) → Leaves f o below gens (builtins.next_due (view f o below gens its) args)
  next_due [] = (its, refl)
  next_due (x ∷ []) = next_at (out-Value x)
  next_due (x ∷ y ∷ args) = (its, refl)

  over_leaves : (items : Option (List Value)) → Leaves f o below gens (builtins.iter_at (view f o below gens its) (over (view f o below gens its) items))
  over_leaves None = (its, refl)
  over_leaves (Some items) = (its ++ items ∷ [], refl)

  iterated_leaves : (x : Value) (layer : Value-F Value Exc) → Leaves f o below gens (builtins.iter_at (view f o below gens its) (iterated_at (view f o below gens its) x layer))
  iterated_leaves x (Value-F.Gen number) = (its, refl)
  iterated_leaves x (Value-F.Iter number) = (its, refl)
  iterated_leaves x _ = over_leaves (items_of x)

  iter_due : (args : List Value) → Leaves f o below gens (builtins.iter_due (view f o below gens its) args)
  iter_due [] = (its, refl)
  iter_due (x ∷ []) = iterated_leaves x (out-Value x)
  iter_due (x ∷ y ∷ args) = (its, refl)

  builtin_leaves : (number : ℕ) (args : List Value) (names : List (List ℕ)) → Leaves f o below gens (builtins.builtin_due number args names (view f o below gens its))
  builtin_leaves number args names =
      let v = view f o below gens its in
      let stays : (g : Given) → Leaves f o below gens (g, v) = λ g. (its, refl) in
      let L = Leaves f o below gens in
      let from9 = if number == 9 then builtins.next_due v args else builtins.iter_due v args in
      let at9 : L from9 = either L (number == 9) (builtins.next_due v args) (builtins.iter_due v args) (next_due args) (iter_due args) in
      let g0 = builtins.print_of names args in
      let g1 = builtins.given_by (builtins.len_of args) in
      let g2 = builtins.given_by (builtins.range_of args) in
      let g3 = builtins.given_by (builtins.text_due names args) in
      let g4 = builtins.given_by (builtins.int_of args) in
      let g5 = builtins.given_by (builtins.abs_of args) in
      let g6 = builtins.given_by (extreme CmpOp.Lt args) in
      let g7 = builtins.given_by (extreme CmpOp.Gt args) in
      let g8 = builtins.given_by (builtins.tuple_of args) in
      let from8 = if number == 8 then (g8, v) else from9 in
      let at8 : L from8 = either L (number == 8) (g8, v) from9 (stays g8) at9 in
      let from7 = if number == 7 then (g7, v) else from8 in
      let at7 : L from7 = either L (number == 7) (g7, v) from8 (stays g7) at8 in
      let from6 = if number == 6 then (g6, v) else from7 in
      let at6 : L from6 = either L (number == 6) (g6, v) from7 (stays g6) at7 in
      let from5 = if number == 5 then (g5, v) else from6 in
      let at5 : L from5 = either L (number == 5) (g5, v) from6 (stays g5) at6 in
      let from4 = if number == 4 then (g4, v) else from5 in
      let at4 : L from4 = either L (number == 4) (g4, v) from5 (stays g4) at5 in
      let from3 = if number == 3 then (g3, v) else from4 in
      let at3 : L from3 = either L (number == 3) (g3, v) from4 (stays g3) at4 in
      let from2 = if number == 2 then (g2, v) else from3 in
      let at2 : L from2 = either L (number == 2) (g2, v) from3 (stays g2) at3 in
      let from1 = if number == 1 then (g1, v) else from2 in
      let at1 : L from1 = either L (number == 1) (g1, v) from2 (stays g1) at2 in
      either L (number == 0) (g0, v) from1 (stays g0) at1

module _ (p : Parts) (c : Code) (l : Location) (f : Frame) (o : Origin) (below : List Call) (gens : List Generator) (its : List (List Value)) (w : Works p c Op.Call l f) (past : Past (generates p c) o f.index) (waiting : Waiting p o below) (idle : AllIdle p gens) (rest : List Value)
    (taken : length rest ≡ length f.stack - (1 + l.argument)) (has : 1 + l.argument ≤ length f.stack) where
  -- the frames after the operands are taken, and the top one of them
  abbrev top : Frame
  top = spec.with_stack f rest

  abbrev v : FramesView
  v = view top o below gens its

  answers : (gens' : List Generator) (its' : List (List Value)) (printed : List (List ℕ)) (x : Value) → AllIdle p gens' → Moves p (spec.answers (view top o below gens' its') top printed x)
  answers gens' its' printed x idle' =
      let m = in_top_moves p c Op.Call l f o below w past waiting gens' its' (goes_on f (x ∷ rest)) idle' (plain_goes (1 + l.argument) 1 l.argument f (x ∷ rest) (omega (arith, taken))) in
      record { generators = idle'; stands = m.stands; ancillary = λ e. cc }

  throws : (its' : List (List Value)) (x : Exc) → Moves p (spec.throws (view top o below gens its') x)
  throws its' x =
      let m = in_top_moves p c Op.Call l f o below w past waiting gens its' (ends (record f { stack = rest }) (Ending.Raises x)) idle
      (record { same = record { code = refl; locals = refl; line = refl }; index = refl; stack = omega (arith, taken); handling = omega arith }) in
      record { generators = idle; stands = m.stands; ancillary = λ e. cc }

  raises_call : (t : Trouble) → Moves p (spec.refuses v t)
  raises_call t = in_top_moves p c Op.Call l f o below w past waiting gens its (raises f rest t) idle (plain_raises (1 + l.argument) 1 l.argument f rest t (omega (arith, taken)))

  -- the frames wait for what is called
  waits : (its' : List (List Value)) (above : Origin) → op_below above ≡ Op.Call → Waiting p above (view top o below gens its').calls
  waits its' above is = (subst (λ (op : Op). Waits p op o top) (sym is) (waits_at p c l o f rest w past taken), waiting)

  -- a generator does not go on
  refused : (its' : List (List Value)) (r : ResumeFault) → Moves p (spec.throws_trouble (view top o below gens its') (spec.refusal r))
  refused its' fault.Running = throws its' (trouble_exc (trouble 9) [])
  refused its' fault.Finished = throws its' (trouble_exc (trouble 18) [])
  refused its' fault.NotNone = throws its' (trouble_exc (trouble 8) [])
  refused its' fault.Full = throws its' (trouble_exc (trouble 18) [])
  refused its' fault.Memory = throws its' (trouble_exc (trouble 18) [])

  resumes : (its' : List (List Value)) (r : Result FramesView ResumeFault) → Enters p (IsAt p) r → Moves p (spec.resumes (view top o below gens its') r)
  resumes its' (Ok w') enters = record { generators = enters.0; stands = enters.1; ancillary = tt }
  resumes its' (Err fault.Finished) enters = throws its' builtins.stop_iteration
  resumes its' (Err fault.Running) enters = refused its' fault.Running
  resumes its' (Err fault.NotNone) enters = refused its' fault.NotNone
  resumes its' (Err fault.Full) enters = refused its' fault.Full
  resumes its' (Err fault.Memory) enters = refused its' fault.Memory

  sends : (its' : List (List Value)) (builtin number : ℕ) (x : Value) (g : Generator) → slice_get gens number ≡ Some g → Moves p (spec.sends (view top o below gens its') builtin number x)
  sends its' builtin number x g found =
      resumes its' (generators.resumed (view top o below gens its') number x (by.Call builtin))
      (resumed_from p (view top o below gens its') number (by.Call builtin) idle (waits its' (Generated number (by.Call builtin)) refl) x g found)

  next_of_generator : (its' : List (List Value)) (number : ℕ) (g : Option Generator) → slice_get gens number ≡ g → Moves p (spec.next_of_generator (view top o below gens its') number g)
  next_of_generator its' number None found = throws its' (trouble_exc (trouble 6) [])
  next_of_generator its' number (Some g) found = sends its' spec.next_number number Nothing g found

  throws_in : (e : Exc) (r : Result FramesView ResumeFault) → Enters p (IsThrown p) r → Moves p (spec.throws_in v e r)
  throws_in e (Ok w') enters = record { generators = enters.0; stands = enters.1; ancillary = tt }
  throws_in e (Err fault.Finished) enters = throws its e
  throws_in e (Err fault.Running) enters = refused its fault.Running
  throws_in e (Err fault.NotNone) enters = refused its fault.NotNone
  throws_in e (Err fault.Full) enters = refused its fault.Full
  throws_in e (Err fault.Memory) enters = refused its fault.Memory

  throws_instance : (number : ℕ) (g : Generator) (r : Result Exc Trouble) → slice_get gens number ≡ Some g → Moves p (spec.throws_instance v number r)
  throws_instance number g (Err t) found = throws its (trouble_exc t [])
  throws_instance number g (Ok e) found =
      let throwing = by.Call spec.throw_number in
      throws_in e (generators.entered v number throwing) (entered_from p v number throwing idle (waits its (Generated number throwing) refl) g found)

  abbrev closing : By
  closing = by.Call generators.close_number

  -- a generator that waits is entered to be closed
  closes_entered : (r : Result FramesView ResumeFault) → Enters p (IsThrown p) r → Moves p (spec.closes v top (generators.entered_to_close r))
  closes_entered (Ok w') enters = record { generators = enters.0; stands = enters.1; ancillary = tt }
  closes_entered (Err r) enters = refused its r

  closes_in : (number : ℕ) (g : Generator) → Idle p g → Moves p (spec.closes v top (generators.closed_in v number (Some g)))
  closes_in number (NotStarted frame) rests = answers (slice_set gens number Finished) its [] Nothing (idle_set p gens number Finished idle tt)
  closes_in number (Suspended frame) rests =
      closes_entered (generators.running v number closing frame)
      (running_enters p v number closing idle (waits its (Generated number closing) refl) (IsThrown p) frame (rest_throws p number closing frame rests))
  closes_in number Running rests = refused its fault.Running
  closes_in number Finished rests = answers gens its [] Nothing idle

  send : (number : ℕ) (g : Generator) (args : List Value) → slice_get gens number ≡ Some g → Moves p (spec.send v number args)
  send number g [] found = throws its (trouble_exc (trouble 5) [])
  send number g (x ∷ []) found = sends its spec.send_number number x g found
  send number g (x ∷ y ∷ args) found = throws its (trouble_exc (trouble 5) [])

  throw : (number : ℕ) (g : Generator) (args : List Value) → slice_get gens number ≡ Some g → Moves p (spec.throw v number args)
  throw number g [] found = throws its (trouble_exc (trouble 5) [])
  throw number g (x ∷ []) found = throws_instance number g (instance_of x) found
  throw number g (x ∷ y ∷ args) found = throws its (trouble_exc (trouble 5) [])

  close : (number : ℕ) (g : Generator) (args : List Value) → slice_get gens number ≡ Some g → Moves p (spec.close v top number args)
  close number g [] found = subst (λ (y : Option Generator). Moves p (spec.closes v top (generators.closed_in v number y))) (sym found) (closes_in number g (idle_at p gens number g idle found))
  close number g (x ∷ args) found = throws its (trouble_exc (trouble 5) [])

  method_of : (method number : ℕ) (g : Generator) (args : List Value) → slice_get gens number ≡ Some g → Moves p (spec.method_of v top method number args)
  method_of method number g args found =
      let closed = spec.close v top number args in
      let rest = if method == spec.throw_number then spec.throw v number args else closed in
      either (Moves p) (method == spec.send_number) (spec.send v number args) rest (send number g args found)
      (either (Moves p) (method == spec.throw_number) (spec.throw v number args) closed (throw number g args found) (close number g args found))

  -- a generator that an argument is has the pool's number
  abbrev Has : Option ℕ → Type 0
  Has None = Unit {0}
  Has (Some number) = (g : Generator) × (slice_get gens number ≡ Some g)

  generator_at : (layer : Value-F Value Exc) → Has (spec.generator_at v layer)
  generator_at (Value-F.Gen number) = pick (slice_get gens number) refl
    where
      pick : (g : Option Generator) → slice_get gens number ≡ g → Has (spec.numbered number g)
      pick None found = tt
      pick (Some g) found = (g, found)
  generator_at _ = tt

  first_generator : (args : List Value) → Has (spec.first_generator v args)
  first_generator [] = tt
  first_generator (x ∷ args) = generator_at (out-Value x)

  method_on : (method : ℕ) (number : Option ℕ) (args : List Value) → Has number → Moves p (spec.method_on v top method number args)
  method_on method None args has' = throws its (trouble_exc (trouble 20) [])
  method_on method (Some number) args has' = method_of method number has'.0 args has'.1

  enters : (k : ℕ) (d : Code) (args : List Value) (room : Bool) → slice_get p.codes k ≡ Some d → IsCode p.bases d → length args ≡ d.parameters
      → Moves p (spec.enters v (if room then Ok (on_top v (called d k args) Plain) else Err Full))
  enters k d args true found is count =
      record { generators = idle; stands = (called_at p d k args found is count, waits its Plain refl); ancillary = tt }
  enters k d args false found is count = raises_call (trouble 18)

  calls_code : (k : ℕ) (d : Option Code) (args : List Value) → IsChecked p → slice_get p.codes k ≡ d → Moves p (spec.calls_code p v args k d)
  calls_code k None args checked found = throws its (trouble_exc (trouble 4) [])
  calls_code k (Some d) args checked found = pick (length args == d.parameters) refl
    where
      pick : (b : Bool) → (length args == d.parameters) ≡ b
          → Moves p (if b then spec.enters v (pushed_in v (slice_get p.codes k) k args) else spec.refuses v (trouble 5))
      pick true is =
          let count : length args ≡ d.parameters = grind (arith, nat_tests) in
          subst (λ (x : Option Code). Moves p (spec.enters v (pushed_in v x k args))) (sym found) (enters k d args (has_room v.calls) found (checked_code p k d checked found) count)
      pick false is = raises_call (trouble 5)

  as_answer : (r : Result Exc Trouble) → Moves p (spec.as_answer v top r)
  as_answer (Ok x) = answers gens its [] (Raised-value x) idle
  as_answer (Err t) = throws its (trouble_exc t [])

  calls_class : (class : ℕ) (args : List Value) → Moves p (spec.calls_class v top class args)
  calls_class class [] = as_answer (made_exc (exc_of class None))
  calls_class class (x ∷ []) = as_answer (made_exc (exc_of class (Some x)))
  calls_class class (x ∷ y ∷ args) = throws its (trouble_exc (trouble 5) [])

  given_moves : (g : Given) (its' : List (List Value)) → Moves p (spec.given_move top g (view top o below gens its'))
  given_moves (given.Value x) its' = answers gens its' [] x idle
  given_moves (given.Printed text) its' = answers gens its' (text ∷ []) Nothing idle
  given_moves (given.Raised e) its' = throws its' e
  given_moves (given.Next number) its' = next_of_generator its' number (slice_get gens number) refl

  due_moves : (due : Given × FramesView) → Leaves top o below gens due → Moves p (spec.given_move top due.0 due.1)
  due_moves due leaves = subst (λ (u : FramesView). Moves p (spec.given_move top due.0 u)) (sym leaves.1) (given_moves due.0 leaves.0)

  calls_builtin : (number : ℕ) (args : List Value) → Moves p (spec.calls_builtin p v top number args)
  calls_builtin number args =
      let due = builtins.builtin_due number args p.names v in
      let named = spec.given_move top due.0 due.1 in
      let method = spec.method_on v top number (spec.first_generator v args) (drop 1 args) in
      let no = spec.throws_trouble v (trouble 4) in
      let on_method : Moves p method = method_on number (spec.first_generator v args) (drop 1 args) (first_generator args) in
      either (Moves p) (nat_lt number spec.named_builtins) named (if nat_lt number 14 then method else no) (due_moves due (builtin_leaves top o below gens its number args p.names))
      (either (Moves p) (nat_lt number 14) method no on_method (throws its (trouble_exc (trouble 4) [])))

  calls_at : (args : List Value) (layer : Value-F Value Exc) → IsChecked p → Moves p (spec.calls_at p v top args layer)
  calls_at args (Value-F.Function k) checked = calls_code k (slice_get p.codes k) args checked refl
  calls_at args (Value-F.Builtin number) checked = calls_builtin number args
  calls_at args (Value-F.ExcClass class) checked = calls_class class args
  calls_at args _ checked = throws its (trouble_exc (trouble 4) [])

module _ (p : Parts) (c : Code) (l : Location) (f : Frame) (o : Origin) (below : List Call) (gens : List Generator) (its : List (List Value)) (waiting : Waiting p o below) (idle : AllIdle p gens) where
  call : Works p c Op.Call l f → Past (generates p c) o f.index → IsChecked p → Moves p (spec.call p (view f o below gens its) l.argument f)
  call w past checked =
      let n : ℕ = l.argument in
      let has : 1 + n ≤ length f.stack = (ready p c Op.Call l f w).takes in
      let callee = element f.stack n (omega (arith, has)) in
      let taken : length (spec.below_in n f.stack) ≡ length f.stack - (1 + n) = omega (arith, length-drop (n + 1) f.stack) in
      subst (λ (x : Option Value). Moves p (spec.calls_found p (view f o below gens its) n f x)) (sym callee.1)
      (calls_at p c l f o below gens its w past waiting idle (spec.below_in n f.stack) taken has (spec.args_in n f.stack) (out-Value callee.0) checked)

  return_value : (stack : List Value) → 1 ≤ length stack → Moves p (spec.return_value (view f o below gens its) f stack)
  return_value [] has = absurd (omega arith)
  return_value (x ∷ rest) has = record { generators = idle; stands = (tt, waiting); ancillary = tt }

  -- a frame that was called plainly becomes a generator at the beginning of its code alone
  parks : Works p c Op.ReturnGenerator l f → (o' : Origin) → Comes (generates p c) o' f.index → IsPlain o'
  parks w Plain comes = tt
  parks w (Generated number by) comes = let first : f.index ≡ 0 = w.known.stands in absurd (omega (arith, first, comes))

  -- and a generator's frame alone yields
  yields : Works p c Op.YieldValue l f → (o' : Origin) → Past (generates p c) o' f.index → IsGenerated o'
  yields w Plain past = let makes : IsTrue (generates p c) = w.known.stands in let no : false ≡ true = subst IsTrue past makes in cc
  yields w (Generated number by) past = tt

  yield_value : Works p c Op.YieldValue l f → Past (generates p c) o f.index → (stack : List Value) → length f.stack ≡ length stack → 1 ≤ length stack → Moves p (spec.yield_value (view f o below gens its) f stack)
  yield_value w past [] e has = absurd (omega arith)
  yield_value w past (x ∷ rest) e has = record { generators = idle; stands = ((yields w o past, yields_at p c l f rest w (omega (arith, e))), waiting); ancillary = tt }

  return_generator : Works p c Op.ReturnGenerator l f → Comes (generates p c) o f.index → Moves p (spec.return_generator (view f o below gens its) f)
  return_generator w comes = record { generators = idle; stands = ((parks w o comes, parks_at p c l f w), waiting); ancillary = tt }

  -- an opcode that does not work on its own frame alone
  abbrev Wide : Option FrameMove → Type 0
  Wide None = Unit {0}
  Wide (Some m) = ⊥

  past_at : (op : Op) → Works p c op l f → begins_generator (Some op) ≡ false → Comes (generates p c) o f.index → Past (generates p c) o f.index
  past_at op w other comes = past_of p c op o f.index w.has_op other comes

  move_moves : (op : Op) → Works p c op l f → IsChecked p → Comes (generates p c) o f.index → Wide (operation p c op l.argument f) → Moves p (spec.move_of p op l.argument f (view f o below gens its))
  move_moves Op.GetIter w checked comes h = get_iter p c l f o below gens its w (past_at Op.GetIter w refl comes) waiting idle f.stack refl (ready p c Op.GetIter l f w).takes
  move_moves Op.ForIter w checked comes h = for_iter p c l f o below gens its w (past_at Op.ForIter w refl comes) waiting idle f.stack refl (ready p c Op.ForIter l f w).takes
  move_moves Op.RaiseVarargs w checked comes h = raise_varargs p c l f o below gens its w (past_at Op.RaiseVarargs w refl comes) waiting idle l.argument refl w.known.argument
  move_moves Op.Call w checked comes h = call w (past_at Op.Call w refl comes) checked
  move_moves Op.ReturnValue w checked comes h = return_value f.stack (ready p c Op.ReturnValue l f w).takes
  move_moves Op.ReturnGenerator w checked comes h = return_generator w comes
  move_moves Op.YieldValue w checked comes h = yield_value w (past_at Op.YieldValue w refl comes) f.stack refl (ready p c Op.YieldValue l f w).takes
  move_moves _ w checked comes h = absurd h

  -- an opcode that works on its own frame alone makes no generator
  Narrow : Op → Option FrameMove → Type 0
  Narrow op None = Unit {0}
  Narrow op (Some m) = begins_generator (Some op) ≡ false

  narrow : (op : Op) → Narrow op (operation p c op l.argument f)
  unfolding Narrow
  narrow Op.ReturnGenerator = tt
  narrow Op.YieldValue = tt
  narrow Op.GetIter = tt
  narrow Op.ForIter = tt
  narrow Op.RaiseVarargs = tt
  narrow Op.Call = tt
  narrow Op.ReturnValue = tt
  narrow _ = refl

  -- what an instruction makes of the frames
  pub effect_moves : (op : Op) → Works p c op l f → IsChecked p → Comes (generates p c) o f.index → Moves p (spec.effect p c op l.argument f (view f o below gens its))
  unfolding Narrow
  effect_moves op w checked comes =
      pick (operation p c op l.argument f) (operation_fares p c op l.argument f (ready p c op l f w) w.known.argument w.is_of.locals) (narrow op) (move_moves op w checked comes)
    where
      pick : (m : Option FrameMove) → FaresIf (effect_of op l.argument) l.argument f m → Narrow op m → (Wide m → Moves p (spec.move_of p op l.argument f (view f o below gens its))) → Moves p (spec.operated p op l.argument f (view f o below gens its) m)
      pick None fares other wide = wide tt
      pick (Some m) fares other wide = in_top_moves p c op l f o below w (past_at op w other comes) waiting gens its m idle fares
