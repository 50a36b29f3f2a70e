-- How the frames of a thread stand: the top one before an instruction or where an exception was raised, the others in calls.
use Rattle.std.proofs.Common.{◌≡◌, ℕ, zero, suc, ◌+◌, ◌-◌, ◌<◌, ◌≤◌, Bool, true, false, ◌⊎◌, inl, inr, List, [], ◌∷◌, length, map, replicate, refl, sym, ap, subst, ◌∙◌, arith, length-append, length-drop}
use Rattle.std.specs.Prelude.{Option, Some, None, slice_get, slice_set}
use Rattle.std.specs.List.{AllByRecursion}
use Rattle.std.proofs.lemmas.Option.{same_Some, none-some}
use Rattle.std.proofs.lemmas.List.{length-map, length-replicate}
use Rattle.mon_values.specs.declared.value.Value.{Value, Exc as Raised-value}
use Rattle.mon_values.specs.declared.value.Exc.{Exc}
use Rattle.mon_events.specs.declared.op.Op.{Op}
use Rattle.mon_code.specs.declared.program.Code.{Code}
use Rattle.mon_code.specs.declared.program.Handler.{Handler}
use Rattle.mon_code.specs.declared.program.Location.{Location}
use Rattle.mon_code.specs.Programs.{Parts, op_at, location_at, handler_at}
use Rattle.mon_code.specs.Checked.{IsCode, IsLocation, is_target, table_of, begins_generator}
use Rattle.mon_code.specs.Depths.{Table, Records, Lands, LandsIf, Catches}
use Rattle.mon_code.specs.Effects.{Effect, effect_of}
use Rattle.mon_frames.specs.declared.frame.Frame.{Frame}
use Rattle.mon_frames.specs.declared.call.By.{By}
use Rattle.mon_frames.specs.declared.call.By.TheVariants as by
use Rattle.mon_frames.specs.declared.call.Call.{Call}
use Rattle.mon_frames.specs.declared.generator.Generator.{Generator}
use Rattle.mon_frames.specs.declared.generator.Generator.TheVariants.{NotStarted, Suspended, Running, Finished}
use Rattle.mon_frames.specs.declared.call.Origin.{Origin}
use Rattle.mon_frames.specs.declared.call.Origin.TheVariants.{Plain, Generator as Generated}
use Rattle.mon_frames.specs.Calls.{called}
use Rattle.mon_frames.specs.Items.{lowest}
use Rattle.mon_frames.specs.Generators.{sent_to}
use Rattle.mon_frames.specs.Views.{FramesView}
use Rattle.mon_recorders.specs.declared.report.Outcome.{Outcome}
use Rattle.mon_machine.specs.declared.mode.Mode.{Mode}
use Rattle.mon_machine.specs.State.{State}
use Rattle.mon_machine.specs.Step.{caught_in}
use Rattle.mon_machine.proofs.Depths.{Same, Goes, Jumps, Stays, Ready}
use Rattle.mon_machine.proofs.Fitting.{line_before, line_before_next, target_at, caught_at, FoundAt, found_at}

-- the last line is that of the instruction before, where this has one
abbrev pub Follows : Option (Option ℕ) → Option ℕ → Type 0
Follows None last = Unit {0}
Follows (Some None) last = Unit {0}
Follows (Some (Some line)) last = last ≡ Some line

-- a frame is one of this code
pub record IsOf (p : Parts) (c : Code) (f : Frame) : Type 0 where
  pub found : slice_get p.codes f.code ≡ Some c
  pub locals : length f.locals ≡ length c.locals

-- a code begins as that of a generator
abbrev pub generates : Parts → Code → Bool
generates p c = begins_generator (op_at p.bases c.first 0)

-- a frame that was called plainly is at the beginning of its code, or its code makes no generator; a generator's frame is past
-- the beginning
abbrev pub Comes : Bool → Origin → ℕ → Type 0
Comes generates Plain at = (at ≡ 0) ⊎ (generates ≡ false)
Comes generates (Generated number by) at = 0 < at

-- the same, where no generator is made any more
abbrev pub Past : Bool → Origin → ℕ → Type 0
Past generates Plain at = generates ≡ false
Past generates (Generated number by) at = 0 < at

-- it is before an instruction
pub record IsAt (p : Parts) (o : Origin) (f : Frame) : Type 0 where
  pub code : Code
  pub is_of : IsOf p code f
  pub depth : Records (table_of code.locations) f.index (length f.stack) (length f.handling)
  pub line : (is_target p.bases code.first 0 code.locations f.index ≡ true) ⊎ Follows (line_before None code.locations f.index) f.line
  pub comes : Comes (generates p code) o f.index

-- an exception was raised at its instruction
pub record IsThrown (p : Parts) (o : Origin) (f : Frame) : Type 0 where
  pub code : Code
  pub is_of : IsOf p code f
  pub location : Location
  pub stands : location_at code f.index ≡ Some location
  pub caught : Catches (table_of code.locations) location.handler (length f.stack) (length f.handling)
  pub past : Past (generates p code) o f.index

-- its instruction, which has this opcode, made a call that goes on: it gets a value, or an exception
pub record Waits (p : Parts) (op : Op) (o : Origin) (f : Frame) : Type 0 where
  pub code : Code
  pub is_of : IsOf p code f
  pub location : Location
  pub stands : location_at code f.index ≡ Some location
  pub has_op : op_at p.bases code.first f.index ≡ Some op
  pub next : Records (table_of code.locations) (f.index + 1) (1 + length f.stack) (length f.handling)
  pub caught : Catches (table_of code.locations) location.handler (length f.stack) (length f.handling)
  pub line : Follows (Some location.line) f.line
  pub past : Past (generates p code) o f.index

-- it is a generator's, and waits behind its `yield` or its beginning: it gets a value, or an exception
pub record Rests (p : Parts) (f : Frame) : Type 0 where
  pub code : Code
  pub is_of : IsOf p code f
  pub location : Location
  pub stands : location_at code f.index ≡ Some location
  pub next : Records (table_of code.locations) f.index (1 + length f.stack) (length f.handling)
  pub caught : Catches (table_of code.locations) location.handler (length f.stack) (length f.handling)
  pub line : (is_target p.bases code.first 0 code.locations f.index ≡ true) ⊎ Follows (line_before None code.locations f.index) f.line
  pub past : 0 < f.index

-- the opcode with which a frame of this origin was called
abbrev pub op_below : Origin → Op
op_below Plain = Op.Call
op_below (Generated number by.For) = Op.ForIter
op_below (Generated number (by.Call builtin)) = Op.Call

-- the frames below one of this origin wait, each at the instruction that called the next
abbrev pub Waiting : Parts → Origin → List Call → Type 0
Waiting p above [] = Unit {0}
Waiting p above (call ∷ calls) = Waits p (op_below above) call.origin call.frame × Waiting p call.origin calls

-- the top frame is such, and the others wait
abbrev pub HasTop : Parts → (Origin → Frame → Type 0) → List Call → Type 0
HasTop p Is [] = ⊥
HasTop p Is (call ∷ calls) = Is call.origin call.frame × Waiting p call.origin calls

-- a thread that has ended has an outcome of its own
abbrev pub IsOwn : Outcome → Type 0
IsOwn (Outcome.Returned x) = Unit {0}
IsOwn (Outcome.Raised e) = Unit {0}
IsOwn Outcome.Limit = ⊥

abbrev pub IsIn : Parts → FramesView → Mode → Type 0
IsIn p v Mode.Run = HasTop p (IsAt p) v.calls
IsIn p v (Mode.Unwind e) = HasTop p (IsThrown p) v.calls
IsIn p v (Mode.Finish a) = HasTop p (Waits p Op.Call) v.calls
IsIn p v (Mode.Ended outcome) = IsOwn outcome
IsIn p v Mode.Stuck = ⊥

-- a generator that is not on the call stack
abbrev pub Idle : Parts → Generator → Type 0
Idle p (NotStarted f) = Rests p f
Idle p (Suspended f) = Rests p f
Idle p Running = Unit {0}
Idle p Finished = Unit {0}

abbrev pub AllIdle : Parts → List Generator → Type 0
AllIdle p generators = AllByRecursion (Idle p) generators

-- the states of a thread
pub record Keeps (p : Parts) (s : State) : Type 0 where
  pub generators : AllIdle p s.frames.generators
  pub stands : IsIn p s.frames s.mode

-- one of the generators, and another one in its place
pub idle_at : (p : Parts) (gens : List Generator) (number : ℕ) (g : Generator) → AllIdle p gens → slice_get gens number ≡ Some g → Idle p g
idle_at p [] number g all e = absurd (none-some g e)
idle_at p (x ∷ gens) zero g all e = subst (λ (y : Generator). Idle p y) (same_Some x g e) all.0
idle_at p (x ∷ gens) (suc number) g all e = idle_at p gens number g all.1 e

pub idle_set : (p : Parts) (gens : List Generator) (number : ℕ) (g : Generator) → AllIdle p gens → Idle p g → AllIdle p (slice_set gens number g)
idle_set p [] number g all idle = tt
idle_set p (x ∷ gens) zero g all idle = (idle, all.1)
idle_set p (x ∷ gens) (suc number) g all idle = (all.0, idle_set p gens number g all.1 idle)

-- a frame goes on to an index that is not the first
comes_on : (generates : Bool) (o : Origin) (at to : ℕ) → Past generates o at → 0 < to → Comes generates o to
comes_on generates Plain at to past h = inr past
comes_on generates (Generated number by) at to past h = h

past_same : (generates : Bool) (o : Origin) (at to : ℕ) → Past generates o at → to ≡ at → Past generates o to
past_same generates o at to past e = subst (λ (n : ℕ). Past generates o n) (sym e) past

-- where it executes anything but RETURN_GENERATOR, none is made any more
pub past_of : (p : Parts) (c : Code) (op : Op) (o : Origin) (at : ℕ) → op_at p.bases c.first at ≡ Some op → begins_generator (Some op) ≡ false → Comes (generates p c) o at → Past (generates p c) o at
past_of p c op Plain at has other (inl first) =
    ap (λ (n : ℕ). begins_generator (op_at p.bases c.first n)) (sym first) ∙ ap begins_generator has ∙ other
past_of p c op Plain at has other (inr none) = none
past_of p c op (Generated number by) at has other comes = comes

-- a frame whose instruction is executed, its line being taken
pub record Works (p : Parts) (c : Code) (op : Op) (l : Location) (f : Frame) : Type 0 where
  pub is_of : IsOf p c f
  pub stands : location_at c f.index ≡ Some l
  pub has_op : op_at p.bases c.first f.index ≡ Some op
  pub known : IsLocation p.bases c f.index (line_before None c.locations f.index) op l
  pub stack : length f.stack ≡ l.stack
  pub handling : length f.handling ≡ l.handling
  pub line : Follows (Some l.line) f.line

pub ready : (p : Parts) (c : Code) (op : Op) (l : Location) (f : Frame) → Works p c op l f → Ready (effect_of op l.argument) f
ready p c op l f w = record { takes = omega (arith, w.stack, w.known.fits.has); drops = omega (arith, w.handling, w.known.fits.holds) }

same_of : (p : Parts) (c : Code) (f g : Frame) → IsOf p c f → Same f g → IsOf p c g
same_of p c f g i s = record { found = ap (λ (n : ℕ). slice_get p.codes n) s.code ∙ i.found; locals = s.locals ∙ i.locals }

-- depths that are recorded are those of a frame
recorded : (t : Table) (at at' stack stack' handling handling' : ℕ) → Records t at stack handling → at' ≡ at → stack' ≡ stack → handling' ≡ handling → Records t at' stack' handling'
recorded t at at' stack stack' handling handling' r a s h =
    subst (λ (n : ℕ). Records t n stack' handling') (sym a) (subst (λ (n : ℕ). Records t at n handling') (sym s) (subst (λ (n : ℕ). Records t at stack n) (sym h) r))

-- a handler that has enough of what it keeps has it of more
catches_more : (t : Table) (handler : Option Handler) (stack stack' handling handling' : ℕ) → Catches t handler stack handling → stack ≤ stack' → handling ≤ handling' → Catches t handler stack' handling'
catches_more t None stack stack' handling handling' c s h = tt
catches_more t (Some handler) stack stack' handling handling' c s h =
    let values : handler.stack ≤ stack' = omega (arith, c.1, s) in
    let exceptions : handler.handling ≤ handling' = omega (arith, c.2, h) in
    (c.0, values, exceptions)

-- behind an instruction
follows_next : (c : Code) (i at : ℕ) (l : Location) (line : Option ℕ) → location_at c i ≡ Some l → at ≡ i + 1 → Follows (Some l.line) line → Follows (line_before None c.locations at) line
follows_next c i at l line stands there follows =
    let before : line_before None c.locations at ≡ Some l.line = ap (λ (n : ℕ). line_before None c.locations n) there ∙ line_before_next None c.locations i l stands in
    subst (λ (o : Option (Option ℕ)). Follows o line) (sym before) follows

pub goes_at : (p : Parts) (c : Code) (op : Op) (l : Location) (o : Origin) (f g : Frame) → Works p c op l f → Past (generates p c) o f.index → Goes (effect_of op l.argument) f g → IsAt p o g
goes_at p c op l o f g w past m =
    let e : Effect = effect_of op l.argument in
    record {
      code = c;
      is_of = same_of p c f g w.is_of m.arrives.same;
      depth = recorded (table_of c.locations) (f.index + 1) g.index (e.puts + (l.stack - e.takes)) (length g.stack) (e.adds + (l.handling - e.drops)) (length g.handling) (w.known.fits.next m.may) m.arrives.index
          (m.arrives.stack ∙ ap (λ (n : ℕ). e.puts + (n - e.takes)) w.stack) (m.arrives.handling ∙ ap (λ (n : ℕ). e.adds + (n - e.drops)) w.handling);
      line = inr (follows_next c f.index g.index l g.line w.stands m.arrives.index (subst (λ (o : Option ℕ). Follows (Some l.line) o) (sym m.arrives.same.line) w.line));
      comes = comes_on (generates p c) o f.index g.index past (omega (arith, m.arrives.index));
    }

lands : (t : Table) (b : Bool) (to stack handling : ℕ) → b ≡ true → LandsIf t b to stack handling → Lands t to stack handling
lands t true to stack handling e l = l
lands t false to stack handling e l = absurd cc

pub jumps_at : (p : Parts) (c : Code) (op : Op) (l : Location) (o : Origin) (f g : Frame) → Works p c op l f → Past (generates p c) o f.index → Jumps (effect_of op l.argument) l.argument f g → IsAt p o g
jumps_at p c op l o f g w past m =
    let e : Effect = effect_of op l.argument in
    let lands_there : Lands (table_of c.locations) l.argument (e.carries + (l.stack - e.takes)) (e.adds + (l.handling - e.drops))
    = lands (table_of c.locations) e.jumps l.argument (e.carries + (l.stack - e.takes)) (e.adds + (l.handling - e.drops)) m.may w.known.fits.jumps in
    record {
      code = c;
      is_of = same_of p c f g w.is_of m.arrives.same;
      depth = recorded (table_of c.locations) l.argument g.index (e.carries + (l.stack - e.takes)) (length g.stack) (e.adds + (l.handling - e.drops)) (length g.handling)
          lands_there.1 m.arrives.index
          (m.arrives.stack ∙ ap (λ (n : ℕ). e.carries + (n - e.takes)) w.stack) (m.arrives.handling ∙ ap (λ (n : ℕ). e.adds + (n - e.drops)) w.handling);
      line = inl (ap (λ (n : ℕ). is_target p.bases c.first 0 c.locations n) m.arrives.index ∙ target_at p.bases c f.index l op w.stands w.has_op m.may);
      comes = comes_on (generates p c) o f.index g.index past (omega (arith, m.arrives.index, lands_there.0));
    }

pub stays_at : (p : Parts) (c : Code) (op : Op) (l : Location) (o : Origin) (f g : Frame) → Works p c op l f → Past (generates p c) o f.index → Stays (effect_of op l.argument) f g → IsThrown p o g
stays_at p c op l o f g w past m =
    let e : Effect = effect_of op l.argument in
    record {
      code = c;
      is_of = same_of p c f g w.is_of m.same;
      location = l;
      stands = ap (λ (n : ℕ). location_at c n) m.index ∙ w.stands;
      caught = catches_more (table_of c.locations) l.handler (l.stack - e.takes) (length g.stack) (l.handling - e.drops) (length g.handling) w.known.fits.caught (omega (arith, m.stack, w.stack)) (omega (arith, m.handling, w.handling));
      past = past_same (generates p c) o f.index g.index past m.index;
    }

-- a call, its operands being taken
pub waits_at : (p : Parts) (c : Code) (l : Location) (o : Origin) (f : Frame) (rest : List Value) → Works p c Op.Call l f → Past (generates p c) o f.index → length rest ≡ length f.stack - (1 + l.argument) → Waits p Op.Call o (record f { stack = rest })
waits_at p c l o f rest w past e =
    let left : l.stack - (1 + l.argument) ≡ length rest = omega (arith, e, w.stack) in
    let held : l.handling - 0 ≡ length f.handling = omega (arith, w.handling) in
    record {
      code = c;
      is_of = record { found = w.is_of.found; locals = w.is_of.locals };
      location = l;
      stands = w.stands;
      has_op = w.has_op;
      next = recorded (table_of c.locations) (f.index + 1) (f.index + 1) (1 + (l.stack - (1 + l.argument))) (1 + length rest) (0 + (l.handling - 0)) (length f.handling) (w.known.fits.next refl) refl (omega (arith, left)) (omega (arith, held));
      caught = catches_more (table_of c.locations) l.handler (l.stack - (1 + l.argument)) (length rest) (l.handling - 0) (length f.handling) w.known.fits.caught (omega (arith, left)) (omega (arith, held));
      line = w.line;
      past = past;
    }

-- a loop over a generator, which stays on the stack
pub loops_at : (p : Parts) (c : Code) (l : Location) (o : Origin) (f : Frame) → Works p c Op.ForIter l f → Past (generates p c) o f.index → 1 ≤ length f.stack → Waits p Op.ForIter o f
loops_at p c l o f w past has =
    let values : length f.stack ≡ l.stack = w.stack in
    let held : l.handling - 0 ≡ length f.handling = omega (arith, w.handling) in
    record {
      code = c;
      is_of = w.is_of;
      location = l;
      stands = w.stands;
      has_op = w.has_op;
      next = recorded (table_of c.locations) (f.index + 1) (f.index + 1) (2 + (l.stack - 1)) (1 + length f.stack) (0 + (l.handling - 0)) (length f.handling) (w.known.fits.next refl) refl (omega (arith, values, has)) (omega (arith, held));
      caught = catches_more (table_of c.locations) l.handler (l.stack - 1) (length f.stack) (l.handling - 0) (length f.handling) w.known.fits.caught (omega (arith, values)) (omega (arith, held));
      line = w.line;
      past = past;
    }

-- a generator's frame behind an instruction that lets it wait
rests_behind : (p : Parts) (c : Code) (op : Op) (l : Location) (f g : Frame) → Works p c op l f → handler_at (location_at c (f.index + 1)) ≡ l.handler → Same f g → g.index ≡ f.index + 1
    → Records (table_of c.locations) (f.index + 1) (1 + length g.stack) (length g.handling) → Catches (table_of c.locations) l.handler (length g.stack) (length g.handling) → Rests p g
rests_behind p c op l f g w same_handler same there next caught =
    let place : FoundAt c (f.index + 1) (1 + length g.stack) (length g.handling) = found_at c (f.index + 1) (1 + length g.stack) (length g.handling) next in
    let handler : l.handler ≡ place.location.handler = sym same_handler ∙ ap handler_at place.stands in
    record {
      code = c;
      is_of = same_of p c f g w.is_of same;
      location = place.location;
      stands = ap (λ (n : ℕ). location_at c n) there ∙ place.stands;
      next = subst (λ (n : ℕ). Records (table_of c.locations) n (1 + length g.stack) (length g.handling)) (sym there) next;
      caught = subst (λ (h : Option Handler). Catches (table_of c.locations) h (length g.stack) (length g.handling)) handler caught;
      line = inr (follows_next c f.index g.index l g.line w.stands there (subst (λ (o : Option ℕ). Follows (Some l.line) o) (sym same.line) w.line));
      past = omega (arith, there);
    }

pub yields_at : (p : Parts) (c : Code) (l : Location) (f : Frame) (rest : List Value) → Works p c Op.YieldValue l f → length f.stack ≡ 1 + length rest → Rests p (record f { index = f.index + 1; stack = rest })
yields_at p c l f rest w e =
    let g : Frame = record f { index = f.index + 1; stack = rest } in
    let left : l.stack - 1 ≡ length rest = omega (arith, e, w.stack) in
    let held : l.handling - 0 ≡ length f.handling = omega (arith, w.handling) in
    rests_behind p c Op.YieldValue l f g w (w.known.behind refl) (record { code = refl; locals = refl; line = refl }) refl
    (recorded (table_of c.locations) (f.index + 1) (f.index + 1) (1 + (l.stack - 1)) (1 + length rest) (0 + (l.handling - 0)) (length f.handling) (w.known.fits.next refl) refl (omega (arith, left)) (omega (arith, held)))
    (catches_more (table_of c.locations) l.handler (l.stack - 1) (length rest) (l.handling - 0) (length f.handling) w.known.fits.caught (omega (arith, left)) (omega (arith, held)))

pub parks_at : (p : Parts) (c : Code) (l : Location) (f : Frame) → Works p c Op.ReturnGenerator l f → Rests p (record f { index = 1 })
parks_at p c l f w =
    let g : Frame = record f { index = 1 } in
    let first : f.index ≡ 0 = w.known.stands in
    let values : l.stack - 0 ≡ length f.stack = omega (arith, w.stack) in
    let held : l.handling - 0 ≡ length f.handling = omega (arith, w.handling) in
    rests_behind p c Op.ReturnGenerator l f g w (w.known.behind refl) (record { code = refl; locals = refl; line = refl }) (omega (arith, first))
    (recorded (table_of c.locations) (f.index + 1) (f.index + 1) (1 + (l.stack - 0)) (1 + length f.stack) (0 + (l.handling - 0)) (length f.handling) (w.known.fits.next refl) refl (omega (arith, values)) (omega (arith, held)))
    (catches_more (table_of c.locations) l.handler (l.stack - 0) (length f.stack) (l.handling - 0) (length f.handling) w.known.fits.caught (omega (arith, values)) (omega (arith, held)))

-- it gets a value
pub rest_gets : (p : Parts) (number : ℕ) (by : By) (f : Frame) (x : Value) → Rests p f → IsAt p (Generated number by) (sent_to f x)
rest_gets p number by f x r = record {
  code = r.code;
  is_of = record { found = r.is_of.found; locals = r.is_of.locals };
  depth = recorded (table_of r.code.locations) f.index f.index (1 + length f.stack) (length (x ∷ f.stack)) (length f.handling) (length f.handling) r.next refl (omega arith) refl;
  line = r.line;
  comes = r.past;
}

-- or an exception
pub rest_throws : (p : Parts) (number : ℕ) (by : By) (f : Frame) → Rests p f → IsThrown p (Generated number by) f
rest_throws p number by f r = record { code = r.code; is_of = r.is_of; location = r.location; stands = r.stands; caught = r.caught; past = r.past }

-- a code that is called begins
pub called_at : (p : Parts) (c : Code) (k : ℕ) (args : List Value) → slice_get p.codes k ≡ Some c → IsCode p.bases c → length args ≡ c.parameters → IsAt p Plain (called c k args)
called_at p c k args found is count =
    let given : length (map Some args) ≡ length args = length-map args Some in
    let rest : length (replicate {A = Option Value} (length c.locals - length args) None) ≡ length c.locals - length args = length-replicate (length c.locals - length args) None in
    record {
      code = c;
      is_of = record { found = found; locals = length-append (map Some args) (replicate (length c.locals - length args) None) ∙ omega (arith, given, rest, is.parameters) };
      depth = is.start;
      line = inr tt;
      comes = inl refl;
    }

-- a call gets a value
pub gets_value : (p : Parts) (op : Op) (o : Origin) (f : Frame) (x : Value) → Waits p op o f → IsAt p o (record f { index = f.index + 1; stack = x ∷ f.stack })
gets_value p op o f x w = record {
  code = w.code;
  is_of = record { found = w.is_of.found; locals = w.is_of.locals };
  depth = recorded (table_of w.code.locations) (f.index + 1) (f.index + 1) (1 + length f.stack) (length (x ∷ f.stack)) (length f.handling) (length f.handling) w.next refl (omega arith) refl;
  line = inr (follows_next w.code f.index (f.index + 1) w.location f.line w.stands refl w.line);
  comes = comes_on (generates p w.code) o f.index (f.index + 1) w.past (omega arith);
}

-- or an exception
pub gets_exception : (p : Parts) (op : Op) (o : Origin) (f : Frame) → Waits p op o f → IsThrown p o f
gets_exception p op o f w = record { code = w.code; is_of = w.is_of; location = w.location; stands = w.stands; caught = w.caught; past = w.past }

length-lowest : {A : Type 0} (count : ℕ) (xs : List A) → count ≤ length xs → length (lowest count xs) ≡ count
length-lowest count xs h = omega (arith, length-drop (length xs - count) xs)

-- a handler takes the exception
pub is_caught : (p : Parts) (o : Origin) (f : Frame) (e : Exc) (h : Handler) (t : IsThrown p o f) → t.location.handler ≡ Some h → IsAt p o (caught_in h e f)
is_caught p o f e h t is =
    let c : Code = t.code in
    let caught : Catches (table_of c.locations) (Some h) (length f.stack) (length f.handling) = subst (λ (o : Option Handler). Catches (table_of c.locations) o (length f.stack) (length f.handling)) is t.caught in
    record {
      code = c;
      is_of = record { found = t.is_of.found; locals = t.is_of.locals };
      depth = recorded (table_of c.locations) h.to h.to (1 + h.stack) (length (Raised-value e ∷ lowest h.stack f.stack)) h.handling (length (lowest h.handling f.handling)) caught.0.1 refl
          (omega (arith, length-lowest h.stack f.stack caught.1)) (length-lowest h.handling f.handling caught.2);
      line = inl (caught_at p.bases c f.index t.location h t.stands is);
      comes = comes_on (generates p c) o f.index h.to t.past caught.0.0;
    }
