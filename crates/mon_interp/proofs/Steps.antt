-- One step of a thread, by what stands at the location of its innermost frame.
use Rattle.std.proofs.Common.{◌≡◌, ℕ, ◌+◌, ◌<◌, List, [], ◌∷◌, length, map, refl, sym, ap, ◌∙◌, false, arith}
use Rattle.std.specs.Prelude.{Option, Some, None, slice_get}
use Rattle.std.proofs.lemmas.Option.{slice_get-get_or, slice_get-map}
use Rattle.mon_events.specs.declared.op.Op.{Op}
use Rattle.mon_events.specs.Ops.{op_of}
use Rattle.mon_code.specs.declared.program.Code.{Code}
use Rattle.mon_code.specs.declared.program.Handler.{Handler}
use Rattle.mon_code.specs.declared.program.Location.{Location}
use Rattle.mon_code.specs.Programs.{Parts, op_in, op_at, location_at}
use Rattle.mon_words.specs.declared.history.Board.{Board}
use Rattle.mon_words.specs.declared.history.Cell.{Cell}
use Rattle.mon_words.specs.Words.{cell_of}
use Rattle.mon_words.specs.History.{cell_at, no_cell, base_in}
use Rattle.mon_frames.specs.declared.frame.Frame.{Frame}
use Rattle.mon_frames.specs.declared.call.By.TheVariants as by
use Rattle.mon_frames.specs.declared.call.Call.{Call}
use Rattle.mon_frames.specs.declared.call.Origin.{Origin}
use Rattle.mon_frames.specs.declared.call.Origin.TheVariants.{Plain, Generator as Generated}
use Rattle.mon_frames.specs.Calls.{handler_due}
use Rattle.mon_frames.specs.Views.{FramesView, top_of, without_top}
use Rattle.mon_machine.specs.declared.mode.Answer.{Answer}
use Rattle.mon_machine.specs.declared.mode.Mode.{Mode}
use Rattle.mon_machine.specs.declared.mode.Mode.TheVariants.{Run, Unwind, Finish}
use Rattle.mon_values.specs.declared.value.Exc.{Exc}
use Rattle.mon_machine.specs.State.{State}
use Rattle.mon_words.specs.Told.{Told, Grows, Polls}
use Rattle.mon_words.specs.declared.history.Mark.{Mark}
use Rattle.mon_machine.specs.Advances.{Due, due_at, due_in, due_in_top, due_in_mode, unpolled, instruction_due, polls_once, PolledOnce}
use Rattle.mon_machine.specs.Step.{step, in_mode, in_code, at_location, runs_top, executed, unwinds, unwinds_from, goes_out, stuck, finishes, finishes_in, finishes_at}
use Rattle.mon_interp.specs.Machines.{answered_at}

runs : (p : Parts) (s : State) → s.mode ≡ Run → step p s ≡ runs_top p s.frames s.frames.calls
unfolding step
runs p s e = ap (λ (m : Mode). in_mode p s.frames m) e

pub unwinding : (p : Parts) (s : State) (e : Exc) → s.mode ≡ Unwind e → step p s ≡ unwinds p s.frames e s.frames.calls
unfolding step
unwinding p s e is = ap (λ (m : Mode). in_mode p s.frames m) is

pub finishing_step : (p : Parts) (v : FramesView) (a : Answer) → step p (record { frames = v; mode = Finish a }) ≡ finishes p v a v.calls
unfolding step
finishing_step p v a = refl

no_top : (p : Parts) (v : FramesView) (calls : List Call) → length calls ≡ 0 → runs_top p v calls ≡ stuck v
no_top p v [] e = refl
no_top p v (call ∷ calls) e = absurd (omega (arith, e))

pub no_frame : (p : Parts) (s : State) → s.mode ≡ Run → length s.frames.calls ≡ 0 → step p s ≡ stuck s.frames
no_frame p s e h = runs p s e ∙ no_top p s.frames s.frames.calls h

pub no_unwinds : (p : Parts) (v : FramesView) (e : Exc) (calls : List Call) → length calls ≡ 0 → unwinds p v e calls ≡ stuck v
no_unwinds p v e [] h = refl
no_unwinds p v e (call ∷ calls) h = absurd (omega (arith, h))

by_top : (p : Parts) (v : FramesView) (calls : List Call) (f : Frame) → top_of calls ≡ Some f → runs_top p v calls ≡ in_code p (slice_get p.codes f.code) f v
by_top p v [] f e = absurd cc
by_top p v (call ∷ calls) f e = let same : call.frame ≡ f = cc in ap (λ (g : Frame). in_code p (slice_get p.codes g.code) g v) same

by_frame : (p : Parts) (s : State) (f : Frame) → s.mode ≡ Run → top_of s.frames.calls ≡ Some f → step p s ≡ in_code p (slice_get p.codes f.code) f s.frames
by_frame p s f e top = runs p s e ∙ by_top p s.frames s.frames.calls f top

in_found : (p : Parts) (s : State) (f : Frame) (c : Code) → s.mode ≡ Run → top_of s.frames.calls ≡ Some f → Some c ≡ slice_get p.codes f.code → step p s ≡ at_location p c (op_at p.bases c.first f.index) (location_at c f.index) f s.frames
in_found p s f c e top n = by_frame p s f e top ∙ ap (λ (o : Option Code). in_code p o f s.frames) (sym n)

pub no_code : (p : Parts) (s : State) (f : Frame) → s.mode ≡ Run → top_of s.frames.calls ≡ Some f → None ≡ slice_get p.codes f.code → step p s ≡ stuck s.frames
no_code p s f e top n = by_frame p s f e top ∙ ap (λ (o : Option Code). in_code p o f s.frames) (sym n)

at_none : (p : Parts) (c : Code) (op : Option Op) (f : Frame) (v : FramesView) → at_location p c op None f v ≡ stuck v
at_none p c None f v = refl
at_none p c (Some op) f v = refl

pub no_location : (p : Parts) (s : State) (f : Frame) (c : Code) → s.mode ≡ Run → top_of s.frames.calls ≡ Some f → Some c ≡ slice_get p.codes f.code → None ≡ slice_get c.locations f.index → step p s ≡ stuck s.frames
no_location p s f c e top n l =
    in_found p s f c e top n ∙ ap (λ (o : Option Location). at_location p c (op_at p.bases c.first f.index) o f s.frames) (sym l) ∙ at_none p c (op_at p.bases c.first f.index) f s.frames

-- the opcode at a location is that of the base in its word
base_op : (board : Board) (bases : List ℕ) (l word : ℕ) → map base_in board.cells ≡ bases → l < length board.cells → (cell_of word).base ≡ (cell_at board l).base → op_in (slice_get bases l) ≡ op_of (cell_of word).base
base_op board bases l word e h w =
    ap (λ (b : List ℕ). op_in (slice_get b l)) (sym e)
    ∙ ap op_in (slice_get-map base_in board.cells l)
    ∙ ap (λ (o : Option Cell). op_in (Rattle.std.specs.Option.option_map base_in o)) (slice_get-get_or board.cells l no_cell h)
    ∙ ap op_of (sym w)

pub no_op : (p : Parts) (board : Board) (s : State) (f : Frame) (c : Code) (word : ℕ) → s.mode ≡ Run → top_of s.frames.calls ≡ Some f → Some c ≡ slice_get p.codes f.code → map base_in board.cells ≡ p.bases → c.first + f.index < length board.cells
    → (cell_of word).base ≡ (cell_at board (c.first + f.index)).base → None ≡ op_of (cell_of word).base → step p s ≡ stuck s.frames
no_op p board s f c word e top n b h w o =
    in_found p s f c e top n ∙ ap (λ (x : Option Op). at_location p c x (location_at c f.index) f s.frames) (base_op board p.bases (c.first + f.index) word b h w ∙ sym o)

pub has_op : (p : Parts) (board : Board) (s : State) (f : Frame) (c : Code) (l : Location) (word : ℕ) (op : Op) → s.mode ≡ Run → top_of s.frames.calls ≡ Some f → Some c ≡ slice_get p.codes f.code → Some l ≡ slice_get c.locations f.index
    → map base_in board.cells ≡ p.bases → c.first + f.index < length board.cells → (cell_of word).base ≡ (cell_at board (c.first + f.index)).base → Some op ≡ op_of (cell_of word).base → step p s ≡ executed p c op l f s.frames
has_op p board s f c l word op e top n k b h w o =
    in_found p s f c e top n
    ∙ ap (λ (x : Option Op). at_location p c x (location_at c f.index) f s.frames) (base_op board p.bases (c.first + f.index) word b h w ∙ sym o)
    ∙ ap (λ (x : Option Location). at_location p c (Some op) x f s.frames) (sym k)

-- ---- the instruction that is due

due_run : (p : Parts) (s : State) → s.mode ≡ Run → instruction_due p s ≡ due_in_top p s.frames.calls
unfolding instruction_due
due_run p s e = ap (λ (m : Mode). due_in_mode p s.frames.calls m) e

pub due_unwinds : (p : Parts) (s : State) (e : Exc) → s.mode ≡ Unwind e → instruction_due p s ≡ None
unfolding instruction_due
due_unwinds p s x e = ap (λ (m : Mode). due_in_mode p s.frames.calls m) e

due_no_top : (p : Parts) (calls : List Call) → length calls ≡ 0 → due_in_top p calls ≡ None
due_no_top p [] e = refl
due_no_top p (call ∷ calls) e = absurd (omega (arith, e))

pub due_no_frame : (p : Parts) (s : State) → s.mode ≡ Run → length s.frames.calls ≡ 0 → instruction_due p s ≡ None
due_no_frame p s e h = due_run p s e ∙ due_no_top p s.frames.calls h

due_by_top : (p : Parts) (calls : List Call) (f : Frame) → top_of calls ≡ Some f → due_in_top p calls ≡ due_in (slice_get p.codes f.code) f.index
due_by_top p [] f e = absurd cc
due_by_top p (call ∷ calls) f e = let same : call.frame ≡ f = cc in ap (λ (g : Frame). due_in (slice_get p.codes g.code) g.index) same

pub due_no_code : (p : Parts) (s : State) (f : Frame) → s.mode ≡ Run → top_of s.frames.calls ≡ Some f → None ≡ slice_get p.codes f.code → instruction_due p s ≡ None
due_no_code p s f e top n = due_run p s e ∙ due_by_top p s.frames.calls f top ∙ ap (λ (o : Option Code). due_in o f.index) (sym n)

due_of_code : (p : Parts) (s : State) (f : Frame) (c : Code) → s.mode ≡ Run → top_of s.frames.calls ≡ Some f → Some c ≡ slice_get p.codes f.code → instruction_due p s ≡ due_at (c.first + f.index) (slice_get c.locations f.index)
due_of_code p s f c e top n = due_run p s e ∙ due_by_top p s.frames.calls f top ∙ ap (λ (o : Option Code). due_in o f.index) (sym n)

pub due_no_location : (p : Parts) (s : State) (f : Frame) (c : Code) → s.mode ≡ Run → top_of s.frames.calls ≡ Some f → Some c ≡ slice_get p.codes f.code → None ≡ slice_get c.locations f.index → instruction_due p s ≡ None
due_no_location p s f c e top n l = due_of_code p s f c e top n ∙ ap (λ (o : Option Location). due_at (c.first + f.index) o) (sym l)

pub due_here : (p : Parts) (s : State) (f : Frame) (c : Code) (l : Location) → s.mode ≡ Run → top_of s.frames.calls ≡ Some f → Some c ≡ slice_get p.codes f.code → Some l ≡ slice_get c.locations f.index
    → instruction_due p s ≡ Some (record { location = c.first + f.index; is_safe = l.is_safe })
due_here p s f c l e top n k = due_of_code p s f c e top n ∙ ap (λ (o : Option Location). due_at (c.first + f.index) o) (sym k)

pub due_finishing : (p : Parts) (v : FramesView) (a : Answer) → instruction_due p (record { frames = v; mode = Finish a }) ≡ unpolled (due_in_top p v.calls)
unfolding instruction_due
due_finishing p v a = refl

unpolled_never : (due : Option Due) → polls_once (unpolled due) ≡ 0
unpolled_never None = refl
unpolled_never (Some due) = refl

pub finishing_unpolled : (p : Parts) (v : FramesView) (a : Answer) → polls_once (instruction_due p (record { frames = v; mode = Finish a })) ≡ 0
finishing_unpolled p v a = ap polls_once (due_finishing p v a) ∙ unpolled_never (due_in_top p v.calls)

-- ---- the finish step of a call, by what stands at the location of the innermost frame

finishing_no_top : (p : Parts) (v : FramesView) (a : Answer) (calls : List Call) → length calls ≡ 0 → finishes p v a calls ≡ stuck v
finishing_no_top p v a [] e = refl
finishing_no_top p v a (call ∷ calls) e = absurd (omega (arith, e))

pub finishing_no_frame : (p : Parts) (v : FramesView) (a : Answer) → length v.calls ≡ 0 → step p (record { frames = v; mode = Finish a }) ≡ stuck v
finishing_no_frame p v a e = finishing_step p v a ∙ finishing_no_top p v a v.calls e

finishing_by_top : (p : Parts) (v : FramesView) (a : Answer) (calls : List Call) (f : Frame) → top_of calls ≡ Some f → finishes p v a calls ≡ finishes_in p v a (slice_get p.codes f.code) f
finishing_by_top p v a [] f e = absurd cc
finishing_by_top p v a (call ∷ calls) f e = let same : call.frame ≡ f = cc in ap (λ (g : Frame). finishes_in p v a (slice_get p.codes g.code) g) same

finishing_by_frame : (p : Parts) (v : FramesView) (a : Answer) (f : Frame) → top_of v.calls ≡ Some f → step p (record { frames = v; mode = Finish a }) ≡ finishes_in p v a (slice_get p.codes f.code) f
finishing_by_frame p v a f top = finishing_step p v a ∙ finishing_by_top p v a v.calls f top

pub finishing_no_code : (p : Parts) (v : FramesView) (a : Answer) (f : Frame) → top_of v.calls ≡ Some f → None ≡ slice_get p.codes f.code → step p (record { frames = v; mode = Finish a }) ≡ stuck v
finishing_no_code p v a f top n = finishing_by_frame p v a f top ∙ ap (λ (o : Option Code). finishes_in p v a o f) (sym n)

finishing_found : (p : Parts) (v : FramesView) (a : Answer) (f : Frame) (c : Code) → top_of v.calls ≡ Some f → Some c ≡ slice_get p.codes f.code → step p (record { frames = v; mode = Finish a }) ≡ finishes_at p v a c f (location_at c f.index)
finishing_found p v a f c top n = finishing_by_frame p v a f top ∙ ap (λ (o : Option Code). finishes_in p v a o f) (sym n)

pub finishing_no_location : (p : Parts) (v : FramesView) (a : Answer) (f : Frame) (c : Code) → top_of v.calls ≡ Some f → Some c ≡ slice_get p.codes f.code → None ≡ slice_get c.locations f.index → step p (record { frames = v; mode = Finish a }) ≡ stuck v
finishing_no_location p v a f c top n l = finishing_found p v a f c top n ∙ ap (λ (o : Option Location). finishes_at p v a c f o) (sym l)

pub finishing_here : (p : Parts) (v : FramesView) (a : Answer) (f : Frame) (c : Code) (l : Location) → top_of v.calls ≡ Some f → Some c ≡ slice_get p.codes f.code → Some l ≡ slice_get c.locations f.index
    → step p (record { frames = v; mode = Finish a }) ≡ answered_at p a (c.first + f.index) f v
finishing_here p v a f c l top n k = finishing_found p v a f c top n ∙ ap (λ (o : Option Location). finishes_at p v a c f o) (sym k)

-- and its location is due

pub finish_due_no_frame : (p : Parts) (v : FramesView) (a : Answer) → length v.calls ≡ 0 → instruction_due p (record { frames = v; mode = Finish a }) ≡ None
finish_due_no_frame p v a e = due_finishing p v a ∙ ap unpolled (due_no_top p v.calls e)

pub finish_due_no_code : (p : Parts) (v : FramesView) (a : Answer) (f : Frame) → top_of v.calls ≡ Some f → None ≡ slice_get p.codes f.code → instruction_due p (record { frames = v; mode = Finish a }) ≡ None
finish_due_no_code p v a f top n = due_finishing p v a ∙ ap unpolled (due_by_top p v.calls f top ∙ ap (λ (o : Option Code). due_in o f.index) (sym n))

finish_due_of_code : (p : Parts) (v : FramesView) (a : Answer) (f : Frame) (c : Code) → top_of v.calls ≡ Some f → Some c ≡ slice_get p.codes f.code → instruction_due p (record { frames = v; mode = Finish a }) ≡ unpolled (due_at (c.first + f.index) (slice_get c.locations f.index))
finish_due_of_code p v a f c top n = due_finishing p v a ∙ ap unpolled (due_by_top p v.calls f top ∙ ap (λ (o : Option Code). due_in o f.index) (sym n))

pub finish_due_no_location : (p : Parts) (v : FramesView) (a : Answer) (f : Frame) (c : Code) → top_of v.calls ≡ Some f → Some c ≡ slice_get p.codes f.code → None ≡ slice_get c.locations f.index → instruction_due p (record { frames = v; mode = Finish a }) ≡ None
finish_due_no_location p v a f c top n l = finish_due_of_code p v a f c top n ∙ ap (λ (o : Option Location). unpolled (due_at (c.first + f.index) o)) (sym l)

pub finish_due_here : (p : Parts) (v : FramesView) (a : Answer) (f : Frame) (c : Code) (l : Location) → top_of v.calls ≡ Some f → Some c ≡ slice_get p.codes f.code → Some l ≡ slice_get c.locations f.index
    → instruction_due p (record { frames = v; mode = Finish a }) ≡ Some (record { location = c.first + f.index; is_safe = false })
finish_due_here p v a f c l top n k = finish_due_of_code p v a f c top n ∙ ap (λ (o : Option Location). unpolled (due_at (c.first + f.index) o)) (sym k)

-- ---- polls

pub polled_no : (p : Parts) (s : State) (a b : Told) (m : List Mark) → polls_once (instruction_due p s) ≡ 0 → Grows a b m → PolledOnce p s a b
polled_no p s a b m none g = record {
  polls = ap (λ (t : Told). t.tally.polls) g.rest ∙ omega (arith, none);
  polled = ap (λ (t : Told). t.tally.polled) g.rest;
}

pub polled_yes : (p : Parts) (s : State) (a b c : Told) (m : List Mark) → polls_once (instruction_due p s) ≡ 1 → Polls a false b → Grows b c m → PolledOnce p s a c
polled_yes p s a b c m one poll g = record {
  polls = ap (λ (t : Told). t.tally.polls) g.rest ∙ ap (λ (t : Told). t.tally.polls) poll.rest ∙ omega (arith, one);
  polled = ap (λ (t : Told). t.tally.polled) g.rest ∙ ap (λ (t : Told). t.tally.polled) poll.rest;
}

-- the search for a handler prints nothing
goes_out_silent : (p : Parts) (v : FramesView) (calls : List Call) (o : Origin) (e : Exc) (f : Frame) → (goes_out p v calls o e f).printed ≡ []
goes_out_silent p v [] o e f = refl
goes_out_silent p v (call ∷ calls) (Generated number (by.Call builtin)) e f = refl
goes_out_silent p v (call ∷ calls) (Generated number by.For) e f = refl
goes_out_silent p v (call ∷ calls) Plain e f = refl

unwinds_from_silent : (p : Parts) (v : FramesView) (origin : Origin) (e : Exc) (f : Frame) (h : Option Handler) → (unwinds_from p v origin e f h).printed ≡ []
unwinds_from_silent p v o e f None = goes_out_silent p (without_top v) (without_top v).calls o e f
unwinds_from_silent p v o e f (Some h) = refl

pub unwinds_silent : (p : Parts) (v : FramesView) (e : Exc) (calls : List Call) → (unwinds p v e calls).printed ≡ []
unwinds_silent p v e [] = refl
unwinds_silent p v e (call ∷ calls) = unwinds_from_silent p v call.origin e call.frame (handler_due p call.frame.code call.frame.index)
