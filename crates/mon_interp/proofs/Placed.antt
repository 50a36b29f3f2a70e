-- A step where the innermost frame stands at a location.
use Rattle.std.proofs.Common.{◌≡◌, ℕ, ◌+◌, ◌<◌, ◌≤◌, arith, Bool, true, false, cond, IsTrue, List, [], ◌∷◌, ◌++◌, length, map, refl, sym, ap, ◌∙◌, subst, Some, None, append-nil}
use Rattle.mon_values.specs.declared.value.Exc.{Exc}
use Rattle.mon_words.specs.declared.tally.Load.{Load}
use Rattle.mon_words.proofs.Growing.{grows_refl}
use Rattle.mon_recorders.specs.declared.happening.Happening.{Happening}
use Rattle.std.specs.Prelude.{Option}
use Rattle.std.proofs.lemmas.List.{length-map}
use Rattle.mon_words.specs.declared.history.Cell.{Cell}
use Rattle.mon_hear.specs.Words.{loads, callback_loads, global_load, any_global, IsAskedPart}
use Rattle.mon_hear.specs.Hearing.{UnwindingHeard, Retiring, is_due}
use Rattle.mon_hear.proofs.Agreeing.{loads_same}
use Rattle.mon_hear.proofs.Parting.{loads_part, unwinding_part}
use Rattle.mon_hear.proofs.Steps.{whole}
use Rattle.mon_events.specs.declared.op.Op.{Op}
use Rattle.mon_events.specs.Ops.{op_of}
use Rattle.mon_code.specs.declared.program.Code.{Code}
use Rattle.mon_code.specs.declared.program.Location.{Location}
use Rattle.mon_code.specs.Programs.{Parts}
use Rattle.mon_words.specs.Words.{cell_of, Shows}
use Rattle.mon_words.specs.declared.history.Board.{Board}
use Rattle.mon_words.specs.declared.tally.Retirement.{Retirement}
use Rattle.mon_words.specs.History.{after, cell_at, base_in, Begins}
use Rattle.mon_words.specs.Told.{Told, Grows, Loads, Owns, Polls}
use Rattle.mon_words.specs.declared.history.Mark.{Mark}
use Rattle.mon_frames.specs.Views.{FramesView}
use Rattle.mon_machine.specs.declared.mode.Answer.{Answer}
use Rattle.mon_machine.specs.declared.mode.Mode.{Mode}
use Rattle.mon_machine.specs.declared.mode.Mode.TheVariants.{Run}
use Rattle.mon_machine.specs.State.{State, goes}
use Rattle.mon_machine.specs.Step.{Step, step, executed, stuck, unwinds}
use Rattle.mon_machine.specs.Advances.{Progress, Due, Stays, instruction_due, polls_once, board_at}
use Rattle.mon_machine.proofs.Advancing.{step_polled, stays_refl, stays_poll}
use Rattle.mon_interp.specs.declared.events.Place.{Place}
use Rattle.mon_interp.specs.Machines.{HeardStep, StandsHere, DoneStep, StepOrStop, PolledDue, RanUnwinding, finishing, answered_at}
use Rattle.mon_interp.specs.Retires.{RetiredOnce, IsLawful, tries_of, not_loaded}
use Rattle.mon_interp.proofs.Steps.{no_op, has_op, due_here, due_unwinds, unwinding, unwinds_silent, polled_no, polled_yes, finishing_here, finish_due_here, finishing_unpolled}
use Rattle.mon_interp.proofs.Hearing.{ran_located, ran_elsewhere, ran_stuck, heard_stuck, unheard_still, unwinding_global, no_loads}

-- the location of the innermost frame has a word
pub inside_board : (bases : List ℕ) (cells : List Cell) (first index count : ℕ) → first + count ≤ length bases → index < count → map base_in cells ≡ bases → first + index < length cells
inside_board bases cells first index count inside within same = omega (arith, inside, within, ap length same, length-map cells base_in)

pub here_due : (p : Parts) (c : Code) (l : Location) (place : Place) (s : State) (h : StandsHere p c l place s) → s.mode ≡ Run → instruction_due p s ≡ Some (record { location = c.first + h.frame.index; is_safe = l.is_safe })
here_due p c l place s h run = due_here p s h.frame c l run h.top h.code h.location

-- what a step retired that loaded this word
retired_located : (p : Parts) (s : State) (due : Due) (word : ℕ) (a mid b : Told) → Loads a due.location word mid → Begins mid.seen b.seen → instruction_due p s ≡ Some due → Retiring mid b due.location word → RetiredOnce p s (length mid.seen) a b
retired_located p s due word a mid b l begins is r = pick (is_due word) refl
  where
    same : mid.tally.retirements ≡ a.tally.retirements
    same = ap (λ (t : Told). t.tally.retirements) l.rest

    lawful : IsLawful (instruction_due p s) (board_at a.first b.seen (length mid.seen)) word
    lawful = subst (λ (d : Option Due). IsLawful d (board_at a.first b.seen (length mid.seen)) word) (sym is) (subst (λ (w : List Mark). Shows (cell_at (after a.first w) due.location) word) (sym (whole mid.seen b.seen begins)) l.shows)

    by : (gave : Bool) (due_now : Bool) → is_due word ≡ due_now → b.tally.retirements ≡ mid.tally.retirements ++ cond due_now (record { location = due.location; old = word; done = gave } ∷ []) [] → RetiredOnce p s (length mid.seen) a b
    by gave due_now e tries = record {
      loaded = record { word = word; gave = gave };
      lawful = lawful;
      tries = tries ∙ (λ i. same i ++ cond (sym e i) (record { location = due.location; old = word; done = gave } ∷ []) []) ∙ ap (λ (d : Option Due). a.tally.retirements ++ tries_of d (record { word = word; gave = gave })) (sym is);
    }

    pick : (x : Bool) → is_due word ≡ x → RetiredOnce p s (length mid.seen) a b
    pick true e = let d = r.due e in by d.0 true e d.1
    pick false e = by false false e (r.not_due e ∙ sym (append-nil mid.tally.retirements))

-- or that loaded none
retired_elsewhere : (p : Parts) (s : State) (at : ℕ) (a b : Told) → instruction_due p s ≡ None → b.tally.retirements ≡ a.tally.retirements → RetiredOnce p s at a b
retired_elsewhere p s at a b none same = record {
  loaded = not_loaded;
  lawful = subst (λ (d : Option Due). IsLawful d (board_at a.first b.seen at) 0) (sym none) tt;
  tries = same ∙ sym (append-nil a.tally.retirements) ∙ ap (λ (d : Option Due). a.tally.retirements ++ tries_of d not_loaded) (sym none);
}

-- a step at a location that is due, whose word was loaded
ran_due : (p : Parts) (due : Due) (word : ℕ) (a mid b : Told) (old new : Progress) → goes old.state.mode ≡ true → Owns a → instruction_due p old.state ≡ Some due → Loads a due.location word mid
    → HeardStep (step p old.state) due.location word mid b old new → DoneStep p a b old new
ran_due p due word a mid b old new on own here loads done = record {
  at = length mid.seen;
  ran = ran_located p due word a mid b old new own on loads here done;
  retired = retired_located p old.state due word a mid b loads done.heard.grows.begins here done.retired;
}

-- an instruction's
pub ran_at : (p : Parts) (c : Code) (l : Location) (place : Place) (word : ℕ) (a mid b : Told) (old new : Progress) → StandsHere p c l place old.state → old.state.mode ≡ Run → Owns a → Loads a place.location word mid
    → HeardStep (step p old.state) place.location word mid b old new → DoneStep p a b old new
ran_at p c l place word a mid b old new h run own loaded heard =
    let due : Due = record { location = c.first + h.frame.index; is_safe = l.is_safe } in
    let here : instruction_due p old.state ≡ Some due = here_due p c l place old.state h run in
    ran_due p due word a mid b old new (ap goes run) own here (subst (λ n. Loads a n word mid) h.number loaded) (subst (λ n. HeardStep (step p old.state) n word mid b old new) h.number heard)

-- the finish step of a call
finishing_heard : (s : Step) (location word : ℕ) (answer : Answer) (a b : Told) (old new : Progress) → HeardStep s location word a b old new → HeardStep s location word a b (finishing answer old) new
finishing_heard s location word answer a b old new h = record { state = h.state; printed = h.printed; steps = h.steps; heard = h.heard; loads = h.loads; retired = h.retired }

pub ran_finish : (p : Parts) (c : Code) (l : Location) (place : Place) (word : ℕ) (answer : Answer) (a mid b : Told) (old new : Progress) (h : StandsHere p c l place old.state) → Owns a → Loads a place.location word mid
    → HeardStep (answered_at p answer place.location h.frame old.state.frames) place.location word mid b old new → DoneStep p a b (finishing answer old) new
ran_finish p c l place word answer a mid b old new h own loaded heard =
    let v : FramesView = old.state.frames in
    let due : Due = record { location = c.first + h.frame.index; is_safe = false } in
    let here : instruction_due p (finishing answer old).state ≡ Some due = finish_due_here p v answer h.frame c l h.top h.code h.location in
    let done : HeardStep (answered_at p answer due.location h.frame v) due.location word mid b old new = subst (λ n. HeardStep (answered_at p answer n h.frame v) n word mid b old new) h.number heard in
    ran_due p due word a mid b (finishing answer old) new refl own here (subst (λ n. Loads a n word mid) h.number loaded)
    (subst (λ (s : Step). HeardStep s due.location word mid b (finishing answer old) new) (sym (finishing_here p v answer h.frame c l h.top h.code h.location))
    (finishing_heard (answered_at p answer due.location h.frame v) due.location word answer mid b old new done))

-- a finish step polls never
pub answered_step : (p : Parts) (answer : Answer) (a b : Told) (old new : Progress) (m : List Mark) → old.state.mode ≡ Mode.Finish answer → Grows a b m → DoneStep p a b (finishing answer old) new → StepOrStop true p a b old new
answered_step p answer a b old new m is grows done =
    subst (λ (mode : Mode). StepOrStop true p a b (record old { state = record { frames = old.state.frames; mode = mode } }) new) (sym is)
    (done, polled_no p (finishing answer old).state a b m (finishing_unpolled p old.state.frames answer) grows)

pub stuck_at : (p : Parts) (c : Code) (l : Location) (place : Place) (word : ℕ) (a mid b : Told) (old new : Progress) → StandsHere p c l place old.state → old.state.mode ≡ Run → map base_in a.first.cells ≡ p.bases → place.location < length a.first.cells
    → Loads a place.location word mid → None ≡ op_of (cell_of word).base → new ≡ record old { state = record { frames = old.state.frames; mode = Mode.Stuck }; steps = old.steps + 1 }
    → Grows mid b [] → b.tally.loads ≡ mid.tally.loads → Retiring mid b place.location word → HeardStep (step p old.state) place.location word mid b old new
stuck_at p c l place word a mid b old new h run bases within loaded none is grows loads retired =
    let number : place.location ≡ c.first + h.frame.index = h.number in
    subst (λ (s : Step). HeardStep s place.location word mid b old new)
    (sym (no_op p a.first old.state h.frame c word run h.top h.code bases (subst (λ n. n < length a.first.cells) number within) (loaded.base ∙ ap (λ n. (cell_at a.first n).base) number) none))
    (heard_stuck old.state.frames place.location word mid b old new is grows loads retired)

pub done_at : (p : Parts) (c : Code) (l : Location) (place : Place) (word : ℕ) (op : Op) (a mid b : Told) (old new : Progress) (h : StandsHere p c l place old.state) → old.state.mode ≡ Run → map base_in a.first.cells ≡ p.bases → place.location < length a.first.cells
    → Loads a place.location word mid → Some op ≡ op_of (cell_of word).base → HeardStep (executed p c op l h.frame old.state.frames) place.location word mid b old new → HeardStep (step p old.state) place.location word mid b old new
done_at p c l place word op a mid b old new h run bases within loaded some heard =
    let number : place.location ≡ c.first + h.frame.index = h.number in
    subst (λ (s : Step). HeardStep s place.location word mid b old new)
    (sym (has_op p a.first old.state h.frame c l word op run h.top h.code h.location bases (subst (λ n. n < length a.first.cells) number within) (loaded.base ∙ ap (λ n. (cell_at a.first n).base) number) some))
    heard

-- the polls of a step here
pub unpolled : (p : Parts) (c : Code) (l : Location) (place : Place) (s : State) (h : StandsHere p c l place s) → s.mode ≡ Run → polls_once (instruction_due p s) ≡ cond l.is_safe 1 0
unpolled p c l place s h run = ap polls_once (here_due p c l place s h run)

pub record Kept (a b : Told) : Type 0 where
  pub owns : Owns b
  pub first : b.first ≡ a.first
  pub attached : b.attached ≡ a.attached
  pub stays : Stays a b

pub polled_keeps : (safe answer : Bool) (a b : Told) → Owns a → PolledDue safe answer a b → Kept a b
polled_keeps true answer a b own h = record { owns = h.owns; first = ap (λ (t : Told). t.first) h.rest; attached = ap (λ (t : Told). t.attached) h.rest; stays = stays_poll a b answer h }
polled_keeps false answer a b own h = subst (λ (t : Told). Kept a t) (sym h.1) (record { owns = own; first = refl; attached = refl; stays = stays_refl a })

done_polled : (p : Parts) (a b c : Told) (old new : Progress) → Polls a false b → DoneStep p b c old new → DoneStep p a c old new
done_polled p a b c old new poll s =
    let first : b.first ≡ a.first = ap (λ (t : Told). t.first) poll.rest in
    let same : b.tally.retirements ≡ a.tally.retirements = ap (λ (t : Told). t.tally.retirements) poll.rest in
    record {
      at = s.at;
      ran = step_polled p s.at a b c old new false poll s.ran;
      retired = record {
        loaded = s.retired.loaded;
        lawful = subst (λ (f : Board). IsLawful (instruction_due p old.state) (board_at f c.seen s.at) s.retired.loaded.word) first s.retired.lawful;
        tries = s.retired.tries ∙ ap (λ (l : List Retirement). l ++ tries_of (instruction_due p old.state) s.retired.loaded) same;
      };
    }

-- a step behind its poll
pub polled_step : (safe : Bool) (p : Parts) (a b c : Told) (old new : Progress) (m : List Mark) → polls_once (instruction_due p old.state) ≡ cond safe 1 0 → PolledDue safe false a b → Grows b c m → DoneStep p b c old new → StepOrStop true p a c old new
polled_step true p a b c old new m one poll g s = (done_polled p a b c old new poll s, polled_yes p old.state a b c m one poll g)
polled_step false p a b c old new m none poll g s = (subst (λ (t : Told). DoneStep p t c old new) poll.1 s, polled_no p old.state a c m none (subst (λ (t : Told). Grows t c m) poll.1 g))

pub polled_stop : (safe : Bool) (p : Parts) (a b : Told) (old : Progress) → polls_once (instruction_due p old.state) ≡ cond safe 1 0 → PolledDue safe true a b → StepOrStop false p a b old old
polled_stop true p a b old one poll = (refl, poll, one)
polled_stop false p a b old one poll = absurd (cc (poll.0))

-- a step without an instruction
pub nowhere : (p : Parts) (a : Told) (old new : Progress) → Owns a → old.state.mode ≡ Run → instruction_due p old.state ≡ None → step p old.state ≡ stuck old.state.frames
    → new ≡ record old { state = record { frames = old.state.frames; mode = Mode.Stuck }; steps = old.steps + 1 } → StepOrStop true p a a old new
nowhere p a old new own run none stands is = (
  record {
    at = length a.seen;
    ran = ran_stuck p a old new own (ap goes run) none stands is;
    retired = retired_elsewhere p old.state (length a.seen) a a none refl;
  },
  polled_no p old.state a a [] (ap polls_once none) (grows_refl a),
)

-- nor is anything loaded where the call stands nowhere
pub finish_nowhere : (p : Parts) (answer : Answer) (a : Told) (old new : Progress) → Owns a → instruction_due p (finishing answer old).state ≡ None → step p (finishing answer old).state ≡ stuck old.state.frames
    → new ≡ record old { state = record { frames = old.state.frames; mode = Mode.Stuck }; steps = old.steps + 1 } → DoneStep p a a (finishing answer old) new
finish_nowhere p answer a old new own none stands is = record {
  at = length a.seen;
  ran = ran_stuck p a (finishing answer old) new own refl none stands is;
  retired = retired_elsewhere p (finishing answer old).state (length a.seen) a a none refl;
}

-- a step of the search for a handler
pub unwound : (p : Parts) (e : Exc) (mode : Mode) (a b : Told) (old new : Progress) → Owns a → old.state.mode ≡ Mode.Unwind e → Grows a b [] → RanUnwinding p e a b (record old { state = record { frames = old.state.frames; mode = mode } }) new → StepOrStop true p a b old new
unwound p e mode a b old new own is grows r =
    let none : instruction_due p old.state ≡ None = due_unwinds p old.state e is in
    let stands : step p old.state ≡ unwinds p old.state.frames e old.state.frames.calls = unwinding p old.state e is in
    let back : unwinds p old.state.frames e old.state.frames.calls ≡ step p old.state = sym stands in (
      record {
        at = length a.seen;
        retired = retired_elsewhere p old.state (length a.seen) a b none r.same;
        ran = ran_elsewhere p a b old new (ap goes is) none grows
            (r.state ∙ ap (λ (s : Step). s.after) back)
            (r.printed ∙ sym (append-nil old.printed) ∙ ap (λ (l : List (List ℕ)). old.printed ++ l) (sym (unwinds_silent p old.state.frames e old.state.frames.calls)) ∙ ap (λ (s : Step). old.printed ++ s.printed) back)
            r.disables r.steps
            (subst (λ (s : Step). UnwindingHeard old.steps s.events a b old.records new.records) back r.heard)
            (r.loads ∙ ap (λ (s : Step). a.tally.loads ++ loads 0 (after a.first a.seen).global s.events) back);
      },
      polled_no p old.state a b [] (ap polls_once none) grows,
    )

pub unwinding_stuck : (p : Parts) (e : Exc) (a : Told) (old new : Progress) → Owns a → unwinds p old.state.frames e old.state.frames.calls ≡ stuck old.state.frames
    → new ≡ record old { state = record { frames = old.state.frames; mode = Mode.Stuck }; steps = old.steps + 1 } → RanUnwinding p e a a old new
unwinding_stuck p e a old new own stands is =
    let events : [] ≡ (unwinds p old.state.frames e old.state.frames.calls).events = sym (ap (λ (s : Step). s.events) stands) in
    record {
      state = ap (λ (x : Progress). x.state) is ∙ ap (λ (s : Step). s.after) (sym stands);
      printed = ap (λ (x : Progress). x.printed) is;
      disables = ap (λ (x : Progress). x.disables) is;
      steps = ap (λ (x : Progress). x.steps) is;
      heard = subst (λ (l : List Happening). UnwindingHeard old.steps l a a old.records new.records) events (unheard_still old.steps a old.records new.records own (ap (λ (x : Progress). x.records) is));
      loads = sym (append-nil a.tally.loads) ∙ ap (λ (l : List Load). a.tally.loads ++ l) (sym (no_loads 0 (after a.first a.seen).global)) ∙ ap (λ (l : List Happening). a.tally.loads ++ loads 0 (after a.first a.seen).global l) events;
      same = refl;
    }

pub unwinding_heard : (p : Parts) (e : Exc) (global : ℕ) (a b : Told) (old new : Progress) (xs : List Happening) → new.state ≡ (unwinds p old.state.frames e old.state.frames.calls).after → new.printed ≡ old.printed → new.disables ≡ old.disables → new.steps ≡ old.steps + 1
    → IsAskedPart 0 global xs (unwinds p old.state.frames e old.state.frames.calls).events → (IsTrue (any_global (unwinds p old.state.frames e old.state.frames.calls).events) → global ≡ (after a.first a.seen).global)
    → UnwindingHeard old.steps xs a b old.records new.records → Grows a b []
    → b.tally.loads ≡ a.tally.loads ++ (global_load (unwinds p old.state.frames e old.state.frames.calls).events ++ callback_loads 0 global xs 6) → b.tally.retirements ≡ a.tally.retirements → RanUnwinding p e a b old new
unwinding_heard p e global a b old new xs state printed disables steps part known heard grows loaded same =
    let es : List Happening = (unwinds p old.state.frames e old.state.frames.calls).events in
    let d : Board = after a.first a.seen in
    record {
      state = state;
      printed = printed;
      disables = disables;
      steps = steps;
      heard = unwinding_part old.steps global xs es a b old.records new.records (unwinding_global p old.state.frames e) known part grows heard;
      loads = loaded ∙ ap (λ (l : List Load). a.tally.loads ++ (global_load es ++ l)) (loads_part 0 global xs es part ∙ loads_same 0 global d.global es known);
      same = same;
    }
