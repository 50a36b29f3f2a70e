-- A generator that waits goes on: its frame is the innermost.
use Rattle.std.proofs.Common.{◌≡◌, ℕ, zero, suc, ◌<◌, get_or, Bool, true, List, [], ◌∷◌, ◌++◌, length, reverse, refl, sym, ap, subst, ◌∙◌, arith}
use Rattle.std.specs.Prelude.{Option, Some, Result, Ok, Err, slice_get, slice_set, if◌then◌else◌}
use Rattle.std.proofs.lemmas.List.{length-reverse, reverse-append}
use Rattle.std.proofs.lemmas.Bool.{lt-ltb}
use Rattle.std.proofs.lemmas.Option.{none-some, same_Some, slice_get-get_or}
use Rattle.mon_values.specs.declared.value.Value.{Value}
use Rattle.mon_frames.specs.declared.frame.Frame.{Frame}
use Rattle.mon_frames.specs.declared.call.By.{By}
use Rattle.mon_frames.specs.declared.call.Call.{Call}
use Rattle.mon_frames.specs.declared.generator.Generator.{Generator}
use Rattle.mon_frames.specs.declared.generator.Generator.TheVariants.{NotStarted, Suspended, Running, Finished}
use Rattle.mon_frames.specs.declared.call.Origin.TheVariants.{Generator as Generated}
use Rattle.mon_frames.specs.declared.fault.ResumeFault.{ResumeFault}
use Rattle.mon_frames.specs.declared.fault.ResumeFault.TheVariants as fault
use Rattle.mon_frames.specs.Views.{FramesView, has_room, on_top}
use Rattle.mon_frames.specs.Answers.{AnswersResume}
use Rattle.mon_frames.specs.Generators.{with_generators, running, is_none, sent_to, resumed, resumed_in, entered, entered_in, waiting_frame, with_value}

-- the frames with the frame of a generator on top, as they are seen and as they are kept
abbrev pub seen : List Call → List Generator → List (List Value) → FramesView
seen xs gens its = record { calls = reverse xs; generators = gens; iterators = its }

abbrev due_of : FramesView → Result FramesView ResumeFault
due_of v = Ok v

pub runs : (xs : List Call) (gens : List Generator) (its : List (List Value)) (number : ℕ) (by : By) (frame : Frame) → length xs < 1000
    → running (seen xs gens its) number by frame ≡ Ok (seen (xs ++ record { frame = frame; origin = Generated number by } ∷ []) (slice_set gens number Running) its)
runs xs gens its number by frame few =
    let room : has_room (reverse xs) ≡ true = lt-ltb (length (reverse xs)) 1000 (omega (arith, few, length-reverse xs)) in
    let v = seen xs gens its in
    let call : Call = record { frame = frame; origin = Generated number by } in
    ap (λ (b : Bool). if b then Ok (on_top (with_generators v (slice_set gens number Running)) frame (Generated number by)) else Err fault.Full) room
    ∙ ap (λ (l : List Call). due_of (record { calls = l; generators = slice_set gens number Running; iterators = its })) (sym (reverse-append xs (call ∷ [])))

entered_by : (v : FramesView) (number : ℕ) (by : By) (g : Generator) (frame : Frame) → waiting_frame g ≡ Some frame → entered_in v number by (Some g) ≡ running v number by frame
entered_by v number by (NotStarted f) frame e = ap (λ (x : Frame). running v number by x) (same_Some f frame e)
entered_by v number by (Suspended f) frame e = ap (λ (x : Frame). running v number by x) (same_Some f frame e)
entered_by v number by Running frame e = absurd (none-some frame e)
entered_by v number by Finished frame e = absurd (none-some frame e)

-- without a value
pub entered_runs : (xs : List Call) (gens : List Generator) (its : List (List Value)) (number : ℕ) (by : By) (g : Generator) (frame : Frame) → slice_get gens number ≡ Some g → waiting_frame g ≡ Some frame → length xs < 1000
    → entered (seen xs gens its) number by ≡ Ok (seen (xs ++ record { frame = frame; origin = Generated number by } ∷ []) (slice_set gens number Running) its)
entered_runs xs gens its number by g frame found waits few =
    ap (λ (o : Option Generator). entered_in (seen xs gens its) number by o) found ∙ entered_by (seen xs gens its) number by g frame waits ∙ runs xs gens its number by frame few

-- one that is not started takes None alone
abbrev pub Takes : Value → Generator → Type 0
Takes x (NotStarted f) = is_none x ≡ true
Takes x _ = Unit {0}

resumed_by : (v : FramesView) (number : ℕ) (x : Value) (by : By) (g : Generator) (frame : Frame) → Takes x g → waiting_frame (with_value x g) ≡ Some frame → resumed_in v number x by (Some g) ≡ running v number by frame
resumed_by v number x by (NotStarted f) frame takes e =
    ap (λ (b : Bool). if b then running v number by (sent_to f x) else Err fault.NotNone) takes ∙ ap (λ (y : Frame). running v number by y) (same_Some (sent_to f x) frame e)
resumed_by v number x by (Suspended f) frame takes e = ap (λ (y : Frame). running v number by y) (same_Some (sent_to f x) frame e)
resumed_by v number x by Running frame takes e = absurd (none-some frame e)
resumed_by v number x by Finished frame takes e = absurd (none-some frame e)

-- with a value
pub resumed_runs : (xs : List Call) (gens : List Generator) (its : List (List Value)) (number : ℕ) (x : Value) (by : By) (g : Generator) (frame : Frame) → slice_get gens number ≡ Some g → Takes x g → waiting_frame (with_value x g) ≡ Some frame
    → length xs < 1000 → resumed (seen xs gens its) number x by ≡ Ok (seen (xs ++ record { frame = frame; origin = Generated number by } ∷ []) (slice_set gens number Running) its)
resumed_runs xs gens its number x by g frame found takes waits few =
    ap (λ (o : Option Generator). resumed_in (seen xs gens its) number x by o) found ∙ resumed_by (seen xs gens its) number x by g frame takes waits ∙ runs xs gens its number by frame few

set_again : (gens : List Generator) (n : ℕ) (a b : Generator) → slice_set (slice_set gens n a) n b ≡ slice_set gens n b
set_again [] n a b = refl
set_again (x ∷ gens) zero a b = refl
set_again (x ∷ gens) (suc n) a b = ap (λ (l : List Generator). x ∷ l) (set_again gens n a b)

got_set : (gens : List Generator) (n : ℕ) (a d : Generator) → n < length gens → get_or (slice_set gens n a) n d ≡ a
got_set [] n a d h = absurd (omega arith)
got_set (x ∷ gens) zero a d h = refl
got_set (x ∷ gens) (suc n) a d h = got_set gens n a d (omega arith)

-- a value is put on the stack of a generator of the pool, and then its frame is taken
pub resumed_done : (v : FramesView) (xs ys : List Call) (gens : List Generator) (its : List (List Value)) (number : ℕ) (x y : Value) (by : By) (g e s h r : Generator) (frame : Frame)
    → seen xs gens its ≡ v → number < length gens → length xs < 1000 → g ≡ get_or gens number g → Takes x g
    → e ≡ get_or gens number e → y ≡ x → s ≡ with_value y e → h ≡ get_or (slice_set gens number s) number h → waiting_frame h ≡ Some frame
    → ys ≡ xs ++ record { frame = frame; origin = Generated number by } ∷ [] → r ≡ Running
    → AnswersResume {T = Unit {0}} (Ok tt) (resumed v number x by) v (seen ys (slice_set (slice_set gens number s) number r) its)
resumed_done v xs ys gens its number x y by g e s h r frame v_is within few g_is takes e_is y_is s_is h_is waits ys_is r_is =
    let call : Call = record { frame = frame; origin = Generated number by } in
    let found : slice_get gens number ≡ Some g = slice_get-get_or gens number g within ∙ ap Some (sym g_is) in
    let entry : slice_get gens number ≡ Some e = slice_get-get_or gens number e within ∙ ap Some (sym e_is) in
    let same : e ≡ g = same_Some e g (sym entry ∙ found) in
    let sent : h ≡ with_value x g = h_is ∙ got_set gens number s h within ∙ s_is ∙ ap (λ (z : Value). with_value z e) y_is ∙ ap (λ (z : Generator). with_value x z) same in
    let ready : waiting_frame (with_value x g) ≡ Some frame = ap waiting_frame (sym sent) ∙ waits in
    let new : FramesView = seen ys (slice_set (slice_set gens number s) number r) its in
    let new_is : new ≡ seen (xs ++ call ∷ []) (slice_set gens number Running) its
    = ap (λ (l : List Call). seen l (slice_set (slice_set gens number s) number r) its) ys_is
    ∙ ap (λ (l : List Generator). seen (xs ++ call ∷ []) l its) (set_again gens number s r)
    ∙ ap (λ (z : Generator). seen (xs ++ call ∷ []) (slice_set gens number z) its) r_is in
    subst (λ (w : FramesView). AnswersResume {T = Unit {0}} (Ok tt) (resumed w number x by) w new) v_is
    (subst (λ (due : Result FramesView ResumeFault). AnswersResume {T = Unit {0}} (Ok tt) due (seen xs gens its) new) (sym (resumed_runs xs gens its number x by g frame found takes ready few)) new_is)
