-- Advances over words by which nothing is wanted.
use Rattle.std.proofs.Common.{◌≡◌, ℕ, zero, suc, ◌+◌, ◌*◌, ◌<◌, ◌≤◌, Bool, true, false, ◌&&◌, List, [], ◌∷◌, ◌++◌, length, take, get_or, refl, sym, ap, subst, ◌∙◌, arith, append-nil}
use Rattle.std.specs.Prelude.{Option, Some, None}
use Rattle.mon_events.specs.Events.{rank}
use Rattle.mon_events.specs.declared.event.Event.{Event}
use Rattle.mon_events.specs.declared.event.Slot.{Slot}
use Rattle.mon_code.specs.Programs.{Parts}
use Rattle.mon_words.specs.Words.{is_wanted, is_called}
use Rattle.mon_words.specs.History.{after, cell_at}
use Rattle.mon_words.specs.Told.{Told}
use Rattle.mon_words.specs.declared.history.Board.{Board}
use Rattle.mon_words.specs.declared.history.Mark.{Mark}
use Rattle.mon_recorders.specs.declared.happening.Happening.{Happening}
use Rattle.mon_recorders.specs.declared.happening.Kind.{Kind}
use Rattle.mon_recorders.specs.declared.happening.Kind.TheVariants.{Local, Global, Ancillary}
use Rattle.mon_recorders.specs.declared.record.Record.{Record}
use Rattle.mon_recorders.specs.declared.record.Disabled.{Disabled}
use Rattle.mon_recorders.specs.Happenings.{delivered, answers}
use Rattle.mon_recorders.specs.Readings.{in_turn, Between}
use Rattle.mon_recorders.specs.Boards.{is_enabled_by, let_through}
use Rattle.mon_recorders.proofs.Folds.{for_tools_never}
use Rattle.mon_machine.specs.State.{State, goes}
use Rattle.mon_machine.specs.Run.{after_steps, steps_done, printed_by, Goes}
use Rattle.mon_machine.specs.Bare.{IsBare}
use Rattle.mon_machine.specs.Advances.{Progress, Ran, Stays, is_asked, Advanced, plain_after}
use Rattle.mon_machine.specs.AdvanceLaws.{BareRuns}
use Rattle.mon_machine.proofs.Bare.{no_bit, not_enabled, bare_at, quiet_more}
use Rattle.mon_machine.proofs.Runs.{steps_done_goes, steps_done_all, after_steps_all}
use Rattle.mon_machine.proofs.Printed.{printed_done}

pub between_low : (low : ℕ) (ps : List ℕ) (high k : ℕ) → Between low ps high → k < length ps → low ≤ get_or ps k 0
between_low low [] high k b h = absurd (omega arith)
between_low low (p ∷ ps) high zero b h = b.0
between_low low (p ∷ ps) high (suc k) b h = let r = between_low p ps high k b.1 (omega arith) in let l : low ≤ p = b.0 in omega (arith, l, r)

pub delivered_never : {A : Type 0} (test : ℕ → Happening → Bool) (make : Happening → ℕ → A) (es : List Happening) → ((t : ℕ) (e : Happening) → test t e ≡ false) → delivered test make es ≡ []
delivered_never test make [] h = refl
delivered_never test make (e ∷ es) h =
    let a = for_tools_never (λ t. test t e) (make e) 6 (λ t l. h t e) in
    let b = delivered_never test make es h in
    λ i. a i ++ b i

pub wanted_none : (w : ℕ) (r : Option ℕ) (tool : ℕ) → w ≡ 0 → is_wanted w r tool ≡ false
wanted_none w (Some e) tool z = no_bit w (6 * e + tool) z
wanted_none w None tool z = refl

enabled_none : (b : Board) (kind : Kind) (tool : ℕ) (e : Event) → IsBare b → is_enabled_by (cell_at b) b.global kind tool e ≡ false
enabled_none b (Local location slot) tool e h = not_enabled (cell_at b location) slot tool (h.locations location)
enabled_none b (Ancillary location) tool e h = not_enabled (cell_at b location) Slot.Main tool (h.locations location)
enabled_none b Global tool e h = wanted_none b.global (rank e) tool h.global

hears_none : (b : Board) (tool : ℕ) (e : Happening) → IsBare b → (let_through b).hears tool e ≡ false
hears_none b tool e h = ap (λ (x : Bool). x && is_called (get_or b.callbacks tool 0) e.event) (enabled_none b e.kind tool e.event h)

answers_none : (b : Board) (tool : ℕ) (e : Happening) → IsBare b → answers (let_through b) tool e ≡ false
answers_none b tool e h = ap (λ (x : Bool). x && (let_through b).once tool e) (hears_none b tool e h)

pub turns_none : {A : Type 0} (f : ℕ → List A) (n : ℕ) → ((k : ℕ) → k < n → f k ≡ []) → in_turn f n ≡ []
unfolding in_turn
turns_none f zero h = refl
turns_none f (suc n) h = let a = turns_none f n (λ k l. h k (omega arith)) in let b = h n (omega arith) in λ i. a i ++ b i

ran_bare : (p : Parts) (at : List ℕ) (a b : Told) (old new : Progress) → IsBare (after a.first a.seen) → Stays a b → Ran p at a b old new → new ≡ plain_after p (length at) old
ran_bare p at a b old new bare stays r =
    let n : ℕ = length at in
    let board : (k : ℕ) → k < n → IsBare (after a.first (take (get_or at k 0) b.seen)) = λ k h.
    subst (λ (w : List Mark). IsBare (after a.first (take (get_or at k 0) w))) (sym stays.begins.is)
    (bare_at a.first a.seen stays.begins.more bare (quiet_more a.seen stays.begins.more b.seen stays.begins.is stays.quiet) (get_or at k 0) (between_low (length a.seen) at (length b.seen) k r.span.between h)) in
    let no_records : r.records ≡ []
    = r.span.records_are ∙ turns_none _ n (λ k h. delivered_never _ _ _ (λ t e. hears_none (after a.first (take (get_or at k 0) b.seen)) t e (board k h))) in
    let no_disables : r.disables ≡ []
    = r.span.disables_are ∙ turns_none _ n (λ k h. delivered_never _ _ _ (λ t e. answers_none (after a.first (take (get_or at k 0) b.seen)) t e (board k h))) in
    let records : new.records ≡ old.records = r.records_are ∙ (ap (λ (z : List Record). old.records ++ z) no_records ∙ append-nil old.records) in
    let disables : new.disables ≡ old.disables = r.disables_are ∙ (ap (λ (z : List Disabled). old.disables ++ z) no_disables ∙ append-nil old.disables) in
    let steps : new.steps ≡ old.steps + steps_done p old.state n = omega (arith, r.steps, steps_done_goes p old.state n r.goes) in
    λ i. record { state = r.state i; printed = r.printed i; records = records i; disables = disables i; steps = steps i }

-- a thread that ended after n steps does no more
plain_ended : (p : Parts) (n later : ℕ) (x : Progress) → Goes p x.state n → goes (after_steps p x.state n).mode ≡ false → n ≤ later → plain_after p n x ≡ plain_after p later x
plain_ended p n later x g e h =
    let all : steps_done p x.state later ≡ n = steps_done_all p x.state n later g e h in
    let state : after_steps p x.state n ≡ after_steps p x.state later = sym (after_steps_all p x.state n later e h) in
    let printed : printed_by p x.state n ≡ printed_by p x.state later = ap (λ (k : ℕ). printed_by p x.state k) (sym all) ∙ printed_done p x.state later in
    let steps : x.steps + steps_done p x.state n ≡ x.steps + steps_done p x.state later = omega (arith, all, steps_done_goes p x.state n g) in
    λ i. record { state = state i; printed = x.printed ++ printed i; records = x.records; disables = x.disables; steps = steps i }

pub bare_whole : (p : Parts) (steps : ℕ) (a b : Told) (old new : Progress) → IsBare (after a.first a.seen) → Stays a b → Advanced p steps a b old new → is_asked a b ≡ false → new ≡ plain_after p steps old
bare_whole p steps a b old new bare stays d unasked = ran_bare p d.at a b old new bare stays d.ran ∙ pick (goes new.state.mode) refl
  where
    pick : (on : Bool) → goes new.state.mode ≡ on → plain_after p (length d.at) old ≡ plain_after p steps old
    pick true e = ap (λ (k : ℕ). plain_after p k old) (d.spent unasked e)
    pick false e = plain_ended p (length d.at) steps old d.ran.goes (ap (λ (x : State). goes x.mode) (sym d.ran.state) ∙ e) d.within

pub bare_runs : BareRuns
bare_runs = record { ran = ran_bare; whole = bare_whole }
