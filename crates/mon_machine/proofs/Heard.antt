-- What is heard of a step.
use Rattle.std.proofs.Common.{◌≡◌, ◌≢◌, ℕ, zero, suc, ◌+◌, ◌^◌, ◌<◌, ◌==◌, Bool, true, false, ◌&&◌, List, [], ◌∷◌, ◌++◌, refl, sym, ap, subst, ◌∙◌, arith, add-one, append_assoc}
use Rattle.std.specs.Prelude.{if◌then◌else◌}
use Rattle.std.specs.List.{AllByRecursion}
use Rattle.std.specs.Int.{bit_at}
use Rattle.std.proofs.lemmas.Nat.Bits.{bit_at-pow_same, bit_at-pow_other, bit_at_ones}
use Rattle.std.proofs.lemmas.Bool.Decides.{nat_tests}
use Rattle.mon_events.specs.declared.event.Slot.{Slot}
use Rattle.mon_events.specs.Events.{place}
use Rattle.mon_code.specs.declared.program.Location.{Location}
use Rattle.mon_code.specs.Programs.{Parts}
use Rattle.mon_words.specs.Words.{is_bit, is_enabled}
use Rattle.mon_words.specs.History.{cell_at}
use Rattle.mon_words.specs.declared.history.Board.{Board}
use Rattle.mon_recorders.specs.declared.record.Record.{Record}
use Rattle.mon_recorders.specs.declared.happening.Happening.{Happening}
use Rattle.mon_recorders.specs.declared.happening.Kind.TheVariants.{Local}
use Rattle.mon_machine.specs.State.{State, goes}
use Rattle.mon_machine.specs.Step.{step}
use Rattle.mon_machine.proofs.Runs.{stands_still, nothing_happens}
use Rattle.mon_machine.specs.Run.{after_steps, steps_done, heard}
use Rattle.mon_machine.specs.Serial.{wants_line, line_records, WantsLine, HasLineWants}
use Rattle.mon_machine.specs.Laws.{AtMarked, MarksLine, is_line_kind}

-- two lists
pub all_append : {X : Type 0} (P : X → Type 0) (xs ys : List X) → AllByRecursion P xs → AllByRecursion P ys → AllByRecursion P (xs ++ ys)
all_append P [] ys a b = b
all_append P (x ∷ xs) ys a b = (a.0, all_append P xs ys a.1 b)

pub bit_is : (n k r : ℕ) → bit_at n k ≡ r → is_bit n k ≡ (r == 1)
bit_is n k r e = ap (λ (b : ℕ). b == 1) e

both : (x y : Bool) → y ≡ true → (x && y) ≡ x
both true y e = e
both false y e = refl

-- a bit of a power of two
pow_bit : (tool t : ℕ) → is_bit (2 ^ tool) t ≡ (t == tool)
pow_bit tool t = pick (t == tool) refl
  where
    pick : (v : Bool) → (t == tool) ≡ v → is_bit (2 ^ tool) t ≡ (t == tool)
    pick true e = let h : t ≡ tool = grind (arith, nat_tests) in bit_is (2 ^ tool) t 1 (subst (λ (k : ℕ). bit_at (2 ^ tool) k ≡ 1) (sym h) (bit_at-pow_same tool)) ∙ sym e
    pick false e = let h : t ≢ tool = grind (arith, nat_tests) in bit_is (2 ^ tool) t 0 (bit_at-pow_other tool t h) ∙ sym e

-- at a marked location the tool's bit is the only one that is enabled for LINE
enabled_marked : (b : Board) (tool number : ℕ) (l : Location) → WantsLine tool b number l → l.is_marked ≡ true → (t : ℕ) → t < 6 → is_enabled (cell_at b number) Slot.Line t ≡ (t == tool)
enabled_marked b tool number l w m t h =
    let want : (cell_at b number).want ≡ 2 ^ tool = w.want ∙ ap (λ (v : Bool). if v then 2 ^ tool else 0) m in
    let at : place Slot.Line t ≡ t = omega arith in
    let live : is_bit (cell_at b number).live t ≡ true = ap (λ (n : ℕ). is_bit n t) w.live ∙ bit_is 16777215 t 1 (bit_at_ones 24 t (omega arith)) in
    ap (λ (k : ℕ). is_bit (cell_at b number).want k && is_bit (cell_at b number).live k) at
    ∙ both (is_bit (cell_at b number).want t) (is_bit (cell_at b number).live t) live
    ∙ ap (λ (n : ℕ). is_bit n t) want ∙ pow_bit tool t

-- so it is at the location of a LINE event
pub line_enabled : (p : Parts) (tool : ℕ) (b : Board) (h : Happening) → HasLineWants p tool b → MarksLine p h → (l t : ℕ) → t < 6 → h.kind ≡ Local l Slot.Line → is_enabled (cell_at b l) Slot.Line t ≡ (t == tool)
line_enabled p tool b h wants marks l t within is =
    let m : AtMarked p h = marks.marked (marks.alone (ap is_line_kind is)) in
    let there : Local (m.code.first + m.index) Slot.Line ≡ Local l Slot.Line = sym m.kind ∙ is in
    let same : m.code.first + m.index ≡ l = cc in
    subst (λ (n : ℕ). is_enabled (cell_at b n) Slot.Line t ≡ (t == tool)) same (enabled_marked b tool (m.code.first + m.index) m.location (wants.cells h.code m.index m.code m.location m.found m.stands) m.marked t within)

pub line_records_none : (p : Parts) (tool i : ℕ) (s : State) → line_records p tool i s 0 ≡ []
unfolding line_records
line_records_none p tool i s = refl

pub line_records_more : (p : Parts) (tool i : ℕ) (s : State) (n : ℕ) → line_records p tool i s (n + 1) ≡ heard (wants_line tool) i (step p s).events ++ line_records p tool (i + 1) (step p s).after n
unfolding line_records
line_records_more p tool i s n = rw add-one refl

-- of some steps and then some more
pub line_records_sum : (p : Parts) (tool i : ℕ) (s : State) (m n : ℕ) → line_records p tool i s (m + n) ≡ line_records p tool i s m ++ line_records p tool (i + m) (after_steps p s m) n
unfolding line_records after_steps
line_records_sum p tool i s zero n =
    let e : 0 + n ≡ n = omega arith in
    let f : i + 0 ≡ i = omega arith in
    ap (λ (k : ℕ). line_records p tool i s k) e ∙ ap (λ (k : ℕ). line_records p tool k s n) (sym f)
line_records_sum p tool i s (suc m) n =
    let e : suc m + n ≡ suc (m + n) = omega arith in
    let f : i + 1 + m ≡ i + suc m = omega arith in
    let here = heard (wants_line tool) i (step p s).events in
    ap (λ (k : ℕ). line_records p tool i s k) e
    ∙ ap (λ (r : List Record). here ++ r) (line_records_sum p tool (i + 1) (step p s).after m n)
    ∙ sym (append_assoc here (line_records p tool (i + 1) (step p s).after m) (line_records p tool (i + 1 + m) (after_steps p (step p s).after m) n))
    ∙ ap (λ (k : ℕ). (here ++ line_records p tool (i + 1) (step p s).after m) ++ line_records p tool k (after_steps p (step p s).after m) n) f

-- a thread that does not go on is not heard
pub line_records_ended : (p : Parts) (tool i : ℕ) (s : State) (n : ℕ) → goes s.mode ≡ false → line_records p tool i s n ≡ []
unfolding line_records
line_records_ended p tool i s zero e = refl
line_records_ended p tool i s (suc n) e =
    let still : (step p s).after ≡ s = stands_still p s e in
    let none : (step p s).events ≡ [] = nothing_happens p s e in
    ap (λ (hs : List Happening). heard (wants_line tool) i hs ++ line_records p tool (i + 1) (step p s).after n) none
    ∙ ap (λ (t : State). line_records p tool (i + 1) t n) still ∙ line_records_ended p tool (i + 1) s n e

-- so the steps that it does are all that are heard
pub line_records_done : (p : Parts) (tool i : ℕ) (s : State) (n : ℕ) → line_records p tool i s (steps_done p s n) ≡ line_records p tool i s n
unfolding line_records steps_done
line_records_done p tool i s zero = refl
line_records_done p tool i s (suc n) = pick (goes s.mode) refl (line_records_done p tool (i + 1) (step p s).after n)
  where
    pick : (b : Bool) → goes s.mode ≡ b → line_records p tool (i + 1) (step p s).after (steps_done p (step p s).after n) ≡ line_records p tool (i + 1) (step p s).after n
        → line_records p tool i s (if b then steps_done p (step p s).after n + 1 else 0) ≡ heard (wants_line tool) i (step p s).events ++ line_records p tool (i + 1) (step p s).after n
    pick true e h = line_records_more p tool i s (steps_done p (step p s).after n) ∙ ap (λ (r : List Record). heard (wants_line tool) i (step p s).events ++ r) h
    pick false e h = sym (line_records_ended p tool i s (suc n) e)
