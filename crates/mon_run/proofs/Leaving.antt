-- A whole round of a thread.
use Rattle.std.proofs.Common.{◌≡◌, ℕ, false, ◌++◌, ap, ◌∙◌}
use Rattle.mon_code.specs.Programs.{Parts}
use Rattle.mon_words.specs.Told.{Told}
use Rattle.mon_board.specs.Views.{told_of}
use Rattle.mon_gate.specs.Plays.{Goes}
use Rattle.mon_gate.specs.declared.view.View.{View}
use Rattle.mon_gate.specs.declared.view.Phase.TheVariants.{Attached}
use Rattle.mon_machine.specs.Advances.{Progress, Advanced, Stays}
use Rattle.mon_forms.specs.declared.plan.Start.{Start}
use Rattle.mon_run.specs.Rounds.{Left}
use Rattle.mon_run.proofs.Going.{enters, advances, leaves}

-- v before it, w when the thread had entered, b when it had advanced, and d when it had left
pub round : (p : Parts) (s : Start) (n steps : ℕ) (v w : View) (b d : Told) (q u : Progress) → Left p s (told_of v) q → Goes v w.seen
    → w ≡ record v { phase = Attached; seen = w.seen; found = w.found; tally = record v.tally { entries = w.tally.entries } }
    → Advanced p n (told_of w) b q u → Stays (told_of w) b → d ≡ record b { attached = false; count = steps } → steps ≡ u.steps → Left p s d u
round p s n steps v w b d q u l goes is advanced stays left same =
    let inside = enters p s l.at (told_of v) (told_of w) q l.reading l.count goes.begins goes.own goes.still
    (ap (λ (z : View). z.number) is) (ap (λ (z : View). z.first) is) (ap (λ (z : View). z.mine) is) (ap (λ (z : View). z.tally.loads) is) in
    record {
      at = l.at ++ advanced.at;
      reading = leaves p s (l.at ++ advanced.at) b d u steps (advances p s l.at advanced.at (told_of w) b q u inside stays advanced.ran) left;
      detached = ap (λ (z : Told). z.attached) left;
      count = ap (λ (z : Told). z.count) left ∙ same;
    }
