-- A seat that tries to enter again goes on from where it was.
use Rattle.std.proofs.Common.{◌≡◌, ℕ, List, ◌++◌, length, sym, ap, ◌∙◌, subst}
use Rattle.mon_words.specs.History.{offs, Begins, Still}
use Rattle.mon_words.specs.declared.history.Mark.{Mark}
use Rattle.mon_words.proofs.Histories.{begins_trans, begins_length, still-join}
use Rattle.mon_gate.specs.Plays.{Goes}
use Rattle.mon_gate.specs.declared.view.View.{View}

pub goes_on : (v w : View) (log : List Mark) → w.number ≡ v.number → w.stored ≡ v.stored → w.mine ≡ v.mine → Begins v.seen w.seen → Still (length v.seen) v.number v.stored w.seen → Goes w log → Goes v log
goes_on v w log number stored mine begins still goes =
    let last : Still (length w.seen) v.number v.stored log = subst (λ (z : ℕ × ℕ). Still (length w.seen) z.0 z.1 log) (λ i. (number i, stored i)) goes.still in
    let whole : Still (length w.seen) v.number v.stored (w.seen ++ goes.begins.more) = subst (Still (length w.seen) v.number v.stored) goes.begins.is last in
    record {
      begins = begins_trans v.seen w.seen log begins goes.begins;
      own = ap (λ (z : ℕ). offs z log) (sym number) ∙ (goes.own ∙ mine);
      still = subst (Still (length v.seen) v.number v.stored) (sym goes.begins.is) (still-join (length v.seen) v.number v.stored w.seen goes.begins.more (begins_length v.seen w.seen begins) still whole);
    }
