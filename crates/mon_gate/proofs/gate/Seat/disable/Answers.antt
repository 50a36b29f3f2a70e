use Rattle.std.proofs.Common.{rules, arith, ap, sym, ◌-◌, ◌≡◌, ◌∙◌, subst, ℕ, List, ◌++◌, ◌∷◌, []}
use Rattle.mon_words.specs.Words.{before_locations, Shows}
use Rattle.mon_words.specs.History.{cell_at, after, offs}
use Rattle.mon_words.specs.declared.history.Mark.{Mark}
use Rattle.mon_words.specs.declared.history.Mark.TheVariants.{Off}
use Rattle.mon_words.proofs.Histories.{offs-same}
use Rattle.mon_gate.specs.Places.{word_number}
use Rattle.mon_gate.specs.declared.view.View.{View}
use Rattle.mon_gate.proofs.Words.{disables}
use Rattle.mon_gate.proofs.gate.Seat.disable.Goals as goal

pub fetch_and-requires : goal.fetch_and-requires
fetch_and-requires c = (search rules, search rules, disables _ _ _ c.args.location _ c.requires.mask.0 _ _ c.requires.attached (omega arith) c.requires.within c.requires.mask.1 c.requires.mask.2)

pub returns-clause-seen : goal.returns-clause-seen
returns-clause-seen c k low is =
    let v = c.args.self.now.chair.me.0 in let t = c.fetch_and.ensures.2 k low is in
    let l : word_number v.threads c.location_place-place.result - before_locations ≡ c.args.location = omega arith in
    let off : Off v.number (word_number v.threads c.location_place-place.result - before_locations) k ≡ Off c.args.self.now.number c.args.location k = λ i. Off (c.args.self.now.named i) (l i) k in
    record {
      before = t.0;
      adds = t.1;
      seen = ap (λ m. m.0.seen) t.3 ∙ ap (λ (o : Mark). t.0 ++ o ∷ []) off;
      mine = ap (λ m. m.0.mine) t.3 ∙ ap (λ (o : Mark). v.mine ++ o ∷ []) off;
      shows = subst (λ (z : ℕ). Shows (cell_at (after v.first t.0) z) c.fetch_and.result) l t.2;
    }

pub invariant_of-self-clause-own : goal.invariant_of-self-clause-own
invariant_of-self-clause-own c =
    let v = c.args.self.now.chair.me.0 in let t = c.fetch_and.ensures.2 c.requires.mask.0 c.requires.mask.1 c.requires.mask.2 in
    let m : Mark = Off v.number (word_number v.threads c.location_place-place.result - before_locations) c.requires.mask.0 in
    let same : offs v.number (t.0 ++ m ∷ []) ≡ v.mine ++ m ∷ [] = offs-same v.number t.0 _ _ ∙ ap (λ (z : List Mark). z ++ m ∷ []) t.1.own in
    subst (λ (w : View). offs w.number w.seen ≡ w.mine) (sym (ap (λ m. m.0) t.3)) same
