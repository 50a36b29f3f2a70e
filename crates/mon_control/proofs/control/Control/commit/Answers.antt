use Rattle.std.proofs.Common.{◌≡◌, ◌<◌, ◌∙◌, ◌++◌, ◌∷◌, [], sym, ap, subst, List, ℕ, length, get_or, arith, true, Some, Bool}
use Rattle.mon_words.specs.History.{UpTo}
use Rattle.mon_words.specs.Halted.{Halt}
use Rattle.mon_history.specs.Configuration.{Configuration}
use Rattle.mon_history.specs.Kept.{config_of}
use Rattle.mon_history.specs.Registry.{stops, change, reply}
use Rattle.mon_history.specs.Journal.{IsLawful, replay}
use Rattle.mon_code.specs.Sites.{site_at, sites_of}
use Rattle.mon_history.specs.Stands.{StandsFor, globals}
use Rattle.mon_history.specs.declared.journal.JournalLine.{JournalLine}
use Rattle.mon_instrument.specs.Due.{Walked, reached_cell, is_reached, callback_words}
use Rattle.mon_instrument.specs.declared.walking.Reach.{Reach}
use Rattle.mon_control.specs.View.{Shown, line_of, reach_of, restarts, Counted, Commits}
use Rattle.mon_control.proofs.Committing.{laid_now, global_now, callbacks_now, lawful_now, replays_now, commits}
use Rattle.mon_control.proofs.control.Control.commit.Goals as goal

pub read_counts-requires-clause-few : goal.read_counts-requires-clause-few
read_counts-requires-clause-few g c = let n = c.requires.counts ∙ ap (λ (z : Shown). z.threads) (sym c.self.view_is) in omega (arith, n, c.self.ranges.1.1.1.0.1)

pub walk-requires-clause-laid : goal.walk-requires-clause-laid
walk-requires-clause-laid g c =
    let v = c.self.view_is in let a = c.self.inside in let J = a.journal.lines in let call = c.args.ready.call in let p = c.args.program.now in
    let h0 = g.S.Halted.halt c.args.s.now in let h1 = g.S.Halted.halt c.read_counts.new.s in let C = config_of c.change.new.config in
    let stop : stops (replay J) call ≡ true = subst (λ (z : Shown). stops (replay z.journal) call ≡ true) (sym v) c.requires.stops in
    let stands : StandsFor (sites_of p) J h0.first h0.seen = subst (λ (z : Shown). StandsFor (sites_of p) z.journal h0.first h0.seen) (sym v) c.requires.stands in
    let n : length c.args.ready.counts ≡ a.threads = c.requires.counts ∙ ap (λ (z : Shown). z.threads) (sym v) in
    let wide : length c.read_counts.new.counts ≡ a.threads = c.read_counts.ensures.wide ∙ n in
    let counted : Counted a.threads c.read_counts.new.counts h0 h1 = subst (λ z. Counted z c.read_counts.new.counts h0 h1) n c.read_counts.ensures.counted in
    let changes : C ≡ change call (replay J) = c.change.ensures.change ∙ ap (change call) c.self.invariant.replays in
    laid_now p a.threads J c.args.ready.who call c.read_counts.new.counts C h0 h1 c.self.invariant.lawful stop changes wide stands c.requires.board counted

pub words_of-standing-requires : goal.words_of-standing-requires
words_of-standing-requires g c = record { kept = (c.self.inside.codes, c.self.invariant.kept) }

pub change_words-requires-clause-six : goal.change_words-requires-clause-six
change_words-requires-clause-six g c =
    let v = c.self.view_is in let a = c.self.inside in let J = a.journal.lines in let call = c.args.ready.call in let p = c.args.program.now in
    let h0 = g.S.Halted.halt c.args.s.now in let h1 = g.S.Halted.halt c.read_counts.new.s in let C = config_of c.change.new.config in
    let stop : stops (replay J) call ≡ true = subst (λ (z : Shown). stops (replay z.journal) call ≡ true) (sym v) c.requires.stops in
    let stands : StandsFor (sites_of p) J h0.first h0.seen = subst (λ (z : Shown). StandsFor (sites_of p) z.journal h0.first h0.seen) (sym v) c.requires.stands in
    let n : length c.args.ready.counts ≡ a.threads = c.requires.counts ∙ ap (λ (z : Shown). z.threads) (sym v) in
    let wide : length c.read_counts.new.counts ≡ a.threads = c.read_counts.ensures.wide ∙ n in
    let counted : Counted a.threads c.read_counts.new.counts h0 h1 = subst (λ z. Counted z c.read_counts.new.counts h0 h1) n c.read_counts.ensures.counted in
    let changes : C ≡ change call (replay J) = c.change.ensures.change ∙ ap (change call) c.self.invariant.replays in
    ap (λ (z : Halt). length z.board.callbacks) c.walk.ensures.told.is ∙ (laid_now p a.threads J c.args.ready.who call c.read_counts.new.counts C h0 h1 c.self.invariant.lawful stop changes wide stands c.requires.board counted).six

pub change_words-requires-clause-kept : goal.change_words-requires-clause-kept
change_words-requires-clause-kept g c = (c.self.inside.codes, c.change.ensures.kept c.self.inside.codes c.self.invariant.kept)

pub change_words-requires-clause-global : goal.change_words-requires-clause-global
change_words-requires-clause-global g c =
    let v = c.self.view_is in let a = c.self.inside in let J = a.journal.lines in let call = c.args.ready.call in let p = c.args.program.now in
    let h0 = g.S.Halted.halt c.args.s.now in let h1 = g.S.Halted.halt c.read_counts.new.s in let C = config_of c.change.new.config in
    let stop : stops (replay J) call ≡ true = subst (λ (z : Shown). stops (replay z.journal) call ≡ true) (sym v) c.requires.stops in
    let stands : StandsFor (sites_of p) J h0.first h0.seen = subst (λ (z : Shown). StandsFor (sites_of p) z.journal h0.first h0.seen) (sym v) c.requires.stands in
    let n : length c.args.ready.counts ≡ a.threads = c.requires.counts ∙ ap (λ (z : Shown). z.threads) (sym v) in
    let wide : length c.read_counts.new.counts ≡ a.threads = c.read_counts.ensures.wide ∙ n in
    let counted : Counted a.threads c.read_counts.new.counts h0 h1 = subst (λ z. Counted z c.read_counts.new.counts h0 h1) n c.read_counts.ensures.counted in
    let changes : C ≡ change call (replay J) = c.change.ensures.change ∙ ap (change call) c.self.invariant.replays in
    ap (λ (z : Halt). z.board.global) c.walk.ensures.told.is ∙ global_now p a.threads J c.args.ready.who call c.read_counts.new.counts C h0 h1 c.self.invariant.lawful stop changes wide stands c.requires.board counted c.words_of-standing.result.global (c.words_of-standing.ensures.global ∙ ap globals c.self.invariant.replays)

pub change_words-requires-clause-callbacks : goal.change_words-requires-clause-callbacks
change_words-requires-clause-callbacks g c =
    let v = c.self.view_is in let a = c.self.inside in let J = a.journal.lines in let call = c.args.ready.call in let p = c.args.program.now in
    let h0 = g.S.Halted.halt c.args.s.now in let h1 = g.S.Halted.halt c.read_counts.new.s in let C = config_of c.change.new.config in
    let stop : stops (replay J) call ≡ true = subst (λ (z : Shown). stops (replay z.journal) call ≡ true) (sym v) c.requires.stops in
    let stands : StandsFor (sites_of p) J h0.first h0.seen = subst (λ (z : Shown). StandsFor (sites_of p) z.journal h0.first h0.seen) (sym v) c.requires.stands in
    let n : length c.args.ready.counts ≡ a.threads = c.requires.counts ∙ ap (λ (z : Shown). z.threads) (sym v) in
    let wide : length c.read_counts.new.counts ≡ a.threads = c.read_counts.ensures.wide ∙ n in
    let counted : Counted a.threads c.read_counts.new.counts h0 h1 = subst (λ z. Counted z c.read_counts.new.counts h0 h1) n c.read_counts.ensures.counted in
    let changes : C ≡ change call (replay J) = c.change.ensures.change ∙ ap (change call) c.self.invariant.replays in
    ap (λ (z : Halt). z.board.callbacks) c.walk.ensures.told.is ∙ callbacks_now p a.threads J c.args.ready.who call c.read_counts.new.counts C h0 h1 c.self.invariant.lawful stop changes wide stands c.requires.board counted c.words_of-standing.result.callbacks (c.words_of-standing.ensures.callbacks ∙ ap callback_words c.self.invariant.replays)

pub invariant_of-self : goal.invariant_of-self
invariant_of-self g c =
    let v = c.self.view_is in let a = c.self.inside in let J = a.journal.lines in let call = c.args.ready.call in let p = c.args.program.now in
    let h0 = g.S.Halted.halt c.args.s.now in let h1 = g.S.Halted.halt c.read_counts.new.s in let C = config_of c.change.new.config in
    let stop : stops (replay J) call ≡ true = subst (λ (z : Shown). stops (replay z.journal) call ≡ true) (sym v) c.requires.stops in
    let stands : StandsFor (sites_of p) J h0.first h0.seen = subst (λ (z : Shown). StandsFor (sites_of p) z.journal h0.first h0.seen) (sym v) c.requires.stands in
    let n : length c.args.ready.counts ≡ a.threads = c.requires.counts ∙ ap (λ (z : Shown). z.threads) (sym v) in
    let wide : length c.read_counts.new.counts ≡ a.threads = c.read_counts.ensures.wide ∙ n in
    let counted : Counted a.threads c.read_counts.new.counts h0 h1 = subst (λ z. Counted z c.read_counts.new.counts h0 h1) n c.read_counts.ensures.counted in
    let changes : C ≡ change call (replay J) = c.change.ensures.change ∙ ap (change call) c.self.invariant.replays in
    let is : c.add.new.self.lines ≡ J ++ line_of J c.args.ready.who call (Some c.read_counts.new.counts) ∷ [] =
    c.add.ensures ∙ ap (λ r. J ++ record { call = call; who = c.args.ready.who; reply = r; stops = Some c.read_counts.new.counts } ∷ []) (c.stop_reply-kept.ensures ∙ ap (λ (z : Configuration). reply z call) c.self.invariant.replays) in
    let high : (t : ℕ) → t < a.threads → UpTo t (get_or c.read_counts.new.counts t 0) h0.seen = λ t l. c.read_counts.ensures.high t (omega (arith, n)) in
    let lawful : IsLawful a.threads c.add.new.self.lines = subst (λ (z : List JournalLine). IsLawful a.threads z) (sym is) (lawful_now p a.threads J c.args.ready.who call c.read_counts.new.counts C h0 h1 c.self.invariant.lawful stop changes wide stands c.requires.board counted high) in
    record { lawful = lawful; replays = replays_now p a.threads J c.args.ready.who call c.read_counts.new.counts C h0 h1 c.self.invariant.lawful stop changes wide stands c.requires.board counted ∙ ap replay (sym is); kept = c.change.ensures.kept a.codes c.self.invariant.kept }

pub returns-clause-lawful : goal.returns-clause-lawful
returns-clause-lawful g c =
    let v = c.self.view_is in let a = c.self.inside in let J = a.journal.lines in let call = c.args.ready.call in let p = c.args.program.now in
    let h0 = g.S.Halted.halt c.args.s.now in let h1 = g.S.Halted.halt c.read_counts.new.s in let C = config_of c.change.new.config in
    let stop : stops (replay J) call ≡ true = subst (λ (z : Shown). stops (replay z.journal) call ≡ true) (sym v) c.requires.stops in
    let stands : StandsFor (sites_of p) J h0.first h0.seen = subst (λ (z : Shown). StandsFor (sites_of p) z.journal h0.first h0.seen) (sym v) c.requires.stands in
    let n : length c.args.ready.counts ≡ a.threads = c.requires.counts ∙ ap (λ (z : Shown). z.threads) (sym v) in
    let wide : length c.read_counts.new.counts ≡ a.threads = c.read_counts.ensures.wide ∙ n in
    let counted : Counted a.threads c.read_counts.new.counts h0 h1 = subst (λ z. Counted z c.read_counts.new.counts h0 h1) n c.read_counts.ensures.counted in
    let changes : C ≡ change call (replay J) = c.change.ensures.change ∙ ap (change call) c.self.invariant.replays in
    let is : c.add.new.self.lines ≡ J ++ line_of J c.args.ready.who call (Some c.read_counts.new.counts) ∷ [] =
    c.add.ensures ∙ ap (λ r. J ++ record { call = call; who = c.args.ready.who; reply = r; stops = Some c.read_counts.new.counts } ∷ []) (c.stop_reply-kept.ensures ∙ ap (λ (z : Configuration). reply z call) c.self.invariant.replays) in
    let high : (t : ℕ) → t < a.threads → UpTo t (get_or c.read_counts.new.counts t 0) h0.seen = λ t l. c.read_counts.ensures.high t (omega (arith, n)) in
    let lawful : IsLawful a.threads c.add.new.self.lines = subst (λ (z : List JournalLine). IsLawful a.threads z) (sym is) (lawful_now p a.threads J c.args.ready.who call c.read_counts.new.counts C h0 h1 c.self.invariant.lawful stop changes wide stands c.requires.board counted high) in
    lawful

pub returns-clause-commits : goal.returns-clause-commits
returns-clause-commits g c =
    let v = c.self.view_is in let a = c.self.inside in let J = a.journal.lines in let call = c.args.ready.call in let p = c.args.program.now in
    let h0 = g.S.Halted.halt c.args.s.now in let h1 = g.S.Halted.halt c.read_counts.new.s in let C = config_of c.change.new.config in
    let stop : stops (replay J) call ≡ true = subst (λ (z : Shown). stops (replay z.journal) call ≡ true) (sym v) c.requires.stops in
    let stands : StandsFor (sites_of p) J h0.first h0.seen = subst (λ (z : Shown). StandsFor (sites_of p) z.journal h0.first h0.seen) (sym v) c.requires.stands in
    let n : length c.args.ready.counts ≡ a.threads = c.requires.counts ∙ ap (λ (z : Shown). z.threads) (sym v) in
    let wide : length c.read_counts.new.counts ≡ a.threads = c.read_counts.ensures.wide ∙ n in
    let counted : Counted a.threads c.read_counts.new.counts h0 h1 = subst (λ z. Counted z c.read_counts.new.counts h0 h1) n c.read_counts.ensures.counted in
    let changes : C ≡ change call (replay J) = c.change.ensures.change ∙ ap (change call) c.self.invariant.replays in
    let walked : Walked (reached_cell C (sites_of p) (reach_of call) (restarts call)) (λ l. is_reached (reach_of call) (site_at (sites_of p) l)) 0 (length (sites_of p)) h1 (g.S.Halted.halt c.walk.new.s) =
    subst (λ (z : Reach × Bool). Walked (reached_cell C (sites_of p) z.0 z.1) (λ l. is_reached z.0 (site_at (sites_of p) l)) 0 (length (sites_of p)) h1 (g.S.Halted.halt c.walk.new.s)) (λ i. (c.reach_of.ensures i, c.restarts.ensures i)) c.walk.ensures.told in
    let is : c.add.new.self.lines ≡ J ++ line_of J c.args.ready.who call (Some c.read_counts.new.counts) ∷ [] =
    c.add.ensures ∙ ap (λ r. J ++ record { call = call; who = c.args.ready.who; reply = r; stops = Some c.read_counts.new.counts } ∷ []) (c.stop_reply-kept.ensures ∙ ap (λ (z : Configuration). reply z call) c.self.invariant.replays) in
    subst (λ (z : Shown). Commits p z.threads z.journal c.args.ready.who call h0 (g.S.Halted.halt c.change_words.new.s) c.add.new.self.lines) v
    (commits p a.threads J c.args.ready.who call c.read_counts.new.counts C h0 h1 c.self.invariant.lawful stop changes wide stands c.requires.board counted (g.S.Halted.halt c.walk.new.s) (g.S.Halted.halt c.change_words.new.s) c.add.new.self.lines walked c.change_words.ensures.told is)
