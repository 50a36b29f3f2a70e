-- What the calls of a gate's thread tell.
use Rattle.std.proofs.Common.{◌≡◌, ◌∙◌, ◌∷◌, ◌++◌, [], ℕ, Bool, List, ap, sym, get_or, length}
use Rattle.std.specs.Prelude.{◌==◌, ◌<◌, ◌≤◌, Result, Ok, Err, IfErr, MatchResult}
use Rattle.mon_words.specs.Words.{Shows, stop_bit}
use Rattle.mon_words.specs.History.{cell_at, after}
use Rattle.mon_words.specs.Tallies.{loaded_at, loaded_global, loaded_callbacks, disabled_once, tried, entered_once}
use Rattle.mon_words.specs.Told.{Extends, Loads, LoadsGlobal, LoadsCallbacks, Retires, Clears, Enters}
use Rattle.mon_words.specs.declared.handle.WorldStopped.{WorldStopped}
use Rattle.mon_words.specs.declared.history.Mark.{Mark}
use Rattle.mon_words.specs.declared.history.Mark.TheVariants.{Off}
use Rattle.mon_gate.specs.Plays.{Adds, Goes}
use Rattle.mon_gate.specs.Seats.{Disabled}
use Rattle.mon_gate.specs.declared.view.View.{View}
use Rattle.mon_gate.specs.declared.view.Phase.TheVariants.{Out, Attached}
use Rattle.mon_board.specs.Views.{is_attached, told_of}
use Rattle.mon_board.proofs.Bases.{shown_base}

pub extends : (v : View) (log : List Mark) → Adds v log → Extends (told_of v) log
extends v log adds = record { begins = adds.begins; quiet = adds.all; own = adds.own }

module _ (v w : View) (adds : Adds v w.seen) where
  pub loads : (l n : ℕ) → w ≡ record v { seen = w.seen; tally = loaded_at v.tally l (length w.seen) } → Shows (cell_at (after v.first w.seen) l) n → Loads (told_of v) l n (told_of w)
  loads l n is shows = record { extends = extends v w.seen adds; rest = ap told_of is; shows = shows; base = shown_base (after v.first w.seen) v.first l n adds.based.bases_are shows }

  pub retires : (l old n : ℕ) (answer : Bool) → w ≡ record v { seen = w.seen; tally = tried v.tally l old answer } → answer ≡ (n == old) → Shows (cell_at (after v.first w.seen) l) n → Retires (told_of v) l old answer (told_of w)
  retires l old n answer view is shows = record { found = n; extends = extends v w.seen adds; rest = ap told_of view; shows = shows; answer_is = is }

  pub loads_global : (n : ℕ) → w ≡ record v { seen = w.seen; tally = loaded_global v.tally } → n ≡ (after v.first w.seen).global → LoadsGlobal (told_of v) n (told_of w)
  loads_global n is shows = record { extends = extends v w.seen adds; rest = ap told_of is; shows = shows }

  pub loads_callbacks : (tool n : ℕ) → w ≡ record v { seen = w.seen; tally = loaded_callbacks v.tally tool } → n ≡ get_or (after v.first w.seen).callbacks tool 0 → LoadsCallbacks (told_of v) tool n (told_of w)
  loads_callbacks tool n is shows = record { extends = extends v w.seen adds; rest = ap told_of is; shows = shows }

pub clears : (v w : View) (number l k n : ℕ) → v.number ≡ number → w ≡ record v { seen = w.seen; mine = w.mine; tally = disabled_once v.tally } → Disabled v number l k n w → Clears (told_of v) l k n (told_of w)
clears v w number l k n named is d =
    let seen : w.seen ≡ d.before ++ Off v.number l k ∷ [] = d.seen ∙ ap (λ (z : ℕ). d.before ++ Off z l k ∷ []) (sym named) in
    let mine : w.mine ≡ v.mine ++ Off v.number l k ∷ [] = d.mine ∙ ap (λ (z : ℕ). v.mine ++ Off z l k ∷ []) (sym named) in
    record {
      before = d.before;
      extends = extends v d.before d.adds;
      rest = ap told_of is ∙ (λ i. record (told_of v) { seen = seen i; own = mine i; tally = disabled_once v.tally });
      shows = d.shows;
    }

-- what is known of the answer to a try to enter
abbrev pub Answers : View → Result (Unit {0}) WorldStopped → Type 0
Answers w a = MatchResult a (λ _. (w.phase ≡ Attached) × (w.found < stop_bit)) (λ e. (w.phase ≡ Out) × (e.0 ≡ w.found) × (stop_bit ≤ e.0))

pub enters : (v w : View) (a : Result (Unit {0}) WorldStopped) → Goes v w.seen → w ≡ record v { phase = w.phase; seen = w.seen; found = w.found; tally = entered_once v.tally } → Answers w a → Enters (told_of v) a (told_of w)
enters v w (Ok x) goes is m = record {
  begins = goes.begins;
  own = goes.own;
  still = goes.still;
  rest = ap told_of is ∙ (λ i. record (told_of v) { seen = w.seen; attached = is_attached (m.0 i); tally = entered_once v.tally });
  refused = tt;
}
enters v w (Err e) goes is m = record {
  begins = goes.begins;
  own = goes.own;
  still = goes.still;
  rest = ap told_of is ∙ (λ i. record (told_of v) { seen = w.seen; attached = is_attached (m.0 i); tally = entered_once v.tally });
  refused = m.2;
}

pub refuses : (w : View) (a : Result (Unit {0}) WorldStopped) → Answers w a → IfErr a (λ e. e.0 ≡ w.found)
refuses w (Ok x) m = tt
refuses w (Err e) m = m.1
