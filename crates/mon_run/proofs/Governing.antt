-- What the controller keeps is kept by a call.
use Rattle.std.proofs.Common.{◌≡◌, ℕ, zero, suc, ◌<◌, ◌≤◌, List, [], ◌∷◌, ◌++◌, length, get_or, Some, None, unwrap_or, sym, refl, ap, ◌∙◌, subst, arith}
use mathlib.Core.Logic.{dite}
use native.Mathlib.Decide.{dec_le}
use Rattle.mon_code.specs.Programs.{Parts}
use Rattle.mon_code.specs.Sites.{sites_of}
use Rattle.mon_words.specs.History.{puts, Begins}
use Rattle.mon_words.specs.Standing.{noted_of, count_of}
use Rattle.mon_words.specs.declared.history.Board.{Board}
use Rattle.mon_words.specs.declared.history.Mark.{Mark}
use Rattle.mon_words.specs.declared.history.Mark.TheVariants.{Put}
use Rattle.mon_words.proofs.Histories.{puts-put}
use Rattle.mon_gate.specs.Plays.{standing, put_of}
use Rattle.mon_gate.specs.declared.view.View.{View}
use Rattle.mon_board.specs.Views.{halt_of}
use Rattle.mon_history.specs.Journal.{IsLawful}
use Rattle.mon_history.specs.Stands.{StandsFor}
use Rattle.mon_history.specs.declared.calls.ControlCall.{ControlCall}
use Rattle.mon_history.specs.declared.calls.Who.{Who}
use Rattle.mon_history.specs.declared.journal.JournalLine.{JournalLine}
use Rattle.mon_history.proofs.Growing.{stands_quiet, stands_on}
use Rattle.mon_control.specs.View.{Shown, line_of, Commits}
use Rattle.mon_control.proofs.Noting.{noted_counts}
use Rattle.mon_run.specs.Controlling.{Governs, Made, SameShares, SameSizes}
use Rattle.mon_run.proofs.Reading.{bare_behind}

pub same_shares : (u v w : View) → SameShares u v → SameShares v w → SameShares u w
same_shares u v w a b = record { threads = b.threads ∙ a.threads; first = b.first ∙ a.first; tickets = b.tickets ∙ a.tickets; ended = b.ended ∙ a.ended }

pub same_sizes : (b c d : Shown) → SameSizes b c → SameSizes c d → SameSizes b d
same_sizes b c d x y = record { threads = y.threads ∙ x.threads; codes = y.codes ∙ x.codes }

-- a call that found no memory
pub unchanged : (p : Parts) (c d : Shown) (v : View) → Governs p c v → d.threads ≡ c.threads → d.codes ≡ c.codes → IsLawful d.threads d.journal → d.journal ≡ c.journal → Governs p d v
unchanged p c d v g threads codes lawful same = record {
  threads = g.threads ∙ sym threads;
  codes = g.codes ∙ sym codes;
  lawful = lawful;
  stands = subst (λ (z : List JournalLine). StandsFor (sites_of p) z v.first v.seen) (sym same) g.stands;
  own = g.own;
}

-- a call that did not stop the world
pub answered : (p : Parts) (c d : Shown) (v : View) (who : Who) (call : ControlCall) → Governs p c v → d.threads ≡ c.threads → d.codes ≡ c.codes → IsLawful d.threads d.journal → d.journal ≡ c.journal ++ line_of c.journal who call None ∷ [] → Governs p d v
answered p c d v who call g threads codes lawful is = record {
  threads = g.threads ∙ sym threads;
  codes = g.codes ∙ sym codes;
  lawful = lawful;
  stands = subst (λ (z : List JournalLine). StandsFor (sites_of p) z v.first v.seen) (sym is) (stands_quiet (sites_of p) c.journal v.first v.seen (line_of c.journal who call None) g.stands refl);
  own = g.own;
}

no_stops : (counts : List ℕ) → None ≡ Some counts → ⊥
no_stops counts e = cc

pub made_answered : (J K : List JournalLine) (who : Who) (call : ControlCall) (v : View) → K ≡ J ++ line_of J who call None ∷ [] → Made J who call v K
made_answered J K who call v is = record {
  line = line_of J who call None;
  is = is;
  who_is = refl;
  call_is = refl;
  early = λ home counts e t. absurd (no_stops counts e);
}

-- in a stop the first pass has seen the whole history
pub stopped : (p : Parts) (c : Shown) (v w : View) → Governs p c v → w.first ≡ v.first → Begins v.seen w.seen → puts w.seen ≡ v.mine → StandsFor (sites_of p) c.journal w.first w.seen
stopped p c v w g first begins boards =
    let rest : List Mark = begins.more in
    let bare : puts rest ≡ [] = bare_behind v.seen rest (ap puts (sym begins.is) ∙ (boards ∙ sym g.own)) in
    subst (λ (z : List Mark × Board). StandsFor (sites_of p) c.journal z.1 z.0) (λ i. (sym begins.is i, sym first i)) (stands_on (sites_of p) c.journal v.first v.seen rest g.stands bare)

-- after a stop: w is the view in the stop, x at its end, and y behind the release
module _ (p : Parts) (c d : Shown) (who : Who) (call : ControlCall) (w x y : View) (m : Commits p c.threads c.journal who call (halt_of w) (halt_of x) d.journal) (few : w.threads ≡ c.threads) where
  put : put_of x ≡ Put m.counts (standing x)
  put = ap (λ z. Put z (standing x)) (noted_counts m.counts (noted_of x.noted) x.threads (m.wide ∙ (sym few ∙ sym m.threads_are)) (λ t l. m.noted t (omega (arith, m.threads_are, few))))

  pub released : (threads : d.threads ≡ c.threads) → (codes : d.codes ≡ c.codes) → length p.codes ≡ c.codes → IsLawful d.threads d.journal → puts w.seen ≡ w.mine → x.mine ≡ w.mine
      → y.threads ≡ x.threads → y.first ≡ x.first → y.seen ≡ x.seen ++ put_of x ∷ [] → y.mine ≡ x.mine ++ put_of x ∷ [] → Governs p d y
  released threads codes named lawful boards mine more first seen own =
      let there : y.seen ≡ w.seen ++ Put m.counts (standing x) ∷ [] = seen ∙ (λ i. m.seen i ++ put i ∷ []) in record {
        threads = more ∙ (m.threads_are ∙ (few ∙ sym threads));
        codes = named ∙ sym codes;
        lawful = lawful;
        stands = subst (λ (z : Board × List Mark). StandsFor (sites_of p) d.journal z.0 z.1) (λ i. (sym (first ∙ m.first) i, sym there i)) m.stands;
        own = ap puts there ∙ (puts-put w.seen m.counts (standing x) ∙ (ap (λ z. z ++ Put m.counts (standing x) ∷ []) (boards ∙ sym mine) ∙ sym (own ∙ ap (λ z. x.mine ++ z ∷ []) put)));
      }

  -- while the first pass has every ticket its counts are 0
  pub made_stop : (v : View) → (x.tickets ≡ x.threads → (t : ℕ) → t < x.threads → count_of x.noted t ≡ 0) → x.tickets ≡ v.tickets → w.threads ≡ v.threads → Made c.journal who call v d.journal
  made_stop v unclaimed tickets threads = record {
    line = line_of c.journal who call (Some m.counts);
    is = m.is;
    who_is = refl;
    call_is = refl;
    early = λ home counts e t.
        let same : m.counts ≡ counts = cc in
        let all : x.tickets ≡ x.threads = tickets ∙ (home ∙ (sym threads ∙ sym m.threads_are)) in
        ap (λ (z : List ℕ). get_or z t 0) (sym same) ∙ dite (dec_le (suc t) x.threads)
        (λ low. ap (λ o. unwrap_or o 0) (sym (m.noted t (omega (arith, m.threads_are, few)))) ∙ unclaimed all t (omega arith))
        (λ high. beyond m.counts t (omega (arith, m.wide, m.threads_are, few)));
  }
    where
      beyond : (xs : List ℕ) (t : ℕ) → length xs ≤ t → get_or xs t 0 ≡ 0
      beyond [] t h = refl
      beyond (x ∷ xs) zero h = absurd (omega arith)
      beyond (x ∷ xs) (suc t) h = beyond xs t (omega arith)
