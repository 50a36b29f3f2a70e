-- What calls leave of a registry over a plain board.
use Rattle.std.proofs.Common.{◌≡◌, ℕ, ◌<◌, List, [], ◌∷◌, ◌++◌, length, get_or, Some, None, sym, refl, ap, ◌∙◌, subst, arith}
use Rattle.mon_code.specs.Checked.{IsChecked}
use Rattle.mon_code.specs.Programs.{Parts}
use Rattle.mon_code.specs.Sites.{sites_of}
use Rattle.mon_words.specs.Standing.{table, noted_of, count_of, board_of}
use Rattle.mon_words.specs.Words.{first_words}
use Rattle.mon_words.specs.declared.history.Board.{Board}
use Rattle.mon_words.specs.declared.history.Mark.{Mark}
use Rattle.mon_words.specs.declared.history.Mark.TheVariants.{Put}
use Rattle.mon_board.specs.Plain.{first_plain, standing, put_of}
use Rattle.mon_board.specs.PlainViews.{plain_halt}
use Rattle.mon_board.specs.declared.plain_view.PlainView.{PlainView}
use Rattle.mon_history.specs.Stands.{StandsFor}
use Rattle.mon_history.specs.declared.calls.ControlCall.{ControlCall}
use Rattle.mon_history.specs.declared.calls.Who.{Who}
use Rattle.mon_history.specs.declared.journal.JournalLine.{JournalLine}
use Rattle.mon_history.proofs.Growing.{stands_quiet}
use Rattle.mon_instrument.proofs.Firsts.{first_stands}
use Rattle.mon_control.specs.View.{Shown, line_of, Commits}
use Rattle.mon_control.proofs.Noting.{noted_counts}
use Rattle.mon_control_tests.specs.Ready.{IsReady}

-- no call was made, and the board is that of the first words
pub begun : (p : Parts) (c : Shown) (v : PlainView) (threads : ℕ) (bases : List ℕ) → IsChecked p → bases ≡ p.bases → ((l : ℕ) → get_or bases l 0 < 256) → c.journal ≡ [] → c.threads ≡ threads → c.codes ≡ length p.codes
    → v ≡ first_plain threads (board_of (first_words bases)) → IsReady p c v
begun p c v threads bases is same bytes none few codes view =
    let w : v ≡ first_plain threads (board_of (first_words p.bases)) = view ∙ ap (λ z. first_plain threads (board_of (first_words z))) same in
    let s : StandsFor (sites_of p) [] (board_of (first_words p.bases)) [] = first_stands p is (λ l. subst (λ (z : List ℕ). get_or z l 0 < 256) same (bytes l)) in record {
      stands = subst (λ (z : List JournalLine × PlainView). StandsFor (sites_of p) z.0 z.1.first z.1.seen) (λ i. (sym none i, sym w i)) s;
      running = (ap (λ (z : PlainView). z.written) w, ap (λ (z : PlainView). z.noted) w);
      threads = ap (λ (z : PlainView). z.threads) w ∙ sym few;
      codes = sym codes;
    }

-- a call in the halted board: v before, h when it was halted, x at the end of the call, y behind the release
pub committed : (p : Parts) (c d : Shown) (v h x y : PlainView) (who : Who) (call : ControlCall) → IsReady p c v → h ≡ v → d.threads ≡ c.threads → d.codes ≡ c.codes → Commits p c.threads c.journal who call (plain_halt h) (plain_halt x) d.journal
    → y ≡ record x { seen = x.seen ++ put_of x ∷ []; noted = []; written = [] } → IsReady p d y
committed p c d v h x y who call r same threads codes made is =
    let k : Commits p c.threads c.journal who call (plain_halt v) (plain_halt x) d.journal = subst (λ (z : PlainView). Commits p c.threads c.journal who call (plain_halt z) (plain_halt x) d.journal) same made in
    let wide = k.wide in
    let few : x.threads ≡ c.threads = k.threads_are ∙ r.threads in
    let noted : table x.threads (count_of x.noted) ≡ k.counts =
    noted_counts k.counts (noted_of x.noted) x.threads (wide ∙ sym few) (λ t l. k.noted t (omega arith)) in
    let first : y.first ≡ v.first = ap (λ (z : PlainView). z.first) is ∙ k.first in
    let seen : y.seen ≡ v.seen ++ Put k.counts (standing x) ∷ [] = ap (λ (z : PlainView). z.seen) is ∙ (λ i. k.seen i ++ Put (noted i) (standing x) ∷ []) in record {
      stands = subst (λ (z : Board × List Mark). StandsFor (sites_of p) d.journal z.0 z.1) (λ i. (sym first i, sym seen i)) k.stands;
      running = (ap (λ (z : PlainView). z.written) is, ap (λ (z : PlainView). z.noted) is);
      threads = ap (λ (z : PlainView). z.threads) is ∙ (few ∙ sym threads);
      codes = r.codes ∙ sym codes;
    }

-- a call for which the board was not halted
pub answered : (p : Parts) (c d : Shown) (v : PlainView) (who : Who) (call : ControlCall) → IsReady p c v → d.threads ≡ c.threads → d.codes ≡ c.codes → d.journal ≡ c.journal ++ line_of c.journal who call None ∷ [] → IsReady p d v
answered p c d v who call r threads codes is = record {
  stands = subst (λ (z : List JournalLine). StandsFor (sites_of p) z v.first v.seen) (sym is) (stands_quiet (sites_of p) c.journal v.first v.seen (line_of c.journal who call None) r.stands refl);
  running = r.running;
  threads = r.threads ∙ sym threads;
  codes = r.codes ∙ sym codes;
}
