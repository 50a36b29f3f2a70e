-- What the calls of a plain handle tell.
use Rattle.std.proofs.Common.{◌≡◌, ℕ, zero, suc, ◌<◌, List, [], ◌∷◌, ◌++◌, map, get_or, get_or-set_same, set, length, cond, eqb, eq-eqb, refl, sym, ap, ◌∙◌, subst, Bool, true, false}
use Rattle.std.specs.Prelude.{Ok, ◌==◌}
use Rattle.mon_words.specs.Words.{Shows}
use Rattle.mon_words.specs.History.{cell_at, after, base_in}
use Rattle.mon_words.specs.Standing.{overlay}
use Rattle.mon_words.specs.Tallies.{loaded_at, loaded_global, loaded_callbacks, disabled_once, tried, polled_once, entered_once}
use Rattle.mon_words.specs.Told.{Extends, Loads, Clears, Retires, LoadsGlobal, LoadsCallbacks, Polls, Enters, Leaves}
use Rattle.mon_words.specs.declared.history.Board.{Board}
use Rattle.mon_words.specs.declared.history.Mark.{Mark}
use Rattle.mon_words.specs.declared.history.Mark.TheVariants.{Off, Put}
use Rattle.mon_words.proofs.Histories.{begins_all, offs-same, still-whole}
use Rattle.mon_board.specs.Plain.{standing}
use Rattle.mon_board.specs.PlainViews.{plain_told, other_counts, other_marks}
use Rattle.mon_board.specs.declared.plain_view.PlainView.{PlainView}
use Rattle.mon_board.proofs.Bases.{shown_base}

module _ (t : ℕ) (v w : PlainView) (running : v.written ≡ []) where
  stood : standing v ≡ after v.first v.seen
  stood = ap (overlay (after v.first v.seen)) running

  stays : Extends (plain_told t v) v.seen
  stays = record { begins = begins_all v.seen; quiet = refl; own = refl }

  shown : (l n : ℕ) → Shows (cell_at (standing v) l) n → Shows (cell_at (after v.first v.seen) l) n
  shown l n h = subst (λ (b : Board). Shows (cell_at b l) n) stood h

  pub loads : (l n : ℕ) → map base_in (standing v).cells ≡ map base_in v.first.cells → w ≡ record v { tally = loaded_at v.tally l (length v.seen) } → Shows (cell_at (standing v) l) n → Loads (plain_told t v) l n (plain_told t w)
  loads l n based same h = subst (λ (z : PlainView). Loads (plain_told t v) l n (plain_told t z)) (sym same)
      record { extends = stays; rest = refl; shows = shown l n h; base = shown_base (standing v) v.first l n based h }

  pub retires : (l old n : ℕ) (answer : Bool) → w ≡ record v { tally = tried v.tally l old answer } → answer ≡ (n == old) → Shows (cell_at (standing v) l) n → Retires (plain_told t v) l old answer (plain_told t w)
  retires l old n answer same is h = subst (λ (z : PlainView). Retires (plain_told t v) l old answer (plain_told t z)) (sym same)
      record { found = n; extends = stays; rest = refl; shows = shown l n h; answer_is = is }

  pub loads_global : (n : ℕ) → w ≡ record v { tally = loaded_global v.tally } → n ≡ (standing v).global → LoadsGlobal (plain_told t v) n (plain_told t w)
  loads_global n same h = subst (λ (z : PlainView). LoadsGlobal (plain_told t v) n (plain_told t z)) (sym same)
      record { extends = stays; rest = refl; shows = h ∙ ap (λ (b : Board). b.global) stood }

  pub loads_callbacks : (tool n : ℕ) → w ≡ record v { tally = loaded_callbacks v.tally tool } → n ≡ get_or (standing v).callbacks tool 0 → LoadsCallbacks (plain_told t v) tool n (plain_told t w)
  loads_callbacks tool n same h = subst (λ (z : PlainView). LoadsCallbacks (plain_told t v) tool n (plain_told t z)) (sym same)
      record { extends = stays; rest = refl; shows = h ∙ ap (λ (b : Board). get_or b.callbacks tool 0) stood }

  pub clears : (l k n : ℕ) → v.current ≡ t → w ≡ record v { seen = v.seen ++ Off v.current l k ∷ []; tally = disabled_once v.tally } → Shows (cell_at (standing v) l) n → Clears (plain_told t v) l k n (plain_told t w)
  clears l k n mine same h = subst (λ (z : PlainView). Clears (plain_told t v) l k n (plain_told t z)) (sym (same ∙ ap (λ (z : ℕ). record v { seen = v.seen ++ Off z l k ∷ []; tally = disabled_once v.tally }) mine))
      record {
        before = v.seen;
        extends = stays;
        rest = λ i. record (plain_told t (record v { seen = v.seen ++ Off t l k ∷ []; tally = disabled_once v.tally })) { own = offs-same t v.seen l k i };
        shows = shown l n h;
      }

pub polls : (t : ℕ) (v w : PlainView) → w ≡ record v { tally = polled_once v.tally false } → Polls (plain_told t v) false (plain_told t w)
polls t v w same = record { owns = refl; rest = ap (plain_told t) same }

pub enters : (t : ℕ) (v w : PlainView) → w ≡ record v { attached = true; tally = entered_once v.tally } → Enters (plain_told t v) (Ok tt) (plain_told t w)
enters t v w same = subst (λ (z : PlainView). Enters (plain_told t v) (Ok tt) (plain_told t z)) (sym same)
    record { begins = begins_all v.seen; own = refl; still = still-whole t (get_or v.counts t 0) v.seen; rest = refl; refused = tt }

pub leaves : (t n : ℕ) (v w : PlainView) → t < length v.counts → w ≡ record v { counts = set v.counts t n; attached = false } → Leaves (plain_told t v) n (plain_told t w)
leaves t n v w low same = record { owns = refl; rest = ap (plain_told t) same ∙ (λ i. record (plain_told t v) { attached = false; count = get_or-set_same v.counts t n 0 low i }) }

-- the other threads' counts stay
pub other_counts-set : (t n : ℕ) (counts : List ℕ) → other_counts t (set counts t n) ≡ other_counts t counts
other_counts-set t n [] = refl
other_counts-set zero n (x ∷ xs) = refl
other_counts-set (suc t) n (x ∷ xs) = ap (λ (z : List ℕ). x ∷ z) (other_counts-set t n xs)

skip : (t l k : ℕ) (b : Bool) → b ≡ true → cond b [] (Off t l k ∷ []) ≡ []
skip t l k b e = ap (λ z. cond z [] (Off t l k ∷ [])) e

-- and so do the marks that are not the thread's disables
pub other_marks-own : (t l k : ℕ) (ms : List Mark) → other_marks t (ms ++ Off t l k ∷ []) ≡ other_marks t ms
other_marks-own t l k [] = skip t l k (eqb t t) (eq-eqb t t refl)
other_marks-own t l k (Off u i j ∷ ms) = ap (λ (z : List Mark). cond (eqb u t) z (Off u i j ∷ z)) (other_marks-own t l k ms)
other_marks-own t l k (Put s b ∷ ms) = ap (λ (z : List Mark). Put s b ∷ z) (other_marks-own t l k ms)
