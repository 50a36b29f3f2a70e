-- Disables in turn, and what stays while nothing but disables is added.
use Rattle.std.proofs.Common.{◌≡◌, ℕ, List, [], ◌∷◌, ◌++◌, refl, sym, ap, ◌∙◌, subst}
use Rattle.mon_words.specs.History.{after, puts, clear_at, Begins}
use Rattle.mon_words.specs.Told.{Told, Clears}
use Rattle.mon_words.specs.declared.history.Board.{Board}
use Rattle.mon_words.specs.declared.history.Mark.{Mark}
use Rattle.mon_words.specs.declared.history.Mark.TheVariants.{Off, Put}
use Rattle.mon_words.proofs.Growing.{grows_refl, grows_trans, grows_clear}
use Rattle.mon_hear.specs.Hearing.{Disabling}

-- without a board the global word and the callback words stay
after-append : (b : Board) (xs ys : List Mark) → after b (xs ++ ys) ≡ after (after b xs) ys
after-append b [] ys = refl
after-append b (Off t l k ∷ xs) ys = after-append (clear_at b l k) xs ys
after-append b (Put s c ∷ xs) ys = after-append c xs ys

no_board : (xs more : List Mark) → puts (xs ++ more) ≡ puts xs → puts more ≡ []
no_board [] more e = e
no_board (Off t l k ∷ xs) more e = no_board xs more e
no_board (Put s c ∷ xs) more e = let f : puts (xs ++ more) ≡ puts xs = cc in no_board xs more f

pub record SameWords (b c : Board) : Type 0 where
  pub global : c.global ≡ b.global
  pub callbacks : c.callbacks ≡ b.callbacks

stay : (b : Board) (ms : List Mark) → puts ms ≡ [] → SameWords b (after b ms)
stay b [] e = record { global = refl; callbacks = refl }
stay b (Off t l k ∷ ms) e = let s = stay (clear_at b l k) ms e in record { global = s.global; callbacks = s.callbacks }
stay b (Put s c ∷ ms) e = absurd (cc)

pub steady : (first : Board) (xs ys : List Mark) → Begins xs ys → puts ys ≡ puts xs → SameWords (after first xs) (after first ys)
steady first xs ys b q =
    let e : puts (xs ++ b.more) ≡ puts xs = ap puts (sym b.is) ∙ q in
    let s : SameWords (after first xs) (after (after first xs) b.more) = stay (after first xs) b.more (no_board xs b.more e) in
    subst (λ (c : Board). SameWords (after first xs) c) (sym (ap (after first) b.is ∙ after-append first xs b.more)) s

pub disabling : (a b : Told) (location k word : ℕ) → Clears a location k word b → Disabling a b (Off a.number location k ∷ [])
disabling a b location k word c = record {
  grows = grows_clear a b location k word c;
  retirements = ap (λ (t : Told). t.tally.retirements) c.rest;
  loads = ap (λ (t : Told). t.tally.loads) c.rest;
}

pub disabling_none : (a : Told) → Disabling a a []
disabling_none a = record { grows = grows_refl a; retirements = refl; loads = refl }

pub disabling_trans : (a b c : Told) (xs ys : List Mark) → Disabling a b xs → Disabling b c ys → Disabling a c (xs ++ ys)
disabling_trans a b c xs ys h k = record { grows = grows_trans a b c xs ys h.grows k.grows; retirements = k.retirements ∙ h.retirements; loads = k.loads ∙ h.loads }
