-- Steps of a thread that is alone on the board: each reads behind exactly the marks of the steps before it.
use Rattle.std.proofs.Common.{◌≡◌, ℕ, zero, suc, ◌<◌, Bool, true, false, List, [], ◌∷◌, ◌++◌, take, length, get_or, cond, eqb, sym, refl, ap, ◌∙◌}
use Rattle.mon_words.specs.History.{offs}
use Rattle.mon_words.specs.declared.history.Board.{Board}
use Rattle.mon_words.specs.declared.history.Mark.{Mark}
use Rattle.mon_words.specs.declared.history.Mark.TheVariants.{Off, Put}
use Rattle.mon_board.specs.PlainViews.{other_marks}
use Rattle.mon_recorders.specs.declared.happening.Happening.{Happening}
use Rattle.mon_recorders.specs.declared.record.Record.{Record}
use Rattle.mon_recorders.specs.declared.record.Disabled.{Disabled}
use Rattle.mon_recorders.specs.Readings.{Span, entries_by}
use Rattle.mon_recorders.specs.Boards.{reader}
use Rattle.mon_run.proofs.Reading.{offs-append, take-behind, between_low}

other_pulled : (b : Bool) (m : Mark) (xs ys : List Mark) → cond b (xs ++ ys) (m ∷ (xs ++ ys)) ≡ cond b xs (m ∷ xs) ++ ys
other_pulled true m xs ys = refl
other_pulled false m xs ys = refl

pub other-append : (t : ℕ) (xs ys : List Mark) → other_marks t (xs ++ ys) ≡ other_marks t xs ++ other_marks t ys
other-append t [] ys = refl
other-append t (Off u l k ∷ ms) ys = ap (λ (z : List Mark). cond (eqb u t) z (Off u l k ∷ z)) (other-append t ms ys) ∙ other_pulled (eqb u t) (Off u l k) (other_marks t ms) (other_marks t ys)
other-append t (Put s c ∷ ms) ys = ap (λ (z : List Mark). Put s c ∷ z) (other-append t ms ys)

-- a front is cancelled
cancel : {A : Type 0} (xs ys zs : List A) → xs ++ ys ≡ xs ++ zs → ys ≡ zs
cancel [] ys zs e = e
cancel (x ∷ xs) ys zs e = let t : xs ++ ys ≡ xs ++ zs = cc in cancel xs ys zs t

cancel_none : {A : Type 0} (xs ys : List A) → xs ++ ys ≡ xs → ys ≡ []
cancel_none [] ys e = e
cancel_none (x ∷ xs) ys e = let t : xs ++ ys ≡ xs = cc in cancel_none xs ys t

-- marks of which none is another's are all the thread's own
mine_one : (b : Bool) (m : Mark) (os rest ys : List Mark) → cond b os (m ∷ os) ≡ [] → (os ≡ [] → ys ≡ rest) → cond b (m ∷ ys) ys ≡ m ∷ rest
mine_one true m os rest ys e h = ap (λ z. m ∷ z) (h e)
mine_one false m os rest ys e h = absurd (cc)

pub mine : (t k : ℕ) (xs : List Mark) → other_marks t xs ≡ [] → offs t (take k xs) ≡ take k xs
mine t zero xs e = refl
mine t (suc k) [] e = refl
mine t (suc k) (Off u l j ∷ ms) e = mine_one (eqb u t) (Off u l j) (other_marks t ms) (take k ms) (offs t (take k ms)) e (λ h. mine t k ms h)
mine t (suc k) (Put s c ∷ ms) e = absurd (cc)

mine_all : (t : ℕ) (xs : List Mark) → other_marks t xs ≡ [] → offs t xs ≡ xs
mine_all t [] e = refl
mine_all t (Off u l j ∷ ms) e = mine_one (eqb u t) (Off u l j) (other_marks t ms) ms (offs t ms) e (λ h. mine_all t ms h)
mine_all t (Put s c ∷ ms) e = absurd (cc)

module _ (t : ℕ) (first : Board) (events : ℕ → List Happening) (n : ℕ) (at : List ℕ) (before later : List Mark) (rs : List Record) (ds : List Disabled)
    (s : Span (reader t first) events n at before later rs ds) (alone : other_marks t later ≡ other_marks t before) where
  -- the marks of the first k steps
  abbrev pub made : ℕ → List Mark
  made k = entries_by (reader t first) later at events k

  pub bare : other_marks t s.more ≡ []
  bare = cancel_none (other_marks t before) (other_marks t s.more) (sym (other-append t before s.more) ∙ (ap (other_marks t) (sym s.grown) ∙ alone))

  rest_is : s.more ≡ made (length at)
  rest_is = sym (mine_all t s.more bare) ∙ cancel (offs t before) (offs t s.more) (made (length at)) (sym (offs-append t before s.more) ∙ (ap (offs t) (sym s.grown) ∙ s.own_all))

  pub later_is : later ≡ before ++ made (length at)
  later_is = s.grown ∙ ap (λ z. before ++ z) rest_is

  -- each step reads behind exactly the marks of the steps before it
  pub read_is : (k : ℕ) → k < length at → take (get_or at k 0) later ≡ before ++ made k
  read_is k h =
      let q = take-behind before s.more (get_or at k 0) (between_low (length before) at (length later) k s.between h) in
      let e : take (get_or at k 0) later ≡ before ++ take q.0 s.more = ap (take (get_or at k 0)) s.grown ∙ q.1 in
      let own : offs t before ++ take q.0 s.more ≡ offs t before ++ made k =
      ap (λ z. offs t before ++ z) (sym (mine t q.0 s.more bare)) ∙ (sym (offs-append t before (take q.0 s.more)) ∙ (ap (offs t) (sym e) ∙ s.own_read k h)) in
      e ∙ ap (λ z. before ++ z) (cancel (offs t before) (take q.0 s.more) (made k) own)
