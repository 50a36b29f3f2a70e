-- What a handle tells over any calls.
use Rattle.std.proofs.Common.{◌≡◌, ℕ, zero, suc, ◌≤◌, Bool, List, [], ◌∷◌, ◌++◌, Result, is_ok, false, length, refl, sym, ap, ◌∙◌, subst, append_assoc, append-nil, arith}
use Rattle.mon_words.specs.History.{puts, Still, Between}
use Rattle.mon_words.specs.Tallies.{entered_once, polled_once}
use Rattle.mon_words.specs.Told.{Told, Grows, Polls, Enters, Leaves, Continues}
use Rattle.mon_words.specs.declared.handle.WorldStopped.{WorldStopped}
use Rattle.mon_words.specs.declared.history.Mark.{Mark}
use Rattle.mon_words.specs.declared.history.Mark.TheVariants.{Off, Put}
use Rattle.mon_words.proofs.Histories.{begins_all, begins_trans, begins_length}

-- ---- stops within bounds

between-wider : (n t low high low' high' : ℕ) (log : List Mark) → low' ≤ low → high ≤ high' → Between n t low high log → Between n t low' high' log
between-wider zero t low high low' high' [] p q h = tt
between-wider (suc n) t low high low' high' [] p q h = tt
between-wider zero t low high low' high' (Off u l k ∷ ms) p q h = between-wider zero t low high low' high' ms p q h
between-wider zero t low high low' high' (Put s b ∷ ms) p q h = (omega (arith, h.0), omega (arith, h.1), between-wider zero t low high low' high' ms p q h.2)
between-wider (suc n) t low high low' high' (Off u l k ∷ ms) p q h = between-wider n t low high low' high' ms p q h
between-wider (suc n) t low high low' high' (Put s b ∷ ms) p q h = between-wider n t low high low' high' ms p q h

-- a board past the n-th mark stands before the history was longer, or after
between-join : (n t low high : ℕ) (xs ys : List Mark) → n ≤ length xs → Between n t low high xs → Between (length xs) t low high (xs ++ ys) → Between n t low high (xs ++ ys)
between-join zero t low high [] ys l h g = g
between-join (suc n) t low high [] ys l h g = absurd (omega arith)
between-join zero t low high (Off u i j ∷ ms) ys l h g = between-join zero t low high ms ys (omega arith) h g
between-join zero t low high (Put s b ∷ ms) ys l h g = (h.0, h.1, between-join zero t low high ms ys (omega arith) h.2 g)
between-join (suc n) t low high (m ∷ ms) ys l h g = between-join n t low high ms ys (omega arith) h g

between-still : (n t count : ℕ) (log : List Mark) → Still n t count log → Between n t count count log
between-still zero t count [] h = tt
between-still (suc n) t count [] h = tt
between-still zero t count (Off u i j ∷ ms) h = between-still zero t count ms h
between-still zero t count (Put s b ∷ ms) h = (omega (arith, h.0), omega (arith, h.0), between-still zero t count ms h.1)
between-still (suc n) t count (Off u i j ∷ ms) h = between-still n t count ms h
between-still (suc n) t count (Put s b ∷ ms) h = between-still n t count ms h

-- where no board was added there is none
between-quiet : (t low high : ℕ) (xs more : List Mark) → puts (xs ++ more) ≡ puts xs → Between (length xs) t low high (xs ++ more)
between-quiet t low high [] [] e = tt
between-quiet t low high [] (Off u i j ∷ ms) e = between-quiet t low high [] ms e
between-quiet t low high [] (Put s b ∷ ms) e = absurd (cc)
between-quiet t low high (Off u i j ∷ xs) more e = between-quiet t low high xs more e
between-quiet t low high (Put s b ∷ xs) more e = let f : puts (xs ++ more) ≡ puts xs = cc in between-quiet t low high xs more f

-- ---- calls

pub continues_refl : (a : Told) → Continues a a []
continues_refl a = record {
  number = refl;
  first = refl;
  begins = begins_all a.seen;
  owns = λ h. h;
  own = sym (append-nil a.own);
  more = omega arith;
  between = subst (λ (z : List Mark). Between (length a.seen) a.number a.count a.count z) (append-nil a.seen) (between-quiet a.number a.count a.count a.seen [] (ap puts (append-nil a.seen)));
  entries = omega arith;
  quiet = λ _. refl;
}

pub continues_trans : (a b c : Told) (xs ys : List Mark) → Continues a b xs → Continues b c ys → Continues a c (xs ++ ys)
continues_trans a b c xs ys h k =
    let p = begins_length a.seen b.seen h.begins in
    let first : Between (length a.seen) a.number a.count c.count b.seen = between-wider (length a.seen) a.number a.count b.count a.count c.count b.seen (omega arith) k.more h.between in
    let later : Between (length b.seen) a.number a.count c.count c.seen =
    subst (λ (n : ℕ). Between (length b.seen) n a.count c.count c.seen) h.number (between-wider (length b.seen) b.number b.count c.count a.count c.count c.seen h.more (omega arith) k.between) in
    record {
      number = k.number ∙ h.number;
      first = k.first ∙ h.first;
      begins = begins_trans a.seen b.seen c.seen h.begins k.begins;
      owns = λ o. k.owns (h.owns o);
      own = k.own ∙ (ap (λ z. z ++ ys) h.own ∙ append_assoc a.own xs ys);
      more = omega (arith, h.more, k.more);
      between = subst (λ (z : List Mark). Between (length a.seen) a.number a.count c.count z) (sym k.begins.is)
          (between-join (length a.seen) a.number a.count c.count b.seen k.begins.more p first (subst (λ (z : List Mark). Between (length b.seen) a.number a.count c.count z) k.begins.is later));
      entries = omega (arith, h.entries, k.entries);
      quiet = λ e. let i = h.entries in let j = k.entries in let s : b.tally.entries ≡ a.tally.entries = omega arith in let t : c.tally.entries ≡ b.tally.entries = omega arith in k.quiet t ∙ h.quiet s;
    }

pub continues_stay : (a b : Told) (marks : List Mark) → Grows a b marks → Continues a b marks
continues_stay a b marks g =
    let count : b.count ≡ a.count = ap (λ (t : Told). t.count) g.rest in
    let entries : b.tally.entries ≡ a.tally.entries = ap (λ (t : Told). t.tally.entries) g.rest in
    record {
      number = ap (λ (t : Told). t.number) g.rest;
      first = ap (λ (t : Told). t.first) g.rest;
      begins = g.begins;
      owns = g.owns;
      own = g.own;
      more = omega arith;
      between = subst (λ (z : List Mark). Between (length a.seen) a.number a.count b.count z) (sym g.begins.is)
          (between-quiet a.number a.count b.count a.seen g.begins.more (ap puts (sym g.begins.is) ∙ g.quiet));
      entries = omega arith;
      quiet = λ _. g.quiet;
    }

pub continues_poll : (a b : Told) (answer : Bool) → Polls a answer b → Continues a b []
continues_poll a b answer p =
    let c : Told = record a { tally = polled_once a.tally answer } in
    let r = continues_refl a in
    let k : Continues a c [] = record { number = refl; first = refl; begins = r.begins; owns = λ h. h; own = r.own; more = r.more; between = r.between; entries = omega arith; quiet = λ _. refl } in
    subst (λ (t : Told). Continues a t []) (sym p.rest) k

pub continues_enter : (a b : Told) (answer : Result (Unit {0}) WorldStopped) → Enters a answer b → Continues a b []
continues_enter a b answer e =
    let c : Told = record a { seen = b.seen; attached = is_ok answer; tally = entered_once a.tally } in
    let k : Continues a c [] = record {
      number = refl;
      first = refl;
      begins = e.begins;
      owns = λ _. e.own;
      own = sym (append-nil a.own);
      more = omega arith;
      between = between-still (length a.seen) a.number a.count b.seen e.still;
      entries = omega arith;
      quiet = λ n. absurd (omega arith);
    } in
    subst (λ (t : Told). Continues a t []) (sym e.rest) k

pub continues_leave : (a b : Told) (steps : ℕ) → a.count ≤ steps → Leaves a steps b → Continues a b []
continues_leave a b steps more l =
    let c : Told = record a { attached = false; count = steps } in
    let r = continues_refl a in
    let k : Continues a c [] = record {
      number = refl;
      first = refl;
      begins = r.begins;
      owns = λ h. h;
      own = r.own;
      more = more;
      between = between-wider (length a.seen) a.number a.count a.count a.count steps a.seen (omega arith) more r.between;
      entries = omega arith;
      quiet = λ _. refl;
    } in
    subst (λ (t : Told). Continues a t []) (sym l.rest) k
