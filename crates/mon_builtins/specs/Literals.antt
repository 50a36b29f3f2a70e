-- The integer that a text spells.
use Rattle.std.specs.Prelude.{◌≡◌, ℕ, ◌+◌, ◌-◌, ◌*◌, ◌^◌, min, ◌==◌, nat_le, Bool, ◌&&◌, ◌||◌, List, [], ◌∷◌, reverse, Option, Some, None, ℤ, pos, neg_ℤ, if◌then◌else◌}

-- space, TAB, LF, VT, FF, CR
abbrev pub is_blank : ℕ → Bool
is_blank c = c == 32 || (nat_le 9 c && nat_le c 13)

-- the text from its first character that is no blank on
abbrev pub after_blanks : List ℕ → List ℕ
after_blanks [] = []
after_blanks (c ∷ cs) = if is_blank c then after_blanks cs else c ∷ cs

-- the text without the blanks at its ends
abbrev pub trimmed : List ℕ → List ℕ
trimmed text = reverse (after_blanks (reverse (after_blanks text)))

abbrev pub is_digit : ℕ → Bool
is_digit c = nat_le 48 c && nat_le c 57

-- so many tens, and a digit
abbrev pub with_digit : ℕ → ℕ → ℕ
with_digit n c = n * 10 + (c - 48)

-- the number of the digits so far, with those that follow: a `_` stands between two digits alone
abbrev mutual
  pub number_on : ℕ → List ℕ → Option ℕ
  number_on n [] = Some n
  number_on n (c ∷ cs) = if c == 95 then number_from n cs else if is_digit c then number_on (with_digit n c) cs else None

  -- a digit comes next
  pub number_from : ℕ → List ℕ → Option ℕ
  number_from n [] = None
  number_from n (c ∷ cs) = if is_digit c then number_on (with_digit n c) cs else None

abbrev pub positive : Option ℕ → Option ℤ
positive None = None
positive (Some n) = Some (pos n)

abbrev pub negative : Option ℕ → Option ℤ
negative None = None
negative (Some n) = Some (neg_ℤ (pos n))

-- a sign, if there is one, and digits
abbrev pub signed : List ℕ → Option ℤ
signed [] = None
signed (c ∷ cs) = if c == 45 then negative (number_from 0 cs) else if c == 43 then positive (number_from 0 cs) else positive (number_from 0 (c ∷ cs))

-- the integer that a text spells, if it spells one
abbrev pub literal : List ℕ → Option ℤ
literal text = signed (trimmed text)

-- a number in 64 bits, whose greatest stands for all that are greater, or none for none
abbrev pub Reads : Option ℕ → Option ℕ → Type 0
Reads None None = Unit {0}
Reads (Some n) (Some due) = n ≡ min due (2 ^ 64 - 1)
Reads None (Some due) = ⊥
Reads (Some n) None = ⊥
