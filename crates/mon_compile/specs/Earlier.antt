-- The earlier of two lines.
use Rattle.std.specs.Prelude.{ℕ, min, Option, Some, None}

-- where there is one alone, that one
abbrev pub earlier : Option ℕ → Option ℕ → Option ℕ
earlier line None = line
earlier None (Some m) = Some m
earlier (Some n) (Some m) = Some (min n m)
