-- Names gathered up to a bound.
use Rattle.std.specs.Prelude.{ℕ, nat_lt, ◌||◌, if◌then◌else◌, List, [], ◌∷◌, ◌++◌, length}
use Rattle.mon_compile.specs.Expressions.{Locals, is_local}

-- each name once, by its first place, and none behind the first `most + 1`
abbrev pub few_names : ℕ → Locals → List (List ℕ) → Locals
few_names most names [] = names
few_names most names (n ∷ ns) = if nat_lt most (length names) || is_local names n then few_names most names ns else few_names most (names ++ n ∷ []) ns
