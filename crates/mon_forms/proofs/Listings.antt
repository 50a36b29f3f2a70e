-- The parts of a listing.
use Rattle.std.proofs.Common.{◌≡◌, ℕ, ◌≤◌, [], arith}
use Rattle.mon_values.specs.Classes.{builtin_name}
use Rattle.mon_values.proofs.Tables.{no_builtin_name}

pub no_builtin : (number : ℕ) → 256 ≤ number → builtin_name number ≡ []
no_builtin number h = no_builtin_name number (omega arith)
