-- What a store and a sink do.
use Rattle.std.specs.Prelude.{◌≡◌, ℕ, ◌+◌, ◌-◌, ◌^◌, ◌≤◌, min, List, ◌++◌, length, take, Option, Some, None, Result, Ok, Err}
use Rattle.mon_outside.specs.declared.store.StoreFault.{StoreFault}
use Rattle.mon_outside.specs.declared.store.StoreFault.TheVariants.{Failed, Memory}

-- a count has risen, or stands at its end
abbrev pub Rose : ℕ → ℕ → Type 0
Rose before now = min (before + 1) (2 ^ 64 - 1) ≤ now

-- the contents are appended, or their first 262,145 bytes where they have more; nothing is said where they are not told
abbrev pub ReadsAll : Option (List ℕ) → List ℕ → List ℕ → Type 0
ReadsAll None old new = Unit {0}
ReadsAll (Some bytes) old new = new ≡ old ++ take 262145 bytes

-- a read fails only where the count rises, and its name is then the last that failed; else neither changes
abbrev pub ReadCause : {A : Type 0} → List ℕ → ℕ → ℕ → Option (List ℕ) → Option (List ℕ) → Result A StoreFault → Type 0
ReadCause name before now was is (Ok _) = (now ≡ before) × (is ≡ was)
ReadCause name before now was is (Err Memory) = (now ≡ before) × (is ≡ was)
ReadCause name before now was is (Err Failed) = Rose before now × (is ≡ Some name)

-- the bytes are appended to what was written, where it is told
abbrev pub Writes : Option (List ℕ) → List ℕ → Option (List ℕ) → Type 0
Writes None bytes new = new ≡ None
Writes (Some old) bytes new = new ≡ Some (old ++ bytes)

-- a prefix of the bytes is appended
pub record WritesPrefix (old : Option (List ℕ)) (bytes : List ℕ) (new : Option (List ℕ)) : Type 0 where
  pub count : ℕ
  pub within : count ≤ length bytes
  pub is : Writes old (take count bytes) new
