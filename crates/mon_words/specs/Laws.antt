-- How the calls of a handle add up.
use Rattle.std.specs.Prelude.{ℕ, ◌<◌, ◌≤◌, Bool, List, [], ◌∷◌, ◌++◌, Result}
use Rattle.mon_words.specs.Words.{mask_of}
use Rattle.mon_words.specs.Told.{Told, Loads, LoadsGlobal, LoadsCallbacks, Disables, Retires, Polls, Enters, Leaves, Grows, Continues}
use Rattle.mon_words.specs.declared.handle.WorldStopped.{WorldStopped}
use Rattle.mon_words.specs.declared.history.Mark.{Mark}
use Rattle.mon_words.specs.declared.history.Mark.TheVariants.{Off}

-- within one stay
pub record StaysAddUp : Type 0 where
  pub none : (a : Told) → Grows a a []
  pub both : (a b c : Told) (xs ys : List Mark) → Grows a b xs → Grows b c ys → Grows a c (xs ++ ys)
  pub load : (a b : Told) (location word : ℕ) → Loads a location word b → Grows a b []
  pub global : (a b : Told) (word : ℕ) → LoadsGlobal a word b → Grows a b []
  pub callbacks : (a b : Told) (tool word : ℕ) → LoadsCallbacks a tool word b → Grows a b []
  pub retire : (a b : Told) (location old : ℕ) (answer : Bool) → Retires a location old answer b → Grows a b []
  pub disable : (a b : Told) (location k word : ℕ) → k < 24 → Disables a location (mask_of k) word b → Grows a b (Off a.number location k ∷ [])

-- over rounds
pub record CallsAddUp : Type 0 where
  pub none : (a : Told) → Continues a a []
  pub both : (a b c : Told) (xs ys : List Mark) → Continues a b xs → Continues b c ys → Continues a c (xs ++ ys)
  pub stay : (a b : Told) (marks : List Mark) → Grows a b marks → Continues a b marks
  pub poll : (a b : Told) (answer : Bool) → Polls a answer b → Continues a b []
  pub enter : (a b : Told) (answer : Result (Unit {0}) WorldStopped) → Enters a answer b → Continues a b []
  pub leave : (a b : Told) (steps : ℕ) → a.count ≤ steps → Leaves a steps b → Continues a b []
