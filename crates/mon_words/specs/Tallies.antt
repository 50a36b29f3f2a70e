-- What each call adds to a tally, and what a list of loads tells.
use Rattle.std.specs.Prelude.{ℕ, ◌+◌, ◌==◌, Bool, List, [], ◌∷◌, ◌++◌, if◌then◌else◌}
use Rattle.mon_words.specs.declared.tally.Load.{Load}
use Rattle.mon_words.specs.declared.tally.Load.TheVariants.{Location, Global, Callbacks}
use Rattle.mon_words.specs.declared.tally.Tally.{Tally}

-- nothing was done
abbrev pub no_tally : Tally
no_tally = record { entries = 0; observes = 0; polls = 0; polled = 0; loads = []; reads = []; retirements = []; disables = 0; rewrites = 0 }

-- a load of a location, when the history that was seen had this length
abbrev pub loaded_at : Tally → (location length : ℕ) → Tally
loaded_at t location length = record t { loads = t.loads ++ Location location length ∷ [] }

abbrev pub loaded_global : Tally → Tally
loaded_global t = record t { loads = t.loads ++ Global ∷ [] }

abbrev pub loaded_callbacks : Tally → (tool : ℕ) → Tally
loaded_callbacks t tool = record t { loads = t.loads ++ Callbacks tool ∷ [] }

abbrev pub disabled_once : Tally → Tally
disabled_once t = record t { disables = t.disables + 1 }

-- a try to retire the old word of a location, which gave way or did not
abbrev pub tried : Tally → (location old : ℕ) → (done : Bool) → Tally
tried t location old done = record t { retirements = t.retirements ++ record { location = location; old = old; done = done } ∷ [] }

-- a poll with its answer
abbrev pub polled_once : Tally → (answer : Bool) → Tally
polled_once t answer = record t { polls = t.polls + 1; polled = if answer then t.polled + 1 else t.polled }

abbrev pub entered_once : Tally → Tally
entered_once t = record t { entries = t.entries + 1 }

abbrev pub observed_once : Tally → Tally
observed_once t = record t { observes = t.observes + 1 }

-- a read of a location in a stopped world
abbrev pub read_at : Tally → (location : ℕ) → Tally
read_at t location = record t { reads = t.reads ++ location ∷ [] }

abbrev pub rewritten_once : Tally → Tally
rewritten_once t = record t { rewrites = t.rewrites + 1 }

-- the loads of locations, each with the length of the history that was seen then
abbrev pub location_loads : List Load → List (ℕ × ℕ)
location_loads [] = []
location_loads (Location location length ∷ ls) = (location, length) ∷ location_loads ls
location_loads (Global ∷ ls) = location_loads ls
location_loads (Callbacks tool ∷ ls) = location_loads ls

-- these lengths alone
abbrev pub positions : List Load → List ℕ
positions [] = []
positions (Location location length ∷ ls) = length ∷ positions ls
positions (Global ∷ ls) = positions ls
positions (Callbacks tool ∷ ls) = positions ls

-- how often the global word was loaded
abbrev pub global_loads : List Load → ℕ
global_loads [] = 0
global_loads (Location location length ∷ ls) = global_loads ls
global_loads (Global ∷ ls) = 1 + global_loads ls
global_loads (Callbacks tool ∷ ls) = global_loads ls

-- how often the callback word of a tool was loaded
abbrev pub callback_loads : ℕ → List Load → ℕ
callback_loads tool [] = 0
callback_loads tool (Location location length ∷ ls) = callback_loads tool ls
callback_loads tool (Global ∷ ls) = callback_loads tool ls
callback_loads tool (Callbacks t ∷ ls) = if t == tool then 1 + callback_loads tool ls else callback_loads tool ls
