-- The words by which a step is heard, and which of them are loaded.
use Rattle.std.specs.Prelude.{◌≡◌, ℕ, ◌<◌, ◌*◌, ◌/◌, ◌%◌, ◌^◌, nat_lt, Option, Some, None, Bool, false, ◌||◌, cond, List, [], ◌∷◌, ◌++◌, slice_index, ◌⊎◌}
use Rattle.mon_words.specs.Words.{cell_of}
use Rattle.mon_words.specs.declared.tally.Load.{Load}
use Rattle.mon_recorders.specs.declared.happening.Happening.{Happening}
use Rattle.mon_recorders.specs.Happenings.{Filter, answers, for_tools, is_global_kind}
use Rattle.mon_recorders.specs.Boards.{is_enabled_by, by_words}
use Rattle.mon_hear.specs.declared.words.Words.{Words}

abbrev pub filter : Words → Filter
filter w = by_words (λ l. cell_of w.word) w.global (slice_index w.callbacks)

abbrev pub any_global : List Happening → Bool
any_global [] = false
any_global (e ∷ es) = is_global_kind e.kind || any_global es

-- some event is enabled for a tool, at a location with this word
abbrev pub any_enabled : ℕ → ℕ → ℕ → List Happening → Bool
any_enabled word global tool [] = false
any_enabled word global tool (e ∷ es) = is_enabled_by (λ l. cell_of word) global e.kind tool e.event || any_enabled word global tool es

-- the loads that these events need
abbrev pub global_load : List Happening → List Load
global_load es = cond (any_global es) (Load.Global ∷ []) []

abbrev pub callback_loads : ℕ → ℕ → List Happening → ℕ → List Load
callback_loads word global es n = for_tools (λ t. any_enabled word global t es) Load.Callbacks n

abbrev pub loads : ℕ → ℕ → List Happening → List Load
loads word global es = global_load es ++ callback_loads word global es 6

-- two filters deliver these events alike, and answer them alike
abbrev pub Agree : Filter → Filter → List Happening → Type 0
Agree f g [] = Unit {0}
Agree f g (e ∷ es) = ((t : ℕ) → t < 6 → (f.hears t e ≡ g.hears t e) × (answers f t e ≡ answers g t e)) × Agree f g es

-- the events that are enabled by the global word
abbrev pub globals : List Happening → List Happening
globals [] = []
globals (e ∷ es) = cond (is_global_kind e.kind) (e ∷ globals es) (globals es)

-- the global word asks for the event of this number for some tool
abbrev pub wants_some : ℕ → Option ℕ → Bool
wants_some global None = false
wants_some global (Some rank) = nat_lt 0 (global / 2 ^ (6 * rank) % 64)

-- these words enable an event for no tool
abbrev pub IsUnasked : ℕ → ℕ → Happening → Type 0
IsUnasked word global e = (t : ℕ) → t < 6 → is_enabled_by (λ l. cell_of word) global e.kind t e.event ≡ false

-- the events xs are those of es but for some that are left out, which these words enable for no tool
abbrev pub IsAskedPart : ℕ → ℕ → List Happening → List Happening → Type 0
IsAskedPart word global xs [] = xs ≡ []
IsAskedPart word global xs (e ∷ es) = (IsUnasked word global e × IsAskedPart word global xs es) ⊎ ((rest : List Happening) × (xs ≡ e ∷ rest) × IsAskedPart word global rest es)
