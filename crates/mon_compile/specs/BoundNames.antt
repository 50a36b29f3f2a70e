-- Names that items bind again, by the items before.
use Rattle.std.specs.Prelude.{ℕ, ◌||◌, Bool, false, if◌then◌else◌, List, [], ◌∷◌, Option, Some, None}
use Rattle.mon_code.specs.Programs.{is_text}
use Rattle.mon_trees.specs.declared.tree.ModuleItem.{ModuleItem}
use Rattle.mon_trees.specs.declared.tree.ModuleItem.TheVariants as item
use Rattle.mon_compile.specs.Faults.{has_twin}

abbrev pub item_binds : ModuleItem → List ℕ → Bool
item_binds (item.Function f) name = is_text f.name name
item_binds (item.Constant line n c) name = is_text n name
item_binds (item.Text t) name = false

abbrev pub binds : List ModuleItem → List ℕ → Bool
binds [] name = false
binds (x ∷ items) name = item_binds x name || binds items name

-- the line of an item that binds a name of these again, or the same parameter twice
abbrev pub duplicate_at : List ModuleItem → ModuleItem → Option ℕ
duplicate_at before (item.Function f) = if binds before f.name || has_twin f.parameters then Some f.line else None
duplicate_at before (item.Constant line name c) = if binds before name then Some line else None
duplicate_at before (item.Text t) = None
