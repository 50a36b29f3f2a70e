-- A store in memory.
use Rattle.std.specs.Prelude.{ℕ, List, [], ◌∷◌, Option, Some, None, if◌then◌else◌, string_bytes}
use Rattle.std.specs.Str.{bytes_eq}
use Rattle.mon_outside.specs.declared.memory.MemoryFile.{MemoryFile}

-- the contents of the first file with this name
abbrev pub contents_of : List MemoryFile → List ℕ → Option (List ℕ)
contents_of [] name = None
contents_of (f ∷ fs) name = if bytes_eq (string_bytes f.name) name then Some f.contents.items else contents_of fs name
