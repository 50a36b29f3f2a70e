-- A text that takes a limited number of characters.
use Rattle.std.specs.Prelude.{ℕ, ◌-◌, List, ◌++◌, length, take}
use Rattle.mon_values.specs.declared.limited.LimitedBuffer.{LimitedBuffer}

-- the buffer after these characters: as many of them as there is room for
unfoldable pub written : LimitedBuffer → List ℕ → LimitedBuffer
written buffer chars = record { text = buffer.text ++ take buffer.room chars; room = buffer.room - length chars }
