-- Iterators: how they begin, and what they give next.
use Rattle.std.specs.Prelude.{ℕ, List, [], ◌∷◌, ◌++◌, length, Option, Some, None, Result, Ok, Err, slice_get, slice_set}
use Rattle.mon_values.specs.declared.value.Value.{Value, Iter}
use Rattle.mon_values.specs.declared.value.Value.TheOpen.{Value-F}
use Rattle.mon_values.specs.declared.value.Value.TheViews.{out-Value}
use Rattle.mon_values.specs.declared.value.Exc.{Exc}
use Rattle.mon_values.specs.declared.fault.Trouble.{Trouble}
use Rattle.mon_values.specs.Troubles.{not_iterable}
use Rattle.mon_frames.specs.Items.{items_of}
use Rattle.mon_frames.specs.Views.{FramesView}

-- a new iterator over these items has the next number
abbrev pub over : FramesView → Option (List Value) → Result (Value × FramesView) Trouble
over v None = Err not_iterable
over v (Some items) = Ok (Iter (length v.iterators), record v { iterators = v.iterators ++ items ∷ [] })

abbrev pub iterated_at : FramesView → Value → Value-F Value Exc → Result (Value × FramesView) Trouble
iterated_at v x (Value-F.Gen number) = Ok (x, v)
iterated_at v x (Value-F.Iter number) = Ok (x, v)
iterated_at v x _ = over v (items_of x)

-- what a value is gone over with: a generator or an iterator is so itself
abbrev pub iterated : FramesView → Value → Result (Value × FramesView) Trouble
iterated v x = iterated_at v x (out-Value x)

abbrev pub first_left : List (List Value) → ℕ → Option (List Value) → Option Value × List (List Value)
first_left iterators number None = (None, iterators)
first_left iterators number (Some []) = (None, iterators)
first_left iterators number (Some (x ∷ left)) = (Some x, slice_set iterators number left)

-- the first of what the iterator of this number has left, and what then is left; nothing of a number without an iterator
abbrev pub next_in : List (List Value) → ℕ → Option Value × List (List Value)
next_in iterators number = first_left iterators number (slice_get iterators number)

-- what an iterator gives next
abbrev pub next_of : FramesView → ℕ → Option Value × FramesView
next_of v number = ((next_in v.iterators number).0, record v { iterators = (next_in v.iterators number).1 })
