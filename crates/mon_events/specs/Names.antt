-- Sets of events as texts.
use Rattle.std.specs.Prelude.{ℕ, ◌+◌, ◌-◌, ◌*◌, ◌^◌, ◌==◌, nat_lt, List, [], ◌∷◌, Option, Some, None, Result, Ok, Err, if◌then◌else◌, find, bytes_eq}
use Rattle.std.specs.List.{slice_split}
use Rattle.std.specs.Char.{is_ascii_digit}
use Rattle.mon_events.specs.Events.{name_of, all_events}
use Rattle.mon_events.specs.Sets.{with_event}
use Rattle.mon_events.specs.declared.event.Event.{Event}
use Rattle.mon_events.specs.declared.set.EventSet.{EventSet}
use Rattle.mon_events.specs.declared.names.UnknownName.{UnknownName}

-- the event of a name
abbrev pub event_named : List ℕ → Option Event
event_named name = find (λ e. bytes_eq (name_of e) name) all_events

abbrev pub with_named : Option ℕ → Option Event → Option ℕ
with_named (Some set) (Some e) = Some (with_event set e)
with_named _ _ = None

-- the set with the events of these names, if each is the name of an event
abbrev pub with_names : Option ℕ → List (List ℕ) → Option ℕ
with_names set [] = set
with_names set (name ∷ names) = with_names (with_named set (event_named name)) names

-- the names are what the mark `|` parts
abbrev pub set_of_joined : List ℕ → Option ℕ
set_of_joined text = with_names (Some 0) (slice_split (λ b. b == 124) text)

-- the set of these digits, behind others that have the value n
abbrev pub with_digits : ℕ → List ℕ → Option ℕ
with_digits n [] = if nat_lt n (2 ^ 32) then Some n else None
with_digits n (c ∷ cs) = if is_ascii_digit c then with_digits (10 * n + (c - 48)) cs else None

-- one digit or more
abbrev pub set_of_digits : List ℕ → Option ℕ
set_of_digits [] = None
set_of_digits (c ∷ cs) = with_digits 0 (c ∷ cs)

abbrev pub named_or : Option ℕ → Option ℕ → Result EventSet UnknownName
named_or (Some set) other = Ok (record { 0 = set })
named_or None (Some set) = Ok (record { 0 = set })
named_or None None = Err (record {})

-- a set in digits, or in names
abbrev pub set_of_names : List ℕ → Result EventSet UnknownName
set_of_names text = named_or (set_of_digits text) (set_of_joined text)
