-- A location's word: bits 0 to 7 the opcode in place, 8 to 15 the base, 16 to 39 what is wanted, 40 to 63 what is live.
use Rattle.std.specs.Prelude.{◌≡◌, true, false, not, List, ◌++◌, map, replicate, Option, Some, None, ℕ, ◌+◌, ◌-◌, ◌*◌, ◌/◌, ◌%◌, ◌^◌, ◌<◌, ◌≤◌, Bool, ◌&&◌, cond, ◌==◌, nat_lt, bit_and}
use Rattle.std.specs.Int.{bit_at}
use Rattle.mon_events.specs.Events.{place, bit, is_local}
use Rattle.mon_events.specs.declared.event.Event.{Event}
use Rattle.mon_events.specs.declared.event.Slot.{Slot}
use Rattle.mon_words.specs.declared.history.Cell.{Cell}
use Rattle.mon_words.specs.declared.word.Parts.{Parts}

abbrev pub word_of : Parts → ℕ
word_of p = p.place + p.base * 256 + p.want * 65536 + p.live * 1099511627776

abbrev pub parts_of : ℕ → Parts
parts_of n = record { place = n % 256; base = n / 256 % 256; want = n / 65536 % 16777216; live = n / 1099511627776 }

-- what a word says beside the opcode in place
abbrev pub cell_of : ℕ → Cell
cell_of n = record { base = n / 256 % 256; want = n / 65536 % 16777216; live = n / 1099511627776 }

abbrev pub is_bit : ℕ → ℕ → Bool
is_bit n k = n / 2 ^ k % 2 == 1

-- the event of a slot is enabled for a tool
abbrev pub is_enabled : Cell → Slot → ℕ → Bool
is_enabled c slot tool = is_bit c.want (place slot tool) && is_bit c.live (place slot tool)

-- the cell with the live bit k cleared
abbrev pub clear : Cell → ℕ → Cell
clear c k = record c { live = c.live - bit_at c.live k * 2 ^ k }

-- the enabled bits of slot number s
abbrev pub enabled_in : Cell → ℕ → ℕ
enabled_in c s = bit_and c.want c.live / 2 ^ (6 * s) % 64

-- how much instrumented the opcode in place has to be: 3 where a LINE bit is enabled, else 2 where an INSTRUCTION bit
-- is, else 1 where a MAIN bit is, else 0
abbrev pub need : Cell → ℕ
need c = cond (nat_lt 0 (enabled_in c 0)) 3 (cond (nat_lt 0 (enabled_in c 1)) 2 (cond (nat_lt 0 (enabled_in c 2)) 1 0))

-- the opcode in place for a base, instrumented so much
abbrev pub form : ℕ → ℕ → ℕ
form base r = cond (r == 3) 128 (cond (r == 2) 129 (cond (r == 1) ((base + 64) % 256) base))

-- an opcode that may stand in place: not less instrumented than the enabled bits need
abbrev pub Allowed : Cell → ℕ → Type 0
Allowed c place = (r : ℕ) × (r ≤ 3) × (need c ≤ r) × (place ≡ form c.base r)

-- a word that may stand for the cell
abbrev pub Shows : Cell → ℕ → Type 0
Shows c n = (cell_of n ≡ c) × Allowed c (n % 256)

-- the word with the least instrumented opcode that is allowed
abbrev pub normal : ℕ → ℕ
normal n = n - n % 256 + form (cell_of n).base (need (cell_of n))

-- all ones but the live bit k
abbrev pub mask_of : ℕ → ℕ
mask_of k = 18446744073709551615 - 1099511627776 * 2 ^ k

-- the bit of the gate word that stops the world
abbrev pub stop_bit : ℕ
stop_bit = 9223372036854775808

-- where the want and the live bit of a slot and a tool stand in a word
abbrev pub BitPlaces : ℕ → Type 0
BitPlaces word = (slot : Slot) (tool : ℕ) → tool < 6
    → (is_bit (cell_of word).want (place slot tool) ≡ is_bit word (16 + place slot tool))
    × (is_bit (cell_of word).live (place slot tool) ≡ is_bit word (40 + place slot tool))

-- a tool's bit of the global word for an event that is global alone, which has this number there
abbrev pub is_wanted : ℕ → Option ℕ → ℕ → Bool
is_wanted word (Some e) tool = is_bit word (6 * e + tool)
is_wanted word None tool = false

abbrev pub differ : Bool → Bool → Bool
differ true b = not b
differ false b = b

-- the two bits of an event in a callback word: 1 keeps, 2 keeps and asks for no more; 3 is read as 0
abbrev pub is_called : ℕ → Event → Bool
is_called word e = differ (is_bit word (2 * bit e)) (is_bit word (2 * bit e + 1))

-- 2 at an event that is not local is read as 1
abbrev pub is_once : ℕ → Event → Bool
is_once word e = is_local e && (not (is_bit word (2 * bit e)) && is_bit word (2 * bit e + 1))

-- no event of a slot is enabled for a tool
abbrev pub Quiet : Cell → Type 0
Quiet c = (slot : Slot) (tool : ℕ) → tool < 6 → is_enabled c slot tool ≡ false

-- how many words of a board stand before those of the locations: the global word and the callback words of six tools
abbrev pub before_locations : ℕ
before_locations = 7

-- the first word of a location with this base opcode: nothing is wanted, and all is live
abbrev pub first_word : ℕ → ℕ
first_word base = word_of record { place = base; base = base; want = 0; live = 16777215 }

-- the first words of a program, of which these are the base opcodes of the locations
abbrev pub first_words : List ℕ → List ℕ
first_words bases = replicate before_locations 0 ++ map first_word bases
