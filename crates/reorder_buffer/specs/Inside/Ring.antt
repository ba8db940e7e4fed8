-- How places and blocks show the packets that wait.
use Rattle.std.specs.Prelude.{◌≡◌, ℕ, ◌+◌, ◌-◌, ◌^◌, ◌<◌, ◌≤◌, ◌%◌, pos, List, [], ◌∷◌, length, map, take, min, max}
use Rattle.link_channels.specs.declared.bounds.TheConstants.{MAX_PAYLOAD}
use Rattle.std.specs.Prelude.{nat_lt, Bool, false, slice_index_or, Option, None, Some}
use Rattle.receiver_rules.specs.declared.bounds.TheConstants.{MAX_SPAN}
use Rattle.receiver_rules.specs.Packets.{Packet, insert_by_number, IsRising}
use Rattle.reorder_buffer.specs.Inside.Span.{IsWithin}
use Rattle.reorder_buffer.specs.declared.ring.Held.{Held}
use Rattle.reorder_buffer.specs.declared.ring.Ends.{Ends}
use Rattle.std.specs.Option.{ForSome}

-- what waits, by rising number, and for how many there is room
pub record Waiting : Type 0 where
  pub capacity : ℕ
  pub packets : List Packet

-- a packet with the block of its place
abbrev pub packet_of : Held → List ℕ → Packet
packet_of held block =
    record {
      number = held.number;
      timestamp = held.timestamp;
      deadline = pos held.deadline;
      payload = take held.length block;
    }

-- the packets of some places, by number
abbrev pub packets_in : List (Option Held) → List (List ℕ) → List Packet
packets_in [] blocks = []
packets_in (place ∷ places) [] = []
packets_in (None ∷ places) (block ∷ blocks) = packets_in places blocks
packets_in (Some held ∷ places) (block ∷ blocks) = insert_by_number (packet_of held block) (packets_in places blocks)

-- when the packet of a place is due
abbrev pub tick_of : Option Held → ℕ
tick_of None = 2 ^ 64 - 1
tick_of (Some held) = held.deadline

-- the number of the first packet
abbrev pub first_number : List Packet → Option ℕ
first_number [] = None
first_number (p ∷ ps) = Some p.number

-- the highest of a number and those that follow it
abbrev pub last_number : ℕ → List Packet → ℕ
last_number number [] = number
last_number number (p ∷ ps) = last_number p.number ps

-- the lowest and the highest number
abbrev pub ends_of : List Packet → Option Ends
ends_of [] = None
ends_of (p ∷ ps) = Some (record { low = p.number; high = last_number p.number ps })

-- the floor once the first packet is out: one above its number
abbrev pub floor_after_first : List Packet → ℕ
floor_after_first [] = 0
floor_after_first (p ∷ ps) = p.number + 1

-- the payload of the first packet
abbrev pub first_payload : List Packet → List ℕ
first_payload [] = []
first_payload (p ∷ ps) = p.payload

-- all but the first packet
abbrev pub after_first : List Packet → List Packet
after_first [] = []
after_first (p ∷ ps) = ps

-- a packet at its place
pub record IsPlaced (capacity place : ℕ) (held : Held) : Type 0 where
  pub stands : held.number % capacity ≡ place
  pub number : held.number < 2 ^ 62
  pub deadline : held.deadline < 2 ^ 62
  pub length : held.length ≤ MAX_PAYLOAD

-- what is kept beside the packets follows from them
pub record IsRing (places : List (Option Held)) (blocks : List (List ℕ)) (ticks : List ℕ) (ends : Option Ends)
    (count : ℕ) : Type 0 where
  pub some : 1 ≤ length places
  pub few : length places ≤ MAX_SPAN
  pub sized : length blocks ≡ length places
  pub placed : (place : ℕ) (held : Held) → slice_index_or places place None ≡ Some held
      → IsPlaced (length places) place held
  pub indexed : ticks ≡ map tick_of places
  pub bounded : ends ≡ ends_of (packets_in places blocks)
  pub high : ForSome ends (λ e. e.high < 2 ^ 62)
  pub counted : count ≡ length (packets_in places blocks)
  pub rising : IsRising 0 (packets_in places blocks)
  pub within : IsWithin (length places) (packets_in places blocks)

-- and where the lowest number stands
pub record IsStanding (places : List (Option Held)) (blocks : List (List ℕ)) (ticks : List ℕ) (ends : Option Ends)
    (first count : ℕ) : Type 0 where
  pub ring : IsRing places blocks ticks ends count
  pub inside : first < length places
  pub stands : ForSome ends (λ e. first ≡ e.low % length places)

-- the ends with one more number
abbrev pub ends_and : Option Ends → ℕ → Ends
ends_and None number = record { low = number; high = number }
ends_and (Some ends) number = record { low = min ends.low number; high = max ends.high number }

-- the first number is below the floor
abbrev pub starts_below : ℕ → List Packet → Bool
starts_below floor [] = false
starts_below floor (p ∷ ps) = nat_lt p.number floor

-- the ends where the lowest number is this one, if any
abbrev pub ends_from : Option ℕ → ℕ → Option Ends
ends_from None high = None
ends_from (Some low) high = Some (record { low = low; high = high })
