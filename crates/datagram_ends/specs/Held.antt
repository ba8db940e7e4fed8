-- What a contract sees of a source over UDP.
use Rattle.std.specs.Prelude.{◌≡◌, ◌-◌, ℕ, Bool, false, List, take, drop, Option, Some}
use Rattle.datagram_ends.specs.declared.udp_source.UdpSource.{UdpSource}

-- what it holds of the payload of the datagram that it took last: all that wasn't read of it
abbrev pub held_by : {E : Type 0} → UdpSource E → List ℕ
held_by source = take (source.to - source.from) (drop source.from source.block)

-- it gave so many octets from the front of what it held, and holds the rest
abbrev pub Gives : {E : Type 0} → UdpSource E → UdpSource E → ℕ → List ℕ → Type 0
Gives old new count given = (given ≡ take count (held_by old)) × (held_by new ≡ drop count (held_by old))

-- the sign says next that the program goes on
abbrev pub GoesOn : Option (ℕ → Bool) → Type 0
GoesOn told = (answers : ℕ → Bool) × (told ≡ Some answers) × (answers 0 ≡ false)
