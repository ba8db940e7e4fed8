-- What is read of octets as a keepalive: the message but for its text's octets, or the test that fails.
use Rattle.std.specs.Prelude.{ℕ, ◌-◌, List, length, take, drop, if◌then◌else◌, nat_lt, Result, Ok, Err}
use Rattle.std.specs.Int.{w16, from_be_bytes}
use Rattle.keepalive_msg.specs.declared.keepalive.KeepBad.{KeepBad}
use Rattle.keepalive_msg.specs.declared.keepalive.KeepBad.TheVariants.{Short}
use Rattle.keepalive_msg.specs.declared.keepalive.Keepalive.{Keepalive}
use Rattle.keepalive_msg.specs.Keepalive.{Message}

-- what is told of a message: of its text the length
abbrev pub value_of : Message → Keepalive
value_of message = record { mac = message.mac; capabilities = message.capabilities; text = length message.text }

-- the value that stands in the octets, where no test fails
abbrev pub value_in : List ℕ → Keepalive
value_in octets = record {
  mac = take 6 octets;
  capabilities = from_be_bytes w16 (take 2 (drop 6 octets));
  text = length octets - 8;
}

-- the value, or the test that fails
unfoldable pub reading_of : List ℕ → Result Keepalive KeepBad
reading_of octets = if nat_lt (length octets) 8 then Err Short else Ok (value_in octets)
