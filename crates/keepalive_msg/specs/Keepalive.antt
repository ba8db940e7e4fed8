-- Keepalive messages (this profile), and which octets spell them: a MAC address, sixteen capability
-- bits, and a text that isn't read.
use Rattle.std.specs.Prelude.{◌≡◌, ℕ, ◌^◌, ◌<◌, List, ◌++◌, length}
use Rattle.std.specs.Int.{w16, to_be_bytes}

-- a message, with the text's octets
pub record Message : Type 0 where
  pub mac : List ℕ
  pub capabilities : ℕ
  pub text : List ℕ

-- six octets of an address, and capabilities of sixteen bits
pub record IsMessage (message : Message) : Type 0 where
  pub mac : length message.mac ≡ 6
  pub capabilities : message.capabilities < 2 ^ 16

-- all octets of a message
abbrev pub spelling : Message → List ℕ
spelling message = message.mac ++ (to_be_bytes w16 message.capabilities ++ message.text)

-- The octets spell the message.
pub record Spells (message : Message) (octets : List ℕ) : Type 0 where
  pub fits : IsMessage message
  pub whole : octets ≡ spelling message
