-- The messages that are written (this profile).
use Rattle.std.specs.Prelude.{ℕ, [], ◌∷◌}
use Rattle.std.specs.Int.{w32, to_be_bytes}
use Rattle.keepalive_msg.specs.Keepalive.{Message}

-- the message of an end: a locally administered address with the end's SSRC, no capabilities, no text
abbrev pub message_of : ℕ → Message
message_of ssrc = record { mac = 2 ∷ 0 ∷ to_be_bytes w32 ssrc; capabilities = 0; text = [] }
