-- What a replay writes of the records of a capture.
use Rattle.std.specs.Prelude.{◌≡◌, ℕ, true, List, ◌∷◌}
use Rattle.capture_file.specs.Capture.{Record}
use Rattle.receiver_rules.specs.declared.limits.Limits.{Limits}
use Rattle.receiver_rules.specs.Steps.{end_step}
use Rattle.receiver_rules.specs.History.{released_bytes}
use Rattle.rist_wire.specs.declared.session.Session.{Session}
use Rattle.rist_ends.specs.declared.settings.Settings.{Settings}
use Rattle.rist_ends.specs.Settings.{IsInRange}
use Rattle.rist_ends.specs.Receiver.{ReceiverState, IsReceiverAfter}
use Rattle.reorder_buffer.specs.declared.phase.Phase.TheVariants.{Open}
use Rattle.rist_replay.specs.Steps.{history_of, receiver_history}

-- the octets that these records have released
abbrev pub released_so_far : Session → Limits → List Record → List ℕ
released_so_far session limits rs = released_bytes limits (history_of session rs)

-- the octets that they release with an end after them
abbrev pub replayed : Session → Limits → List Record → List ℕ
replayed session limits rs = released_bytes limits (end_step ∷ history_of session rs)

-- settings in their ranges, of a receiver that sends nothing back
pub record AreSettings (settings : Settings) : Type 0 where
  pub in_range : IsInRange settings
  pub muted : settings.muted ≡ true

-- the receiver stands after these records, and goes on
pub record HasReplayed (session : Session) (receiver : ReceiverState) (rs : List Record) : Type 0 where
  pub state : IsReceiverAfter receiver (receiver_history session rs)
  pub running : receiver.buffer.phase ≡ Open
  pub muted : receiver.reporter.is_muted ≡ true
