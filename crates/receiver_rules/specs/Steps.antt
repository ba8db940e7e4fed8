-- What a receiver's buffer is told, step by step (RFC 3550, section 5.1, for what a media packet carries;
-- RFC 3551, section 6, for the clock of 90 kHz).
-- A history is a list of steps, the newest first: in `step ∷ before`, `before` is all that came before the step.
use Rattle.seq_unwrap.specs.declared.width.Width.{Width}
use Rattle.std.specs.Prelude.{ℕ, ◌*◌, ◌/◌, max, List, [], ◌∷◌, Bool, true, false, ◌||◌}

-- a media packet: its flow (the SSRC with its lowest bit cleared), whether it is a retransmission (that bit is set: VSF
-- TR-06-1), its sequence number and its timestamp as they were sent, and its payload
pub record Arrival : Type 0 where
  pub flow : ℕ
  pub again : Bool
  pub width : Width
  pub word : ℕ
  pub timestamp : ℕ
  pub payload : List ℕ

-- what comes with a step: a media packet, nothing that concerns the buffer, or the end of the stream
pub data Event : Type 0 where
  Media : Arrival → Event
  TimeOnly : Event
  End : Event

-- a step, at a tick of the receiver's clock
pub record Step : Type 0 where
  pub tick : ℕ
  pub event : Event

-- a moment in microseconds as ticks of 1/90,000 s
abbrev pub tick_of : ℕ → ℕ
tick_of micros = micros * 9 / 100

-- the effective time: the greatest tick so far. A clock may go back, and this does not
abbrev pub effective_time : List Step → ℕ
effective_time [] = 0
effective_time (step ∷ before) = max step.tick (effective_time before)

-- the step ends the stream
abbrev pub is_end : Event → Bool
is_end (Media arrival) = false
is_end TimeOnly = false
is_end End = true

-- some step ended the stream
abbrev pub has_ended : List Step → Bool
has_ended [] = false
has_ended (step ∷ before) = is_end step.event || has_ended before

-- a step with a media packet
abbrev pub media_step : ℕ → Arrival → Step
media_step tick arrival = record { tick = tick; event = Media arrival }

-- a step with which only time passes
abbrev pub time_step : ℕ → Step
time_step tick = record { tick = tick; event = TimeOnly }

-- the end of the stream, which moves no time
abbrev pub end_step : Step
end_step = record { tick = 0; event = End }
