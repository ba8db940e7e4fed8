-- What a whole receiver is told, step by step, with what its control datagrams say (RFC 3550, section 6.1, for a
-- compound; the RTT echo is this profile's). A history is a list of steps, the newest first: in `step ∷ before`,
-- `before` is all that came before the step.
use Rattle.std.specs.Prelude.{ℕ, zero, suc, ◌-◌, max, List, [], ◌∷◌, map, Bool, not, ◌&&◌, nat_le, ◌==◌, if◌then◌else◌}
use Rattle.std.specs.Prelude.{Option, None, Some}
use Rattle.std.specs.List.{find}
use Rattle.receiver_rules.specs.Steps as buffer
use Rattle.receiver_rules.specs.Steps.{Arrival}
use Rattle.receiver_rules.specs.ReceiverSteps as receiver
use Rattle.rtcp_compound.specs.Compound.{Content}
use Rattle.rist_rtt.specs.Echo.{EchoOf, echoes_in, first_response, first_request}
use Rattle.rist_rtt.specs.Smoothed.{sample_of, smoothed}

-- what comes with a step: a media packet; a compound, of which the sample of the round-trip time that it gives counts,
-- and the RTT request that stands in it; a keepalive; a datagram that was refused; a tick of the receiver's own clock,
-- at a moment in microseconds; or the end of the stream. A compound or a tick whose answer couldn't be sealed (the
-- pairs of nonce and sequence number were used up) comes as a keepalive: it changes nothing but the time
pub data Input : Type 0 where
  Media : Arrival → Input
  Control : Option ℕ → Option EchoOf → Input
  Keepalive : Input
  Refused : Input
  Tick : ℕ → Input
  End : Input

-- a step: the link that it came on, from 0, and the tick of its moment
pub record Step : Type 0 where
  pub link : ℕ
  pub tick : ℕ
  pub input : Input

-- ---- what a compound says

-- a response counts unless its stamp lies ahead, or more than ten seconds back
abbrev pub is_fresh : ℕ → EchoOf → Bool
is_fresh micros response = nat_le response.stamp micros && nat_le (micros - response.stamp) 10000000

-- the sample that a response gives at a moment
abbrev pub sample_at : ℕ → Option EchoOf → Option ℕ
sample_at micros None = None
sample_at micros (Some response) =
    if is_fresh micros response then Some (sample_of micros response.stamp response.delay) else None

-- a compound that comes at a moment in microseconds
abbrev pub control_input : ℕ → List Content → Input
control_input micros packets =
    Control (sample_at micros (first_response (echoes_in packets))) (first_request (echoes_in packets))

-- ---- the round-trip time

-- a link's round-trip time after one more step
abbrev pub rtt_after : Option ℕ → Input → Option ℕ
rtt_after rtt (Media arrival) = rtt
rtt_after rtt (Control None request) = rtt
rtt_after rtt (Control (Some sample) request) = smoothed rtt sample
rtt_after rtt Keepalive = rtt
rtt_after rtt Refused = rtt
rtt_after rtt (Tick micros) = rtt
rtt_after rtt End = rtt

-- the smoothed round-trip time of a link, in microseconds, where a sample was taken
abbrev pub rtt_of : ℕ → List Step → Option ℕ
rtt_of link [] = None
rtt_of link (step ∷ before) =
    if step.link == link then rtt_after (rtt_of link before) step.input else rtt_of link before

-- the greater of a round-trip time and one that may be known
abbrev pub longer : Option ℕ → ℕ → ℕ
longer None longest = longest
longer (Some rtt) longest = max rtt longest

-- the greatest of the links' round-trip times, of so many links from 0 on, in microseconds; 0 where none is known
abbrev pub longest_rtt : ℕ → List Step → ℕ
longest_rtt zero history = 0
longest_rtt (suc links) history = longer (rtt_of links history) (longest_rtt links history)

-- ---- the buffer's part

-- what comes with a step, as the rules of the buffer see it
abbrev pub receiver_input : Input → receiver.Input
receiver_input (Media arrival) = receiver.Media arrival
receiver_input (Control sample request) = receiver.Control
receiver_input Keepalive = receiver.Keepalive
receiver_input Refused = receiver.Refused
receiver_input (Tick micros) = receiver.Tick
receiver_input End = receiver.End

-- a history as the buffer sees it
abbrev pub buffer_history : List Step → List buffer.Step
buffer_history history =
    receiver.buffer_history (map (λ s. record { link = s.link; tick = s.tick; input = receiver_input s.input }) history)

-- the effective time: the greatest tick so far
abbrev pub effective_time : List Step → ℕ
effective_time history = buffer.effective_time (buffer_history history)
