-- What it means that a payload reached the receiver in time: in sent numbers, epoch by epoch.
use Rattle.std.specs.Prelude.{◌≡◌, ℕ, List, [], ◌∷◌, length, true, ◌==◌, if◌then◌else◌}
use Rattle.seq_unwrap.specs.declared.width.Width.{Width}
use Rattle.receiver_rules.specs.declared.limits.Limits.{Limits}
use Rattle.receiver_rules.specs.Steps.{Step}
use Rattle.receiver_rules.specs.SentEpochs.{SentStreams, Shipment, CopyIn, Foreign, NoPacket, Transfer, AreTransfersOf}
use Rattle.receiver_rules.specs.SentEpochs.{shipped_steps, sent_epochs, reached_payloads}
use Rattle.world_rules.specs.SentFlows.{SentFlow, stream_of, was_sent}

-- the flow of an epoch, by the flows of the epochs, the newest first, which are counted from 0
abbrev pub flow_in : List ℕ → ℕ → ℕ
flow_in [] epoch = 0
flow_in (flow ∷ flows) epoch = if epoch == length flows then flow else flow_in flows epoch

-- what was sent in each epoch: the stream of its flow
abbrev pub streams_in : Width → List SentFlow → List ℕ → SentStreams
streams_in width sent flows = λ epoch. stream_of width sent (flow_in flows epoch)

-- what came is of a number that was sent, or a packet of another flow than the epoch's
abbrev pub IsOfSent : List SentFlow → List ℕ → Shipment → Type 0
IsOfSent sent flows (CopyIn epoch n again) = was_sent sent (flow_in flows epoch) n ≡ true
IsOfSent sent flows (Foreign arrival) = Unit {0}
IsOfSent sent flows NoPacket = Unit {0}

-- each is
abbrev pub AreOfSent : List SentFlow → List ℕ → List Transfer → Type 0
AreOfSent sent flows [] = Unit {0}
AreOfSent sent flows (d ∷ before) = IsOfSent sent flows d.what × AreOfSent sent flows before

-- The steps of a history are those of a run in which each packet of an epoch's flow is a copy of what was sent in
-- that flow; and what was played out are, epoch after epoch, the payloads of the numbers that were reached, by rising
-- number, and nothing else.
pub record PlaysReached (limits : Limits) (width : Width) (sent : List SentFlow) (history : List Step)
    (played : List (List ℕ)) : Type 0 where
  pub flows : List ℕ
  pub run : List Transfer
  pub steps : shipped_steps (streams_in width sent flows) run ≡ history
  pub fits : AreTransfersOf limits (streams_in width sent flows) run
  pub of_sent : AreOfSent sent flows run
  pub reached : played ≡ reached_payloads (streams_in width sent flows)
      (sent_epochs limits (streams_in width sent flows) run)
