-- Which payloads a sending sent of its source, and what its links were given of them.
use Rattle.std.specs.Prelude.{◌≡◌, ◌<◌, ◌-◌, ◌^◌, ◌++◌, ℕ, List, [], length, reverse, slice_index_or, Option, Some}
use Rattle.std.specs.Prelude.{Result, false}
use Rattle.std.specs.Option.{option_map}
use Rattle.outside_host.specs.Shelf.{Shelf}
use Rattle.outside_host.specs.declared.host.Place.TheVariants.{Here, Back}
use Rattle.sender_rules.specs.Sendings.{sent_packets}
use Rattle.rist_sender.specs.History.{Event, sendings_of, tried_as, tried_on}
use Rattle.rist_sender.specs.Links.{datagrams_given}
use Rattle.rist_send.specs.Given.{Gives, GivesPayloads}
use Rattle.rist_send.specs.Packets.{AreSentAs}
use Rattle.rist_sender.specs.Served.{AreServed}
use Rattle.rist_send.specs.declared.fault.SendFault.{SendFault}
use Rattle.rist_words.specs.CommandLine.{SendCommand}
use Rattle.run_parts.specs.Objects.{Tells, TellsLive}
use Rattle.run_send.specs.Sent.{send_status}
use Rattle.run_send.specs.Sessions.{session_sent}
use Rattle.run_parts.specs.declared.status.Status.{Status}

-- Payloads were sent of a source that had these octets and has these left: with Done all of its pieces, in order, each
-- once, and with any other status the first ones.
abbrev pub SendsPieces : List ℕ → Option (List ℕ) → List (List ℕ) → Status → Type 0
SendsPieces octets left sent status =
    (end : Result Unit SendFault) × (status ≡ send_status end) × Gives end octets left sent

-- Payloads were sent of a source that comes in datagrams, and had these payloads and has these left: with Done all of
-- them, each whole, in order, once, and with any other status the first ones.
abbrev pub SendsPayloads : List (List ℕ) → Option (List (List ℕ)) → List (List ℕ) → Status → Type 0
SendsPayloads payloads left sent status =
    (end : Result Unit SendFault) × (status ≡ send_status end) × GivesPayloads end payloads left sent

-- a sender was given such payloads of a line's source, and the links of the line just the datagrams that it made
pub record SentInPieces {I O E L C : Type 0} (tells : Tells I O E) (live : TellsLive L C) (old new : Shelf I O E L C)
    (c : SendCommand) (status : Status) : Type 0 where
  pub source : I
  pub spent : I
  pub took_source : old.sources c.source ≡ Here source
  pub gave_source : new.sources c.source ≡ Back spent
  pub was : List L
  pub is : List L
  pub count : length was ≡ length c.links
  pub took_links : (place : ℕ) (d : L) → place < length was → old.links place ≡ Here (slice_index_or was place d)
  pub gave_links : (place : ℕ) (d : L) → place < length was → new.links place ≡ Back (slice_index_or is place d)
  pub history : List Event
  pub given : AreServed live.line c.stream.flow (session_sent c) [] history was is
  -- where the sender doesn't listen a link took them all, in order, where none of its calls failed (its count of faults
  -- has 64 bits)
  pub taken : c.listens ≡ false → (link : ℕ) (d : L) → link < length was → live.line.faults (slice_index_or was link d) < 2 ^ 64 - 1
      → live.line.faults (slice_index_or is link d) ≡ live.line.faults (slice_index_or was link d)
      → live.line.taken (slice_index_or is link d)
      ≡ option_map (λ held. held ++ datagrams_given (tried_on (tried_as c.stream.flow (session_sent c)) link history))
      (live.line.taken (slice_index_or was link d))
  pub sent : List (List ℕ)
  pub packets : AreSentAs c.stream.nulls c.stream.first (reverse sent) (sent_packets (sendings_of history))
  pub pieces : (octets : List ℕ) → tells.remaining source ≡ Some octets
      → SendsPieces octets (tells.remaining spent) sent status
  pub payloads : (payloads : List (List ℕ)) → tells.payloads source ≡ Some payloads
      → SendsPayloads payloads (tells.payloads spent) sent status
