-- What a run of a gateway leaves, by what its objects tell. Of its links the first ones are received on and the others
-- sent on; its clocks are those of the links, and last that of the sender.
use Rattle.std.specs.Prelude.{◌≡◌, ℕ, List, [], map, take, drop, length, slice_get, Option, Some, None}
use Rattle.outside_net.specs.Links.{LinkTells}
use Rattle.rist_sender.specs.Sender.{rules_of}
use Rattle.sender_rules.specs.declared.send_bad.SendBad.{SendBad}
use Rattle.sender_rules.specs.declared.send_bad.SendBad.TheVariants as bads
use Rattle.rist_ends.specs.declared.counts.Counts.{Counts}
use Rattle.rist_desk.specs.declared.worker.ServingLimits.{ServingLimits}
use Rattle.outside_net.specs.Links.{LinkTells}
use Rattle.desk_run.specs.declared.ending.Ending.{Ending}
use Rattle.desk_run.specs.declared.ending.Ending.TheVariants as endings
use Rattle.desk_run.specs.Run.{Receives, TimedLinks, outside}
use Rattle.rist_gateway.specs.declared.ending.GateEnding.{GateEnding}
use Rattle.rist_gateway.specs.declared.ending.GateEnding.TheVariants as gates
use Rattle.rist_gateway.specs.declared.side_worker.SideWorker.{SideWorker}
use Rattle.rist_desk.specs.declared.beside.Side.{Side}
use Rattle.rist_gateway.specs.Onward.{OnwardState, IsOnward, IsUncalled, LooksOnce, shown}
use Rattle.rist_gateway.specs.Setup.{GateSetup}
use Rattle.rist_gateway.specs.Workers.{LookedAt, side_clock, side_workers}

-- ---- endings

-- a refusal of the sender, as an ending
abbrev pub refused_ending : SendBad → GateEnding
refused_ending bads.Spent = gates.Spent
refused_ending bads.LinksDown = gates.LinksDown

-- where pairs were wanting at a look, that comes before this ending; where all links were down, before being done alone
abbrev pub looked_ending : Option SendBad → GateEnding → GateEnding
looked_ending None otherwise = otherwise
looked_ending (Some bads.Spent) otherwise = gates.Spent
looked_ending (Some bads.LinksDown) gates.Done = gates.LinksDown
looked_ending (Some bads.LinksDown) gates.Spent = gates.Spent
looked_ending (Some bads.LinksDown) gates.TraceFull = gates.TraceFull
looked_ending (Some bads.LinksDown) (gates.Torn tear) = gates.Torn tear
looked_ending (Some bads.LinksDown) gates.LinksDown = gates.LinksDown

-- How a run ends, by how its receiving ended and by what its sender refused. A refused put comes first, and is answered
-- as it was refused.
abbrev pub EndsGate : Ending → Option SendBad → Option SendBad → GateEnding → Type 0
EndsGate endings.WriteFault None looked ending = ⊥
EndsGate endings.WriteFault (Some bad) looked ending = ending ≡ refused_ending bad
EndsGate endings.Spent put looked ending = ending ≡ looked_ending looked gates.Spent
EndsGate endings.TraceFull put looked ending = ending ≡ looked_ending looked gates.TraceFull
EndsGate (endings.Torn tear) put looked ending = ending ≡ looked_ending looked (gates.Torn tear)
EndsGate endings.LinksDown put looked ending = ending ≡ looked_ending looked gates.LinksDown
EndsGate endings.Done put looked ending = ending ≡ looked_ending looked gates.Done

-- ---- a run

-- a sending end that was made as this looked at a link, at a moment, which came to this
pub record LooksOn (first : OnwardState) (micros link : ℕ) (side : Side) : Type 0 where
  pub before : OnwardState
  pub after : OnwardState
  pub looked : LooksOnce first before after micros link side

-- the clocks of the links that are sent on were those of side workers, one for each link at its place, and each looked
-- at its link, once a turn
pub record AreLookedAt {C : Type 0} (looks : ℕ → ℕ → Side → Type 0) (moments : C → Option (ℕ → ℕ))
    (limits : ServingLimits) (clocks_were clocks_are : List C) : Type 0 where
  pub are : List (SideWorker C (Unit {0}))
  pub clocks_have : map side_clock are ≡ clocks_are
  pub looked : LookedAt looks moments limits (side_workers 0 clocks_were) are

-- The links that are sent on were handed to a sender which had done nothing, and which did this with them: all that it
-- did, deed by deed, was to send what was put to it, payload by payload, and to look at its links; the octets of the
-- payloads that it took are these.
pub record SendsOnward {L C : Type 0} (moments : C → Option (ℕ → ℕ)) (line : LinkTells L) (s : GateSetup)
    (links_were links_are : List L) (clock_was clock_is : C) (first last : OnwardState) : Type 0 where
  pub rules : rules_of first.sender ≡ s.rules
  pub session : first.sender.session ≡ s.session
  pub sealer : first.sender.sealer ≡ s.sealer
  pub uncalled : IsUncalled first
  pub none : first.passed.sent ≡ []
  pub links_had : first.links ≡ map (shown line) links_were
  pub links_have : last.links ≡ map (shown line) links_are
  pub clock_had : first.passed.moments ≡ moments clock_was
  pub clock_has : last.passed.moments ≡ moments clock_is
  pub onward : IsOnward first last

-- A run over so many links that are received on, with the others sent on. What was received is played out to the
-- sender: the octets that it took are those that the steps of the receiver's history release. Counts are the
-- receiver's.
pub record Forwards {L C : Type 0} (moments : C → Option (ℕ → ℕ)) (line : LinkTells L) (s : GateSetup)
    (limits : ServingLimits) (inputs : ℕ) (was is : TimedLinks L C) (counts : Counts) (ending : GateEnding)
    : Type 0 where
  pub first : OnwardState
  pub last : OnwardState
  pub ended : Ending
  pub receives : Receives moments line s.receiving limits
      (outside (take inputs was.links) (take inputs was.clocks) (Some []) 0)
      (outside (take inputs is.links) (take inputs is.clocks) (Some last.passed.sent) last.faults) counts ended
  pub clock_was : C
  pub clock_is : C
  pub clock_had : slice_get was.clocks (length was.links) ≡ Some clock_was
  pub clock_has : slice_get is.clocks (length was.links) ≡ Some clock_is
  pub sends : SendsOnward moments line s (drop inputs was.links) (drop inputs is.links) clock_was clock_is first last
  pub looked : AreLookedAt (LooksOn first) moments limits (drop inputs (take (length was.links) was.clocks))
      (drop inputs (take (length was.links) is.clocks))
  pub ends : EndsGate ended last.put_bad last.aside_bad ending
