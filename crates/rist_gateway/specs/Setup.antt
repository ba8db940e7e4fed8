-- What a gateway's run is set to, and what is made for it.
use Rattle.std.specs.Prelude.{◌≡◌, ◌≤◌, ◌+◌, ◌*◌, ℕ, List, [], length, Option, vec_capacity}
use Rattle.psk_seal.specs.Sealer.{SealerState}
use Rattle.sender_rules.specs.Bonding.{link_count}
use Rattle.rist_wire.specs.declared.session.Session.{Session}
use Rattle.rist_sender.specs.Calls.{Rules}
use Rattle.rist_sender.specs.Sender.{IsSenderAfter, has_keepalives, rules_of}
use Rattle.rist_sender.specs.declared.settings.Settings.{Settings}
use Rattle.rist_desk.specs.declared.step.Step.{Step}
use Rattle.desk_run.specs.Setup.{Setup as ReceivingSetup, IsMade as IsReceivingMade, IsMadeInTurns, setup_in_turns}
use Rattle.desk_run.specs.Setup.{setup_of as receiving_setup_of}
use Rattle.rist_gateway.specs.Onward.{no_work}
use Rattle.rist_gateway.specs.declared.memory.GateMemory.{GateMemory}
use Rattle.rist_gateway.specs.declared.receiving_end.KeptEnd.{KeptEnd}
use Rattle.rist_gateway.specs.declared.receiving_end.ReceivingEnd.{ReceivingEnd}
use Rattle.rist_gateway.specs.declared.receiving_end.ReceivingEnd.TheVariants as ends

-- what its receiving end is set to; and the rules of its sender, the session of the links that are sent on, and what
-- seals in it
pub record GateSetup : Type 0 where
  pub receiving : ReceivingSetup
  pub rules : Rules
  pub session : Session
  pub sealer : Option SealerState

-- the rules of a sender with these settings. A packet is sent again after `hold` milliseconds, 90 ticks each
abbrev pub rules_with : Settings → Session → Rules
rules_with s session = record {
  flow = s.flow;
  first = s.first;
  hold = 90 * s.hold;
  size = s.store;
  bonding = s.bond;
  nulls = session.nulls;
  keepalives = has_keepalives session.profile;
}

-- what a receiving end is set to
abbrev pub received_setup_of : {T L C : Type 0} → (T → Option ℕ) → ReceivingEnd T L C → ReceivingSetup
received_setup_of limit (ends.Kept end) = receiving_setup_of limit end.made
received_setup_of limit (ends.InTurns made) = setup_in_turns made

-- what was made for a run is set to
abbrev pub gate_setup_of : {T L C : Type 0} → (T → Option ℕ) → GateMemory T L C → GateSetup
gate_setup_of limit made =
    record {
      receiving = received_setup_of limit made.receiving;
      rules = rules_of made.sender;
      session = made.sender.session;
      sealer = made.sender.sealer;
    }

-- a receiving end whose steps are kept is made for so many links, with room for the parts of both ends, and with what
-- side workers have of their own
pub record IsKeptEnd {T L C : Type 0} (list : T → Option (List Step)) (limit : T → Option ℕ) (inputs outputs : ℕ)
    (end : KeptEnd T L C) : Type 0 where
  pub receiving : IsReceivingMade list limit inputs end.made
  pub part_room : inputs + outputs ≤ vec_capacity end.parts
  pub no_parts : end.parts.items ≡ []
  pub passes : length end.passes.items ≡ outputs

-- a receiving end is made for so many links
abbrev pub IsReceivingEnd : {T L C : Type 0} → (T → Option (List Step)) → (T → Option ℕ) → ℕ → ℕ → ReceivingEnd T L C
    → Type 0
IsReceivingEnd list limit inputs outputs (ends.Kept end) = IsKeptEnd list limit inputs outputs end
IsReceivingEnd list limit inputs outputs (ends.InTurns made) = IsMadeInTurns inputs made

-- all is made for so many links of each end: the receiving end; a sender that did nothing, over so many links, and an
-- opener of its session; and room for its links and for their clocks
pub record IsGateMade {T L C : Type 0} (list : T → Option (List Step)) (limit : T → Option ℕ) (inputs outputs : ℕ)
    (made : GateMemory T L C) : Type 0 where
  pub receiving : IsReceivingEnd list limit inputs outputs made.receiving
  pub sender : IsSenderAfter made.sender (no_work made.sender)
  pub opener : made.opener ≡ made.sender.session
  pub bonded : link_count made.sender.bonding ≡ outputs
  pub link_room : outputs ≤ vec_capacity made.links
  pub no_links : made.links.items ≡ []
  pub clock_room : outputs ≤ vec_capacity made.clocks
  pub no_clocks : made.clocks.items ≡ []
