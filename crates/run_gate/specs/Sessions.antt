-- What the run of a gateway is set to.
use Rattle.std.specs.Prelude.{length, Option, true}
use Rattle.rist_wire.specs.declared.session.Session.{Session}
use Rattle.psk_seal.specs.Sealer.{SealerState}
use Rattle.rist_words.specs.CommandLine.{GateCommand}
use Rattle.desk_run.specs.Setup.{setup_made}
use Rattle.rist_sender.specs.declared.settings.Settings.{Settings as SenderSettings}
use Rattle.rist_gateway.specs.Setup.{GateSetup, rules_with}
use Rattle.run_parts.specs.Sessions.{session_with, session_read, bonding_with}
use Rattle.run_links.specs.Sessions.{settings_with, steps_kept}

-- the session of what a gateway sends on
abbrev pub session_gated : GateCommand → Session
session_gated c = session_with c.session c.stream.nulls c.stream.wide

-- what its sender is set to
abbrev pub sender_gated : GateCommand → SenderSettings
sender_gated c = record {
  flow = c.stream.flow;
  first = c.stream.first;
  store = c.store;
  hold = c.hold;
  bond = bonding_with (length c.outputs) c.share;
}

-- what its run is set to, under these sealers of its receiver and of its sender, where there are any: its receiver has
-- the session of the links that are received on, and the receiver's steps are told, with that limit or, in turns, with
-- none
abbrev pub setup_gated : GateCommand → Option SealerState → Option SealerState → GateSetup
setup_gated c receiving sending = record {
  receiving = setup_made (settings_with c.receiver) (session_read c.incoming) receiving (steps_kept c.serving) true;
  rules = rules_with (sender_gated c) (session_gated c);
  session = session_gated c;
  sealer = sending;
}
