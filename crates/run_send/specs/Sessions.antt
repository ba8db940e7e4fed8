-- What the sender of a line is set to.
use Rattle.std.specs.Prelude.{◌*◌, length}
use Rattle.rist_wire.specs.declared.session.Session.{Session}
use Rattle.rist_words.specs.CommandLine.{SendCommand}
use Rattle.rist_sender.specs.Calls.{Rules}
use Rattle.rist_sender.specs.Sender.{has_keepalives}
use Rattle.rist_send.specs.Run.{Setup}
use Rattle.run_parts.specs.Sessions.{session_with, bonding_with}

-- the session whose datagrams are sent
abbrev pub session_sent : SendCommand → Session
session_sent c = session_with c.session c.stream.nulls c.stream.wide

-- what the sender of a sending is set to. A packet is sent again after `hold` milliseconds, 90 ticks each
abbrev pub rules_sent : SendCommand → Rules
rules_sent c = record {
  flow = c.stream.flow;
  first = c.stream.first;
  hold = 90 * c.hold;
  size = c.store;
  bonding = bonding_with (length c.links) c.share;
  nulls = c.stream.nulls;
  keepalives = has_keepalives c.session.profile;
}

-- what its run is set to, with times in microseconds
abbrev pub setup_sent : SendCommand → Setup
setup_sent c = record {
  settings = record { lead = 1000 * c.lead; gap = c.gap; linger = 1000 * c.linger; turns = c.turns };
  rules = rules_sent c;
  session = session_sent c;
  links = length c.links;
}
