-- Sessions: what both ends know of the datagrams (this profile).
use Rattle.std.specs.Prelude.{◌≡◌, ◌⊎◌, ◌%◌, ◌≤◌, false, None}
use Rattle.seq_unwrap.specs.declared.width.Width.TheVariants.{W16}
use Rattle.link_channels.specs.declared.profile.Profile.TheVariants.{Simple}
use Rattle.gre_tunnel.specs.declared.tunnel.Tunnel.TheVariants.{Own}
use Rattle.rist_wire.specs.declared.session.Session.{Session}

-- no passphrase, no null packets deleted, numbers of 16 bits, no full datagrams, and no tunnel but this profile's own
pub record IsPlain (session : Session) : Type 0 where
  pub pass : session.pass ≡ None
  pub nulls : session.nulls ≡ false
  pub width : session.width ≡ W16
  pub full : session.full ≡ false
  pub tunnel : session.tunnel ≡ Own

-- An even virtual port, and a key's length; what the tunnel alone has is off in the Simple Profile.
pub record IsSession (session : Session) : Type 0 where
  pub even : session.port % 2 ≡ 0
  pub low : 2 ≤ session.port
  pub high : session.port ≤ 65534
  pub bits : (session.bits ≡ 128) ⊎ (session.bits ≡ 256)
  pub simple : session.profile ≡ Simple → IsPlain session

-- what stands for a session where there is none
abbrev pub no_session : Session
no_session = record {
  profile = Simple;
  port = 0;
  pass = None;
  bits = 0;
  nulls = false;
  width = W16;
  full = false;
  tunnel = Own;
  echo = false;
}
