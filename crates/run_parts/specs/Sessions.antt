-- The session that a line speaks of.
use Rattle.std.specs.Prelude.{ℕ, List, Option, Some, None, Bool, false, if◌then◌else◌}
use Rattle.seq_unwrap.specs.declared.width.Width.TheVariants.{W16, W32}
use Rattle.rist_wire.specs.declared.session.Session.{Session}
use Rattle.rist_words.specs.CommandLine as lines
use Rattle.sender_rules.specs.Bonding.{Bonding, Duplicate, Share}

-- a session whose datagrams are written with null packets deleted, or with numbers of 32 bits
abbrev pub session_with : lines.Session → Bool → Bool → Session
session_with s nulls wide =
    record {
      profile = s.profile;
      port = s.port;
      pass = s.pass;
      bits = s.bits;
      nulls = nulls;
      width = if wide then W32 else W16;
      full = s.full;
      tunnel = s.tunnel;
      echo = s.echo;
    }

-- one whose datagrams are read alone
abbrev pub session_read : lines.Session → Session
session_read s = session_with s false false

-- how so many links have a stream's packets: each has all, or they share them by their weights
abbrev pub bonding_with : ℕ → Option (List ℕ) → Bonding
bonding_with links None = Duplicate links
bonding_with links (Some weights) = Share weights
