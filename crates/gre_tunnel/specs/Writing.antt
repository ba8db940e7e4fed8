-- The headers that are written.
use Rattle.std.specs.Prelude.{ℕ, ◌+◌, ◌*◌, Bool, Option, is_some}
use Rattle.std.specs.Int.{from_bool}
use Rattle.gre_tunnel.specs.declared.tunnel.Tunnel.{Tunnel}
use Rattle.gre_tunnel.specs.declared.tunnel.Tunnel.TheVariants.{Own, Librist}
use Rattle.gre_tunnel.specs.Gre.{Header}

-- the header of these parts
abbrev pub header_with : Option ℕ → Option ℕ → ℕ → Header
header_with key sequence protocol = record { key = key; sequence = sequence; protocol = protocol }

-- what librist calls the version of its tunnel, in bits 10 to 12 of the first word: 1 where a key stands, and else 0;
-- this profile's own tunnel has 0
abbrev pub version_with : Tunnel → Option ℕ → ℕ
version_with Own key = 0
version_with Librist key = from_bool (is_some key)

-- the ignored bits: one says that the key has 32 octets (this profile), the lowest three are librist's version, and the
-- others are 0
abbrev pub ignored_with : Tunnel → Option ℕ → Bool → ℕ
ignored_with tunnel key long = 8 * from_bool long + version_with tunnel key
