-- How datagrams leave this machine, as it is written behind an address and a port (this profile): `ttl=` and `from=`.
use Rattle.std.specs.Prelude.{ℕ, Bool, true, false, ◌&&◌, codes, if◌then◌else◌, Option, Some, None, option_map}
use Rattle.std.specs.Str.{bytes_eq}
use Rattle.std.specs.Net.Addr.{is_ipv4, is_ipv6}
use Rattle.std.specs.declared.net.ip_addr.IpAddr.{IpAddr}
use Rattle.std.specs.declared.net.ip_addr.IpAddr.TheVariants.{V4, V6}
use Rattle.host_text.specs.declared.settings.Settings.{Settings}
use Rattle.host_text.specs.Parts.{Text, number_in, split_at, ◌>>=◌}
use Rattle.host_text.specs.Hosts.{address_of}

-- the marks between two settings, and before a value
abbrev pub ampersand : ℕ
ampersand = 38

-- likewise
abbrev pub equals : ℕ
equals = 61

-- nothing is set
abbrev pub no_settings : Settings
no_settings = record { ttl = None; from = None }

-- with a time to live, from 1 to 255, where none is set
abbrev pub with_ttl_after : Option ℕ → Settings → Text → Option Settings
with_ttl_after (Some ttl) settings text = None
with_ttl_after None settings text =
    option_map (λ ttl. record settings { ttl = Some ttl }) (number_in 1 255 text)

-- with a local address, where none is set
abbrev pub with_from_after : Option IpAddr → Settings → Text → Option Settings
with_from_after (Some from) settings text = None
with_from_after None settings text = option_map (λ from. record settings { from = Some from }) (address_of text)

-- with the setting of this name, and this value
abbrev pub with_named : Text → Settings → Text → Option Settings
with_named name settings value =
    if bytes_eq name (codes "ttl") then with_ttl_after settings.ttl settings value
    else (if bytes_eq name (codes "from") then with_from_after settings.from settings value else None)

-- with one more setting, a name, an equals sign and a value
abbrev pub with_setting : Settings → Text → Option Settings
with_setting settings text = do
  parts ← split_at equals text
  with_named parts.0 settings parts.1

-- one setting, or two with an ampersand between them
abbrev pub settings_in : Text → Option (Text × Text) → Option Settings
settings_in text None = with_setting no_settings text
settings_in text (Some parts) = do
  first ← with_setting no_settings parts.0
  with_setting first parts.1

-- what a text sets
abbrev pub settings_of : Text → Option Settings
settings_of text = settings_in text (split_at ampersand text)

-- ---- which settings fit an address that is sent to

-- no time to live is set
abbrev pub has_no_ttl : Option ℕ → Bool
has_no_ttl None = true
has_no_ttl (Some ttl) = false

-- a local address passes a test, where one is set
abbrev pub from_passes : (IpAddr → Bool) → Option IpAddr → Bool
from_passes passes None = true
from_passes passes (Some from) = passes from

-- the local address is of the same kind; and a time to live is set over IPv4 alone
abbrev pub fits : IpAddr → Settings → Bool
fits (V4 address) settings = from_passes is_ipv4 settings.from
fits (V6 address) settings = has_no_ttl settings.ttl && from_passes is_ipv6 settings.from

-- settings, where they fit
abbrev pub fitting : IpAddr → Settings → Option Settings
fitting address settings = if fits address settings then Some settings else None

-- what a text sets for an address that is sent to; nothing where there is none
abbrev pub settings_for : IpAddr → Option Text → Option Settings
settings_for address None = Some no_settings
settings_for address (Some text) = do
  settings ← settings_of text
  fitting address settings
