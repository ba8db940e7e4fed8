-- How an address of a host is written: of IPv4 as four numbers, of IPv6 by RFC 4291, section 2.2; in brackets where a
-- port stands behind it (RFC 3986, section 3.2.2).
use Rattle.std.specs.Prelude.{ℕ, List, [], ◌∷◌, codes, Option, Some, None, option_map}
use Rattle.std.specs.Net.Reader.{read_ipv6, whole_value}
use Rattle.std.specs.declared.net.ip_addr.IpAddr.{IpAddr}
use Rattle.std.specs.declared.net.ip_addr.IpAddr.TheVariants.{V4, V6}
use Rattle.host_text.specs.Parts.{Text, behind, number_in, split_at, ◌>>=◌}

-- the mark between the numbers of an address of IPv4, the one before a port, and the one behind an address in brackets
abbrev pub dot : ℕ
dot = 46

-- likewise
abbrev pub colon : ℕ
colon = 58

-- likewise
abbrev pub closing : ℕ
closing = 93

-- an address of IPv4 of four octets
abbrev pub ipv4_address : List ℕ → IpAddr
ipv4_address octets = V4 (record { octets = octets })

-- an address of IPv6 of eight pieces of 16 bits
abbrev pub ipv6_address : List ℕ → IpAddr
ipv6_address segments = V6 (record { segments = segments })

-- an address of IPv4: four numbers below 256, which may have leading zeros
abbrev pub ipv4_of : Text → Option IpAddr
ipv4_of text = do
  first ← split_at dot text
  second ← split_at dot first.1
  third ← split_at dot second.1
  a ← number_in 0 255 first.0
  b ← number_in 0 255 second.0
  c ← number_in 0 255 third.0
  d ← number_in 0 255 third.1
  Some (ipv4_address (a ∷ b ∷ c ∷ d ∷ []))

-- an address of IPv6: eight pieces, or fewer with `::`; the last two may be an address of IPv4
abbrev pub ipv6_of : Text → Option IpAddr
ipv6_of text = option_map ipv6_address (whole_value (read_ipv6 text))

-- the first of two, where there is one, else the second
abbrev pub or_else : Option IpAddr → Option IpAddr → Option IpAddr
or_else None other = other
or_else (Some address) other = Some address

-- an address of either kind
abbrev pub address_of : Text → Option IpAddr
address_of text = or_else (ipv4_of text) (ipv6_of text)

-- what stands behind an opening bracket: an address of IPv6, the closing bracket, a colon and the text of a port
abbrev pub bracketed_place : Text → Option (IpAddr × Text)
bracketed_place text = do
  parts ← split_at closing text
  address ← ipv6_of parts.0
  port ← behind (codes ":") parts.1
  Some (address, port)

-- an address of IPv4, a colon and the text of a port
abbrev pub dotted_place : Text → Option (IpAddr × Text)
dotted_place text = do
  parts ← split_at colon text
  address ← ipv4_of parts.0
  Some (address, parts.1)

-- one or the other, by what stands behind an opening bracket
abbrev pub place_by : Text → Option Text → Option (IpAddr × Text)
place_by text None = dotted_place text
place_by text (Some inside) = bracketed_place inside

-- an address, and the text of a port behind it
abbrev pub place_of : Text → Option (IpAddr × Text)
place_of text = place_by text (behind (codes "[") text)
