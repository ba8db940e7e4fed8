-- Names in memory, each with an address; and which address of several counts.
use Rattle.std.specs.Prelude.{List, [], ◌∷◌, Option, Some, None, if◌then◌else◌}
use Rattle.std.specs.declared.net.ip_addr.IpAddr.{IpAddr}
use Rattle.std.specs.declared.net.ip_addr.IpAddr.TheVariants.{V4, V6}
use Rattle.std.specs.Borrow.{Bor}
use Rattle.std.specs.Str.{bytes_eq}
use Rattle.link_words.specs.Texts.{Word}

-- the address of a host that has one more: the first of IPv4, and where it has none of these the first of IPv6
abbrev pub chosen : Option IpAddr → IpAddr → IpAddr
chosen None next = next
chosen (Some (V4 address)) next = V4 address
chosen (Some (V6 address)) (V4 next) = V4 next
chosen (Some (V6 address)) (V6 next) = V6 address

-- the address of a name, of one that counts so far and of the rows with this name
abbrev pub address_among : Option IpAddr → List (Bor Word × IpAddr) → Word → Option IpAddr
address_among best [] name = best
address_among best (row ∷ rows) name =
    if bytes_eq row.0.now name then address_among (Some (chosen best row.1)) rows name
    else address_among best rows name

-- the address of a name, of the rows with it
abbrev pub address_in : List (Bor Word × IpAddr) → Word → Option IpAddr
address_in rows name = address_among None rows name
