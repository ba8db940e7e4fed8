-- Hosts and ports as they are written: RFC 3986, section 3.2; names of hosts: RFC 1123, section 2.1; an address of IPv6
-- stands in brackets.
use Rattle.std.specs.Prelude.{ℕ, Bool, false, not, [], ◌∷◌, length, ◌==◌, ◌&&◌, ◌||◌, if◌then◌else◌, codes}
use Rattle.std.specs.Prelude.{Option, Some, None}
use Rattle.std.specs.Char.{is_ascii_alphabetic, is_ascii_alphanumeric, is_ascii_digit}
use Rattle.std.specs.List.{list_all}
use Rattle.std.specs.Net.Addr.{is_ipv6}
use Rattle.std.specs.declared.net.ip_addr.IpAddr.{IpAddr}
use Rattle.host_text.specs.Hosts.{address_of}
use Rattle.host_text.specs.Parts.{behind}
use Rattle.link_words.specs.Texts.{Word, split_at, ◌>>=◌}

-- an octet of a host: a letter, a digit, a hyphen or a dot
abbrev pub is_host_octet : ℕ → Bool
is_host_octet c = is_ascii_alphanumeric c || (c == 45 || c == 46)

-- a host: a name or numbers with dots between them
abbrev pub is_host : Word → Bool
is_host host = not (length host == 0) && list_all is_host_octet host

-- the first octet of the label that goes on, after one octet more; a dot ends a label
abbrev pub first_after : Option ℕ → ℕ → Option ℕ
first_after None octet = if octet == 46 then None else Some octet
first_after (Some first) octet = if octet == 46 then None else Some first

-- the first octet of a host's last label
abbrev pub last_first : Option ℕ → Word → Option ℕ
last_first first [] = first
last_first first (octet ∷ rest) = last_first (first_after first octet) rest

-- it is a letter
abbrev pub is_letter : Option ℕ → Bool
is_letter None = false
is_letter (Some octet) = is_ascii_alphabetic octet

-- a host is a name: its last label begins with a letter, as in no form of an address of numbers
abbrev pub is_name : Word → Bool
is_name host = is_host host && is_letter (last_first None host)

-- a port: decimal digits
abbrev pub is_port : Word → Bool
is_port port = not (length port == 0) && list_all is_ascii_digit port

-- a host and a port with a colon between them
abbrev pub plain_endpoint : Word → Option (Word × Word)
plain_endpoint word = do
  parts ← split_at 58 word
  if is_host parts.0 && is_port parts.1 then Some parts else None

-- an address is one of IPv6
abbrev pub is_literal_by : Option IpAddr → Bool
is_literal_by None = false
is_literal_by (Some address) = is_ipv6 address

-- a host is an address of IPv6 without its brackets
abbrev pub is_literal : Word → Bool
is_literal host = is_literal_by (address_of host)

-- behind an opening bracket: an address of IPv6, the closing bracket, a colon and a port
abbrev pub bracketed_endpoint : Word → Option (Word × Word)
bracketed_endpoint text = do
  parts ← split_at 93 text
  port ← behind (codes ":") parts.1
  if is_literal parts.0 && is_port port then Some (parts.0, port) else None

-- one or the other, by what stands behind an opening bracket
abbrev pub endpoint_by : Word → Option Word → Option (Word × Word)
endpoint_by word None = plain_endpoint word
endpoint_by word (Some inside) = bracketed_endpoint inside

-- a host and a port, the host without its brackets
abbrev pub endpoint_of : Word → Option (Word × Word)
endpoint_of word = endpoint_by word (behind (codes "[") word)
