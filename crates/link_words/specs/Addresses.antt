-- The words of a command line with an address for each name.
use Rattle.std.specs.Prelude.{Bool, false, List, [], ◌∷◌, ◌++◌, take, drop, if◌then◌else◌, codes}
use Rattle.std.specs.Prelude.{Option, Some, None, Result, Ok, Err}
use Rattle.std.specs.Net.Addr.{ipv4_octets, ipv6_segments}
use Rattle.std.specs.Net.Text.{ipv4_text, ipv6_text}
use Rattle.std.specs.declared.net.ip_addr.IpAddr.{IpAddr}
use Rattle.std.specs.declared.net.ip_addr.IpAddr.TheVariants.{V4, V6}
use Rattle.link_words.specs.declared.positions.Scan.{Scan}
use Rattle.link_words.specs.Texts.{Word, and_then}
use Rattle.link_words.specs.Hosts.{is_literal, is_name}
use Rattle.link_words.specs.Urls.{Form, Plain, Faulty, Written, form_of, parts_of}
use Rattle.link_words.specs.Parameters.{Fault, NoEndpoint, Unknown, kept_in, options_of}
use Rattle.link_words.specs.Positions.{after, is_link, scan_of, written_from}

-- the address that names have
abbrev pub Table : Type 0
Table = Word → Option IpAddr

-- an address as a link has it: one of IPv6 in brackets
abbrev pub address_text : IpAddr → Word
address_text (V4 address) = ipv4_text (ipv4_octets address)
address_text (V6 address) = codes "[" ++ ipv6_text (ipv6_segments address) ++ codes "]"

-- a name's address and the port, as a link; a name without one is the fault
abbrev pub with_address : Word → Word → Option IpAddr → Result Word Fault
with_address host port None = Err (Unknown host)
with_address host port (Some address) = Ok (address_text address ++ 58 ∷ port)

-- a host that is no name, as a link has it
abbrev pub host_text : Word → Word
host_text host = if is_literal host then codes "[" ++ host ++ codes "]" else host

-- a host and a port as a link: an address in place of a name
abbrev pub endpoint_by : Table → Word → Word → Result Word Fault
endpoint_by table host port =
    if is_name host then with_address host port (table host) else Ok (host_text host ++ 58 ∷ port)

-- a link with an address, and behind it the parameters that stay with it; one that has neither a name nor a URL is as
-- it is
abbrev pub link_by : Table → Word → Form → Result Word Fault
link_by table word Plain = Ok word
link_by table word Faulty = Err (NoEndpoint (parts_of word).0)
link_by table word (Written host port listens parameters) =
    and_then (endpoint_by table host port) (λ link. Ok (link ++ kept_in 16 [] parameters))

-- likewise
abbrev pub link_of : Table → Word → Result Word Fault
link_of table word = link_by table word (form_of word)

-- options, with those that a word's parameters stand for, where it is a link
abbrev pub options_at : Word → Scan → List Word → Word → Result (List Word) Fault
options_at command scan options word = if is_link scan word then options_of command options word else Ok options

-- options, with those that the parameters of the links among the words stand for
abbrev pub options_from : Word → Scan → List Word → List Word → Result (List Word) Fault
options_from command scan options [] = Ok options
options_from command scan options (word ∷ rest) =
    and_then (options_at command scan options word) (λ more. options_from command (after scan word) more rest)

-- a word, with an address where it is a link
abbrev pub link_at : Table → Scan → Word → Result Word Fault
link_at table scan word = if is_link scan word then link_of table word else Ok word

-- the words behind a line, with an address for each link
abbrev pub links_from : Table → Scan → List Word → List Word → Result (List Word) Fault
links_from table scan line [] = Ok line
links_from table scan line (word ∷ rest) =
    and_then (link_at table scan word)
    (λ link. links_from table (after scan word) (line ++ link ∷ []) rest)

-- the command of a line
abbrev pub command_of : List Word → Word
command_of [] = []
command_of (program ∷ []) = []
command_of (program ∷ command ∷ rest) = command

-- the words of a command with links: the options of the parameters stand behind the command
abbrev pub resolved_by : Table → List Word → Option Scan → Result (List Word) Fault
resolved_by table words None = Ok words
resolved_by table words (Some scan) =
    and_then (options_from (command_of words) scan [] (drop 2 words))
    (λ options. links_from table scan (take 2 words ++ options) (drop 2 words))

-- the words with an address for each link, or the first fault: those of URLs come before names are looked up
abbrev pub resolved_of : Table → List Word → Result (List Word) Fault
resolved_of table words = resolved_by table words (scan_of words)

-- a line has a name or a URL for a link
abbrev pub has_written_by : List Word → Option Scan → Bool
has_written_by words None = false
has_written_by words (Some scan) = written_from scan (drop 2 words)

-- likewise
abbrev pub has_written : List Word → Bool
has_written words = has_written_by words (scan_of words)
