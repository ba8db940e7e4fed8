-- How links, and the weights by which they share a stream, are written on a command line (this profile).
use Rattle.std.specs.Prelude.{ℕ, ◌-◌, zero, suc, List, [], ◌∷◌, length, take, drop, nat_lt, ◌&&◌, ◌==◌, if◌then◌else◌}
use Rattle.std.specs.Prelude.{Bool, true, false, Option, Some, None, option_map}
use Rattle.std.specs.List.{before_first, after_first, position_or_len}
use Rattle.std.specs.declared.net.ip_addr.IpAddr.{IpAddr}
use Rattle.clap.specs.Words.{Text}
use Rattle.host_text.specs.declared.settings.Settings.{Settings}
use Rattle.host_text.specs.Parts.{first_part}
use Rattle.host_text.specs.Hosts.{place_of}
use Rattle.host_text.specs.Settings.{no_settings, settings_for}
use Rattle.link_channels.specs.declared.profile.Profile.{Profile}
use Rattle.link_channels.specs.declared.profile.Profile.TheVariants.{Simple, Main}
use Rattle.outside_net.specs.declared.link_spec.LinkSpec.{LinkSpec}
use Rattle.outside_net.specs.declared.link_spec.Role.{Role}
use Rattle.outside_net.specs.declared.link_spec.Role.TheVariants.{Receives, ReceivesCalling, Sends, SendsListening}
use Rattle.outside_net.specs.declared.link_spec.Role.TheVariants.{Forwards}
use Rattle.outside_net.specs.Real.{is_caller}
use Rattle.rist_words.specs.declared.values.Numbers.{Numbers}
use Rattle.rist_words.specs.Values.{number_in, number_of, ◌>>=◌}

-- the text before the first of a mark and the text behind it, where there is one
abbrev pub split_at : ℕ → Text → Option (Text × Text)
split_at mark text =
    if nat_lt (position_or_len (λ c. c == mark) text) (length text)
    then Some (before_first (λ c. c == mark) text, after_first (λ c. c == mark) text) else None

-- the mark between two weights
abbrev pub colon : ℕ
colon = 58

-- the mark between a link's port and how its datagrams leave this machine
abbrev pub question_mark : ℕ
question_mark = 63

-- a UDP port of a link, or of the datagrams in a pcap file. In the Simple Profile it is that of media, an even one, and
-- the next is that of control (VSF TR-06-1)
abbrev pub link_ports : Profile → Numbers
link_ports Simple = record { default = 2; least = 2; most = 65534; multiple_of = 2 }
link_ports Main = record { default = 1; least = 1; most = 65535; multiple_of = 1 }

-- the role of the links that a stream is received on: a receiver listens, or it calls
abbrev pub receiving_role : Bool → Role
receiving_role false = Receives
receiving_role true = ReceivesCalling

-- the role of the links that a source is sent on: a sender calls, or it listens
abbrev pub sending_role : Bool → Role
sending_role false = Sends
sending_role true = SendsListening

-- how datagrams of a link leave this machine, by whether it calls: as it is written behind the port; a link that listens is
-- bound to its address, and nothing stands there
abbrev pub settings_by : Bool → IpAddr → Option Text → Option Settings
settings_by true address text = settings_for address text
settings_by false address None = Some no_settings
settings_by false address (Some text) = None

-- how those of a link in a role do
abbrev pub settings_in : Role → IpAddr → Option Text → Option Settings
settings_in role address text = settings_by (is_caller role) address text

-- a link in a role: its address and its port, `a.b.c.d:port` or `[ADDRESS]:port`, and its settings
abbrev pub link_of : Role → Profile → Text → Option LinkSpec
link_of role profile text = do
  place ← place_of (first_part question_mark text).0
  port ← number_in (link_ports profile) place.1
  settings ← settings_in role place.0 (first_part question_mark text).1
  Some (record { address = place.0; port = port; from = settings.from; ttl = settings.ttl })

-- each of these is a link
abbrev pub each_link : Role → Profile → List Text → Option (List LinkSpec)
each_link role profile [] = Some []
each_link role profile (text ∷ texts) = do
  link ← link_of role profile text
  links ← each_link role profile texts
  Some (link ∷ links)

-- one to sixteen texts
abbrev pub link_texts : Option (List Text) → Option (List Text)
link_texts None = None
link_texts (Some texts) = if nat_lt 0 (length texts) && nat_lt (length texts) 17 then Some texts else None

-- one to sixteen links
abbrev pub links_of : Role → Profile → Option (List Text) → Option (List LinkSpec)
links_of role profile given = do
  texts ← link_texts given
  each_link role profile texts

-- `--in`: how many of the links receive. At least one is left that sends
abbrev pub input_counts : ℕ → Numbers
input_counts links = record { default = 1; least = 1; most = links - 1; multiple_of = 1 }

-- the number of them among two links or more
abbrev pub inputs_of : ℕ → Option Text → Option ℕ
inputs_of links given = if nat_lt links 2 then None else number_of (input_counts links) given

-- a gateway's links: those that receive, which stand first, in one profile, and those that send, in another
abbrev pub gate_links_of : Profile → Profile → Option (List Text) → Option Text → Option (List LinkSpec × List LinkSpec)
gate_links_of incoming onward given count = do
  texts ← link_texts given
  inputs ← inputs_of (length texts) count
  received ← each_link Receives incoming (take inputs texts)
  sent ← each_link Forwards onward (drop inputs texts)
  Some (received, sent)

-- a link's weight
abbrev pub link_weights : Numbers
link_weights = record { default = 1; least = 1; most = 100; multiple_of = 1 }

-- so many weights
abbrev pub weights_in : ℕ → Text → Option (List ℕ)
weights_in zero text = None
weights_in (suc zero) text = option_map (λ weight. weight ∷ []) (number_in link_weights text)
weights_in (suc (suc links)) text = do
  parts ← split_at colon text
  weight ← number_in link_weights parts.0
  weights ← weights_in (suc links) parts.1
  Some (weight ∷ weights)

-- a weight for each of so many links, or none where the option isn't given: then each datagram goes on all
abbrev pub shares_of : ℕ → Option Text → Option (Option (List ℕ))
shares_of links None = Some None
shares_of links (Some text) = option_map Some (weights_in links text)
