-- What a command line is: the command with all its values, where the words are taken and each value reads (this
-- profile).
use Rattle.std.specs.Prelude.{Bool, true, false, not, ◌&&◌, ℕ, List, [], ◌∷◌, length, Option, Some, None, slice_index}
use Rattle.std.specs.Prelude.{slice_index_or, is_none, is_some, option_and_then, option_map, if◌then◌else◌, codes}
use Rattle.std.specs.Str.{bytes_eq}
use Rattle.clap.specs.Words.{Kinds, Row, Text, all_of, first_of}
use Rattle.gre_tunnel.specs.declared.tunnel.Tunnel.{Tunnel}
use Rattle.link_channels.specs.declared.profile.Profile.{Profile}
use Rattle.link_channels.specs.declared.profile.Profile.TheVariants.{Main}
use Rattle.rist_words.specs.declared.values.Numbers.{Numbers}
use Rattle.rist_words.specs.Commands.{SessionNames, faults_of, command_in, incoming_names, session_names}
use Rattle.outside_net.specs.declared.link_spec.LinkSpec.{LinkSpec}
use Rattle.request_rules.specs.declared.policy.NackKind.{NackKind}
use Rattle.rist_words.specs.Values.{echo_of, flag_of, is_set, nack_of, name_if, name_of, number_at, number_if}
use Rattle.rist_words.specs.Values.{number_in, number_of}
use Rattle.rist_words.specs.Values.{phrase_of, profile_of, tunnel_of, ◌>>=◌}
use Rattle.rist_words.specs.Links.{gate_links_of, link_ports, links_of, receiving_role, sending_role, shares_of}
use Rattle.rist_words.specs.Outs.{outs_of}
pub use Rattle.rist_words.specs.Outs.{ports}

-- how the datagrams of a session are made: the UDP port of media, the passphrase if there is one, the bits of its key,
-- whether RTP and RTCP are written as full datagrams, whose form the tunnel's datagrams have, and whether a sender's
-- reports ask for the round-trip time
pub record Session : Type 0 where
  pub profile : Profile
  pub port : ℕ
  pub pass : Option Text
  pub bits : ℕ
  pub full : Bool
  pub tunnel : Tunnel
  pub echo : Bool

-- a replay of a capture, with the playout delay in milliseconds, the buffer's capacity in packets, the restart time in
-- milliseconds, 0 for never, whether deadlines follow a clock that drifts, and the UDP port of the datagrams where the
-- capture is a pcap file
pub record ReplayCommand : Type 0 where
  pub capture : Text
  pub out : Text
  pub session : Session
  pub delay : ℕ
  pub span : ℕ
  pub restart : ℕ
  pub drift : Bool
  pub pcap : Option ℕ

-- a count of what a receiver would make of a capture's records, set as for a replay
pub record CountCommand : Type 0 where
  pub capture : Text
  pub session : Session
  pub delay : ℕ
  pub span : ℕ
  pub restart : ℕ
  pub drift : Bool
  pub pcap : Option ℕ

-- a capture's records as text, with the UDP port of the datagrams where the capture is a pcap file
pub record ShowCommand : Type 0 where
  pub capture : Text
  pub session : Session
  pub pcap : Option ℕ

-- how the datagrams of a stream are made: whether null packets are deleted and sequence numbers have 32 bits, the SSRC
-- and the first sequence number
pub record Stream : Type 0 where
  pub nulls : Bool
  pub wide : Bool
  pub flow : ℕ
  pub first : ℕ

-- a capture of a stream's datagrams, with the time between two of them in microseconds
pub record PackCommand : Type 0 where
  pub source : Text
  pub capture : Text
  pub session : Session
  pub stream : Stream
  pub gap : ℕ

-- a split of a capture of a tunnel: the port and the name of each output, in their order; the session that all have but
-- for the port, which is that of the first output; and the rest as of a replay
pub record SplitCommand : Type 0 where
  pub capture : Text
  pub ports : List ℕ
  pub names : List Text
  pub session : Session
  pub delay : ℕ
  pub span : ℕ
  pub restart : ℕ
  pub drift : Bool
  pub pcap : Option ℕ

-- what is kept and told of a run beside its own output: the name of a capture of what comes on its links, if there is
-- to be one; after how many milliseconds statistics are told, if they are; and the name of a file for these, if they go
-- to one
pub record Watching : Type 0 where
  pub capture : Option Text
  pub stats : Option ℕ
  pub stats_file : Option Text

-- a stream sent on links; whether it listens, so that a link sends to whoever called it; the time between two datagrams in microseconds; the time before the first one, how many
-- packets are stored, and for how many milliseconds none is sent again; the links' weights, where they share the
-- stream; for how many milliseconds requests are answered after the source's end; how many turns are made at most
pub record SendCommand : Type 0 where
  pub source : Text
  pub links : List LinkSpec
  pub listens : Bool
  pub session : Session
  pub stream : Stream
  pub gap : ℕ
  pub lead : ℕ
  pub store : ℕ
  pub hold : ℕ
  pub share : Option (List ℕ)
  pub linger : ℕ
  pub turns : ℕ
  pub watching : Watching

-- what a receiver is set to: the playout delay in milliseconds, the buffer's capacity in packets and the restart time
-- in milliseconds, 0 for never; whether deadlines follow a clock that drifts; for how many milliseconds a packet may be
-- missing before it is asked for, the least number of them between two requests for it, how often it is asked for at
-- most, how requests are written, and the receiver's own SSRC
pub record Receiver : Type 0 where
  pub delay : ℕ
  pub span : ℕ
  pub restart : ℕ
  pub drift : Bool
  pub reorder : ℕ
  pub least : ℕ
  pub tries : ℕ
  pub nack : NackKind
  pub own : ℕ

-- a run of receiving: how many turns each link's worker makes at most; after how many milliseconds without a datagram
-- it ends, 0 for never; how many steps are kept, 0 for none
pub record Serving : Type 0 where
  pub turns : ℕ
  pub idle : ℕ
  pub keep : ℕ

-- a stream received on links; whether it calls, so that each link sends to its address from the first
pub record RecvCommand : Type 0 where
  pub out : Text
  pub links : List LinkSpec
  pub calls : Bool
  pub session : Session
  pub receiver : Receiver
  pub serving : Serving
  pub watching : Watching

-- several flows that come in one tunnel, received on links: the port and the name of each output, in their order; the
-- session that all have but for the port, which is that of the first output; and of a receiving the rest
pub record FanCommand : Type 0 where
  pub ports : List ℕ
  pub names : List Text
  pub links : List LinkSpec
  pub calls : Bool
  pub session : Session
  pub receiver : Receiver
  pub serving : Serving
  pub watching : Watching

-- a stream received on some links and sent on others: the session of the links that are received on, and that of the
-- others; what the receiver is set to and its run; and as of a sending the stream, the store, the hold time and the
-- weights of the links that send
pub record GateCommand : Type 0 where
  pub inputs : List LinkSpec
  pub outputs : List LinkSpec
  pub incoming : Session
  pub session : Session
  pub receiver : Receiver
  pub serving : Serving
  pub stream : Stream
  pub store : ℕ
  pub hold : ℕ
  pub share : Option (List ℕ)
  pub watching : Watching

-- a simulated run of a sender and a receiver: the number from which the network's words are drawn, how many payloads
-- are sent, on how many links, and in how many of a thousand cases a datagram is lost
pub record DrillCommand : Type 0 where
  pub number : ℕ
  pub count : ℕ
  pub links : ℕ
  pub loss : ℕ

-- what the program is told to do
pub data CommandLine : Type 0 where
  Replay : ReplayCommand → CommandLine
  Show : ShowCommand → CommandLine
  Count : CountCommand → CommandLine
  Report : ReplayCommand → CommandLine
  Pack : PackCommand → CommandLine
  Split : SplitCommand → CommandLine
  Send : SendCommand → CommandLine
  Recv : RecvCommand → CommandLine
  Fan : FanCommand → CommandLine
  Gate : GateCommand → CommandLine
  Drill : DrillCommand → CommandLine

-- the numbers that each option takes. Those of `--bits`: 128 or 256
abbrev pub key_bits : Numbers
key_bits = record { default = 128; least = 128; most = 256; multiple_of = 128 }

-- `--delay`, in milliseconds
abbrev pub delays : Numbers
delays = record { default = 1000; least = 1; most = 30000; multiple_of = 1 }

-- `--span`, in packets
abbrev pub spans : Numbers
spans = record { default = 2048; least = 1; most = 16384; multiple_of = 1 }

-- `--restart`, in milliseconds; 0 is never
abbrev pub restarts : Numbers
restarts = record { default = 0; least = 0; most = 60000; multiple_of = 1 }

-- `--flow`: an SSRC with its lowest bit clear, which an original has (VSF TR-06-1)
abbrev pub flows : Numbers
flows = record { default = 270544960; least = 0; most = 4294967295; multiple_of = 2 }

-- `--first`: a sequence number of 16 bits, or of 32 where they are wide
abbrev pub firsts : Bool → Numbers
firsts wide = record { default = 0; least = 0; most = if wide then 4294967295 else 65535; multiple_of = 1 }

-- `--gap`, in microseconds
abbrev pub gaps : Numbers
gaps = record { default = 1000; least = 1; most = 1000000; multiple_of = 1 }

-- `--lead`, in milliseconds
abbrev pub leads : Numbers
leads = record { default = 0; least = 0; most = 1000; multiple_of = 1 }

-- `--store`, in packets
abbrev pub stores : Numbers
stores = record { default = 4096; least = 1; most = 65536; multiple_of = 1 }

-- `--hold`, in milliseconds
abbrev pub holds : Numbers
holds = record { default = 20; least = 1; most = 1000; multiple_of = 1 }

-- `--linger`, in milliseconds
abbrev pub lingers : Numbers
lingers = record { default = 1000; least = 0; most = 60000; multiple_of = 1 }

-- `--turns`
abbrev pub turn_counts : Numbers
turn_counts = record { default = 1099511627776; least = 1; most = 1099511627776; multiple_of = 1 }

-- `--stats`, in milliseconds: an hour at most
abbrev pub stats_times : Numbers
stats_times = record { default = 1000; least = 100; most = 3600000; multiple_of = 1 }

-- `--reorder`, in milliseconds
abbrev pub reorders : Numbers
reorders = record { default = 25; least = 0; most = 1000; multiple_of = 1 }

-- `--least`, in milliseconds
abbrev pub retry_times : Numbers
retry_times = record { default = 50; least = 5; most = 1000; multiple_of = 1 }

-- `--tries`
abbrev pub retry_counts : Numbers
retry_counts = record { default = 8; least = 0; most = 32; multiple_of = 1 }

-- `--own`: an SSRC
abbrev pub own_ssrcs : Numbers
own_ssrcs = record { default = 7; least = 0; most = 4294967295; multiple_of = 1 }

-- `--idle`, in milliseconds: a day at most
abbrev pub idle_times : Numbers
idle_times = record { default = 0; least = 0; most = 86400000; multiple_of = 1 }

-- `--keep`, in steps
abbrev pub kept_counts : Numbers
kept_counts = record { default = 0; least = 0; most = 65536; multiple_of = 1 }

-- NUMBER of a drill: any of 64 bits
abbrev pub drill_numbers : Numbers
drill_numbers = record { default = 0; least = 0; most = 18446744073709551615; multiple_of = 1 }

-- its COUNT, in payloads
abbrev pub drill_counts : Numbers
drill_counts = record { default = 0; least = 0; most = 5000; multiple_of = 1 }

-- its LINKS
abbrev pub drill_links : Numbers
drill_links = record { default = 1; least = 1; most = 4; multiple_of = 1 }

-- its LOSS, in parts of a thousand
abbrev pub drill_losses : Numbers
drill_losses = record { default = 0; least = 0; most = 1000; multiple_of = 1 }

-- The session that the options of these names give, and whether a sender's reports are to ask for the round-trip time.
abbrev pub session_named : SessionNames → Bool → List Row → Option Session
session_named names asks rows = do
  profile ← profile_of (first_of names.profile rows)
  port ← number_of ports (first_of names.port rows)
  pass ← phrase_of profile (first_of names.pass rows)
  bits ← number_of key_bits (first_of names.bits rows)
  full ← flag_of profile (first_of names.full rows)
  tunnel ← tunnel_of profile (first_of names.tunnel rows)
  Some (record {
    profile = profile;
    port = port;
    pass = pass;
    bits = bits;
    full = full;
    tunnel = tunnel;
    echo = echo_of tunnel asks;
  })

-- The session that a command's values give. Commands that make no datagrams have no flag for full ones, and those that
-- send no stream none that asks for the round-trip time.
abbrev pub session_of : List Row → Option Session
session_of rows = session_named session_names (is_set (first_of (codes "echo") rows)) rows

-- none of the options of these names is given, but perhaps the profile
abbrev pub are_unset : SessionNames → List Row → Bool
are_unset names rows =
    is_none (first_of names.port rows) && (is_none (first_of names.pass rows)
    && (is_none (first_of names.bits rows)
    && (not (is_set (first_of names.full rows)) && is_none (first_of names.tunnel rows))))

-- The session of the links that a gateway receives on. Where its profile is given its options say it, and as in a
-- receiving no flag asks for the round-trip time; else none of them is given, and it is the session of the other links.
abbrev pub incoming_of : Session → List Row → Option Session
incoming_of session rows =
    if is_some (first_of incoming_names.profile rows) then session_named incoming_names false rows
    else (if are_unset incoming_names rows then Some session else None)

-- The session of a command that is always in the Main Profile, at this port. One that makes no datagrams has no flag
-- for full ones.
abbrev pub tunnel_session_of : ℕ → List Row → Option Session
tunnel_session_of port rows = do
  pass ← phrase_of Main (first_of session_names.pass rows)
  bits ← number_of key_bits (first_of session_names.bits rows)
  tunnel ← tunnel_of Main (first_of session_names.tunnel rows)
  Some (record {
    profile = Main;
    port = port;
    pass = pass;
    bits = bits;
    full = is_set (first_of session_names.full rows);
    tunnel = tunnel;
    echo = echo_of tunnel false;
  })

-- the UDP port of a pcap file's datagrams: `--pcap` and `--udp` are given both or neither
abbrev pub pcap_with : Profile → Bool → Option Text → Option (Option ℕ)
pcap_with profile false None = Some None
pcap_with profile false (Some text) = None
pcap_with profile true None = None
pcap_with profile true (Some text) = option_map (λ port. Some port) (number_in (link_ports profile) text)

-- the same of a command's values
abbrev pub pcap_of : Profile → List Row → Option (Option ℕ)
pcap_of profile rows = pcap_with profile (is_set (first_of (codes "pcap") rows)) (first_of (codes "udp") rows)

-- the values of a replay, or of a report
abbrev pub replay_of : List Row → Option ReplayCommand
replay_of rows = do
  capture ← name_of (first_of (codes "capture") rows)
  out ← name_of (first_of (codes "out") rows)
  session ← session_of rows
  delay ← number_of delays (first_of (codes "delay") rows)
  span ← number_of spans (first_of (codes "span") rows)
  restart ← number_of restarts (first_of (codes "restart") rows)
  pcap ← pcap_of session.profile rows
  Some (record {
    capture = capture;
    out = out;
    session = session;
    delay = delay;
    span = span;
    restart = restart;
    drift = is_set (first_of (codes "drift") rows);
    pcap = pcap;
  })

-- the values of a counting
abbrev pub count_of : List Row → Option CountCommand
count_of rows = do
  capture ← name_of (first_of (codes "capture") rows)
  session ← session_of rows
  delay ← number_of delays (first_of (codes "delay") rows)
  span ← number_of spans (first_of (codes "span") rows)
  restart ← number_of restarts (first_of (codes "restart") rows)
  pcap ← pcap_of session.profile rows
  Some (record {
    capture = capture;
    session = session;
    delay = delay;
    span = span;
    restart = restart;
    drift = is_set (first_of (codes "drift") rows);
    pcap = pcap;
  })

-- the values of a showing
abbrev pub show_of : List Row → Option ShowCommand
show_of rows = do
  capture ← name_of (first_of (codes "capture") rows)
  session ← session_of rows
  pcap ← pcap_of session.profile rows
  Some (record { capture = capture; session = session; pcap = pcap })

-- the stream that a command's values give. Its flags are those of the session's profile, and the first number is one of
-- its width
abbrev pub stream_of : Profile → List Row → Option Stream
stream_of profile rows = do
  nulls ← flag_of profile (first_of (codes "nulls") rows)
  wide ← flag_of profile (first_of (codes "wide") rows)
  flow ← number_of flows (first_of (codes "flow") rows)
  first ← number_of (firsts wide) (first_of (codes "first") rows)
  Some (record { nulls = nulls; wide = wide; flow = flow; first = first })

-- the values of a packing
abbrev pub pack_of : List Row → Option PackCommand
pack_of rows = do
  source ← name_of (first_of (codes "source") rows)
  capture ← name_of (first_of (codes "capture") rows)
  session ← session_of rows
  stream ← stream_of session.profile rows
  gap ← number_of gaps (first_of (codes "gap") rows)
  Some (record { source = source; capture = capture; session = session; stream = stream; gap = gap })

-- the values of a split
abbrev pub split_of : List Row → Option SplitCommand
split_of rows = do
  capture ← name_of (first_of (codes "capture") rows)
  outs ← outs_of (first_of (codes "outs") rows)
  session ← tunnel_session_of (slice_index outs.0 0) rows
  delay ← number_of delays (first_of (codes "delay") rows)
  span ← number_of spans (first_of (codes "span") rows)
  restart ← number_of restarts (first_of (codes "restart") rows)
  pcap ← pcap_of Main rows
  Some (record {
    capture = capture;
    ports = outs.0;
    names = outs.1;
    session = session;
    delay = delay;
    span = span;
    restart = restart;
    drift = is_set (first_of (codes "drift") rows);
    pcap = pcap;
  })

-- the replay that an output of a split is like: that of the same options, in the Main Profile and at the output's port
abbrev pub replay_at : SplitCommand → ℕ → ReplayCommand
replay_at c v = record {
  capture = c.capture;
  out = slice_index_or c.names v [];
  session = record c.session { port = slice_index c.ports v };
  delay = c.delay;
  span = c.span;
  restart = c.restart;
  drift = c.drift;
  pcap = c.pcap;
}

-- a file for statistics is named only where these are told
abbrev pub watching_with : Option Text → Option ℕ → Option Text → Option Watching
watching_with capture None (Some file) = None
watching_with capture stats stats_file =
    Some (record { capture = capture; stats = stats; stats_file = stats_file })

-- what a command's values keep and tell of a run. A sending has no option for a capture
abbrev pub watching_of : List Row → Option Watching
watching_of rows = do
  capture ← name_if (first_of (codes "record") rows)
  stats ← number_if stats_times (first_of (codes "stats") rows)
  stats_file ← name_if (first_of (codes "stats-file") rows)
  watching_with capture stats stats_file

-- the values of a sending
abbrev pub send_of : List Row → Option SendCommand
send_of rows = do
  source ← name_of (first_of (codes "source") rows)
  session ← session_of rows
  listens ← flag_of session.profile (first_of (codes "listen") rows)
  links ← links_of (sending_role listens) session.profile (all_of (codes "link") rows)
  stream ← stream_of session.profile rows
  gap ← number_of gaps (first_of (codes "gap") rows)
  lead ← number_of leads (first_of (codes "lead") rows)
  store ← number_of stores (first_of (codes "store") rows)
  hold ← number_of holds (first_of (codes "hold") rows)
  share ← shares_of (length links) (first_of (codes "share") rows)
  linger ← number_of lingers (first_of (codes "linger") rows)
  turns ← number_of turn_counts (first_of (codes "turns") rows)
  watching ← watching_of rows
  Some (record {
    source = source;
    links = links;
    listens = listens;
    session = session;
    stream = stream;
    gap = gap;
    lead = lead;
    store = store;
    hold = hold;
    share = share;
    linger = linger;
    turns = turns;
    watching = watching;
  })

-- what a command's values set a receiver to
abbrev pub receiver_of : List Row → Option Receiver
receiver_of rows = do
  delay ← number_of delays (first_of (codes "delay") rows)
  span ← number_of spans (first_of (codes "span") rows)
  restart ← number_of restarts (first_of (codes "restart") rows)
  reorder ← number_of reorders (first_of (codes "reorder") rows)
  least ← number_of retry_times (first_of (codes "least") rows)
  tries ← number_of retry_counts (first_of (codes "tries") rows)
  nack ← nack_of (first_of (codes "nack") rows)
  own ← number_of own_ssrcs (first_of (codes "own") rows)
  Some (record {
    delay = delay;
    span = span;
    restart = restart;
    drift = is_set (first_of (codes "drift") rows);
    reorder = reorder;
    least = least;
    tries = tries;
    nack = nack;
    own = own;
  })

-- the run that a command's values give
abbrev pub serving_of : List Row → Option Serving
serving_of rows = do
  turns ← number_of turn_counts (first_of (codes "turns") rows)
  idle ← number_of idle_times (first_of (codes "idle") rows)
  keep ← number_of kept_counts (first_of (codes "keep") rows)
  Some (record { turns = turns; idle = idle; keep = keep })

-- the values of a receiving
abbrev pub recv_of : List Row → Option RecvCommand
recv_of rows = do
  out ← name_of (first_of (codes "out") rows)
  session ← session_of rows
  calls ← flag_of session.profile (first_of (codes "call") rows)
  links ← links_of (receiving_role calls) session.profile (all_of (codes "link") rows)
  receiver ← receiver_of rows
  serving ← serving_of rows
  watching ← watching_of rows
  Some (record {
    out = out;
    links = links;
    calls = calls;
    session = session;
    receiver = receiver;
    serving = serving;
    watching = watching;
  })

-- the values of a receiving of several flows
abbrev pub fan_of : List Row → Option FanCommand
fan_of rows = do
  outs ← outs_of (first_of (codes "outs") rows)
  session ← tunnel_session_of (slice_index outs.0 0) rows
  links ← links_of (receiving_role (is_set (first_of (codes "call") rows))) Main (all_of (codes "link") rows)
  receiver ← receiver_of rows
  serving ← serving_of rows
  watching ← watching_of rows
  Some (record {
    ports = outs.0;
    names = outs.1;
    links = links;
    calls = is_set (first_of (codes "call") rows);
    session = session;
    receiver = receiver;
    serving = serving;
    watching = watching;
  })

-- the values of a gateway
abbrev pub gate_of : List Row → Option GateCommand
gate_of rows = do
  session ← session_of rows
  incoming ← incoming_of session rows
  links ← gate_links_of incoming.profile session.profile (all_of (codes "link") rows) (first_of (codes "in") rows)
  receiver ← receiver_of rows
  serving ← serving_of rows
  stream ← stream_of session.profile rows
  store ← number_of stores (first_of (codes "store") rows)
  hold ← number_of holds (first_of (codes "hold") rows)
  share ← shares_of (length links.1) (first_of (codes "share") rows)
  watching ← watching_of rows
  Some (record {
    inputs = links.0;
    outputs = links.1;
    incoming = incoming;
    session = session;
    receiver = receiver;
    serving = serving;
    stream = stream;
    store = store;
    hold = hold;
    share = share;
    watching = watching;
  })

-- the values of a simulated run
abbrev pub drill_of : List Row → Option DrillCommand
drill_of rows = do
  number ← number_at drill_numbers (first_of (codes "number") rows)
  count ← number_at drill_counts (first_of (codes "count") rows)
  links ← number_at drill_links (first_of (codes "links") rows)
  loss ← number_at drill_losses (first_of (codes "loss") rows)
  Some (record { number = number; count = count; links = links; loss = loss })

-- the line of a command with what is given to it
abbrev pub command_line : Text → List Row → Option CommandLine
command_line name rows =
    if bytes_eq name (codes "replay") then option_map Replay (replay_of rows)
    else (if bytes_eq name (codes "show") then option_map Show (show_of rows)
    else (if bytes_eq name (codes "count") then option_map Count (count_of rows)
    else (if bytes_eq name (codes "report") then option_map Report (replay_of rows)
    else (if bytes_eq name (codes "pack") then option_map Pack (pack_of rows)
    else (if bytes_eq name (codes "split") then option_map Split (split_of rows)
    else (if bytes_eq name (codes "send") then option_map Send (send_of rows)
    else (if bytes_eq name (codes "recv") then option_map Recv (recv_of rows)
    else (if bytes_eq name (codes "fan") then option_map Fan (fan_of rows)
    else (if bytes_eq name (codes "gate") then option_map Gate (gate_of rows)
    else (if bytes_eq name (codes "drill") then option_map Drill (drill_of rows) else None))))))))))

-- with nothing against the words, the line of the command that they name
abbrev pub taken_line : Kinds → Option (Text × List Row) → Option CommandLine
taken_line [] named = option_and_then (λ c. command_line c.0 c.1) named
taken_line (k ∷ ks) named = None

-- the line that the words are, the program's name first
abbrev pub line_of : List Text → Option CommandLine
line_of words = taken_line (faults_of words) (command_in words)
