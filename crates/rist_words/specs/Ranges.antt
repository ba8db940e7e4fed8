-- The ranges and combinations of a line's values (this profile).
use Rattle.std.specs.Prelude.{◌≡◌, ◌⊎◌, ℕ, List, [], ◌+◌, ◌%◌, ◌^◌, ◌<◌, ◌≤◌, false, None, IfSome, length, slice_index}
use Rattle.link_channels.specs.declared.bounds.TheConstants.{MAX_LINKS}
use Rattle.std.specs.Prelude.{slice_index_or}
use Rattle.std.specs.List.{All}
use Rattle.gre_tunnel.specs.declared.tunnel.Tunnel.TheVariants.{Own}
use Rattle.link_channels.specs.declared.profile.Profile.{Profile}
use Rattle.link_channels.specs.declared.profile.Profile.TheVariants.{Simple, Main}
use Rattle.clap.specs.Words.{Text}
use Rattle.rist_words.specs.CommandLine.{CommandLine, Replay, Show, Count, Report, Pack, Split, Send, Recv, Fan, Gate}
use Rattle.rist_words.specs.CommandLine.{Drill}
use Rattle.rist_words.specs.CommandLine.{Session, Stream, Receiver, Serving, Watching, ReplayCommand, ShowCommand}
use Rattle.rist_words.specs.CommandLine.{CountCommand}
use Rattle.rist_words.specs.CommandLine.{PackCommand, SplitCommand, SendCommand, RecvCommand, FanCommand, GateCommand}
use Rattle.rist_words.specs.CommandLine.{DrillCommand}
use Rattle.rist_words.specs.CommandLine.{delays, spans, restarts, gaps, leads, stores, holds, lingers, turn_counts}
use Rattle.rist_words.specs.CommandLine.{reorders, retry_times, retry_counts, idle_times, kept_counts, stats_times}
use Rattle.rist_words.specs.CommandLine.{drill_counts, drill_links, drill_losses}
use Rattle.rist_words.specs.Links.{link_weights}
use Rattle.rist_words.specs.Values.{phrase_octets}
use Rattle.rist_words.specs.Outs.{ports}

-- an even port, a key's length, and a passphrase, full datagrams and another tunnel in the Main Profile alone
pub record IsInSession (s : Session) : Type 0 where
  pub even : s.port % 2 ≡ 0
  pub low : ports.least ≤ s.port
  pub high : s.port ≤ ports.most
  pub bits : (s.bits ≡ 128) ⊎ (s.bits ≡ 256)
  pub pass : IfSome s.pass (λ p. (phrase_octets.least ≤ length p) × (length p ≤ phrase_octets.most))
  pub simple : s.profile ≡ Simple → s.pass ≡ None
  pub full : s.profile ≡ Simple → s.full ≡ false
  pub tunnel : s.profile ≡ Simple → s.tunnel ≡ Own

-- a UDP port of datagrams; in the Simple Profile, where RTCP has the next one, an even one (VSF TR-06-1)
pub record IsUdpPort (profile : Profile) (port : ℕ) : Type 0 where
  pub some : 1 ≤ port
  pub most : port ≤ 65535
  pub even : profile ≡ Simple → port % 2 ≡ 0

-- a delay, a span and a restart time that their options take, and the UDP port of a pcap file's datagrams
pub record IsInReplay (c : ReplayCommand) : Type 0 where
  pub session : IsInSession c.session
  pub some_delay : delays.least ≤ c.delay
  pub delay : c.delay ≤ delays.most
  pub some_span : spans.least ≤ c.span
  pub span : c.span ≤ spans.most
  pub restart : c.restart ≤ restarts.most
  pub udp : IfSome c.pcap (λ port. IsUdpPort c.session.profile port)

-- a session, and the UDP port of a pcap file's datagrams
pub record IsInShow (c : ShowCommand) : Type 0 where
  pub session : IsInSession c.session
  pub udp : IfSome c.pcap (λ port. IsUdpPort c.session.profile port)

-- of a counting what a replay has too
pub record IsInCount (c : CountCommand) : Type 0 where
  pub session : IsInSession c.session
  pub some_delay : delays.least ≤ c.delay
  pub delay : c.delay ≤ delays.most
  pub some_span : spans.least ≤ c.span
  pub span : c.span ≤ spans.most
  pub restart : c.restart ≤ restarts.most
  pub udp : IfSome c.pcap (λ port. IsUdpPort c.session.profile port)

-- an even flow, and what the Main Profile alone has
pub record IsInStream (profile : Profile) (s : Stream) : Type 0 where
  pub even : s.flow % 2 ≡ 0
  pub flow : s.flow < 2 ^ 32
  pub narrow : s.wide ≡ false → s.first < 65536
  pub first : s.first < 2 ^ 32
  pub nulls : profile ≡ Simple → s.nulls ≡ false
  pub wide : profile ≡ Simple → s.wide ≡ false

-- a packing's session, stream and gap
pub record IsInPack (c : PackCommand) : Type 0 where
  pub session : IsInSession c.session
  pub stream : IsInStream c.session.profile c.stream
  pub some_gap : gaps.least ≤ c.gap
  pub gap : c.gap ≤ gaps.most

-- one to eight outputs, of even ports and of names that aren't empty, no two of either the same
pub record AreOutputs (numbers : List ℕ) (names : List Text) : Type 0 where
  pub some : 1 ≤ length numbers
  pub few : length numbers ≤ 8
  pub count : length names ≡ length numbers
  pub even : (k : ℕ) → k < length numbers → slice_index numbers k % 2 ≡ 0
  pub low : (k : ℕ) → k < length numbers → ports.least ≤ slice_index numbers k
  pub high : (k : ℕ) → k < length numbers → slice_index numbers k ≤ ports.most
  pub different : (j k : ℕ) → j < length numbers → k < length numbers → slice_index numbers j ≡ slice_index numbers k
      → j ≡ k
  pub named : (k : ℕ) → k < length names → 1 ≤ length (slice_index_or names k [])
  pub apart : (j k : ℕ) → j < length names → k < length names → slice_index_or names j [] ≡ slice_index_or names k []
      → j ≡ k

-- outputs, a session of the Main Profile, and of a replay what a split has too
pub record IsInSplit (c : SplitCommand) : Type 0 where
  pub session : IsInSession c.session
  pub main : c.session.profile ≡ Main
  pub outs : AreOutputs c.ports c.names
  pub some_delay : delays.least ≤ c.delay
  pub delay : c.delay ≤ delays.most
  pub some_span : spans.least ≤ c.span
  pub span : c.span ≤ spans.most
  pub restart : c.restart ≤ restarts.most
  pub udp : IfSome c.pcap (λ port. IsUdpPort c.session.profile port)

-- a weight that a link takes
pub record IsWeight (weight : ℕ) : Type 0 where
  pub some : link_weights.least ≤ weight
  pub most : weight ≤ link_weights.most

-- a number of milliseconds that the option of statistics takes, where they are told
pub record IsInWatching (w : Watching) : Type 0 where
  pub some_stats : IfSome w.stats (λ n. stats_times.least ≤ n)
  pub stats : IfSome w.stats (λ n. n ≤ stats_times.most)

-- one to sixteen links, a weight for each where they share, and numbers that their options take
pub record IsInSend (c : SendCommand) : Type 0 where
  pub session : IsInSession c.session
  pub stream : IsInStream c.session.profile c.stream
  pub some_link : 1 ≤ length c.links
  pub links : length c.links ≤ MAX_LINKS
  pub listens : c.session.profile ≡ Simple → c.listens ≡ false
  pub some_gap : gaps.least ≤ c.gap
  pub gap : c.gap ≤ gaps.most
  pub lead : c.lead ≤ leads.most
  pub some_store : stores.least ≤ c.store
  pub store : c.store ≤ stores.most
  pub some_hold : holds.least ≤ c.hold
  pub hold : c.hold ≤ holds.most
  pub share : IfSome c.share (λ weights. (length weights ≡ length c.links) × All IsWeight weights)
  pub linger : c.linger ≤ lingers.most
  pub some_turn : turn_counts.least ≤ c.turns
  pub turns : c.turns ≤ turn_counts.most
  pub watching : IsInWatching c.watching

-- numbers that a receiver's options take
pub record IsInReceiver (r : Receiver) : Type 0 where
  pub some_delay : delays.least ≤ r.delay
  pub delay : r.delay ≤ delays.most
  pub some_span : spans.least ≤ r.span
  pub span : r.span ≤ spans.most
  pub restart : r.restart ≤ restarts.most
  pub reorder : r.reorder ≤ reorders.most
  pub some_least : retry_times.least ≤ r.least
  pub least : r.least ≤ retry_times.most
  pub tries : r.tries ≤ retry_counts.most
  pub own : r.own < 2 ^ 32

-- numbers that the options of its run take
pub record IsInServing (s : Serving) : Type 0 where
  pub some_turn : turn_counts.least ≤ s.turns
  pub turns : s.turns ≤ turn_counts.most
  pub idle : s.idle ≤ idle_times.most
  pub keep : s.keep ≤ kept_counts.most

-- one to sixteen links, and what a receiver and its run are set to
pub record IsInRecv (c : RecvCommand) : Type 0 where
  pub session : IsInSession c.session
  pub some_link : 1 ≤ length c.links
  pub links : length c.links ≤ MAX_LINKS
  pub calls : c.session.profile ≡ Simple → c.calls ≡ false
  pub receiver : IsInReceiver c.receiver
  pub serving : IsInServing c.serving
  pub watching : IsInWatching c.watching

-- outputs, a session of the Main Profile, one to sixteen links, and what each receiver and the run are set to
pub record IsInFan (c : FanCommand) : Type 0 where
  pub session : IsInSession c.session
  pub main : c.session.profile ≡ Main
  pub outs : AreOutputs c.ports c.names
  pub some_link : 1 ≤ length c.links
  pub links : length c.links ≤ MAX_LINKS
  pub receiver : IsInReceiver c.receiver
  pub serving : IsInServing c.serving
  pub watching : IsInWatching c.watching

-- a link or more that receives and one or more that sends, sixteen in all at most, and a session for each; a weight for
-- each that sends where they share; and what the receiver, its run and the sender are set to
pub record IsInGate (c : GateCommand) : Type 0 where
  pub incoming : IsInSession c.incoming
  pub session : IsInSession c.session
  pub stream : IsInStream c.session.profile c.stream
  pub some_input : 1 ≤ length c.inputs
  pub some_output : 1 ≤ length c.outputs
  pub links : length c.inputs + length c.outputs ≤ MAX_LINKS
  pub receiver : IsInReceiver c.receiver
  pub serving : IsInServing c.serving
  pub some_store : stores.least ≤ c.store
  pub store : c.store ≤ stores.most
  pub some_hold : holds.least ≤ c.hold
  pub hold : c.hold ≤ holds.most
  pub share : IfSome c.share (λ weights. (length weights ≡ length c.outputs) × All IsWeight weights)
  pub watching : IsInWatching c.watching

-- a number of 64 bits, and numbers that the other positions take
pub record IsInDrill (c : DrillCommand) : Type 0 where
  pub number : c.number < 2 ^ 64
  pub count : c.count ≤ drill_counts.most
  pub some_link : drill_links.least ≤ c.links
  pub links : c.links ≤ drill_links.most
  pub loss : c.loss ≤ drill_losses.most

-- a line's values lie in their ranges
abbrev pub IsInRange : CommandLine → Type 0
IsInRange (Replay c) = IsInReplay c
IsInRange (Show c) = IsInShow c
IsInRange (Count c) = IsInCount c
IsInRange (Report c) = IsInReplay c
IsInRange (Pack c) = IsInPack c
IsInRange (Split c) = IsInSplit c
IsInRange (Send c) = IsInSend c
IsInRange (Recv c) = IsInRecv c
IsInRange (Fan c) = IsInFan c
IsInRange (Gate c) = IsInGate c
IsInRange (Drill c) = IsInDrill c
