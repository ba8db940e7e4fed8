-- The commands of the program with their options and positions (this profile), as the command line parser takes them.
use Rattle.std.specs.Prelude.{true, List, [], ◌∷◌, Option, Some, fold, codes}
use Rattle.clap.specs.Words.{App, Kinds, Row, Rule, Text, fault_of, new_app, new_rule, subcommand_of, with_rule}
use Rattle.clap.specs.Words.{with_subcommand}
use Rattle.clap.specs.declared.builder.ArgAction.TheVariants.{Append, Set, SetTrue}
use Rattle.rist_words.specs.declared.command.Kind.{Kind}
use Rattle.rist_words.specs.declared.command.Kind.TheVariants.{Flag, Position, Positions, Valued}

-- an argument that is given by its place, and has to be; one that is given by its place once or more; one that is given
-- as `--name value` or `--name=value`, and need not; and a flag, given as `--name`
abbrev pub rule_for : Kind → Text → Rule
rule_for Position name = record (new_rule name) { required = true; action = Some Set }
rule_for Positions name = record (new_rule name) { required = true; action = Some Append }
rule_for Valued name = record (new_rule name) { long = Some name; action = Some Set }
rule_for Flag name = record (new_rule name) { long = Some name; action = Some SetTrue }

-- the command with arguments of these names
abbrev pub with_rules : Kind → App → List Text → App
with_rules kind app names = fold (λ a name. with_rule a (rule_for kind name)) app names

-- The options by which a session is given: its profile, the UDP port of media, the passphrase, the bits of the key, the
-- flag of full datagrams, and the form of the tunnel.
pub record SessionNames : Type 0 where
  pub profile : Text
  pub port : Text
  pub pass : Text
  pub bits : Text
  pub full : Text
  pub tunnel : Text

-- those of each command that speaks of a session
abbrev pub session_names : SessionNames
session_names =
    record {
      profile = codes "profile";
      port = codes "port";
      pass = codes "pass";
      bits = codes "bits";
      full = codes "full";
      tunnel = codes "tunnel";
    }

-- those of the links that a gateway receives on
abbrev pub incoming_names : SessionNames
incoming_names = record {
  profile = codes "in-profile";
  port = codes "in-port";
  pass = codes "in-pass";
  bits = codes "in-bits";
  full = codes "in-full";
  tunnel = codes "in-tunnel";
}

-- a command that speaks of a session
abbrev pub session_app : Text → App
session_app name =
    with_rules Valued (new_app name)
    (codes "profile" ∷ codes "port" ∷ codes "pass" ∷ codes "bits" ∷ codes "tunnel" ∷ [])

-- the command with these options, flags and positions
abbrev pub with_arguments : App → List Text → List Text → List Text → App
with_arguments app options flags positions =
    with_rules Position (with_rules Flag (with_rules Valued app options) flags) positions

-- a replay: its options beside the session's, its flags and its positions
abbrev pub replay_app : App
replay_app =
    with_arguments (session_app (codes "replay")) (codes "delay" ∷ codes "span" ∷ codes "restart" ∷ codes "udp" ∷ [])
    (codes "pcap" ∷ codes "drift" ∷ [])
    (codes "capture" ∷ codes "out" ∷ [])

-- a showing: its option, its flag and its position
abbrev pub show_app : App
show_app = with_arguments (session_app (codes "show")) (codes "udp" ∷ []) (codes "pcap" ∷ []) (codes "capture" ∷ [])

-- a counting: its options, its flag and its position
abbrev pub count_app : App
count_app =
    with_arguments (session_app (codes "count")) (codes "delay" ∷ codes "span" ∷ codes "restart" ∷ codes "udp" ∷ [])
    (codes "pcap" ∷ codes "drift" ∷ []) (codes "capture" ∷ [])

-- a report, with the options and the flags of a replay
abbrev pub report_app : App
report_app =
    with_arguments (session_app (codes "report")) (codes "delay" ∷ codes "span" ∷ codes "restart" ∷ codes "udp" ∷ [])
    (codes "pcap" ∷ codes "drift" ∷ [])
    (codes "capture" ∷ codes "out" ∷ [])

-- a packing: its options, its flags and its positions
abbrev pub pack_app : App
pack_app =
    with_arguments (session_app (codes "pack")) (codes "flow" ∷ codes "first" ∷ codes "gap" ∷ [])
    (codes "nulls" ∷ codes "wide" ∷ codes "full" ∷ [])
    (codes "source" ∷ codes "capture" ∷ [])

-- a command that is always in the Main Profile, and has the ports of its outputs
abbrev pub tunnel_app : Text → App
tunnel_app name = with_rules Valued (new_app name) (codes "pass" ∷ codes "bits" ∷ codes "tunnel" ∷ [])

-- a split of a tunnel: its options, its flags and its positions
abbrev pub split_app : App
split_app =
    with_arguments (tunnel_app (codes "split"))
    (codes "delay" ∷ codes "span" ∷ codes "restart" ∷ codes "udp" ∷ []) (codes "pcap" ∷ codes "drift" ∷ [])
    (codes "capture" ∷ codes "outs" ∷ [])

-- a sending: its options, its flags and its positions, of which the last takes one link or more
abbrev pub send_app : App
send_app = with_rules Positions (with_arguments (session_app (codes "send"))
    (codes "flow" ∷ codes "first" ∷ codes "gap" ∷ codes "lead" ∷ codes "store" ∷ codes "hold" ∷ codes "share"
    ∷ codes "linger" ∷ codes "turns" ∷ codes "stats" ∷ codes "stats-file" ∷ [])
    (codes "nulls" ∷ codes "wide" ∷ codes "full" ∷ codes "echo" ∷ codes "listen" ∷ []) (codes "source" ∷ []))
    (codes "link" ∷ [])

-- the options of a receiver and of its run, but for that of steps that are kept
abbrev pub tunnel_receiver_options : List Text
tunnel_receiver_options =
    codes "delay" ∷ codes "span" ∷ codes "restart" ∷ codes "reorder" ∷ codes "least" ∷ codes "tries" ∷ codes "nack"
    ∷ codes "own" ∷ codes "turns"
    ∷ codes "idle" ∷ codes "record" ∷ codes "stats" ∷ codes "stats-file" ∷ []

-- and with it
abbrev pub receiver_options : List Text
receiver_options = codes "keep" ∷ tunnel_receiver_options

-- a receiving: its options, its flags and its positions, of which the last takes one link or more
abbrev pub recv_app : App
recv_app =
    with_rules Positions (with_arguments (session_app (codes "recv")) receiver_options
    (codes "full" ∷ codes "drift" ∷ codes "call" ∷ []) (codes "out" ∷ [])) (codes "link" ∷ [])

-- a receiving of several flows that come in one tunnel: its options, its flags and its positions, of which the last
-- takes one link or more
abbrev pub fan_app : App
fan_app =
    with_rules Positions (with_arguments (tunnel_app (codes "fan")) tunnel_receiver_options
    (codes "full" ∷ codes "drift" ∷ codes "call" ∷ []) (codes "outs" ∷ [])) (codes "link" ∷ [])

-- a gateway: a receiver's options, its own, its flags and its links. The session of the links that are received on has
-- options and a flag of its own
abbrev pub gate_app : App
gate_app = with_rules Positions (with_arguments (with_rules Valued (session_app (codes "gate")) receiver_options)
    (codes "flow" ∷ codes "first" ∷ codes "store" ∷ codes "hold" ∷ codes "share" ∷ codes "in" ∷ codes "in-profile"
    ∷ codes "in-port" ∷ codes "in-pass"
    ∷ codes "in-bits" ∷ codes "in-tunnel" ∷ [])
    (codes "nulls" ∷ codes "wide" ∷ codes "full" ∷ codes "drift" ∷ codes "echo" ∷ codes "in-full" ∷ []) [])
    (codes "link" ∷ [])

-- a simulated run: four positions, and neither options nor flags
abbrev pub drill_app : App
drill_app =
    with_rules Position (new_app (codes "drill")) (codes "number" ∷ codes "count" ∷ codes "links" ∷ codes "loss" ∷ [])

-- the commands over files
abbrev pub files_app : App
files_app =
    with_subcommand (with_subcommand (with_subcommand
    (with_subcommand (with_subcommand (with_subcommand (new_app (codes "rist")) replay_app.top) show_app.top)
    count_app.top) report_app.top) pack_app.top) split_app.top

-- the program: those, the commands over links, and the simulated run
abbrev pub rist_app : App
rist_app =
    with_subcommand (with_subcommand (with_subcommand (with_subcommand (with_subcommand files_app send_app.top)
    recv_app.top) fan_app.top) gate_app.top) drill_app.top

-- what stands against taking the words, the program's name first; where nothing does, they are taken
unfoldable pub faults_of : List Text → Kinds
faults_of words = fault_of rist_app words

-- the command that the words name, with what is given to it
unfoldable pub command_in : List Text → Option (Text × List Row)
command_in words = subcommand_of rist_app words
