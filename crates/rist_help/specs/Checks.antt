-- The tests that a command's values have to pass, in their order, and the first that fails (this profile).
use Rattle.std.specs.Prelude.{Bool, true, not, nat_lt, ◌&&◌, List, [], ◌∷◌, ◌++◌, length, Option, Some, None, is_none}
use Rattle.std.specs.Prelude.{is_some, if◌then◌else◌, codes}
use Rattle.std.specs.List.{find}
use Rattle.std.specs.Str.{bytes_eq}
use Rattle.clap.specs.Words.{Row, Text, all_of, first_of}
use Rattle.link_channels.specs.declared.profile.Profile.{Profile}
use Rattle.link_channels.specs.declared.profile.Profile.TheVariants.{Simple, Main}
use Rattle.outside_net.specs.declared.link_spec.LinkSpec.{LinkSpec}
use Rattle.outside_net.specs.declared.link_spec.Role.{Role}
use Rattle.rist_words.specs.declared.values.Numbers.{Numbers}
use Rattle.rist_words.specs.Commands.{SessionNames, incoming_names, session_names}
use Rattle.rist_help.specs.declared.checks.Test.{Test}
use Rattle.rist_help.specs.declared.checks.Test.TheVariants as tests
use Rattle.rist_words.specs.CommandLine.{are_unset, firsts, pcap_of, key_bits, delays, spans, restarts, flows, gaps}
use Rattle.rist_words.specs.CommandLine.{leads, stores, holds, lingers, turn_counts, reorders, retry_times}
use Rattle.rist_words.specs.CommandLine.{retry_counts, own_ssrcs, idle_times, kept_counts, drill_numbers, drill_counts}
use Rattle.rist_words.specs.CommandLine.{drill_links, drill_losses, stats_times, watching_of}
use Rattle.rist_words.specs.Values.{flag_of, is_set, nack_of, name_of, number_at, number_of, phrase_of, profile_of}
use Rattle.rist_words.specs.Values.{name_if, number_if, tunnel_of, ◌>>=◌}
use Rattle.rist_words.specs.Links.{gate_links_of, inputs_of, link_texts, links_of, receiving_role, sending_role, shares_of}
use Rattle.rist_words.specs.Outs.{outs_of, ports}

-- What is tested: that the name at a position isn't empty; that the number at a position, or of an option, is one that
-- it takes; that a profile reads; that a passphrase, a flag of the Main Profile and the tunnel read in the profile of
-- an option; that the session of a gateway's inputs has its profile; that the first sequence number, the two options of
-- a pcap file and the kind of requests read; that there are one to sixteen links, and each is one that receives, or
-- one that sends; that some of a
-- gateway's receive and not all, and each is one in the profile of its end; that each link that sends has a weight
-- where they share; that the outputs of a tunnel's flows read; that the passphrase, the tunnel, the two options of a
-- pcap file and the links read in the Main Profile, for a command that is always in it; that a name and a number that
-- may be left out read; and that a file for statistics is named only where these are told
pub data Check : Type 0 where
  Name : Text → Check
  NumberAt : Text → Numbers → Check
  Number : Text → Numbers → Check
  ProfileWord : Text → Check
  Pass : Text → Text → Check
  MainFlag : Text → Text → Check
  TunnelWord : Text → Text → Check
  Incoming : Check
  First : Check
  Pcap : Check
  Nack : Check
  Links : Check
  SendLinks : Check
  Inputs : Check
  GateLinks : Check
  SendShare : Check
  GateShare : Check
  Outs : Check
  MainPass : Text → Check
  MainTunnel : Text → Check
  MainPcap : Check
  MainLinks : Check
  NameIf : Text → Check
  NumberIf : Text → Numbers → Check
  Watching : Check

-- a test, without where its name lies in memory
abbrev pub shown_test : Test → Check
shown_test (tests.Name id) = Name id.now
shown_test (tests.NumberAt id numbers) = NumberAt id.now numbers
shown_test (tests.Number id numbers) = Number id.now numbers
shown_test (tests.Profile option) = ProfileWord option.now
shown_test (tests.Pass profile option) = Pass profile.now option.now
shown_test (tests.MainFlag profile flag) = MainFlag profile.now flag.now
shown_test (tests.Tunnel profile option) = TunnelWord profile.now option.now
shown_test tests.Incoming = Incoming
shown_test tests.First = First
shown_test tests.Pcap = Pcap
shown_test tests.Nack = Nack
shown_test tests.Links = Links
shown_test tests.SendLinks = SendLinks
shown_test tests.Inputs = Inputs
shown_test tests.GateLinks = GateLinks
shown_test tests.SendShare = SendShare
shown_test tests.GateShare = GateShare
shown_test tests.Outs = Outs
shown_test (tests.MainPass option) = MainPass option.now
shown_test (tests.MainTunnel option) = MainTunnel option.now
shown_test tests.MainPcap = MainPcap
shown_test tests.MainLinks = MainLinks
shown_test (tests.NameIf option) = NameIf option.now
shown_test (tests.NumberIf option numbers) = NumberIf option.now numbers
shown_test tests.Watching = Watching

-- the numbers of a test are multiples of one above 0, and their default is none above the greatest
abbrev pub is_sound : Test → Bool
is_sound (tests.NumberAt id numbers) = nat_lt 0 numbers.multiple_of
is_sound (tests.Number id numbers) = nat_lt 0 numbers.multiple_of && not (nat_lt numbers.most numbers.default)
is_sound (tests.NumberIf id numbers) = nat_lt 0 numbers.multiple_of
is_sound test = true

-- a profile that was read, and the Simple Profile where none was
abbrev pub profile_or_simple : Option Profile → Profile
profile_or_simple None = Simple
profile_or_simple (Some profile) = profile

-- the profile that a command's values give by an option of this name
abbrev pub profile_by : Text → List Row → Profile
profile_by option rows = profile_or_simple (profile_of (first_of option rows))

-- the profile of a command's values
abbrev pub profile_in : List Row → Profile
profile_in rows = profile_by (codes "profile") rows

-- that of the links that a gateway receives on: their own where it is given
abbrev pub incoming_in : List Row → Profile
incoming_in rows =
    if is_some (first_of (codes "in-profile") rows) then profile_by (codes "in-profile") rows else profile_in rows

-- the role of the links of a receiver's command, by its flag
abbrev pub receivers_role : List Row → Role
receivers_role rows = receiving_role (is_set (first_of (codes "call") rows))

-- the role of those of a sender's
abbrev pub senders_role : List Row → Role
senders_role rows = sending_role (is_set (first_of (codes "listen") rows))

-- the links of a gateway, each in the profile of its end
abbrev pub gate_links_in : List Row → Option (List LinkSpec × List LinkSpec)
gate_links_in rows =
    gate_links_of (incoming_in rows) (profile_in rows) (all_of (codes "link") rows) (first_of (codes "in") rows)

-- a value isn't as it has to be: its form, its range, or what it goes with
abbrev pub does_fail : List Row → Check → Bool
does_fail rows (Name id) = is_none (name_of (first_of id rows))
does_fail rows (NumberAt id numbers) = is_none (number_at numbers (first_of id rows))
does_fail rows (Number id numbers) = is_none (number_of numbers (first_of id rows))
does_fail rows (ProfileWord option) = is_none (profile_of (first_of option rows))
does_fail rows (Pass profile option) = is_none (phrase_of (profile_by profile rows) (first_of option rows))
does_fail rows (MainFlag profile flag) = is_none (flag_of (profile_by profile rows) (first_of flag rows))
does_fail rows (TunnelWord profile option) = is_none (tunnel_of (profile_by profile rows) (first_of option rows))
does_fail rows Incoming = is_none (first_of (codes "in-profile") rows) && not (are_unset incoming_names rows)
does_fail rows First =
    is_none (number_of (firsts (is_set (first_of (codes "wide") rows))) (first_of (codes "first") rows))
does_fail rows Pcap = is_none (pcap_of (profile_in rows) rows)
does_fail rows Nack = is_none (nack_of (first_of (codes "nack") rows))
does_fail rows Links = is_none (links_of (receivers_role rows) (profile_in rows) (all_of (codes "link") rows))
does_fail rows SendLinks = is_none (links_of (senders_role rows) (profile_in rows) (all_of (codes "link") rows))
does_fail rows Inputs = is_none (do
  texts ← link_texts (all_of (codes "link") rows)
  inputs_of (length texts) (first_of (codes "in") rows))
does_fail rows GateLinks = is_none (gate_links_in rows)
does_fail rows SendShare = is_none (do
  links ← links_of (senders_role rows) (profile_in rows) (all_of (codes "link") rows)
  shares_of (length links) (first_of (codes "share") rows))
does_fail rows GateShare = is_none (do
  links ← gate_links_in rows
  shares_of (length links.1) (first_of (codes "share") rows))
does_fail rows Outs = is_none (outs_of (first_of (codes "outs") rows))
does_fail rows (MainPass option) = is_none (phrase_of Main (first_of option rows))
does_fail rows (MainTunnel option) = is_none (tunnel_of Main (first_of option rows))
does_fail rows MainPcap = is_none (pcap_of Main rows)
does_fail rows MainLinks = is_none (links_of (receivers_role rows) Main (all_of (codes "link") rows))
does_fail rows (NameIf option) = is_none (name_if (first_of option rows))
does_fail rows (NumberIf option numbers) = is_none (number_if numbers (first_of option rows))
does_fail rows Watching = is_none (watching_of rows)

-- the first of these tests that the values fail
abbrev pub first_failing : List Row → List Check → Option Check
first_failing rows checks = find (does_fail rows) checks

-- the tests of a session's options behind its profile
abbrev pub checks_named : SessionNames → List Check
checks_named names =
    Number names.port ports ∷ Pass names.profile names.pass ∷ Number names.bits key_bits
    ∷ MainFlag names.profile names.full
    ∷ TunnelWord names.profile names.tunnel ∷ []

-- those of a session
abbrev pub session_checks : List Check
session_checks = ProfileWord (codes "profile") ∷ checks_named session_names

-- those of the session of the links that a gateway receives on
abbrev pub incoming_checks : List Check
incoming_checks = ProfileWord (codes "in-profile") ∷ Incoming ∷ checks_named incoming_names

-- those of the three options that a replay, a report, a split and a receiver have
abbrev pub buffer_checks : List Check
buffer_checks = Number (codes "delay") delays ∷ Number (codes "span") spans ∷ Number (codes "restart") restarts ∷ []

-- those of a stream
abbrev pub stream_checks : List Check
stream_checks =
    MainFlag (codes "profile") (codes "nulls") ∷ MainFlag (codes "profile") (codes "wide") ∷ Number (codes "flow") flows
    ∷ First ∷ []

-- those of a receiver's requests, and of its run but for the steps that it keeps
abbrev pub run_checks : List Check
run_checks =
    Number (codes "reorder") reorders ∷ Number (codes "least") retry_times ∷ Number (codes "tries") retry_counts ∷ Nack
    ∷ Number (codes "own") own_ssrcs ∷ Number (codes "turns") turn_counts ∷ Number (codes "idle") idle_times ∷ []

-- and with them
abbrev pub receiver_checks : List Check
receiver_checks = run_checks ++ (Number (codes "keep") kept_counts ∷ [])

-- those of a store
abbrev pub store_checks : List Check
store_checks = Number (codes "store") stores ∷ Number (codes "hold") holds ∷ []

-- those of what is told of a run
abbrev pub stats_checks : List Check
stats_checks = NumberIf (codes "stats") stats_times ∷ NameIf (codes "stats-file") ∷ Watching ∷ []

-- those of what is kept and told of a run that receives
abbrev pub watching_checks : List Check
watching_checks = NameIf (codes "record") ∷ stats_checks

-- those of a session that is always in the Main Profile
abbrev pub tunnel_checks : List Check
tunnel_checks = MainPass session_names.pass ∷ Number session_names.bits key_bits ∷ MainTunnel session_names.tunnel ∷ []

-- the tests of each command's values, in the order in which they are made
abbrev pub checks_of : Text → List Check
checks_of command =
    if bytes_eq command (codes "replay") then Name (codes "capture") ∷ Name (codes "out") ∷ session_checks
    ++ buffer_checks ++ (Pcap ∷ [])
    else (if bytes_eq command (codes "show") then Name (codes "capture") ∷ session_checks ++ (Pcap ∷ [])
    else (if bytes_eq command (codes "count") then Name (codes "capture") ∷ session_checks ++ buffer_checks
    ++ (Pcap ∷ [])
    else (if bytes_eq command (codes "report") then Name (codes "capture") ∷ Name (codes "out") ∷ session_checks
    ++ buffer_checks ++ (Pcap ∷ [])
    else (if bytes_eq command (codes "pack") then Name (codes "source") ∷ Name (codes "capture") ∷ session_checks
    ++ stream_checks ++ (Number (codes "gap") gaps ∷ [])
    else (if bytes_eq command (codes "split") then Name (codes "capture") ∷ Outs ∷ tunnel_checks ++ buffer_checks
    ++ (MainPcap ∷ [])
    else (if bytes_eq command (codes "send")
    then Name (codes "source") ∷ session_checks ++ (MainFlag (codes "profile") (codes "listen") ∷ SendLinks ∷ [])
    ++ stream_checks
    ++ (Number (codes "gap") gaps ∷ Number (codes "lead") leads ∷ [])
    ++ store_checks ++ (SendShare ∷ Number (codes "linger") lingers ∷ Number (codes "turns") turn_counts ∷ [])
    ++ stats_checks
    else (if bytes_eq command (codes "recv") then Name (codes "out") ∷ session_checks
    ++ (MainFlag (codes "profile") (codes "call") ∷ Links ∷ []) ++ buffer_checks ++ receiver_checks ++ watching_checks
    else (if bytes_eq command (codes "fan") then Outs ∷ tunnel_checks ++ (MainLinks ∷ []) ++ buffer_checks
    ++ run_checks ++ watching_checks
    else (if bytes_eq command (codes "gate") then session_checks ++ incoming_checks ++ (Inputs ∷ GateLinks ∷ [])
    ++ buffer_checks ++ receiver_checks ++ stream_checks
    ++ store_checks ++ (GateShare ∷ []) ++ watching_checks
    else NumberAt (codes "number") drill_numbers ∷ NumberAt (codes "count") drill_counts
    ∷ NumberAt (codes "links") drill_links
    ∷ NumberAt (codes "loss") drill_losses ∷ [])))))))))
