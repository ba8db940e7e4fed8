-- Worked command lines.
use Rattle.std.proofs.Common.{◌≡◌, [], ◌∷◌, Some, None, codes, false, refl, true}
use Rattle.clap.proofs.OnLiterals.{clap_on_literals}
use Rattle.gre_tunnel.specs.declared.tunnel.Tunnel.TheVariants.{Librist, Own}
use Rattle.link_channels.specs.declared.profile.Profile.TheVariants.{Main, Simple}
use Rattle.outside_net.specs.Sockets.{plain_link}
use Rattle.outside_net.specs.declared.link_spec.Role.TheVariants.{Forwards, Receives, Sends}
use Rattle.host_text.specs.Hosts.{ipv4_address, ipv6_address}
use Rattle.std.specs.Net.Reader.{read_ipv4, read_ipv6, read_number, read_octet, read_segment, read_segments}
use Rattle.rist_words.specs.Links.{link_of}
use Rattle.rist_words.specs.Commands.{command_in, faults_of}
use Rattle.request_rules.specs.declared.policy.NackKind.TheVariants.{Mask, Range}
use Rattle.rist_words.specs.CommandLine.{Count, Drill, Fan, Gate, Pack, Receiver, Recv, Replay, Report, Send, Serving, Session, Show, Split, Stream, Watching, line_of}

-- a session without options
abbrev plain : Session
plain = record { profile = Simple; port = 1968; pass = None; bits = 128; full = false; tunnel = Own; echo = false }

defaults : line_of (codes "rist" ∷ codes "replay" ∷ codes "a" ∷ codes "-" ∷ [])
    ≡ Some (Replay (record { capture = codes "a"; out = codes "-"; session = plain; delay = 1000; span = 2048; restart = 0; drift = false; pcap = None }))
unfolding clap_on_literals faults_of command_in
defaults = refl

between : line_of (codes "rist" ∷ codes "replay" ∷ codes "a" ∷ codes "--span=07" ∷ codes "b" ∷ codes "--delay" ∷ codes "5" ∷ [])
    ≡ Some (Replay (record { capture = codes "a"; out = codes "b"; session = plain; delay = 5; span = 7; restart = 0; drift = false; pcap = None }))
unfolding clap_on_literals faults_of command_in
between = refl

after_dashes : line_of (codes "rist" ∷ codes "show" ∷ codes "--" ∷ codes "-a" ∷ []) ≡ Some (Show (record { capture = codes "-a"; session = plain; pcap = None }))
unfolding clap_on_literals faults_of command_in
after_dashes = refl

name_alone : line_of (codes "rist" ∷ []) ≡ None
unfolding clap_on_literals faults_of command_in
name_alone = refl

no_words : line_of [] ≡ None
unfolding clap_on_literals faults_of command_in
no_words = refl

empty_name : line_of (codes "rist" ∷ codes "show" ∷ [] ∷ []) ≡ None
unfolding clap_on_literals faults_of command_in
empty_name = refl

signed : line_of (codes "rist" ∷ codes "replay" ∷ codes "a" ∷ codes "b" ∷ codes "--delay" ∷ codes "+5" ∷ []) ≡ None
unfolding clap_on_literals faults_of command_in
signed = refl

twice : line_of (codes "rist" ∷ codes "replay" ∷ codes "a" ∷ codes "b" ∷ codes "--span" ∷ codes "5" ∷ codes "--span" ∷ codes "5" ∷ []) ≡ None
unfolding clap_on_literals faults_of command_in
twice = refl

help : line_of (codes "rist" ∷ codes "replay" ∷ codes "--help" ∷ []) ≡ None
unfolding clap_on_literals faults_of command_in
help = refl

sealed : line_of (codes "rist" ∷ codes "show" ∷ codes "a" ∷ codes "--pass=-x" ∷ codes "--profile" ∷ codes "main" ∷ codes "--bits" ∷ codes "256" ∷ codes "--port=2" ∷ [])
    ≡ Some (Show (record { capture = codes "a"; session = record { profile = Main; port = 2; pass = Some (codes "-x"); bits = 256; full = false; tunnel = Own; echo = false }; pcap = None }))
unfolding clap_on_literals faults_of command_in
sealed = refl

sealed_in_simple : line_of (codes "rist" ∷ codes "show" ∷ codes "a" ∷ codes "--pass=x" ∷ []) ≡ None
unfolding clap_on_literals faults_of command_in
sealed_in_simple = refl

librist_in_main : line_of (codes "rist" ∷ codes "show" ∷ codes "a" ∷ codes "--tunnel" ∷ codes "librist" ∷ codes "--profile=main" ∷ [])
    ≡ Some (Show (record { capture = codes "a"; session = record plain { profile = Main; tunnel = Librist; echo = true }; pcap = None }))
unfolding clap_on_literals faults_of command_in
librist_in_main = refl

librist_in_simple : line_of (codes "rist" ∷ codes "show" ∷ codes "a" ∷ codes "--tunnel=librist" ∷ []) ≡ None
unfolding clap_on_literals faults_of command_in
librist_in_simple = refl

of_the_network : line_of (codes "rist" ∷ codes "replay" ∷ codes "--pcap" ∷ codes "--udp" ∷ codes "1968" ∷ codes "-" ∷ codes "-" ∷ [])
    ≡ Some (Replay (record { capture = codes "-"; out = codes "-"; session = plain; delay = 1000; span = 2048; restart = 0; drift = false; pcap = Some 1968 }))
unfolding clap_on_literals faults_of command_in
of_the_network = refl

counting : line_of (codes "rist" ∷ codes "count" ∷ codes "a" ∷ codes "--span=8" ∷ codes "--restart" ∷ codes "500" ∷ [])
    ≡ Some (Count (record { capture = codes "a"; session = plain; delay = 1000; span = 8; restart = 500; drift = false; pcap = None }))
unfolding clap_on_literals faults_of command_in
counting = refl

reporting : line_of (codes "rist" ∷ codes "report" ∷ codes "a" ∷ codes "b.html" ∷ codes "--delay=200" ∷ [])
    ≡ Some (Report (record { capture = codes "a"; out = codes "b.html"; session = plain; delay = 200; span = 2048; restart = 0; drift = false; pcap = None }))
unfolding clap_on_literals faults_of command_in
reporting = refl

report_without_a_page : line_of (codes "rist" ∷ codes "report" ∷ codes "a" ∷ []) ≡ None
unfolding clap_on_literals faults_of command_in
report_without_a_page = refl

drifting : line_of (codes "rist" ∷ codes "replay" ∷ codes "--drift" ∷ codes "a" ∷ codes "-" ∷ [])
    ≡ Some (Replay (record { capture = codes "a"; out = codes "-"; session = plain; delay = 1000; span = 2048; restart = 0; drift = true; pcap = None }))
unfolding clap_on_literals faults_of command_in
drifting = refl

port_in_main : line_of (codes "rist" ∷ codes "show" ∷ codes "a" ∷ codes "--udp=65535" ∷ codes "--profile=main" ∷ codes "--pcap" ∷ [])
    ≡ Some (Show (record { capture = codes "a"; session = record plain { profile = Main }; pcap = Some 65535 }))
unfolding clap_on_literals faults_of command_in
port_in_main = refl

odd_udp_port : line_of (codes "rist" ∷ codes "show" ∷ codes "a" ∷ codes "--udp=65535" ∷ codes "--pcap" ∷ []) ≡ None
unfolding clap_on_literals faults_of command_in
odd_udp_port = refl

udp_port_0 : line_of (codes "rist" ∷ codes "show" ∷ codes "a" ∷ codes "--udp=0" ∷ codes "--profile=main" ∷ codes "--pcap" ∷ []) ≡ None
unfolding clap_on_literals faults_of command_in
udp_port_0 = refl

port_alone : line_of (codes "rist" ∷ codes "replay" ∷ codes "a" ∷ codes "b" ∷ codes "--udp=1968" ∷ []) ≡ None
unfolding clap_on_literals faults_of command_in
port_alone = refl

pcap_alone : line_of (codes "rist" ∷ codes "show" ∷ codes "a" ∷ codes "--pcap" ∷ []) ≡ None
unfolding clap_on_literals faults_of command_in
pcap_alone = refl

wide : line_of (codes "rist" ∷ codes "pack" ∷ codes "--profile=main" ∷ codes "--wide" ∷ codes "a" ∷ codes "b" ∷ codes "--first=65536" ∷ [])
    ≡ Some (Pack (record {
      source = codes "a";
      capture = codes "b";
      session = record plain { profile = Main };
      stream = record { nulls = false; wide = true; flow = 270544960; first = 65536 };
      gap = 1000;
    }))
unfolding clap_on_literals faults_of command_in
wide = refl

not_wide : line_of (codes "rist" ∷ codes "pack" ∷ codes "--profile=main" ∷ codes "a" ∷ codes "b" ∷ codes "--first=65536" ∷ []) ≡ None
unfolding clap_on_literals faults_of command_in
not_wide = refl

-- a stream without options
abbrev plain_stream : Stream
plain_stream = record { nulls = false; wide = false; flow = 270544960; first = 0 }

split_in_two : line_of (codes "rist" ∷ codes "split" ∷ codes "a" ∷ codes "1970=b,1968=c=d" ∷ codes "--pass=p" ∷ codes "--tunnel=librist" ∷ codes "--udp=5001" ∷ codes "--pcap" ∷ [])
    ≡ Some (Split (record {
      capture = codes "a";
      ports = 1970 ∷ 1968 ∷ [];
      names = codes "b" ∷ codes "c=d" ∷ [];
      session = record plain { profile = Main; port = 1970; pass = Some (codes "p"); tunnel = Librist; echo = true };
      delay = 1000;
      span = 2048;
      restart = 0;
      drift = false;
      pcap = Some 5001;
    }))
unfolding clap_on_literals faults_of command_in
split_in_two = refl

split_at_one_port_twice : line_of (codes "rist" ∷ codes "split" ∷ codes "a" ∷ codes "1968=b,1968=c" ∷ []) ≡ None
unfolding clap_on_literals faults_of command_in
split_at_one_port_twice = refl

split_into_one_name_twice : line_of (codes "rist" ∷ codes "split" ∷ codes "a" ∷ codes "1968=b,1970=b" ∷ []) ≡ None
unfolding clap_on_literals faults_of command_in
split_into_one_name_twice = refl

split_with_an_empty_part : line_of (codes "rist" ∷ codes "split" ∷ codes "a" ∷ codes "1968=b," ∷ []) ≡ None
unfolding clap_on_literals faults_of command_in
split_with_an_empty_part = refl

split_with_a_profile : line_of (codes "rist" ∷ codes "split" ∷ codes "a" ∷ codes "1968=b" ∷ codes "--profile=main" ∷ []) ≡ None
unfolding clap_on_literals faults_of command_in
split_with_a_profile = refl

-- a run of which nothing is kept or told
abbrev unwatched : Watching
unwatched = record { capture = None; stats = None; stats_file = None }

shared : line_of (codes "rist" ∷ codes "send" ∷ codes "-" ∷ codes "127.0.0.1:5000" ∷ codes "--share=3:1" ∷ codes "010.0.0.255:5002" ∷ [])
    ≡ Some (Send (record {
      source = codes "-";
      links = plain_link (ipv4_address (127 ∷ 0 ∷ 0 ∷ 1 ∷ [])) 5000 ∷ plain_link (ipv4_address (10 ∷ 0 ∷ 0 ∷ 255 ∷ [])) 5002 ∷ [];
      session = plain;
      stream = plain_stream;
      gap = 1000;
      lead = 0;
      store = 4096;
      hold = 20;
      share = Some (3 ∷ 1 ∷ []);
      linger = 1000;
      turns = 1099511627776;
      listens = false;
      watching = unwatched;
    }))
unfolding clap_on_literals faults_of command_in
shared = refl

led : line_of (codes "rist" ∷ codes "send" ∷ codes "--echo" ∷ codes "a" ∷ codes "127.0.0.1:5000" ∷ codes "--lead=200" ∷ [])
    ≡ Some (Send (record {
      source = codes "a";
      links = plain_link (ipv4_address (127 ∷ 0 ∷ 0 ∷ 1 ∷ [])) 5000 ∷ [];
      session = record plain { echo = true };
      stream = plain_stream;
      gap = 1000;
      lead = 200;
      store = 4096;
      hold = 20;
      share = None;
      linger = 1000;
      turns = 1099511627776;
      listens = false;
      watching = unwatched;
    }))
unfolding clap_on_literals faults_of command_in
led = refl

odd_port : line_of (codes "rist" ∷ codes "send" ∷ codes "a" ∷ codes "127.0.0.1:5001" ∷ []) ≡ None
unfolding clap_on_literals faults_of command_in
odd_port = refl

no_link : line_of (codes "rist" ∷ codes "send" ∷ codes "a" ∷ []) ≡ None
unfolding clap_on_literals faults_of command_in
no_link = refl

-- a receiver and its run without options
abbrev plain_receiver : Receiver
plain_receiver = record { delay = 1000; span = 2048; restart = 0; drift = false; reorder = 25; least = 50; tries = 8; nack = Range; own = 7 }

-- likewise
abbrev plain_serving : Serving
plain_serving = record { turns = 1099511627776; idle = 0; keep = 0 }

received : line_of (codes "rist" ∷ codes "recv" ∷ codes "--nack=mask" ∷ codes "-" ∷ codes "127.0.0.1:5000" ∷ codes "--idle" ∷ codes "5" ∷ [])
    ≡ Some (Recv (record {
      out = codes "-";
      links = plain_link (ipv4_address (127 ∷ 0 ∷ 0 ∷ 1 ∷ [])) 5000 ∷ [];
      session = plain;
      receiver = record plain_receiver { nack = Mask };
      serving = record plain_serving { idle = 5 };
      calls = false;
      watching = unwatched;
    }))
unfolding clap_on_literals faults_of command_in
received = refl

watched : line_of (codes "rist" ∷ codes "recv" ∷ codes "-" ∷ codes "127.0.0.1:5000" ∷ codes "--record=a" ∷ codes "--stats" ∷ codes "100" ∷ codes "--stats-file" ∷ codes "b" ∷ [])
    ≡ Some (Recv (record {
      out = codes "-";
      links = plain_link (ipv4_address (127 ∷ 0 ∷ 0 ∷ 1 ∷ [])) 5000 ∷ [];
      session = plain;
      receiver = plain_receiver;
      serving = plain_serving;
      calls = false;
      watching = record { capture = Some (codes "a"); stats = Some 100; stats_file = Some (codes "b") };
    }))
unfolding clap_on_literals faults_of command_in
watched = refl

file_without_statistics : line_of (codes "rist" ∷ codes "recv" ∷ codes "-" ∷ codes "127.0.0.1:5000" ∷ codes "--stats-file=b" ∷ []) ≡ None
unfolding clap_on_literals faults_of command_in
file_without_statistics = refl

recorded_sending : line_of (codes "rist" ∷ codes "send" ∷ codes "-" ∷ codes "127.0.0.1:5000" ∷ codes "--record=a" ∷ []) ≡ None
unfolding clap_on_literals faults_of command_in
recorded_sending = refl

fanned : line_of (codes "rist" ∷ codes "fan" ∷ codes "1970=b,1968=c" ∷ codes "127.0.0.1:5000" ∷ codes "--full" ∷ codes "127.0.0.1:5003" ∷ codes "--idle=5" ∷ codes "--pass=p" ∷ codes "--drift" ∷ [])
    ≡ Some (Fan (record {
      ports = 1970 ∷ 1968 ∷ [];
      names = codes "b" ∷ codes "c" ∷ [];
      links = plain_link (ipv4_address (127 ∷ 0 ∷ 0 ∷ 1 ∷ [])) 5000 ∷ plain_link (ipv4_address (127 ∷ 0 ∷ 0 ∷ 1 ∷ [])) 5003 ∷ [];
      session = record plain { profile = Main; port = 1970; pass = Some (codes "p"); full = true };
      receiver = record plain_receiver { drift = true };
      serving = record plain_serving { idle = 5 };
      calls = false;
      watching = unwatched;
    }))
unfolding clap_on_literals faults_of command_in
fanned = refl

fan_with_a_profile : line_of (codes "rist" ∷ codes "fan" ∷ codes "1968=b" ∷ codes "127.0.0.1:5000" ∷ codes "--profile=main" ∷ []) ≡ None
unfolding clap_on_literals faults_of command_in
fan_with_a_profile = refl

fan_that_keeps_steps : line_of (codes "rist" ∷ codes "fan" ∷ codes "1968=b" ∷ codes "127.0.0.1:5000" ∷ codes "--keep=1" ∷ []) ≡ None
unfolding clap_on_literals faults_of command_in
fan_that_keeps_steps = refl

fan_without_a_link : line_of (codes "rist" ∷ codes "fan" ∷ codes "1968=b" ∷ []) ≡ None
unfolding clap_on_literals faults_of command_in
fan_without_a_link = refl

gateway : line_of (codes "rist" ∷ codes "gate" ∷ codes "127.0.0.1:5000" ∷ codes "127.0.0.1:5002" ∷ codes "--share=3" ∷ [])
    ≡ Some (Gate (record {
      inputs = plain_link (ipv4_address (127 ∷ 0 ∷ 0 ∷ 1 ∷ [])) 5000 ∷ [];
      outputs = plain_link (ipv4_address (127 ∷ 0 ∷ 0 ∷ 1 ∷ [])) 5002 ∷ [];
      incoming = plain;
      session = plain;
      receiver = plain_receiver;
      serving = plain_serving;
      stream = plain_stream;
      store = 4096;
      hold = 20;
      share = Some (3 ∷ []);
      watching = unwatched;
    }))
unfolding clap_on_literals faults_of command_in
gateway = refl

into_a_tunnel : line_of (codes "rist" ∷ codes "gate" ∷ codes "127.0.0.1:5000" ∷ codes "127.0.0.1:5003" ∷ codes "--in-profile=simple" ∷ codes "--profile" ∷ codes "main"
    ∷ codes "--tunnel=librist" ∷ codes "--pass=p" ∷ codes "--bits=256" ∷ [])
    ≡ Some (Gate (record {
      inputs = plain_link (ipv4_address (127 ∷ 0 ∷ 0 ∷ 1 ∷ [])) 5000 ∷ [];
      outputs = plain_link (ipv4_address (127 ∷ 0 ∷ 0 ∷ 1 ∷ [])) 5003 ∷ [];
      incoming = plain;
      session = record plain { profile = Main; pass = Some (codes "p"); bits = 256; tunnel = Librist; echo = true };
      receiver = plain_receiver;
      serving = plain_serving;
      stream = plain_stream;
      store = 4096;
      hold = 20;
      share = None;
      watching = unwatched;
    }))
unfolding clap_on_literals faults_of command_in
into_a_tunnel = refl

out_of_a_tunnel : line_of (codes "rist" ∷ codes "gate" ∷ codes "127.0.0.1:5001" ∷ codes "127.0.0.1:5002" ∷ codes "--in-profile=main" ∷ codes "--in-port=1970" ∷ codes "--in-pass=p"
    ∷ codes "--in-bits=256" ∷ codes "--in-full" ∷ codes "--echo" ∷ [])
    ≡ Some (Gate (record {
      inputs = plain_link (ipv4_address (127 ∷ 0 ∷ 0 ∷ 1 ∷ [])) 5001 ∷ [];
      outputs = plain_link (ipv4_address (127 ∷ 0 ∷ 0 ∷ 1 ∷ [])) 5002 ∷ [];
      incoming = record { profile = Main; port = 1970; pass = Some (codes "p"); bits = 256; full = true; tunnel = Own; echo = false };
      session = record plain { echo = true };
      receiver = plain_receiver;
      serving = plain_serving;
      stream = plain_stream;
      store = 4096;
      hold = 20;
      share = None;
      watching = unwatched;
    }))
unfolding clap_on_literals faults_of command_in
out_of_a_tunnel = refl

odd_port_of_a_simple_input : line_of (codes "rist" ∷ codes "gate" ∷ codes "127.0.0.1:5001" ∷ codes "127.0.0.1:5002" ∷ codes "--in-profile=simple" ∷ codes "--profile=main" ∷ []) ≡ None
unfolding clap_on_literals faults_of command_in
odd_port_of_a_simple_input = refl

sealed_simple_input : line_of (codes "rist" ∷ codes "gate" ∷ codes "127.0.0.1:5000" ∷ codes "127.0.0.1:5002" ∷ codes "--in-profile=simple" ∷ codes "--in-pass=p" ∷ []) ≡ None
unfolding clap_on_literals faults_of command_in
sealed_simple_input = refl

port_without_its_profile : line_of (codes "rist" ∷ codes "gate" ∷ codes "127.0.0.1:5000" ∷ codes "127.0.0.1:5002" ∷ codes "--in-port=1970" ∷ []) ≡ None
unfolding clap_on_literals faults_of command_in
port_without_its_profile = refl

gateway_of_one_link : line_of (codes "rist" ∷ codes "gate" ∷ codes "--in=1" ∷ codes "127.0.0.1:5000" ∷ []) ≡ None
unfolding clap_on_literals faults_of command_in
gateway_of_one_link = refl

simulated : line_of (codes "rist" ∷ codes "drill" ∷ codes "7" ∷ codes "200" ∷ codes "2" ∷ codes "100" ∷ []) ≡ Some (Drill (record { number = 7; count = 200; links = 2; loss = 100 }))
unfolding clap_on_literals faults_of command_in
simulated = refl

drill_of_5001_payloads : line_of (codes "rist" ∷ codes "drill" ∷ codes "7" ∷ codes "5001" ∷ codes "2" ∷ codes "100" ∷ []) ≡ None
unfolding clap_on_literals faults_of command_in
drill_of_5001_payloads = refl

drill_without_links : line_of (codes "rist" ∷ codes "drill" ∷ codes "7" ∷ codes "200" ∷ codes "0" ∷ codes "100" ∷ []) ≡ None
unfolding clap_on_literals faults_of command_in
drill_without_links = refl

drill_on_five_links : line_of (codes "rist" ∷ codes "drill" ∷ codes "7" ∷ codes "200" ∷ codes "5" ∷ codes "100" ∷ []) ≡ None
unfolding clap_on_literals faults_of command_in
drill_on_five_links = refl

loss_above_all : line_of (codes "rist" ∷ codes "drill" ∷ codes "7" ∷ codes "200" ∷ codes "2" ∷ codes "1001" ∷ []) ≡ None
unfolding clap_on_literals faults_of command_in
loss_above_all = refl

-- a receiver calls, and a sender listens, in the Main Profile alone
called : line_of (codes "rist" ∷ codes "recv" ∷ codes "-" ∷ codes "127.0.0.1:5001?from=127.0.0.2" ∷ codes "--call" ∷ codes "--profile=main" ∷ [])
    ≡ Some (Recv (record {
      out = codes "-";
      links = record (plain_link (ipv4_address (127 ∷ 0 ∷ 0 ∷ 1 ∷ [])) 5001) { from = Some (ipv4_address (127 ∷ 0 ∷ 0 ∷ 2 ∷ [])) } ∷ [];
      session = record plain { profile = Main };
      receiver = plain_receiver;
      serving = plain_serving;
      calls = true;
      watching = unwatched;
    }))
unfolding clap_on_literals faults_of command_in
called = refl

listening : line_of (codes "rist" ∷ codes "send" ∷ codes "-" ∷ codes "127.0.0.1:5001" ∷ codes "--listen" ∷ codes "--profile=main" ∷ [])
    ≡ Some (Send (record {
      source = codes "-";
      links = plain_link (ipv4_address (127 ∷ 0 ∷ 0 ∷ 1 ∷ [])) 5001 ∷ [];
      session = record plain { profile = Main };
      stream = plain_stream;
      gap = 1000;
      lead = 0;
      store = 4096;
      hold = 20;
      share = None;
      linger = 1000;
      turns = 1099511627776;
      listens = true;
      watching = unwatched;
    }))
unfolding clap_on_literals faults_of command_in
listening = refl

listening_from_an_address : line_of (codes "rist" ∷ codes "send" ∷ codes "-" ∷ codes "127.0.0.1:5001?from=127.0.0.2" ∷ codes "--listen" ∷ codes "--profile=main" ∷ []) ≡ None
unfolding clap_on_literals faults_of command_in
listening_from_an_address = refl

simple_receiver_that_calls : line_of (codes "rist" ∷ codes "recv" ∷ codes "-" ∷ codes "127.0.0.1:5000" ∷ codes "--call" ∷ []) ≡ None
unfolding clap_on_literals faults_of command_in
simple_receiver_that_calls = refl

simple_sender_that_listens : line_of (codes "rist" ∷ codes "send" ∷ codes "-" ∷ codes "--listen" ∷ codes "127.0.0.1:5000" ∷ []) ≡ None
unfolding clap_on_literals faults_of command_in
simple_sender_that_listens = refl

sender_that_calls : line_of (codes "rist" ∷ codes "send" ∷ codes "-" ∷ codes "127.0.0.1:5000" ∷ codes "--profile=main" ∷ codes "--call" ∷ []) ≡ None
unfolding clap_on_literals faults_of command_in
sender_that_calls = refl

fifth_word : line_of (codes "rist" ∷ codes "drill" ∷ codes "7" ∷ codes "200" ∷ codes "2" ∷ codes "100" ∷ codes "1" ∷ []) ≡ None
unfolding clap_on_literals faults_of command_in
fifth_word = refl

drill_with_an_option : line_of (codes "rist" ∷ codes "drill" ∷ codes "7" ∷ codes "200" ∷ codes "2" ∷ codes "100" ∷ codes "--port=2" ∷ []) ≡ None
unfolding clap_on_literals faults_of command_in
drill_with_an_option = refl

-- ---- links over IPv6, and local addresses

loopback : link_of Receives Simple (codes "[::1]:5000") ≡ Some (plain_link (ipv6_address (0 ∷ 0 ∷ 0 ∷ 0 ∷ 0 ∷ 0 ∷ 0 ∷ 1 ∷ [])) 5000)
unfolding read_ipv4 read_ipv6 read_number read_octet read_segment read_segments
loopback = refl

embedded : link_of Receives Main (codes "[64:FF9B::10.9.2.1]:5001") ≡ Some (plain_link (ipv6_address (0x64 ∷ 0xff9b ∷ 0 ∷ 0 ∷ 0 ∷ 0 ∷ 0x0a09 ∷ 0x0201 ∷ [])) 5001)
unfolding read_ipv4 read_ipv6 read_number read_octet read_segment read_segments
embedded = refl

two_gaps : link_of Receives Simple (codes "[1::2::3]:5000") ≡ None
unfolding read_ipv4 read_ipv6 read_number read_octet read_segment read_segments
two_gaps = refl

eight_and_a_gap : link_of Receives Simple (codes "[1:2:3:4::5:6:7:8]:5000") ≡ None
unfolding read_ipv4 read_ipv6 read_number read_octet read_segment read_segments
eight_and_a_gap = refl

from_one : link_of Sends Simple (codes "10.0.0.1:5000?from=10.9.2.1")
    ≡ Some (record { address = ipv4_address (10 ∷ 0 ∷ 0 ∷ 1 ∷ []); port = 5000; from = Some (ipv4_address (10 ∷ 9 ∷ 2 ∷ 1 ∷ [])); ttl = None })
from_one = refl

from_one_of_ipv6 : link_of Forwards Simple (codes "[2001:db8::7]:5000?from=2001:db8::1")
    ≡ Some (record {
      address = ipv6_address (0x2001 ∷ 0xdb8 ∷ 0 ∷ 0 ∷ 0 ∷ 0 ∷ 0 ∷ 7 ∷ []);
      port = 5000;
      from = Some (ipv6_address (0x2001 ∷ 0xdb8 ∷ 0 ∷ 0 ∷ 0 ∷ 0 ∷ 0 ∷ 1 ∷ []));
      ttl = None;
    })
unfolding read_ipv4 read_ipv6 read_number read_octet read_segment read_segments
from_one_of_ipv6 = refl

from_another_kind : link_of Sends Simple (codes "10.0.0.1:5000?from=::1") ≡ None
unfolding read_ipv4 read_ipv6 read_number read_octet read_segment read_segments
from_another_kind = refl

from_where_it_receives : link_of Receives Simple (codes "10.0.0.1:5000?from=10.9.2.1") ≡ None
from_where_it_receives = refl

passing_networks : link_of Sends Simple (codes "10.0.0.1:5000?ttl=8&from=10.9.2.1")
    ≡ Some (record { address = ipv4_address (10 ∷ 0 ∷ 0 ∷ 1 ∷ []); port = 5000; from = Some (ipv4_address (10 ∷ 9 ∷ 2 ∷ 1 ∷ [])); ttl = Some 8 })
passing_networks = refl

passing_networks_of_ipv6 : link_of Sends Simple (codes "[::1]:5000?ttl=8") ≡ None
unfolding read_ipv4 read_ipv6 read_number read_octet read_segment read_segments
passing_networks_of_ipv6 = refl
