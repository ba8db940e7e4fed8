-- A line as a command, without where its texts lie in memory.
use Rattle.std.specs.Prelude.{map, option_map}
use Rattle.rist_words.specs.declared.lines.Line.{Line}
use Rattle.rist_words.specs.declared.lines.Line.TheVariants as lines
use Rattle.rist_words.specs.declared.lines.SessionWords.{SessionWords}
use Rattle.rist_words.specs.declared.lines.ReplayLine.{ReplayLine}
use Rattle.rist_words.specs.declared.lines.ShowLine.{ShowLine}
use Rattle.rist_words.specs.declared.lines.CountLine.{CountLine}
use Rattle.rist_words.specs.declared.lines.PackLine.{PackLine}
use Rattle.rist_words.specs.declared.lines.SplitLine.{SplitLine}
use Rattle.rist_words.specs.declared.lines.SendLine.{SendLine}
use Rattle.rist_words.specs.declared.lines.StreamWords.{StreamWords}
use Rattle.rist_words.specs.declared.lines.ReceiverWords.{ReceiverWords}
use Rattle.rist_words.specs.declared.lines.ServingWords.{ServingWords}
use Rattle.rist_words.specs.declared.lines.WatchingWords.{WatchingWords}
use Rattle.rist_words.specs.declared.lines.RecvLine.{RecvLine}
use Rattle.rist_words.specs.declared.lines.FanLine.{FanLine}
use Rattle.rist_words.specs.declared.lines.GateLine.{GateLine}
use Rattle.rist_words.specs.declared.lines.DrillLine.{DrillLine}
use Rattle.rist_words.specs.declared.session.SessionOptions.{SessionOptions}
use Rattle.rist_words.specs.Commands.{SessionNames}
use Rattle.rist_words.specs.CommandLine.{CommandLine, Replay, Show, Count, Report, Pack, Split, Send, Recv, Fan, Gate}
use Rattle.rist_words.specs.CommandLine.{Drill}
use Rattle.rist_words.specs.CommandLine.{Session, Stream, Receiver, Serving, Watching, ReplayCommand, ShowCommand}
use Rattle.rist_words.specs.CommandLine.{CountCommand}
use Rattle.rist_words.specs.CommandLine.{PackCommand, SplitCommand, SendCommand, RecvCommand, FanCommand, GateCommand}
use Rattle.rist_words.specs.CommandLine.{DrillCommand}

-- the names of a session's options
abbrev pub shown_names : SessionOptions → SessionNames
shown_names o =
    record {
      profile = o.profile.now;
      port = o.port.now;
      pass = o.pass.now;
      bits = o.bits.now;
      full = o.full.now;
      tunnel = o.tunnel.now;
    }

-- the session of a line
abbrev pub shown_session : SessionWords → Session
shown_session s =
    record {
      profile = s.profile;
      port = s.port;
      pass = option_map (λ p. p.now) s.pass;
      bits = s.bits;
      full = s.full;
      tunnel = s.tunnel;
      echo = s.echo;
    }

-- the replay that a line says
abbrev pub shown_replay : ReplayLine → ReplayCommand
shown_replay l =
    record {
      capture = l.capture.now;
      out = l.out.now;
      session = shown_session l.session;
      delay = l.delay;
      span = l.span;
      restart = l.restart;
      drift = l.drift;
      pcap = l.pcap;
    }

-- the showing that a line says
abbrev pub shown_show : ShowLine → ShowCommand
shown_show l = record { capture = l.capture.now; session = shown_session l.session; pcap = l.pcap }

-- the counting that a line says
abbrev pub shown_count : CountLine → CountCommand
shown_count l =
    record {
      capture = l.capture.now;
      session = shown_session l.session;
      delay = l.delay;
      span = l.span;
      restart = l.restart;
      drift = l.drift;
      pcap = l.pcap;
    }

-- the stream of a line
abbrev pub shown_stream : StreamWords → Stream
shown_stream s = record { nulls = s.nulls; wide = s.wide; flow = s.flow; first = s.first }

-- the packing that a line says
abbrev pub shown_pack : PackLine → PackCommand
shown_pack l =
    record {
      source = l.source.now;
      capture = l.capture.now;
      session = shown_session l.session;
      stream = shown_stream l.stream;
      gap = l.gap;
    }

-- the split that a line says
abbrev pub shown_split : SplitLine → SplitCommand
shown_split l = record {
  capture = l.capture.now;
  ports = l.ports.items;
  names = map (λ name. name.now) l.names.items;
  session = shown_session l.session;
  delay = l.delay;
  span = l.span;
  restart = l.restart;
  drift = l.drift;
  pcap = l.pcap;
}

-- what is kept and told of a line's run
abbrev pub shown_watching : WatchingWords → Watching
shown_watching w =
    record {
      capture = option_map (λ name. name.now) w.capture;
      stats = w.stats;
      stats_file = option_map (λ name. name.now) w.stats_file;
    }

-- the sending that a line says
abbrev pub shown_send : SendLine → SendCommand
shown_send l = record {
  source = l.source.now;
  links = l.links.items;
  listens = l.listens;
  session = shown_session l.session;
  stream = shown_stream l.stream;
  gap = l.gap;
  lead = l.lead;
  store = l.store;
  hold = l.hold;
  share = option_map (λ weights. weights.items) l.share;
  linger = l.linger;
  turns = l.turns;
  watching = shown_watching l.watching;
}

-- what a line sets its receiver to
abbrev pub shown_receiver : ReceiverWords → Receiver
shown_receiver r =
    record {
      delay = r.delay;
      span = r.span;
      restart = r.restart;
      drift = r.drift;
      reorder = r.reorder;
      least = r.least;
      tries = r.tries;
      nack = r.nack;
      own = r.own;
    }

-- the run of a line's receiver
abbrev pub shown_serving : ServingWords → Serving
shown_serving s = record { turns = s.turns; idle = s.idle; keep = s.keep }

-- the receiving that a line says
abbrev pub shown_recv : RecvLine → RecvCommand
shown_recv l =
    record {
      out = l.out.now;
      links = l.links.items;
      calls = l.calls;
      session = shown_session l.session;
      receiver = shown_receiver l.receiver;
      serving = shown_serving l.serving;
      watching = shown_watching l.watching;
    }

-- the receiving of several flows that a line says
abbrev pub shown_fan : FanLine → FanCommand
shown_fan l = record {
  ports = l.ports.items;
  names = map (λ name. name.now) l.names.items;
  links = l.links.items;
  calls = l.calls;
  session = shown_session l.session;
  receiver = shown_receiver l.receiver;
  serving = shown_serving l.serving;
  watching = shown_watching l.watching;
}

-- the gateway that a line says
abbrev pub shown_gate : GateLine → GateCommand
shown_gate l = record {
  inputs = l.inputs.items;
  outputs = l.outputs.items;
  incoming = shown_session l.incoming;
  session = shown_session l.session;
  receiver = shown_receiver l.receiver;
  serving = shown_serving l.serving;
  stream = shown_stream l.stream;
  store = l.store;
  hold = l.hold;
  share = option_map (λ weights. weights.items) l.share;
  watching = shown_watching l.watching;
}

-- the simulated run that a line says
abbrev pub shown_drill : DrillLine → DrillCommand
shown_drill l = record { number = l.number; count = l.count; links = l.links; loss = l.loss }

-- what a line says
abbrev pub shown : Line → CommandLine
shown (lines.Replay l) = Replay (shown_replay l)
shown (lines.Show l) = Show (shown_show l)
shown (lines.Count l) = Count (shown_count l)
shown (lines.Report l) = Report (shown_replay l)
shown (lines.Pack l) = Pack (shown_pack l)
shown (lines.Split l) = Split (shown_split l)
shown (lines.Send l) = Send (shown_send l)
shown (lines.Recv l) = Recv (shown_recv l)
shown (lines.Fan l) = Fan (shown_fan l)
shown (lines.Gate l) = Gate (shown_gate l)
shown (lines.Drill l) = Drill (shown_drill l)
