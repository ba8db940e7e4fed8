use Rattle.std.proofs.Common.{OnOk, subst}
use Rattle.datagram_ends.specs.Ends.{DatagramSinkState, Sends}
use Rattle.datagram_ends.proofs.SendLemmas.{plain_sent}
use Rattle.datagram_ends.proofs.datagram_sink.DatagramSink.send.Goals as goal

pub returns-in-Udp-clause-sent : goal.returns-in-Udp-clause-sent
returns-in-Udp-clause-sent g c =
    let old : DatagramSinkState g.row.C.Denot = record {
      form = c.self.inside.form;
      number = c.self.inside.number;
      ssrc = c.self.inside.ssrc;
      clock = c.self.inside.clock;
      sent = g.D.DatagramOut.sent c.self.inside.out;
      faults = g.D.DatagramOut.faults c.self.inside.out;
    } in
    let sent = g.D.DatagramOut.sent c.send.new.self in
    let faults = g.D.DatagramOut.faults c.send.new.self in
    subst (λ (v : DatagramSinkState g.row.C.Denot). OnOk c.send.result (Sends g.C.Clock.moments v (record old { sent = sent; faults = faults }) c.args.payload.now)) c.self.view_is
    (plain_sent c.send.result g.C.Clock.moments old sent faults c.args.payload.now c.in-Udp.is c.send.ensures.sent)
