use Rattle.std.proofs.Common.{◌∙◌, arith}
use Rattle.datagram_ends.proofs.SendLemmas.{all_parts, front_parts, one_more, stopped}
use Rattle.datagram_ends.proofs.datagram_sink.DatagramSink.send_parts.Goals as goal

pub returns-in_err-send-clause-front : goal.returns-in_err-send-clause-front
returns-in_err-send-clause-front g c =
    stopped c.from_residual.result g.C.Clock.moments c.args.self.now c.loop-rest.self c.send.new.self c.args.piece.now c.loop-rest.rest.now c.loop-rest.invariant.sent
    c.in_err-send.ensures.err

pub loop-rest-preserved : goal.loop-rest-preserved
loop-rest-preserved g c = record {
  faults = c.in_ok-send.ensures.cause ∙ c.loop-rest.invariant.faults;
  sent =
      one_more g.C.Clock.moments c.args.self.now c.loop-rest.self c.send.new.self c.args.piece.now c.loop-rest.rest.now c.split_at.result.0.now
      c.split_at.result.1.now c.loop-rest.invariant.sent (omega arith) c.split_at.ensures.front c.split_at.ensures.back c.in_ok-send.ensures.sent;
}

pub returns-clause-parts : goal.returns-clause-parts
returns-clause-parts g c =
    all_parts c.send-2.result g.C.Clock.moments c.args.self.now c.loop-rest.self c.send-2.new.self c.args.piece.now c.loop-rest.rest.now c.loop-rest.invariant.sent
    (omega arith) c.send-2.ensures.sent

pub returns-clause-front : goal.returns-clause-front
returns-clause-front g c =
    front_parts c.send-2.result g.C.Clock.moments c.args.self.now c.loop-rest.self c.send-2.new.self c.args.piece.now c.loop-rest.rest.now c.loop-rest.invariant.sent
    c.send-2.ensures.err
