use Rattle.std.proofs.Common.{refl}
use Rattle.datagram_ends.proofs.SendLemmas.{front_parts}
use Rattle.datagram_ends.proofs.datagram_sink.DatagramSinkSink.put.Goals as goal

pub returns-then-piece-le-MAX_PAYLOAD-clause-front : goal.returns-then-piece-le-MAX_PAYLOAD-clause-front
returns-then-piece-le-MAX_PAYLOAD-clause-front g c =
    front_parts c.send.result g.C.Clock.moments c.args.self.now c.args.self.now c.send.new.self c.args.piece.now c.args.piece.now (0, refl, refl) c.send.ensures.err
