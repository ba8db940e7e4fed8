use Rattle.std.proofs.Common.{sym}
use Rattle.retransmit_store.specs.State.{packets_in}
use Rattle.rist_sender.specs.Inside.Kept.{IsSendable}
use Rattle.rist_sender.proofs.KeptLemmas.{all_with}
use Rattle.rist_sender.proofs.sender.Sender.seal_again.Goals as goal

pub seal_packet-requires-clause-sendable : goal.seal_packet-requires-clause-sendable
seal_packet-requires-clause-sendable c =
    all_with (IsSendable c.self.inside.shutter.session.nulls) (packets_in c.self.inside.store) c.args.number c.in-Some.sent.now c.self.invariant.sendable
    (sym c.in-Some.ensures.value)
