use Rattle.std.proofs.Common.{List, ℕ, arith}
use Rattle.rist_wire.specs.Datagrams.{sealed_text, header_octets, text_for}
use Rattle.rist_wire.proofs.SealLemmas.{sealed-whole}
use Rattle.rist_wire.proofs.sealing.put_tunnel.Goals as goal

pub returns-clause-octets : goal.returns-clause-octets
returns-clause-octets c =
    sealed-whole c.put_header-from.result c.put_text-end.result c.put_header-from.new.out c.put_text-end.new.out c.seal.new.out
    (header_octets c.args.session.now.tunnel c.args.session.now.bits c.args.session.now.full c.args.pair c.args.kind)
    (text_for c.args.session.now.full c.args.session.now.port c.args.kind c.args.message.now)
    (λ (text : List ℕ). sealed_text c.args.session.now c.args.pair text)
    c.put_header-from.ensures.octets (omega (arith, c.put_header-from.array_long)) c.put_text-end.ensures.octets c.put_text-end.ensures.after c.seal.ensures.octets
