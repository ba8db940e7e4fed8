use Rattle.std.proofs.Common.{◌≡◌, ◌+◌, ◌-◌, ◌++◌, List, ℕ, length, take, sym, ap, ◌∙◌, arith}
use Rattle.std.proofs.Math.Seq.{take-length}
use Rattle.std.proofs.lemmas.Slice.{take-put_mid}
use Rattle.ipv4_udp.specs.Ip.{spelling as ip_spelling}
use Rattle.ipv4_udp.specs.declared.writing.IpHead.{IpHead}
use Rattle.ipv4_udp.specs.Writing.{datagram_with, written_fields}
use Rattle.rist_wire.specs.Datagrams.{full_octets}
use Rattle.rist_wire.proofs.SealLemmas.{length-between}
use Rattle.rist_wire.proofs.sealing.put_full.Goals as goal

pub returns-clause-octets : goal.returns-clause-octets
unfolding full_octets
returns-clause-octets c =
    let out = c.args.out.now in
    let end = c.args.at + 28 + length c.args.message.now in
    let long : length c.write.new.out ≡ end - c.args.at = c.write.auto.out ∙ length-between c.args.at end out (omega arith) (omega (arith, c.fits-out)) in
    let whole : take c.write.result c.write.new.out ≡ c.write.new.out =
    ap (λ n. take n c.write.new.out) (omega (arith, c.write.ensures.count, long)) ∙ take-length c.write.new.out in
    take-put_mid c.args.at (end - c.args.at) out c.write.new.out end (omega (arith, long)) (omega (arith, c.fits-out))
    ∙ ap (λ (x : List ℕ). take c.args.at out ++ x)
    (sym whole ∙ c.write.ensures.octets
    ∙ ap (λ (head : IpHead). ip_spelling (datagram_with head c.args.message.now) (written_fields (datagram_with head c.args.message.now))) c.full_head.ensures.value)
