use Rattle.std.proofs.Common.{◌≡◌, sym, ◌∙◌, arith}
use Rattle.link_channels.specs.declared.profile.Profile.TheVariants.{Simple, Main}
use Rattle.rist_wire.specs.Datagrams.{channel_on, datagram_on}
use Rattle.rist_wire.proofs.BackLemmas.{datagram-from}
use Rattle.rist_wire.proofs.sealing.put_datagram.Goals as goal

pub returns-in-Simple-clause-datagram : goal.returns-in-Simple-clause-datagram
returns-in-Simple-clause-datagram c =
    let session = c.args.session.now in
    let simple : session.profile ≡ Simple = c.in-Simple.is in
    datagram-from session c.args.pair c.args.kind c.args.message.now _ _ c.requires.session
    (λ main. let wrong : Simple ≡ Main = sym simple ∙ main in cc) c.requires.paired c.requires.tunnel
    (λ full. record { are = λ i. omega (arith, c.type_inv.message i); few = c.requires.room })
    (c.put_simple.ensures.channel ∙ (λ i. channel_on (sym simple i) c.args.kind))
    (c.put_simple.ensures.octets ∙ (λ i. datagram_on (sym simple i) session c.args.pair c.args.kind c.args.message.now))

pub returns-in-Main-clause-datagram : goal.returns-in-Main-clause-datagram
returns-in-Main-clause-datagram c =
    let session = c.args.session.now in
    let in-main : session.profile ≡ Main = c.in-Main.is in
    datagram-from session c.args.pair c.args.kind c.args.message.now _ _ c.requires.session
    (λ main. c.put_tunnel.ensures.fits) c.requires.paired c.requires.tunnel
    (λ full. record { are = λ i. omega (arith, c.type_inv.message i); few = c.requires.room })
    (λ i. channel_on (sym in-main i) c.args.kind)
    (c.put_tunnel.ensures.octets ∙ (λ i. datagram_on (sym in-main i) session c.args.pair c.args.kind c.args.message.now))
