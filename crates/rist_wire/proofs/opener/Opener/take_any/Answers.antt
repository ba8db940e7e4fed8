-- The item of the message that was found.
use Rattle.std.proofs.Common.{◌∙◌, ap, refl}
use Rattle.rist_wire.specs.declared.session.Session.{Session}
use Rattle.rist_wire.specs.Item.{item_in, item_of, message_of}
use Rattle.rist_wire.specs.Among.{item_among, message_among, place_among, placed, session_at}
use Rattle.rist_wire.proofs.AmongLemmas.{found_as, refused_as}
use Rattle.rist_wire.proofs.opener.Opener.take_any.Goals as goal

pub returns-in-Ok-item-clause-value : goal.returns-in-Ok-item-clause-value
unfolding item_among item_of message_among
returns-in-Ok-item-clause-value c =
    let session = c.args.self.now in
    let place = place_among c.args.ports.now session c.args.channel c.args.octets.now in
    let message = message_of (session_at c.args.ports.now place session) c.args.channel c.args.octets.now in
    ap (placed c.in-Ok.place) c.in-Ok-item.ensures.value
    ∙ (found_as (item_in c.self.inside.session.tunnel) place c.in-Ok.place _ message c.in-Ok.ensures.message
    ∙ ap (λ (s : Session). placed place (item_in s.tunnel message)) c.self.view_is)

pub returns-in-Err-item-clause-value : goal.returns-in-Err-item-clause-value
unfolding item_among item_of message_among
returns-in-Err-item-clause-value c =
    let session = c.args.self.now in
    let place = place_among c.args.ports.now session c.args.channel c.args.octets.now in
    let message = message_of (session_at c.args.ports.now place session) c.args.channel c.args.octets.now in
    ap (placed c.in-Ok.place) c.in-Err-item.ensures.value
    ∙ (found_as (item_in c.self.inside.session.tunnel) place c.in-Ok.place _ message c.in-Ok.ensures.message
    ∙ ap (λ (s : Session). placed place (item_in s.tunnel message)) c.self.view_is)

pub returns-in-Err-clause-value : goal.returns-in-Err-clause-value
unfolding item_among item_of message_among
returns-in-Err-clause-value c =
    let session = c.args.self.now in
    let place = place_among c.args.ports.now session c.args.channel c.args.octets.now in
    refused_as (item_in session.tunnel) (λ bad. refl) place c.in-Err.bad (message_of (session_at c.args.ports.now place session) c.args.channel c.args.octets.now) c.in-Err.ensures.message
