use Rattle.std.proofs.Common.{◌≡◌, ◌∙◌, ◌<◌, false, true, Bool, Option, refl, sym, ap, subst, arith}
use Rattle.psk_seal.specs.declared.sealer.Pair.{Pair}
use Rattle.rist_wire.specs.Writing.{next_pair, is_spent}
use Rattle.rist_wire.specs.Datagrams.{datagram_of}
use Rattle.rist_wire.specs.declared.item.Kind.TheVariants as kinds
use Rattle.rist_sender.specs.declared.answer.Answer.TheVariants.{Took}
use Rattle.rist_sender.specs.Messages.{Report, told_octets, message_datagram}
use Rattle.rist_sender.specs.History.{packet_count, octet_count}
use Rattle.rist_sender.specs.Calls.{status_at, after_write}
use Rattle.rist_sender.specs.Sender.{SenderState, IsSenderAfter}
use Rattle.rist_sender.proofs.EventLemmas.{report_after}
use Rattle.rist_sender.proofs.PutLemmas.{put_short, put_made, sealed_written, then_report, told_same, does_some}
use Rattle.rist_sender.proofs.sender.Sender.put_report.Goals as goal

pub returns-in-Err-clause-does : goal.returns-in-Err-clause-does
returns-in-Err-clause-does g c = λ from stands fresh.
    let few : c.args.link < 16 = omega arith in
    does_some _ _ _ _ _ from _ _ _ Took true (put_short _ c.args.self.now c.seal_control.new.self c.args.links.now c.args.links.now from c.args.self.now.time c.args.link (Report (status_at c.args.us from.history))
    stands (sym (stands.down c.args.link few) ∙ c.requires.up) (ap is_spent (sym stands.sealer) ∙ sym c.in-Err.ensures.spent) c.in-Err.ensures.same refl)

pub returns-clause-does : goal.returns-clause-does
returns-clause-does g c = λ from stands fresh.
    let old = c.args.self.now in
    let link = c.args.link in
    let a = c.write.result in
    let few : link < 16 = omega arith in
    let up = sym (stands.down link few) ∙ c.requires.up in
    let left = ap is_spent (sym stands.sealer) ∙ sym c.in-Ok.ensures.spent in
    let done = sealed_written old c.seal_control.new.self c.write.new.self link a c.in-Ok.ensures.state c.write.ensures.state in
    let state = then_report old c.write.new.self c.note_report.new.self link a done c.note_report.ensures.state in
    let pair : next_pair old.sealer ≡ next_pair from.sealer = ap next_pair stands.sealer in
    let spelled = c.in-Ok.ensures.datagram.octets ∙ ap (datagram_of old.session (next_pair old.sealer) kinds.Control) (c.octets.ensures.value ∙ c.told_of-compound.ensures.octets
    ∙ ap (λ (b : Bool). told_octets b c.self.inside.flow (record { micros = c.args.us; packets = c.self.inside.count; octets = c.self.inside.octets })) c.echo-asks.ensures.value
    ∙ ap (λ (s : SenderState). told_octets s.session.echo s.flow (record { micros = c.args.us; packets = s.count; octets = s.octets })) c.self.view_is
    ∙ told_same old.session.echo old.flow c.args.us old.count (packet_count from.history) old.octets (octet_count from.history) stands.count stands.octets)
    ∙ ap (λ (p : Option Pair). message_datagram old.flow old.session p (Report (status_at c.args.us from.history))) pair in
    does_some _ _ _ _ _ from _ _ _ a false (put_made _ old c.note_report.new.self c.args.links.now c.write.new.links from old.time link (Report (status_at c.args.us from.history)) a _ _ up left fresh
    (subst (λ (s : SenderState). IsSenderAfter s (after_write old.time (record { link = link; message = (Report (status_at c.args.us from.history)) }) a from)) (sym state)
    (report_after old from link (status_at c.args.us from.history) a stands few))
    c.write.ensures.writes c.in-Ok.ensures.datagram.channel spelled)
