use Rattle.std.proofs.Common.{◌≡◌, ◌∙◌, None, map, refl, sym}
use mathlib.Core.Logic.{inl, inr}
use Rattle.rist_send.specs.Inside.Moves.{with_source}
use Rattle.rist_send.proofs.MoveLemmas.{moves_none, moves_as}
use Rattle.rist_send.proofs.WaitingLemmas.{never_later, said_no, untold_by}
use Rattle.rist_send.proofs.piece.bring_ready.Goals as goal

pub returns-then-not-gather-clause-work : goal.returns-then-not-gather-clause-work
returns-then-not-gather-clause-work g c = λ settings from at.
    let none : from.octets ≡ None = at.octets ∙ untold_by (g.S.Source.remaining c.args.source.now) c.if-not-gather.ensures.told in
    moves_none _ c.args.sender.now c.args.progress.now (with_source from (g.S.Source.remaining c.gather.new.self) (g.S.LiveSource.payloads c.gather.new.self) (map g.L.Link.reads c.args.links.now)) c.args.links.now from _ from refl
    (record { sender = at.sender; progress = at.progress; moments = refl; octets = at.octets ∙ sym c.if-not-gather.ensures.same; payloads = at.payloads ∙ sym c.if-not-gather.ensures.payloads; answers = at.answers })
    (inr (inr (record { untold = none; stays = (refl, refl) })))

pub returns-then-is_in_datagrams-clause-work : goal.returns-then-is_in_datagrams-clause-work
returns-then-is_in_datagrams-clause-work g c = λ settings from at.
    moves_as _ c.args.sender.now c.bring_payload.new.sender c.bring_payload.new.progress _ _ c.args.links.now c.bring_payload.new.links from _ _
    (c.bring_payload.ensures.work settings from (record { sender = at.sender; progress = at.progress; moments = refl; octets = at.octets ∙ sym c.if-not-gather.ensures.same; payloads = at.payloads ∙ sym c.if-not-gather.ensures.payloads; answers = at.answers }))
    (λ to is. is) (λ to fact. inr (inl fact))

pub returns-else-is_in_datagrams-clause-work : goal.returns-else-is_in_datagrams-clause-work
returns-else-is_in_datagrams-clause-work g c = λ settings from at.
    moves_as _ c.args.sender.now c.bring_piece.new.sender c.bring_piece.new.progress _ _ c.args.links.now c.bring_piece.new.links from _ _
    (c.bring_piece.ensures.work settings from (record { sender = at.sender; progress = at.progress; moments = refl; octets = at.octets ∙ sym c.if-not-gather.ensures.same; payloads = at.payloads ∙ sym c.if-not-gather.ensures.payloads; answers = at.answers }))
    (λ to is. is) (λ to fact. inl fact)

pub returns-then-not-gather-clause-waits : goal.returns-then-not-gather-clause-waits
returns-then-not-gather-clause-waits g c = λ n. record {
  never = never_later _ _ c.if-not-gather.ensures.ready n;
  faults = c.if-not-gather.ensures.faults;
  stage = refl;
}

pub returns-then-not-gather-clause-said : goal.returns-then-not-gather-clause-said
returns-then-not-gather-clause-said g c = λ answers told is. absurd (said_no (g.S.LiveSource.ready c.args.source.now) answers c.if-not-gather.ensures.value told is)

pub returns-then-is_in_datagrams-clause-said : goal.returns-then-is_in_datagrams-clause-said
returns-then-is_in_datagrams-clause-said g c = λ answers told is settings from at.
    moves_as _ c.args.sender.now c.bring_payload.new.sender c.bring_payload.new.progress _ _ c.args.links.now c.bring_payload.new.links from _ _
    (c.bring_payload.ensures.work settings from (record { sender = at.sender; progress = at.progress; moments = refl; octets = at.octets ∙ sym c.if-not-gather.ensures.same; payloads = at.payloads ∙ sym c.if-not-gather.ensures.payloads; answers = at.answers }))
    (λ to is. is) (λ to fact. inr fact)

pub returns-else-is_in_datagrams-clause-said : goal.returns-else-is_in_datagrams-clause-said
returns-else-is_in_datagrams-clause-said g c = λ answers told is settings from at.
    moves_as _ c.args.sender.now c.bring_piece.new.sender c.bring_piece.new.progress _ _ c.args.links.now c.bring_piece.new.links from _ _
    (c.bring_piece.ensures.work settings from (record { sender = at.sender; progress = at.progress; moments = refl; octets = at.octets ∙ sym c.if-not-gather.ensures.same; payloads = at.payloads ∙ sym c.if-not-gather.ensures.payloads; answers = at.answers }))
    (λ to is. is) (λ to fact. inl fact)
