use Rattle.std.proofs.Common.{◌∙◌, ℕ, List, take, map, Option, Ok, Err, refl, sym, ap, subst}
use Rattle.rist_send.specs.Payloads.{ReadsPayload}
use Rattle.rist_send.specs.Inside.Moves.{with_source}
use Rattle.rist_send.proofs.MoveLemmas.{moves_none, moves_as, rebased}
use Rattle.rist_send.proofs.piece.bring_payload.Goals as goal

pub returns-in-Err-clause-work : goal.returns-in-Err-clause-work
returns-in-Err-clause-work g c = λ settings from at.
    let octets = g.S.Source.remaining c.read_next.new.source in
    let left = g.S.LiveSource.payloads c.read_next.new.source in
    moves_none _ c.args.sender.now c.args.progress.now (with_source from octets left (map g.L.Link.reads c.args.links.now)) c.args.links.now from _ (record from { payloads = left }) refl
    (record { sender = at.sender; progress = at.progress; moments = refl; octets = at.octets ∙ sym c.read_next.ensures.same; payloads = refl; answers = at.answers })
    (record {
      untold = at.octets ∙ c.requires.untold;
      left = left;
      reading = Err c.in-Err.fault;
      reads = subst (λ (had : Option (List (List ℕ))). ReadsPayload c.args.k had left (Err c.in-Err.fault)) (sym at.payloads) c.in-Err.ensures.value;
      sends = (ap Err c.unread.ensures.value, refl);
    })

pub returns-in-Ok-clause-work : goal.returns-in-Ok-clause-work
returns-in-Ok-clause-work g c = λ settings from at.
    let k = c.args.k in
    let octets = g.S.Source.remaining c.read_next.new.source in
    let left = g.S.LiveSource.payloads c.read_next.new.source in
    let payload = take c.in-Ok.count c.read_next.new.block in
    let given = record from { payloads = left } in
    moves_as _ c.args.sender.now c.send_read.new.sender c.send_read.new.progress _ _ c.args.links.now c.send_read.new.links from _ _
    (rebased _ c.args.sender.now c.send_read.new.sender c.send_read.new.progress _ c.args.links.now c.send_read.new.links from given _ refl
    (c.send_read.ensures.work settings given (record { sender = at.sender; progress = at.progress; moments = refl; octets = refl; payloads = refl; answers = at.answers })))
    (λ to is. record { sender = is.sender; progress = is.progress; moments = is.moments; octets = is.octets ∙ at.octets ∙ sym c.read_next.ensures.same; payloads = is.payloads; answers = is.answers })
    (λ to fact. record {
      untold = at.octets ∙ c.requires.untold;
      left = left;
      reading = Ok payload;
      reads = subst (λ (had : Option (List (List ℕ))). ReadsPayload k had left (Ok payload)) (sym at.payloads) c.in-Ok.ensures.value;
      sends = fact;
    })
