use Rattle.std.proofs.Common.{◌∙◌, ℕ, List, take, map, Option, Ok, Err, refl, sym, ap, subst}
use Rattle.block_source.specs.Reading.{ReadsPiece}
use Rattle.rist_send.specs.Inside.Moves.{with_source}
use Rattle.rist_send.proofs.MoveLemmas.{moves_none, moves_as, rebased}
use Rattle.rist_send.proofs.piece.bring_piece.Goals as goal

pub returns-in-Err-clause-work : goal.returns-in-Err-clause-work
returns-in-Err-clause-work g c = λ settings from at.
    let left = g.S.Source.remaining c.read_octets.new.source in
    let payloads = g.S.LiveSource.payloads c.read_octets.new.source in
    moves_none _ c.args.sender.now c.args.progress.now (with_source from left payloads (map g.L.Link.reads c.args.links.now)) c.args.links.now from _ (record from { octets = left; payloads = payloads }) refl
    (record { sender = at.sender; progress = at.progress; moments = refl; octets = refl; payloads = refl; answers = at.answers })
    (record {
      untold = at.payloads ∙ c.requires.untold;
      payloads = payloads;
      left = left;
      reading = Err c.in-Err.fault;
      reads = subst (λ (had : Option (List ℕ)). ReadsPiece c.args.k had left (Err c.in-Err.fault)) (sym at.octets) c.in-Err.ensures.value;
      sends = (ap Err c.unread.ensures.value, refl);
    })

pub returns-in-Ok-clause-work : goal.returns-in-Ok-clause-work
returns-in-Ok-clause-work g c = λ settings from at.
    let k = c.args.k in
    let left = g.S.Source.remaining c.read_octets.new.source in
    let payloads = g.S.LiveSource.payloads c.read_octets.new.source in
    let piece = take c.in-Ok.count c.read_octets.new.piece in
    let given = record from { octets = left; payloads = payloads } in
    moves_as _ c.args.sender.now c.send_read.new.sender c.send_read.new.progress _ _ c.args.links.now c.send_read.new.links from _ _
    (rebased _ c.args.sender.now c.send_read.new.sender c.send_read.new.progress _ c.args.links.now c.send_read.new.links from given _ refl
    (c.send_read.ensures.work settings given (record { sender = at.sender; progress = at.progress; moments = refl; octets = refl; payloads = refl; answers = at.answers })))
    (λ to is. record { sender = is.sender; progress = is.progress; moments = is.moments; octets = is.octets; payloads = is.payloads; answers = is.answers })
    (λ to fact. record {
      untold = at.payloads ∙ c.requires.untold;
      payloads = payloads;
      left = left;
      reading = Ok piece;
      reads = subst (λ (had : Option (List ℕ)). ReadsPiece k had left (Ok piece)) (sym at.octets) c.in-Ok.ensures.value;
      sends = fact;
    })
