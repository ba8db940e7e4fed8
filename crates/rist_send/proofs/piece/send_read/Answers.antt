use Rattle.std.proofs.Common.{◌≡◌, ◌∙◌, ◌<◌, ◌++◌, map, length, Result, Ok, Err, refl, sym, ap, subst, arith}
use Rattle.std.proofs.lemmas.Bool.{eqb-true, eqb-false}
use Rattle.rist_sender.specs.Calls.{Sends}
use Rattle.rist_sender.specs.Sender.{rules_of}
use Rattle.sender_rules.specs.declared.send_bad.SendBad.{SendBad}
use Rattle.rist_send.specs.declared.progress.Progress.{Progress}
use Rattle.rist_send.specs.Run.{setup_of}
use Rattle.rist_send.specs.Turns.{sent_with, stage_after, with_piece}
use Rattle.rist_send.specs.Inside.Moves.{with_links}
use Rattle.rist_send.proofs.MoveLemmas.{moves_none, moves_call}
use Rattle.rist_send.proofs.PieceLemmas.{sends_none, sends_some}
use Rattle.rist_send.proofs.piece.send_read.Goals as goal

pub returns-then-is_empty-clause-work : goal.returns-then-is_empty-clause-work
returns-then-is_empty-clause-work g c = λ settings from at.
    let k = c.args.k in
    let least = c.args.least in
    let piece = c.args.piece.now in
    let setup = setup_of settings c.args.sender.now (length c.args.links.now) in
    let stage : stage_after from.progress.moment k least (length piece) ≡ c.stage_after-progress.result =
    ap (λ (p : Progress). stage_after p.moment k least (length piece)) at.progress ∙ sym c.stage_after-progress.ensures.value in
    moves_none _ c.args.sender.now (record c.args.progress.now { stage = c.stage_after-progress.result }) (with_links from (map g.L.Link.reads c.args.links.now)) c.args.links.now from _ (with_piece k least (length piece) from) refl
    (record { sender = at.sender; progress = λ i. record (at.progress i) { stage = stage i }; moments = refl; octets = refl; payloads = refl; answers = at.answers })
    (sends_none setup k least piece from (eqb-true _ _ (sym c.if-is_empty.ensures)))

pub returns-in-Ok-clause-work : goal.returns-in-Ok-clause-work
returns-in-Ok-clause-work g c = λ settings from at.
    let sender = c.args.sender.now in
    let links = c.args.links.now in
    let k = c.args.k in
    let least = c.args.least in
    let piece = c.args.piece.now in
    let setup = setup_of settings sender (length links) in
    let some : 0 < length piece = omega (arith, eqb-false _ _ (sym c.if-is_empty.ensures)) in
    let answer : Result Unit SendBad = Ok tt in
    let read = with_piece k least (length piece) from in
    let base = record read { sent = read.sent ++ sent_with piece answer } in
    let stage : stage_after from.progress.moment k least (length piece) ≡ c.stage_after-progress.result =
    ap (λ (p : Progress). stage_after p.moment k least (length piece)) at.progress ∙ sym c.stage_after-progress.ensures.value in
    moves_call _ sender c.send.new.self (record c.args.progress.now { stage = c.stage_after-progress.result }) (with_links from (map g.L.Link.reads links)) links c.send.new.links from base _ _ refl c.send.auto.links refl
    (record { sender = at.sender; progress = λ i. record (at.progress i) { stage = stage i }; moments = refl; octets = refl; payloads = refl; answers = at.answers })
    (c.in-Ok.ensures.work from.work at.sender)
    (λ w fact. sends_some setup k least piece (Ok tt) from (record base { work = w }) some (record {
      answer = answer;
      sends = subst (λ (p : Progress). Sends (rules_of sender) (length links) p.moment piece answer from.work w) (sym at.progress) fact;
      answers = refl;
      is = refl;
    }))

pub returns-in-Err-clause-work : goal.returns-in-Err-clause-work
returns-in-Err-clause-work g c = λ settings from at.
    let sender = c.args.sender.now in
    let links = c.args.links.now in
    let k = c.args.k in
    let least = c.args.least in
    let piece = c.args.piece.now in
    let setup = setup_of settings sender (length links) in
    let some : 0 < length piece = omega (arith, eqb-false _ _ (sym c.if-is_empty.ensures)) in
    let answer : Result Unit SendBad = Err c.in-Err.bad in
    let read = with_piece k least (length piece) from in
    let base = record read { sent = read.sent ++ sent_with piece answer } in
    let stage : stage_after from.progress.moment k least (length piece) ≡ c.stage_after-progress.result =
    ap (λ (p : Progress). stage_after p.moment k least (length piece)) at.progress ∙ sym c.stage_after-progress.ensures.value in
    moves_call _ sender c.send.new.self (record c.args.progress.now { stage = c.stage_after-progress.result }) (with_links from (map g.L.Link.reads links)) links c.send.new.links from base _ _ refl c.send.auto.links refl
    (record { sender = at.sender; progress = λ i. record (at.progress i) { stage = stage i }; moments = refl; octets = refl; payloads = refl; answers = at.answers })
    (c.in-Err.ensures.work from.work at.sender)
    (λ w fact. sends_some setup k least piece (Err c.refusal.result) from (record base { work = w }) some (record {
      answer = answer;
      sends = subst (λ (p : Progress). Sends (rules_of sender) (length links) p.moment piece answer from.work w) (sym at.progress) fact;
      answers = ap Err c.refusal.ensures.value;
      is = refl;
    }))
