use Rattle.std.proofs.Common.{map, refl, subst}
use Rattle.rist_rtt.specs.Echo.{first_request, echoes_in}
use Rattle.rist_sender.specs.Messages.{Retransmission}
use Rattle.rist_sender.specs.History.{effective_time}
use Rattle.rist_sender.specs.Calls.{Rules, status_at, WritesInTurn, on_link, packets_again}
use Rattle.rist_sender.proofs.AgainLemmas.{request_count, counts_from}
use Rattle.rist_sender.proofs.TurnLemmas.{does_then, does_weaker, writes_short}
use Rattle.rist_sender.proofs.sender.Sender.answer_compound.Goals as goal

pub returns-in-Ok-clause-does : goal.returns-in-Ok-clause-does
returns-in-Ok-clause-does g c = λ from stands fresh.
    let d = c.in-Ok.ensures.does from stands fresh in
    let e = c.send_again.ensures.does d.to d.stands d.fact.ends.pair in
    does_then _ c.args.self.now c.answer_request.new.self c.send_again.new.self c.args.links.now c.answer_request.new.links c.send_again.new.links from _ _ _ c.answer_request.auto.links c.in-Ok.ensures.set d e
    (λ to fact. record {
      answers = record {
        between = d.to;
        request = d.fact.writes;
        again = subst (λ (r : Rules). WritesInTurn (effective_time d.to.history) (on_link c.args.link (map Retransmission (packets_again r d.to.history c.args.compound.now))) d.to to) c.in-Ok.ensures.set.rules fact.writes;
      };
      ends = fact.ends;
      counts = counts_from c.send_again.result from d.to to
          (request_count (effective_time from.history) c.args.link (status_at c.args.us from.history) (first_request (echoes_in c.args.compound.now)) from d.to d.fact.writes) fact.counts;
    })

pub returns-in-Err-clause-does : goal.returns-in-Err-clause-does
returns-in-Err-clause-does g c = λ from stands fresh.
    let d = c.in-Err.ensures.does from stands fresh in
    does_weaker _ _ _ _ _ from _ _ d
    (λ to fact. record {
      answers = record { between = to; request = fact.writes; again = writes_short _ _ to (fact.ends.spent refl) fact.ends.pair };
      ends = fact.ends;
      counts = tt;
    })
