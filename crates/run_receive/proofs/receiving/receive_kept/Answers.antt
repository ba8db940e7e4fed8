-- What was made is what the line says, and what the run left is the line's.
use Rattle.std.proofs.Common.{◌∙◌, Some, subst}
use Rattle.outside_net.specs.Links.{LinkTells}
use Rattle.desk_run.specs.Run.{Receives, outside}
use Rattle.rist_words.specs.Shown.{shown_recv}
use Rattle.run_receive.specs.Sessions.{limits_received}
use Rattle.run_links.proofs.KeptLemmas.{kept_some}
use Rattle.run_receive.proofs.EndsLemmas.{received_ends}
use Rattle.run_receive.proofs.ReceiveLemmas.{same_setup}
use Rattle.run_receive.proofs.receiving.receive_kept.Goals as goal

pub returns-clause-work : goal.returns-clause-work
returns-clause-work g c =
    let line = shown_recv c.args.line.now in
    let tells : LinkTells g.row.L.Denot = record { reads = g.L.Link.reads; taken = g.L.Link.taken; knows = g.L.Link.knows; ends = g.L.Link.ends; faults = g.L.Link.faults } in
    let setup =
    c.in-Ok.ensures.setup
    ∙ same_setup line _ _ c.args.sealer (Some line.serving.keep) c.settings_of.ensures.value c.session_of-session.ensures.value
    (kept_some line.serving.keep c.requires.kept) in
    record {
      ending = c.receive_on-ending.result.ending;
      answer = c.receive_status.ensures.value;
      run = subst
          (λ s. Receives g.C.Clock.moments tells s (limits_received line) (outside c.args.links.now.items c.args.clocks.now.items (g.K.Sink.contents c.args.sink) (g.K.Sink.faults c.args.sink)) (outside c.receive_on-ending.new.links.items c.receive_on-ending.new.clocks.items (g.K.Sink.contents c.receive_on-ending.result.sink) (g.K.Sink.faults c.receive_on-ending.result.sink))
          c.receive_on-ending.result.counts c.receive_on-ending.result.ending) setup c.receive_on-ending.ensures.work;
    }

pub returns-clause-ends : goal.returns-clause-ends
returns-clause-ends g c = received_ends _ _ _ _ _ _ _ _ _ _ _ _ _ c.requires.fresh (returns-clause-work g c)
