-- What was made is what the line says, and what the run left is the line's.
use Rattle.std.proofs.Common.{◌∙◌, None, subst}
use Rattle.outside_net.specs.Links.{LinkTells}
use Rattle.desk_run.specs.Run.{Receives, outside}
use Rattle.rist_words.specs.Shown.{shown_recv}
use Rattle.run_receive.specs.Sessions.{limits_received}
use Rattle.run_links.proofs.KeptLemmas.{kept_none}
use Rattle.run_receive.proofs.EndsLemmas.{received_ends}
use Rattle.run_receive.proofs.ReceiveLemmas.{same_setup}
use Rattle.run_receive.proofs.receiving.receive_turning.Goals as goal

pub returns-in-Ok-receive_in_turns-clause-work : goal.returns-in-Ok-receive_in_turns-clause-work
returns-in-Ok-receive_in_turns-clause-work g c =
    let line = shown_recv c.args.line.now in
    let tells : LinkTells g.row.L.Denot = record { reads = g.L.Link.reads; taken = g.L.Link.taken; knows = g.L.Link.knows; ends = g.L.Link.ends; faults = g.L.Link.faults } in
    let setup =
    c.in-Ok.ensures.setup
    ∙ same_setup line _ _ c.args.sealer None c.settings_of-settings.ensures.value c.session_of-session.ensures.value
    (kept_none line.serving.keep c.requires.none) in
    let ran = c.in-Ok-receive_in_turns.field-0 in
    record {
      ending = ran.ending;
      answer = c.receive_status.ensures.value;
      run = subst
          (λ s. Receives g.C.Clock.moments tells s (limits_received line) (outside c.args.links.now.items c.args.clocks.now.items (g.K.Sink.contents c.args.sink) (g.K.Sink.faults c.args.sink)) (outside c.receive_in_turns.new.links.items c.receive_in_turns.new.clocks.items (g.K.Sink.contents ran.sink) (g.K.Sink.faults ran.sink))
          ran.counts ran.ending) setup c.in-Ok-receive_in_turns.ensures.work;
    }

pub returns-in-Ok-receive_in_turns-clause-ends : goal.returns-in-Ok-receive_in_turns-clause-ends
returns-in-Ok-receive_in_turns-clause-ends g c = received_ends _ _ _ _ _ _ _ _ _ _ _ _ _ c.requires.fresh (returns-in-Ok-receive_in_turns-clause-work g c)
