-- What the parts of a receiving leave is what its line does.
use Rattle.run_receive.proofs.DoesReceiveLemmas.{does_receive}
use Rattle.run_receive.proofs.receiving.receive_unwatched.Goals as goal

pub returns-clause-does : goal.returns-clause-does
returns-clause-does g c =
    let e = c.receive_into_sink.ensures in
    does_receive _ _ _ _ _ _ (g.H.Host.shelf c.args.host.now) (g.H.Host.shelf c.receive_into_sink.new.host) c.receive_into_sink.result
    c.requires.range e.ends e.opened e.received e.unreceived e.around e.links_opened e.links_tried e.order e.random
