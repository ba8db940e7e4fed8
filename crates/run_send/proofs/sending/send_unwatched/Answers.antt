-- What the parts leave is what the line does.
use Rattle.run_send.proofs.DoesSendLemmas.{does_send}
use Rattle.run_send.proofs.sending.send_unwatched.Goals as goal

pub returns-clause-does : goal.returns-clause-does
returns-clause-does g c =
    let e = c.send_from_source.ensures in
    does_send _ _ _ _ _ _ (g.H.Host.shelf c.args.host.now) (g.H.Host.shelf c.send_from_source.new.host) c.send_from_source.result
    c.requires.range e.ends e.opened e.sent e.unsent e.around e.links_opened e.links_tried e.order e.random
