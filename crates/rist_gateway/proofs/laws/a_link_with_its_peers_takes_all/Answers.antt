use Rattle.rist_sender.proofs.PeerLemmas.{took_all}
use Rattle.rist_gateway.specs.Onward.{plain}
use Rattle.rist_gateway.proofs.laws.a_link_with_its_peers_takes_all.Goals as goal

pub returns : goal.returns
returns c = record {
  taken = λ first last is link d among few same known.
      took_all plain first.sender.flow first.sender.session is.moved.to.work.history first.links last.links link d is.moved.given among few same known;
}
