use Rattle.outside_net.specs.Links.{LinkTells}
use Rattle.rist_sender.proofs.PeerLemmas.{took_gained, took_all}
use Rattle.rist_sender.proofs.laws.a_link_with_its_peers_takes_all.Given as given
use Rattle.rist_sender.proofs.laws.a_link_with_its_peers_takes_all.Goals as goal

abbrev line_of : (g : given.Over) → LinkTells g.row.L.Denot
line_of g = record { reads = g.L.Link.reads; taken = g.L.Link.taken; knows = g.L.Link.knows; ends = g.L.Link.ends; faults = g.L.Link.faults }

pub returns-clause-one : goal.returns-clause-one
returns-clause-one g c = λ had has was is served few same known. took_gained (line_of g) had has was is served few same known

pub returns-clause-all : goal.returns-clause-all
returns-clause-all g c = λ flow session history were are link d served among few same known. took_all (line_of g) flow session history were are link d served among few same known
