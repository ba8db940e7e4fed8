use Rattle.std.proofs.Common.{◌≡◌, None, drop}
use Rattle.link_words.specs.Hosts.{last_first}
use Rattle.link_words.proofs.hosts.last_first.Given as goal

abbrev pub invariant-loop-octet : goal.invariant-loop-octet
invariant-loop-octet l = last_first None l.host ≡ last_first l.first (drop l.octet-index l.host)
