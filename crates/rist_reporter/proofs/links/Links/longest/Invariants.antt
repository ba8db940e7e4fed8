use Rattle.std.proofs.Common.{◌≡◌}
use Rattle.rist_reporter.specs.Links.{longest_of}
use Rattle.rist_reporter.proofs.links.Links.longest.Given as goal

abbrev pub invariant-loop-link : goal.invariant-loop-link
invariant-loop-link l = l.longest ≡ longest_of l.link l.self.rtts
