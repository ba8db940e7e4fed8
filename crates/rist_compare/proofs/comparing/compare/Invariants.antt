use Rattle.std.proofs.Common.{◌≡◌, ◌<◌, ℕ, map}
use Rattle.rist_compare.specs.Tears.{of, own_of}
use Rattle.rist_compare.proofs.comparing.compare.Given as goal

-- the lists of all links so far agree
abbrev pub invariant-loop-link : goal.invariant-loop-link
invariant-loop-link g l = (link : ℕ) → link < l.link → of link l.kept ≡ own_of link (map g.W.OwnSteps.own l.workers)
