use Rattle.std.proofs.Common.{◌≡◌, length}
use Rattle.rtcp_compound.specs.Chunks.{after_items}
use Rattle.rtcp_compound.proofs.reading.past_items.Given as goal

abbrev pub invariant-loop-rest : goal.invariant-loop-rest
invariant-loop-rest l = after_items 0 l.rest ≡ after_items 0 l.octets

abbrev pub decreases-loop-rest : goal.decreases-loop-rest
decreases-loop-rest l = length l.rest
