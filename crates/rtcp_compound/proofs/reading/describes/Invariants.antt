use Rattle.std.proofs.Common.{◌≡◌, ◌-◌}
use Rattle.rtcp_compound.specs.Chunks.{after_chunks}
use Rattle.rtcp_compound.proofs.reading.describes.Given as goal

abbrev pub invariant-loop : goal.invariant-loop
invariant-loop l = after_chunks (l.count - l.counter) l.rest ≡ after_chunks l.count l.body
