use Rattle.std.proofs.Common.{◌≡◌, ◌<◌, ◌/◌, ◌%◌, ℕ, get_or, length}
use Rattle.made_script.specs.Payload.{octet_of}
use Rattle.made_script.proofs.payload.payload_of.Given as goal

abbrev pub invariant-loop-place : goal.invariant-loop-place
invariant-loop-place l = (length l.octets ≡ 1316) × ((k : ℕ) → k < l.place → get_or l.octets k 0 ≡ octet_of l.fn.payload (k / 188) (k % 188))
