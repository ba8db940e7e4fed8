-- What is counted, and what is left.
use Rattle.std.proofs.Common.{◌≡◌, ◌+◌, length}
use Rattle.psk_keys.specs.Inside.Cached.{nonces_of}
use Rattle.psk_keys.proofs.cached.filled_places.Given as goal

abbrev pub invariant-loop-kept : goal.invariant-loop-kept
invariant-loop-kept l = l.count + length (nonces_of l.kept-iterator) ≡ length (nonces_of l.places.entries)
