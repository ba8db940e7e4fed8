-- The places before have no such key.
use Rattle.std.proofs.Common.{◌≡◌}
use Rattle.psk_keys.specs.Inside.Cached.{place_of}
use Rattle.psk_keys.proofs.cached.place_of.Given as goal

abbrev pub invariant-loop-place : goal.invariant-loop-place
invariant-loop-place l = place_of l.nonce l.places.entries ≡ place_of l.nonce l.place-iterator
