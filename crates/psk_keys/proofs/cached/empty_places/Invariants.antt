-- The places so far.
use Rattle.std.proofs.Common.{◌≡◌}
use Rattle.lru.specs.LruCache.{lru_cache}
use Rattle.psk_keys.specs.Inside.Cached.{empty_places}
use Rattle.psk_keys.proofs.cached.empty_places.Given as goal

abbrev pub invariant-loop-place : goal.invariant-loop-place
invariant-loop-place l = l.places ≡ lru_cache (empty_places l.place) 4
