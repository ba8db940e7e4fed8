-- Each is in a place of its own.
use Rattle.std.proofs.Common.{length, ap, arith}
use Rattle.psk_keys.specs.declared.keys.Keys.{Keys}
use Rattle.psk_keys.proofs.KeyLemmas.{no_more_nonces}
use Rattle.psk_keys.proofs.keys.Keys.cached.Goals as goal

pub returns-clause-within : goal.returns-clause-within
returns-clause-within c =
    omega (arith, no_more_nonces c.self.inside.places.entries, c.self.invariant.0.four, ap (λ (k : Keys). length k.cached) c.self.view_is)
