-- One place more, which is new.
use Rattle.std.proofs.Common.{◌∙◌, [], List, Option, None, ap, arith, ℕ, nat_eq}
use Rattle.lru.specs.LruCache.{LruCache, lru_cache, put_entries}
use Rattle.psk_keys.specs.declared.cached.Cached.{Cached}
use Rattle.psk_keys.proofs.KeyLemmas.{one_more}
use Rattle.psk_keys.proofs.cached.empty_places.Goals as goal

pub loop-place-init : goal.loop-place-init
loop-place-init c = c.in_ok-places.ensures ∙ ap (λ n. lru_cache [] n) c.place_count.ensures.count

pub loop-place-preserved : goal.loop-place-preserved
loop-place-preserved c =
    c.in_ok-put.ensures.entries
    ∙ ap (λ (p : LruCache ℕ (Option Cached)). lru_cache (put_entries nat_eq p c.loop-place.place None) p.cap) c.loop-place.invariant
    ∙ ap (λ (l : List (ℕ × Option Cached)). lru_cache l 4) (one_more c.loop-place.place (omega arith))
