-- The last place is there, so it is written.
use Rattle.std.proofs.Common.{◌≡◌, ◌-◌, ◌∙◌, List, Option, Some, length, sym, ap, arith, ℕ, nat_eq}
use Rattle.lru.specs.LruCache.{lru_cache, put_entries}
use Rattle.psk_keys.specs.declared.cached.Cached.{Cached}
use Rattle.psk_keys.proofs.KeyLemmas.{last_is, on_ok, put_last, some_last}
use Rattle.psk_keys.proofs.cached.put_latest.Goals as goal

pub returns-in-Some : goal.returns-in-Some
returns-in-Some c =
    let cache = c.args.places.now in
    let last : ℕ × Option Cached = (c.in-Some.place.now, c.in-Some.field-0-1.now) in
    let l = last_is last (length cache.entries - 1) cache.entries c.requires.distinct (sym c.in-Some.ensures) (omega arith) in
    record {
      places = (
        last.0,
        on_ok c.put.result (c.put.new.self ≡ lru_cache (put_entries nat_eq cache last.0 (Some c.args.latest)) cache.cap) (c.put.ensures.succeeds l.there) c.put.ensures.entries
            ∙ ap (λ (es : List (ℕ × Option Cached)). lru_cache es cache.cap) (put_last last (length cache.entries - 1) cache (Some c.args.latest) l),
      );
    }

pub returns-in_default : goal.returns-in_default
returns-in_default c = absurd (some_last c.args.places.now.entries c.requires.some (sym c.in_default.ensures))
