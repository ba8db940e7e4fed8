-- The places after a hit, and after a miss.
use Rattle.std.proofs.Common.{◌≡◌, ◌∷◌, ◌-◌, ◌∙◌, List, Option, Some, ℕ, length, take, sym, ap, subst, arith}
use Rattle.std.specs.Int.{w32, to_be_bytes}
use Rattle.lru.specs.LruCache.{LruCache}
use Rattle.psk_keys.specs.Keys.{key_of, after_use}
use Rattle.psk_keys.specs.declared.cached.Cached.{Cached}
use Rattle.psk_keys.proofs.KeyLemmas.{Turns, turn_on_hit, turn_on_miss, turned}
use Rattle.psk_keys.proofs.keys.Keys.turn_to.Goals as goal

hit_turns : (c : goal.After-promote) → Turns c.self.inside.phrase c.self.inside.bits c.number_of-number.result c.self.inside.places.entries c.promote.new.places.entries
hit_turns c =
    let i = c.self.inside in
    subst (λ (p : LruCache ℕ (Option Cached)). Turns i.phrase i.bits c.number_of-number.result i.places.entries p.entries) (sym c.promote.ensures.places)
    (turn_on_hit i.phrase i.bits c.number_of-number.result c.in-Some.place i.places.entries c.self.invariant.0 c.len.ensures.valid.0 (sym c.in-Some.ensures.place))

pub invariant_of-self : goal.invariant_of-self
invariant_of-self c = ((hit_turns c).kept, c.self.invariant.1)

pub returns-in-Some-clause-used : goal.returns-in-Some-clause-used
returns-in-Some-clause-used c =
    let i = c.self.inside in
    turned i.phrase i.bits c.number_of-number.result i.places.entries c.promote.new.places.entries (hit_turns c)
    ∙ ap (after_use c.number_of-number.result) c.self.view_is
    ∙ ap (λ (n : ℕ). after_use n c.args.self.now) c.number_of-number.ensures.value

pub returns-in-Some-clause-some : goal.returns-in-Some-clause-some
returns-in-Some-clause-some c = omega (arith, ap (λ (l : List ℕ). length l) (hit_turns c).order)

miss_turns : (c : goal.After-put_latest) → Turns c.self.inside.phrase c.self.inside.bits c.number_of-number.result c.self.inside.places.entries c.put_latest.new.places.entries
miss_turns c =
    let i = c.self.inside in
    let key : Cached = record { nonce = c.number_of-number.result; cipher = c.new-cipher.result } in
    let is : c.new-cipher.result ≡ key_of i.phrase i.bits (to_be_bytes w32 c.number_of-number.result) =
    c.new-cipher.ensures.key ∙ c.derived_key.ensures.key
    ∙ ap (λ (pass : List ℕ). key_of pass i.bits c.args.nonce) c.octets.ensures.octets
    ∙ ap (key_of i.phrase i.bits) (sym c.number_of-number.ensures.spelled) in
    let put = c.put_latest.ensures.places in
    let three : length i.places.entries - 1 ≡ 3 = omega (arith, c.self.invariant.0.four) in
    let turns = turn_on_miss i.phrase i.bits put.0 key i.places.entries c.self.invariant.0 (sym c.in-None.ensures.place) is in
    subst (λ (p : LruCache ℕ (Option Cached)). Turns i.phrase i.bits c.number_of-number.result i.places.entries p.entries) (sym put.1)
    (subst (λ (n : ℕ). Turns i.phrase i.bits c.number_of-number.result i.places.entries ((put.0, Some key) ∷ take n i.places.entries)) (sym three) turns)

pub invariant_of-self-in-None : goal.invariant_of-self-in-None
invariant_of-self-in-None c = ((miss_turns c).kept, c.self.invariant.1)
