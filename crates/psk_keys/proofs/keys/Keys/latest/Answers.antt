-- The latest place has a key, which is that of its nonce.
use Rattle.std.proofs.Common.{◌∙◌, Option, Some, length, get_or, sym, ap, arith}
use Rattle.std.specs.Int.{w32, to_be_bytes}
use Rattle.psk_keys.specs.Keys.{KeysState, key_of}
use Rattle.psk_keys.specs.declared.cached.Cached.{Cached}
use Rattle.psk_keys.proofs.KeyLemmas.{latest_is, some_latest}
use Rattle.psk_keys.proofs.keys.Keys.latest.Goals as goal

pub unreachable-requires : goal.unreachable-requires
unreachable-requires c =
    let w = c.in-Some-default-None in
    let filled = c.self.invariant.0.filled in
    let latest = sym w.ensures ∙ ap (λ (o : Option Cached). Some (w.field-0-0.now, o)) w.field-0-1-is in
    absurd (some_latest w.field-0-0.now c.self.inside.places.entries filled latest
    (omega (arith, ap (λ (k : KeysState). length k.cached) c.self.view_is)))

pub returns : goal.returns
returns c =
    let i = c.self.inside in
    let w = c.in-Some-default-Some in
    record {
      key =
          latest_is i.phrase i.bits w.field-0-0.now w.latest i.places.entries c.self.invariant.0 (sym w.ensures ∙ ap (λ (o : Option Cached). Some (w.field-0-0.now, o)) w.field-0-1-is)
          ∙ ap (λ (k : KeysState). key_of k.phrase k.bits (to_be_bytes w32 (get_or k.cached 0 0))) c.self.view_is;
    }
