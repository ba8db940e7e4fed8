use Rattle.std.proofs.Common.{ℕ, List, ◌++◌, ap, sym, subst, ◌∙◌, append_assoc}
use Rattle.sha2.specs.Hashers.{Holds256}
use Rattle.sha2.specs.Sha256.{sha256}
use Rattle.sha2.specs.declared.Sha256.{Sha256}
use Rattle.psk_keys.specs.Hmac.{block_key, hmac, inner_pad, outer_pad, padded_key}
use Rattle.psk_keys.proofs.mac.Mac.code_of_parts.Goals as goal

pub returns : goal.returns
unfolding hmac
returns c = λ key keyed.
    let inner_key = padded_key inner_pad (block_key key) in
    let outer_key = padded_key outer_pad (block_key key) in
    let inner = subst (λ (h : Sha256). Holds256 h inner_key) (sym c.copy_of-inner.ensures) keyed.inner in
    let outer = subst (λ (h : Sha256). Holds256 h outer_key) (sym c.copy_of-outer.ensures) keyed.outer in
    let digest = c.finalize.ensures _ (c.update-2.ensures _ (c.update.ensures _ inner)) in
    c.finalize-2.ensures _ (c.update-3.ensures _ outer)
    ∙ ap (λ (d : List ℕ). sha256 (outer_key ++ d)) (c.as_slice.ensures ∙ digest ∙ ap sha256 (append_assoc inner_key c.args.front.now c.args.back.now))
