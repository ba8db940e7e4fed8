use Rattle.std.proofs.Common.{◌≡◌, ◌+◌, ◌*◌, ℕ, ◌≤◌, List, length, map, take, ap, subst, ◌∙◌, arith}
use Rattle.aes_block.specs.Cipher.{expanded_key, key_octets, round_count}
use Rattle.aes_block.specs.Inside.Words.{word_octets}
use Rattle.aes_block.proofs.RoundLemmas.{kept_round_key}
use Rattle.aes_block.proofs.cipher.Aes.new.Goals as goal

pub invariant_of-result : goal.invariant_of-result
invariant_of-result c =
    let key = key_octets c.args.key.now in
    let words = c.expanded.result in
    let is = c.octets.ensures.octets in
    let short : length key ≤ 32 = omega (arith, ap (λ (l : List ℕ). length l) is, c.octets.ensures.most) in
    let made : map word_octets (take (4 * (round_count key + 1)) words) ≡ expanded_key key =
    subst (λ (k : List ℕ). map word_octets (take (4 * (round_count k + 1)) words) ≡ expanded_key k) is c.expanded.ensures in
    let plain = λ (r : ℕ) (le : r ≤ round_count key).
    c.round_keys-plain.ensures r (omega (arith, le, short)) ∙ kept_round_key key words r short (omega arith) le made in
    record {
      plain_key = plain;
      prepared_key = λ r le. c.prepared.ensures r (omega (arith, le, short)) ∙ plain r le;
    }
