use Rattle.std.proofs.Common.{◌≡◌, ◌+◌, ◌-◌, suc, bit_xor, ap, ◌∙◌, arith}
use Rattle.std.specs.Simd.Lanes.{zip2}
use Rattle.psk_keys.specs.Hmac.{hmac}
use Rattle.psk_keys.specs.Pbkdf2.{round_value, sum_of_rounds}
use Rattle.psk_keys.proofs.derivation.pbkdf2.Goals as goal

pub loop-round-init : goal.loop-round-init
unfolding round_value sum_of_rounds
loop-round-init c =
    let first = c.code_of_parts-value.ensures c.args.pass.now c.of-mac.ensures in
    record { value = first; sum = first }

pub loop-round-preserved : goal.loop-round-preserved
unfolding round_value sum_of_rounds
loop-round-preserved c =
    let pass = c.args.pass.now in
    let salt = c.args.salt.now in
    let n = c.loop-round._round - 1 in
    let next : suc n ≡ c.loop-round._round + 1 - 1 = omega arith in
    let before = c.loop-round.invariant in
    let value : c.code-value.result ≡ round_value pass salt (suc n) =
    c.code-value.ensures pass c.of-mac.ensures ∙ ap (hmac pass) before.value in
    record {
      value = value ∙ ap (round_value pass salt) next;
      sum = c.add.ensures ∙ (λ i. zip2 bit_xor (before.sum i) (value i)) ∙ ap (sum_of_rounds pass salt) next;
    }
