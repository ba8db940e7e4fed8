use Rattle.std.proofs.Common.{◌<◌, ◌≤◌, ◌+◌, ◌^◌, length, arith, subst}
use Rattle.psk_seal.specs.Nonces.{steps_between}
use Rattle.psk_seal.proofs.NonceLemmas.{blocked_few, blocked_more, next_steps}
use Rattle.psk_seal.proofs.nonces.first_free.Goals as goal

pub loop-number-preserved : goal.loop-number-preserved
loop-number-preserved c =
    let earlier = c.args.earlier.now in
    let word = c.args.word in
    let number = c.loop-number.number in
    let fits : number < 2 ^ 32 = omega (arith, c.loop-number.auto.number-fits) in
    let more = blocked_more earlier word number c.ranges.word.fits fits c.loop-number.invariant.blocked
    (λ free. let so = c.is_free.ensures.value.1 free in cc) in
    let few : steps_between word number + 1 ≤ length earlier + 1 = blocked_few earlier word (steps_between word number + 1) (omega (arith, c.loop-number.invariant.few)) more in
    let one = next_steps word number c.ranges.word.fits fits (omega (arith, c.loop-number.invariant.few)) in
    record {
      few = omega (arith, one, few, c.requires.few);
      blocked = λ k low. more k (subst (λ n. k < n) one low);
    }
