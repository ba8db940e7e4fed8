use Rattle.std.proofs.Common.{◌≡◌, ℕ, suc, ◌+◌, ◌-◌, ◌^◌, true, false, cond, List, ◌++◌, length, take, drop, sym, ap, subst, ◌∙◌, refl, arith}
use Rattle.ts_nulls.specs.Packets.{begins_packet, is_null}
use Rattle.ts_nulls.specs.Nulls.{kept}
use Rattle.ts_nulls.proofs.StripLemmas.{Goes, Goes-at, Goes-stop, Goes-fits, Goes-next, Goes-end}
use Rattle.ts_nulls.proofs.stripping.keep.Goals as goal

pub returns-then-not-begins_packet-clause-begins : goal.returns-then-not-begins_packet-clause-begins
returns-then-not-begins_packet-clause-begins c =
    let g = Goes-at c.args.size c.args.count _ _ c.loop-place.nulls c.loop-place.len c.loop-place.rest.now c.args.payload.now c.loop-place.out
    (suc (c.args.count - (c.loop-place.place + 1))) (7 - c.loop-place.place) c.loop-place.invariant (omega arith) refl in
    let test : begins_packet c.split_at.result.0.now ≡ false = sym c.begins_packet.ensures ∙ c.if-not-begins_packet.true in
    Goes-stop c.args.size c.args.count _ _ _ _ c.loop-place.rest.now c.args.payload.now c.loop-place.out g (sym (ap begins_packet c.split_at.ensures.front) ∙ test)

pub overflow_add-nulls : goal.overflow_add-nulls
overflow_add-nulls c =
    let places : 7 - c.loop-place.place ≡ suc (6 - c.loop-place.place) = omega arith in
    let g = Goes-at c.args.size c.args.count _ _ c.loop-place.nulls c.loop-place.len c.loop-place.rest.now c.args.payload.now c.loop-place.out
    (suc (c.args.count - (c.loop-place.place + 1))) (suc (6 - c.loop-place.place)) c.loop-place.invariant (omega arith) places in
    let bit = c.null_bit-nulls.ensures.value ∙ ap (λ (l : List ℕ). cond (is_null l) (2 ^ (6 - c.loop-place.place)) 0) c.split_at.ensures.front in
    omega (arith, Goes-fits c.args.size c.args.count _ _ _ c.null_bit-nulls.result _ c.loop-place.rest.now c.args.payload.now c.loop-place.out g bit)

pub loop-place-preserved : goal.loop-place-preserved
loop-place-preserved c =
    let places : 7 - c.loop-place.place ≡ suc (6 - c.loop-place.place) = omega arith in
    let g = Goes-at c.args.size c.args.count _ _ c.loop-place.nulls c.loop-place.len c.loop-place.rest.now c.args.payload.now c.loop-place.out
    (suc (c.args.count - (c.loop-place.place + 1))) (suc (6 - c.loop-place.place)) c.loop-place.invariant (omega arith) places in
    let bit = c.null_bit-nulls.ensures.value ∙ ap (λ (l : List ℕ). cond (is_null l) (2 ^ (6 - c.loop-place.place)) 0) c.split_at.ensures.front in
    let test : begins_packet c.split_at.result.0.now ≡ true = sym c.begins_packet.ensures ∙ c.if-not-begins_packet.false in
    let made = c.put_kept-len.ensures.octets ∙ ap (λ (l : List ℕ). take c.loop-place.len c.loop-place.out ++ kept l) c.split_at.ensures.front in
    let next = Goes-next c.args.size c.args.count _ (6 - c.loop-place.place) c.loop-place.nulls c.null_bit-nulls.result c.loop-place.len c.put_kept-len.result c.loop-place.rest.now c.args.payload.now c.loop-place.out c.put_kept-len.new.out
    g (sym (ap begins_packet c.split_at.ensures.front) ∙ test) bit made (omega (arith, c.put_kept-len.ensures.within, ap length c.split_at.ensures.front)) in
    let at = Goes-at c.args.size c.args.count (c.args.count - (c.loop-place.place + 1)) (6 - c.loop-place.place) _ _ (drop c.args.size c.loop-place.rest.now) c.args.payload.now c.put_kept-len.new.out
    (c.args.count - (c.loop-place.place + 1)) (7 - (c.loop-place.place + 1)) next refl (omega arith) in
    subst (λ (l : List ℕ). Goes c.args.size c.args.count (c.args.count - (c.loop-place.place + 1)) (7 - (c.loop-place.place + 1)) (c.loop-place.nulls + c.null_bit-nulls.result) c.put_kept-len.result l c.args.payload.now c.put_kept-len.new.out) (sym c.split_at.ensures.back) at

pub returns-clause-begins : goal.returns-clause-begins
returns-clause-begins c =
    let g = Goes-at c.args.size c.args.count _ _ c.loop-place.nulls c.loop-place.len c.loop-place.rest.now c.args.payload.now c.loop-place.out
    0 (7 - c.loop-place.place) c.loop-place.invariant (omega arith) refl in
    (Goes-end c.args.size c.args.count _ _ _ c.loop-place.rest.now c.args.payload.now c.loop-place.out g).begins

pub returns-clause-bits : goal.returns-clause-bits
returns-clause-bits c =
    let g = Goes-at c.args.size c.args.count _ _ c.loop-place.nulls c.loop-place.len c.loop-place.rest.now c.args.payload.now c.loop-place.out
    0 (7 - c.loop-place.place) c.loop-place.invariant (omega arith) refl in
    (Goes-end c.args.size c.args.count _ _ _ c.loop-place.rest.now c.args.payload.now c.loop-place.out g).bits

pub returns-clause-kept : goal.returns-clause-kept
returns-clause-kept c =
    let g = Goes-at c.args.size c.args.count _ _ c.loop-place.nulls c.loop-place.len c.loop-place.rest.now c.args.payload.now c.loop-place.out
    0 (7 - c.loop-place.place) c.loop-place.invariant (omega arith) refl in
    (Goes-end c.args.size c.args.count _ _ _ c.loop-place.rest.now c.args.payload.now c.loop-place.out g).made
