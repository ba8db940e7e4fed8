-- What is known bounds the deadline, and what counts lies in its window.
use Rattle.std.proofs.Common.{◌≡◌, ◌+◌, ◌∙◌, ◌&&◌, not, cond, ap, sym, subst, length, arith, true}
use Rattle.std.proofs.lemmas.Bool.{and_parts}
use Rattle.receiver_rules.specs.declared.anchor.Anchor.{Anchor}
use Rattle.receiver_rules.specs.Packets.{placed_packet, verdict_of, is_kept}
use Rattle.receiver_rules.specs.Seen.{seen, counted_clock}
use Rattle.receiver_rules.specs.Bounds.{IsNearBase, IsNearTime, IsClockWithin}
use Rattle.receiver_rules.proofs.BoundLemmas.{start_is, mid_when_kept}
use Rattle.plain_rules.specs.Receiver.Kept.{kept_packets}
use Rattle.plain_rules.proofs.RunLemmas.{IsJudged, brought_here, small_here}
use Rattle.plain_rules.proofs.receiver.running.judge.Goals as goal

pub place_of-place-requires-clause-base : goal.place_of-place-requires-clause-base
place_of-place-requires-clause-base c =
    subst (λ t. IsNearBase t c.clock_of-clock.result.base)
    (sym (ap (λ (a : Anchor). a.time) c.first_of-anchor.ensures.value ∙ start_is c.args.run.now.anchor c.args.run.now.time (seen c.args.arrival.now))) c.clock_of-clock.ensures.base

pub clock_with-run-requires-clause-near : goal.clock_with-run-requires-clause-near
clock_with-run-requires-clause-near c =
    subst (λ t. IsNearTime t c.clock_of-clock.result)
    (sym (ap (λ (a : Anchor). a.time) c.first_of-anchor.ensures.value ∙ start_is c.args.run.now.anchor c.args.run.now.time (seen c.args.arrival.now))) c.clock_of-clock.ensures.within.near

pub clock_with-run-requires-clause-originals : goal.clock_with-run-requires-clause-originals
clock_with-run-requires-clause-originals c = omega (arith, c.clock_of-clock.ensures.within.few, c.clock_of-clock.ensures.few)

pub clock_with-run-requires-clause-timestamp : goal.clock_with-run-requires-clause-timestamp
clock_with-run-requires-clause-timestamp c = λ counts.
    let near = subst (λ t. IsNearBase t c.clock_of-clock.result.base)
    (sym (ap (λ (a : Anchor). a.time) c.first_of-anchor.ensures.value ∙ start_is c.args.run.now.anchor c.args.run.now.time (seen c.args.arrival.now))) c.clock_of-clock.ensures.base in
    let v = c.judge_arrival-verdict.ensures ∙ ap (λ ks. verdict_of c.args.limits.now c.first_of-anchor.result c.clock_of-clock.result.base (kept_packets ks) c.args.run.now.time (seen c.args.arrival.now)) c.as_slice.ensures.value in
    let kept : is_kept c.judge_arrival-verdict.result ≡ true = (and_parts _ _ (sym c.counts-counts.ensures ∙ counts)).0 in
    let mid = mid_when_kept c.args.limits.now c.first_of-anchor.result c.clock_of-clock.result.base c.args.run.now.time (kept_packets c.args.run.now.kept.items) (seen c.args.arrival.now) c.requires.limits c.first_of-anchor.ensures.early near c.requires.small.time
    (ap is_kept (sym v) ∙ kept) in
    let at = c.place_of-place.ensures.timestamp ∙ ap (λ h. (placed_packet c.args.limits.now c.first_of-anchor.result c.clock_of-clock.result.base h (seen c.args.arrival.now)).timestamp) c.requires.small.known in
    omega (arith, at, mid.timestamp_high)

judged : (c : goal.In_ok-settle) → IsJudged c.args.limits.now (seen c.args.arrival.now) c.args.run.now c.settle.new.run c.first_of-anchor.result c.clock_of-clock.result c.place_of-place.result c.judge_arrival-verdict.result
judged c =
    record {
      fixed = c.first_of-anchor.ensures.value;
      counted = c.clock_of-clock.ensures.value;
      known = c.requires.small.known;
      placed = record { number = c.place_of-place.ensures.number; timestamp = c.place_of-place.ensures.timestamp; deadline = c.place_of-place.ensures.deadline };
      judged = c.judge_arrival-verdict.ensures ∙ ap (λ ks. verdict_of c.args.limits.now c.first_of-anchor.result c.clock_of-clock.result.base (kept_packets ks) c.args.run.now.time (seen c.args.arrival.now)) c.as_slice.ensures.value;
      time = c.in_ok-settle.ensures.same.time;
      ended = c.in_ok-settle.ensures.same.ended;
      anchor_is = c.in_ok-settle.ensures.same.anchor;
      clock_is = c.in_ok-settle.ensures.same.clock ∙ c.clock_with-run.ensures.value
          ∙ ap (counted_clock c.args.limits.now c.first_of-anchor.result c.clock_of-clock.result c.args.run.now.time c.place_of-place.result.timestamp) c.counts-counts.ensures;
      verdicts = c.in_ok-settle.ensures.same.verdicts ∙ c.in_ok-push.ensures.items;
      kept = c.in_ok-settle.ensures.kept;
      ordered = c.in_ok-settle.ensures.ordered;
      last = c.in_ok-settle.ensures.last;
      over = c.in_ok-settle.ensures.same.over;
    }

pub returns-clause-small : goal.returns-clause-small
returns-clause-small c =
    let near = subst (λ t. IsNearBase t c.clock_of-clock.result.base)
    (sym (ap (λ (a : Anchor). a.time) c.first_of-anchor.ensures.value ∙ start_is c.args.run.now.anchor c.args.run.now.time (seen c.args.arrival.now))) c.clock_of-clock.ensures.base in
    let old = subst (λ t. IsClockWithin t (length c.args.run.now.kept.items) c.clock_of-clock.result)
    (sym (ap (λ (a : Anchor). a.time) c.first_of-anchor.ensures.value ∙ start_is c.args.run.now.anchor c.args.run.now.time (seen c.args.arrival.now))) c.clock_of-clock.ensures.within in
    let within = subst (λ b. IsClockWithin c.first_of-anchor.result.time (cond b (length c.args.run.now.kept.items + 1) (length c.args.run.now.kept.items)) c.clock_with-run.result) c.counts-counts.ensures
    (c.clock_with-run.ensures.within (length c.args.run.now.kept.items) old) in
    small_here c.args.limits.now (seen c.args.arrival.now) c.args.run.now c.settle.new.run c.first_of-anchor.result c.clock_of-clock.result c.place_of-place.result c.judge_arrival-verdict.result (judged c)
    c.requires.limits c.requires.small c.first_of-anchor.ensures.early near
    (subst (λ k. IsClockWithin c.first_of-anchor.result.time (cond (is_kept c.judge_arrival-verdict.result && not c.args.arrival.now.again) (length c.args.run.now.kept.items + 1) (length c.args.run.now.kept.items)) k) (sym c.in_ok-settle.ensures.same.clock) within)
    c.in_ok-settle.ensures.known

pub returns-clause-after : goal.returns-clause-after
returns-clause-after c = brought_here c.args.limits.now (seen c.args.arrival.now) c.args.run.now c.settle.new.run c.first_of-anchor.result c.clock_of-clock.result c.place_of-place.result c.judge_arrival-verdict.result (judged c)
