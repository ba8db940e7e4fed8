-- What came of a course, in numbers.
use Rattle.std.proofs.Common.{◌≡◌, ◌≢◌, ◌∙◌, ℕ, ◌<◌, Bool, true, false, length, get_or, sym, ap, arith}
use Rattle.std.specs.Prelude.{if◌then◌else◌, cond, is_some, unwrap_or, not, ◌&&◌}
use Rattle.std.specs.List.{sum_by, count_by, range_with_len}
use Rattle.std.proofs.lemmas.Bool.{lt-ltb}
use Rattle.reorder_buffer.specs.declared.phase.Phase.TheVariants.{Failed}
use Rattle.receiver_rules.specs.declared.verdict.Verdict.TheVariants.{Kept}
use Rattle.receiver_rules.specs.Steps.{has_ended}
use Rattle.request_rules.specs.Steps.{buffer_history}
use Rattle.rist_reporter.specs.Control.{ControlSettings}
use Rattle.rist_reporter.specs.Asking.{asked_count}
use Rattle.rist_ends.specs.Counts.{capped, verdict_count}
use Rattle.world_rules.specs.Counts.{media_if, place_count, is_lost, is_resent}
use Rattle.world_rules.specs.World.{Setup, Course, forward_on, forward_at}
use Rattle.rist_world.specs.declared.counts.Counts.{Counts}
use Rattle.rist_world.specs.Tally.{came_at}
use Rattle.rist_world.specs.World.{WorldState, IsWorldAfter, none, phase_of}
use Rattle.rist_world.specs.Counted.{held_at, lost_at, resent_at, count_on, Counted}
use Rattle.rist_world.proofs.MarkLemmas.{media_is}
use Rattle.rist_world.proofs.TallyLemmas.{one_if, sum_same}
use Rattle.rist_world.proofs.ReleasedLemmas.{released_all}

-- ---- places

held_is : (setup : Setup) (w : WorldState) (course : Course) (link : ℕ) → link < length w.forward → IsWorldAfter setup w course → held_at w link ≡ length (forward_on setup course link)
held_is setup w course link among is =
    ap (λ (c : Bool). if c then length (get_or w.forward link none).put else 0) (lt-ltb _ _ among) ∙ ap length (is.forward link none (omega (arith, among, is.links)))

lost_is : (setup : Setup) (w : WorldState) (course : Course) (link place : ℕ) → link < length w.forward → IsWorldAfter setup w course → lost_at w link place ≡ is_lost setup course link place
lost_is setup w course link place among is =
    ap (λ m. is_some m && not (came_at w.tally.came link place)) (media_is setup w course link place is)
    ∙ ap (λ c. is_some (media_if setup.session (forward_at setup course link place)) && not c) (is.tally.came link place (omega (arith, among, is.links)))

resent_is : (setup : Setup) (w : WorldState) (course : Course) (link place : ℕ) → link < length w.forward → IsWorldAfter setup w course → resent_at w link place ≡ is_resent setup course link place
resent_is setup w course link place among is = ap (λ m. unwrap_or m false) (media_is setup w course link place is)

-- ---- all places of all links

on_link_is : (setup : Setup) (w : WorldState) (course : Course) (test was : ℕ → ℕ → Bool) (link : ℕ) → link < length w.forward → IsWorldAfter setup w course → ((place : ℕ) → test link place ≡ was link place)
    → count_on w test link ≡ count_by (was link) (range_with_len 0 (length (forward_on setup course link)))
on_link_is setup w course test was link among is same =
    ap (λ n. count_by (test link) (range_with_len 0 n)) (held_is setup w course link among is)
    ∙ sum_same (λ place. cond (test link place) 1 0) (λ place. cond (was link place) 1 0) 0 (length (forward_on setup course link)) (λ place low high. one_if (test link place) (was link place) (same place))

places_are : (setup : Setup) (w : WorldState) (course : Course) (test was : ℕ → ℕ → Bool) → IsWorldAfter setup w course → ((link place : ℕ) → link < length w.forward → test link place ≡ was link place)
    → sum_by (count_on w test) (range_with_len 0 (length w.forward)) ≡ place_count setup course was
places_are setup w course test was is same =
    sum_same (count_on w test) (λ link. count_by (was link) (range_with_len 0 (length (forward_on setup course link)))) 0 (length w.forward)
    (λ link low high. on_link_is setup w course test was link (omega (arith, high)) is (λ place. same link place (omega (arith, high))))
    ∙ ap (λ n. sum_by (λ link. count_by (was link) (range_with_len 0 (length (forward_on setup course link)))) (range_with_len 0 n)) is.links

-- ---- the counts

not_failed : (ended : Bool) → phase_of ended ≡ Failed → ⊥
not_failed true is = cc
not_failed false is = cc

pub counted : (setup : Setup) (w : WorldState) (course : Course) (c : Counts) → IsWorldAfter setup w course → c.sent ≡ w.tally.sent → c.carried ≡ w.tally.carried → c.asked ≡ w.receiver.asked
    → c.lost ≡ capped (sum_by (count_on w (lost_at w)) (range_with_len 0 (length w.forward))) → c.resent ≡ capped (sum_by (count_on w (resent_at w)) (range_with_len 0 (length w.forward))) → c.released ≡ w.receiver.counts.kept
    → Counted setup course c
counted setup w course c is sent carried asked lost resent released =
    let live : w.receiver.buffer.phase ≢ Failed = λ failed. not_failed (has_ended (buffer_history course.steps)) (sym is.phase ∙ failed) in
    let kept : c.released ≡ capped (verdict_count Kept setup.control.limits course.steps)
    = released ∙ (is.receiver.counted live).counts.each Kept
    ∙ ap (λ (s : ControlSettings). capped (verdict_count Kept s.limits course.steps)) is.control in
    record {
      sent = sent ∙ is.tally.sent;
      carried = carried ∙ is.tally.carried;
      lost = lost ∙ ap capped (places_are setup w course (lost_at w) (is_lost setup course) is (λ link place among. lost_is setup w course link place among is));
      asked = asked ∙ (is.receiver.counted live).asked ∙ ap (λ (s : ControlSettings). capped (asked_count s course.steps)) is.control;
      resent = resent ∙ ap capped (places_are setup w course (resent_at w) (is_resent setup course) is (λ link place among. resent_is setup w course link place among is));
      released = kept;
      out = λ ended. kept ∙ ap capped (sym (released_all setup.control.limits course.steps ended));
    }
