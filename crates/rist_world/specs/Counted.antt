-- What came of a run, in numbers.
use Rattle.std.specs.Prelude.{◌≡◌, ℕ, [], length, get_or, Bool, true, false, not, ◌&&◌, nat_lt, if◌then◌else◌, is_some}
use Rattle.std.specs.Prelude.{unwrap_or, Option, None}
use Rattle.std.specs.List.{count_by, range_with_len}
use Rattle.receiver_rules.specs.declared.verdict.Verdict.TheVariants.{Kept}
use Rattle.receiver_rules.specs.Steps.{has_ended}
use Rattle.receiver_rules.specs.History.{released_payloads}
use Rattle.request_rules.specs.Steps.{buffer_history}
use Rattle.rist_reporter.specs.Asking.{asked_count}
use Rattle.rist_ends.specs.Counts.{capped, verdict_count}
use Rattle.world_rules.specs.Counts.{sent_count, carried_count, lost_count, resent_count}
use Rattle.world_rules.specs.World.{Setup, Course}
use Rattle.rist_world.specs.declared.counts.Counts.{Counts}
use Rattle.rist_world.specs.Tally.{came_at}
use Rattle.rist_world.specs.World.{WorldState, none}

-- how many datagrams the sender put on a link of a world
abbrev pub held_at : WorldState → ℕ → ℕ
held_at w link = if nat_lt link (length w.forward) then length (get_or w.forward link none).put else 0

-- of media at a place of a link, whether it says that it is a retransmission; nothing of what is no media or isn't
-- there
abbrev pub media_at : WorldState → ℕ → ℕ → Option Bool
media_at w link place = get_or (get_or w.media link []) place None

-- a place of a link holds media that never came to the receiver
abbrev pub lost_at : WorldState → ℕ → ℕ → Bool
lost_at w link place = is_some (media_at w link place) && not (came_at w.tally.came link place)

-- the place of a link holds a retransmission
abbrev pub resent_at : WorldState → ℕ → ℕ → Bool
resent_at w link place = unwrap_or (media_at w link place) false

-- at how many places of a link a test holds
abbrev pub count_on : WorldState → (ℕ → ℕ → Bool) → ℕ → ℕ
count_on w test link = count_by (test link) (range_with_len 0 (held_at w link))

-- The counts are those of a course; each stays at its greatest value. What is told as released is how many packets the
-- receiver kept: after an end, that many payloads went out, the empty ones too.
pub record Counted (setup : Setup) (course : Course) (c : Counts) : Type 0 where
  pub sent : c.sent ≡ capped (sent_count course.work.history)
  pub carried : c.carried ≡ capped (carried_count setup course.carried)
  pub lost : c.lost ≡ capped (lost_count setup course)
  pub asked : c.asked ≡ capped (asked_count setup.control course.steps)
  pub resent : c.resent ≡ capped (resent_count setup course)
  pub released : c.released ≡ capped (verdict_count Kept setup.control.limits course.steps)
  pub out : has_ended (buffer_history course.steps) ≡ true
      → c.released ≡ capped (length (released_payloads setup.control.limits (buffer_history course.steps)))
