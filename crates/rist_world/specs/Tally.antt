-- What a simulated network counts while it runs.
use Rattle.std.specs.Prelude.{◌≡◌, ◌<◌, ℕ, ◌+◌, List, [], length, get_or, Bool, true, false}
use Rattle.rist_ends.specs.Counts.{capped}
use Rattle.world_rules.specs.Counts.{sent_count, carried_count, was_carried}
use Rattle.world_rules.specs.World.{Setup, Course, links_of}

-- how many payloads were sent, how often media came to the receiver, and of each link which datagrams came to the
-- receiver, by their places
pub record TallyState : Type 0 where
  pub sent : ℕ
  pub carried : ℕ
  pub came : List (List Bool)

-- one more, where that is counted
abbrev pub raised_if : Bool → ℕ → ℕ
raised_if true n = capped (n + 1)
raised_if false n = n

-- the datagram at a place of a link came
abbrev pub came_at : List (List Bool) → ℕ → ℕ → Bool
came_at came link place = get_or (get_or came link []) place false

-- a tally is what became of a course
pub record IsTallyOf (setup : Setup) (t : TallyState) (course : Course) : Type 0 where
  pub sent : t.sent ≡ capped (sent_count course.work.history)
  pub carried : t.carried ≡ capped (carried_count setup course.carried)
  pub links : length t.came ≡ links_of setup
  pub came : (link place : ℕ) → link < links_of setup
      → came_at t.came link place ≡ was_carried course.carried link place
