-- The steps that a desk kept, against the steps that the workers of its links kept. All lists stand with the oldest
-- step first.
use Rattle.std.specs.Prelude.{◌≡◌, ◌≢◌, ◌<◌, ℕ, ◌==◌, List, [], length, take, slice_get, unwrap_or, Some}
use Rattle.std.specs.List.{filter}
use Rattle.rist_desk.specs.declared.step.Step.{Step}
use Rattle.rist_compare.specs.declared.tear.Tear.{Tear}

-- the steps of a link
abbrev pub of : ℕ → List Step → List Step
of link steps = filter (λ s. s.link == link) steps

-- what the worker of a link kept, and nothing where the link has no worker. Of the workers' lists the first is that of
-- link 0
abbrev pub own_of : ℕ → List (List Step) → List Step
own_of link own = unwrap_or (slice_get own link) []

-- each step is of a worker's link, and the steps of each of these links are what its worker kept
pub record Agree (steps : List Step) (own : List (List Step)) : Type 0 where
  pub links : (k : ℕ) (s : Step) → slice_get steps k ≡ Some s → s.link < length own
  pub same : (link : ℕ) → link < length own → of link steps ≡ own_of link own

-- the two lists of a link agree before a place, and there they differ; one of them may have ended
pub record IsTear (desk own : List Step) (tear : Tear) : Type 0 where
  pub same : take tear.place desk ≡ take tear.place own
  pub desk_is : tear.desk ≡ slice_get desk tear.place
  pub own_is : tear.own ≡ slice_get own tear.place
  pub differ : tear.desk ≢ tear.own

-- the two lists of its link differ there first, and those of all lower links agree
pub record IsFirstTear (steps : List Step) (own : List (List Step)) (tear : Tear) : Type 0 where
  pub here : IsTear (of tear.link steps) (own_of tear.link own) tear
  pub below : (link : ℕ) → link < tear.link → of link steps ≡ own_of link own
