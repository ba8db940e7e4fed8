-- One step against a link's own list.
use Rattle.std.specs.Prelude.{◌≡◌, ◌≢◌, ℕ, List, slice_get, Some}
use Rattle.rist_desk.specs.declared.step.Step.{Step}
use Rattle.rist_compare.specs.declared.tear.Tear.{Tear}

-- a step of the link is not the one at this place of the link's own list
pub record DiffersAt (step : Step) (link : ℕ) (own : List Step) (place : ℕ) (tear : Tear) : Type 0 where
  pub link_is : step.link ≡ link
  pub tear_is : tear ≡ record { link = link; place = place; desk = Some step; own = slice_get own place }
  pub differ : Some step ≢ slice_get own place
