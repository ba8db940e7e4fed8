use Rattle.std.proofs.Common.{◌≡◌, ◌-◌, ◌≤◌}
use Rattle.rist_nack.specs.Requests.{set_places}
use Rattle.rist_nack.proofs.places.next_place.Given as goal

abbrev pub invariant-loop-place : goal.invariant-loop-place
invariant-loop-place l = record {
  within : l.place ≤ 17;
  same : set_places (17 - l.place) l.mask l.place ≡ set_places (17 - l.fn.place) l.fn.mask l.fn.place;
}

abbrev pub decreases-loop-place : goal.decreases-loop-place
decreases-loop-place l = 17 - l.place
