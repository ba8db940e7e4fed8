-- The turns that were made.
use Rattle.std.proofs.Common.{◌≡◌, ◌<◌, ◌≤◌, ◌+◌, ◌-◌, ℕ, Some}
use Rattle.rist_gateway.specs.Sides.{IsSideGoing}
use Rattle.rist_gateway.proofs.threads.side_turns.Given as goal

abbrev pub invariant-turns : goal.invariant-turns
invariant-turns g l = record {
  within : l.made < l.limits.turns;
  link : l.side.link ≡ l.initial.side.link;
  own : (number : ℕ) → g.S.SharesBeside.is_beside l.desk number l.initial.side.pass → g.S.SharesBeside.is_beside l.desk number l.side.pass;
  left : l.limits.turns ≤ g.S.SharesBeside.looks_left l.side.pass + l.made;
  going : (told : ℕ → ℕ) → g.C.Clock.moments l.initial.side.clock ≡ Some told → IsSideGoing g.S.SharesBeside.looks l.initial.side.link l.limits told l.made (g.C.Clock.moments l.side.clock) l.found;
}

abbrev pub decreases-turns : goal.decreases-turns
decreases-turns g l = l.limits.turns - l.made
