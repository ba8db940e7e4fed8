-- The passes that are left, and those of the workers behind them.
use Rattle.std.proofs.Common.{◌≡◌, ◌≤◌, ◌+◌, ◌++◌, length, map, reverse}
use Rattle.std.specs.Prelude.{vec_capacity}
use Rattle.std.specs.List.{All}
use Rattle.fan_run.specs.Passes.{HasRooms, pass_of}
use Rattle.fan_run.proofs.passes.row_passes.Given as goal

abbrev pub invariant-loop-pass : goal.invariant-loop-pass
invariant-loop-pass g l = record {
  rooms : length l.rooms.items ≡ length l.passes.items;
  places : All (λ came. length came.items ≡ g.N.FanOrigin.places) l.rooms.items;
  room : length l.own.items + length l.passes.items ≤ vec_capacity l.own;
  passes_are : l.passes.items ++ map pass_of (reverse l.own.items) ≡ l.initial.passes.items;
  own : All (HasRooms g.N.FanOrigin.places) l.own.items;
  capacity : vec_capacity l.passes ≡ vec_capacity l.initial.passes;
}

abbrev pub decreases-loop-pass : goal.decreases-loop-pass
decreases-loop-pass g l = length l.passes.items
