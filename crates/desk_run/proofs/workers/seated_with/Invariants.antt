-- the parts that are left, and those of the workers behind them
use Rattle.std.proofs.Common.{◌≡◌, ◌≤◌, ◌+◌, ◌++◌, length, map, reverse}
use Rattle.std.specs.Prelude.{vec_capacity}
use Rattle.std.specs.List.{All}
use Rattle.desk_run.specs.Workers.{link_of, clock_of, opener_of, trace_of, is_unended}
use Rattle.desk_run.proofs.workers.seated_with.Given as goal

abbrev pub invariant-loop-link : goal.invariant-loop-link
invariant-loop-link g l = record {
  clocks : length l.clocks.items ≡ length l.links.items;
  openers : length l.openers.items ≡ length l.links.items;
  own : length l.own.items ≡ length l.links.items;
  room : length l.workers.items + length l.links.items ≤ vec_capacity l.workers;
  links_are : l.links.items ++ map link_of (reverse l.workers.items) ≡ l.initial.links.items;
  clocks_are : l.clocks.items ++ map clock_of (reverse l.workers.items) ≡ l.initial.clocks.items;
  openers_are : l.openers.items ++ map opener_of (reverse l.workers.items) ≡ l.initial.openers.items;
  own_are : l.own.items ++ map trace_of (reverse l.workers.items) ≡ l.initial.own.items;
  ends : All is_unended l.workers.items;
  link_room : vec_capacity l.links ≡ vec_capacity l.initial.links;
  clock_room : vec_capacity l.clocks ≡ vec_capacity l.initial.clocks;
  own_room : vec_capacity l.own ≡ vec_capacity l.initial.own;
}

abbrev pub decreases-loop-link : goal.decreases-loop-link
decreases-loop-link g l = length l.links.items
