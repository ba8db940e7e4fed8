-- what is asked for of the numbers so far
use Rattle.std.proofs.Common.{◌-◌, ◌≤◌, max}
use Rattle.std.specs.List.{filter, range_with_len}
use Rattle.plain_rules.specs.Inside.RequestsAsking.{IsAskedOf, is_wanted}
use Rattle.plain_rules.proofs.requests.asks.ask_between.Given as goal

abbrev pub invariant-loop-number : goal.invariant-loop-number
invariant-loop-number l = IsAskedOf l.policy.kind (filter (is_wanted l.policy l.rtt l.t l.asking) (range_with_len l.low (l.number - l.low))) l.words l.numbers.items × (l.number ≤ max l.low l.high)
