-- The echo that is looked for is the first of those that are left.
use Rattle.std.proofs.Common.{◌≡◌}
use Rattle.rist_rtt.specs.Echo.{echoes_in, first_response}
use Rattle.rist_rtt.proofs.first.first_response.Given as goal

abbrev pub invariant-loop-echo : goal.invariant-loop-echo
invariant-loop-echo l = first_response (echoes_in l.compound) ≡ first_response l.echo-iterator
