-- The echo that is looked for is the first of those that are left.
use Rattle.std.proofs.Common.{◌≡◌}
use Rattle.rist_rtt.specs.Echo.{echoes_in, first_request}
use Rattle.rist_rtt.proofs.first.first_request.Given as goal

abbrev pub invariant-loop-echo : goal.invariant-loop-echo
invariant-loop-echo l = first_request (echoes_in l.compound) ≡ first_request l.echo-iterator
