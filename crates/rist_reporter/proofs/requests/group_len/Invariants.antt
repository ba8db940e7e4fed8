-- the words passed have this upper half
use Rattle.std.proofs.Common.{◌≡◌, ◌+◌, drop}
use Rattle.rist_reporter.specs.Inside.Groups.{leading}
use Rattle.rist_reporter.proofs.requests.group_len.Given as goal

abbrev pub invariant-loop-place : goal.invariant-loop-place
invariant-loop-place l = l.place + leading l.upper (drop l.place l.words) ≡ leading l.upper l.words
