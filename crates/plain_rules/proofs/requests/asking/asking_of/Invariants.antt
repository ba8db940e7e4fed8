-- the steps so far
use Rattle.std.proofs.Common.{take}
use Rattle.plain_rules.specs.Requests.Told.{history_of}
use Rattle.plain_rules.specs.Inside.RequestsAsking.{IsSmallAsking, AskingShows}
use Rattle.plain_rules.proofs.requests.asking.asking_of.Given as goal

abbrev pub invariant-loop-place : goal.invariant-loop-place
invariant-loop-place l = IsSmallAsking l.asking × AskingShows l.limits l.policy l.asking (history_of (take l.place l.steps))
