use Rattle.std.proofs.Common.{◌≡◌, length, map, take}
use Rattle.rist_reporter.specs.Nacks.{halves_of}
use Rattle.rist_reporter.proofs.requests.put_halves.Given as goal

abbrev pub invariant-loop-place : goal.invariant-loop-place
invariant-loop-place l = record {
  room : length l.halves ≡ 64;
  value : take l.place l.halves ≡ map halves_of (take l.place l.words);
}
