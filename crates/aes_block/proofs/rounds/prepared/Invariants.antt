use Rattle.std.proofs.Common.{◌≡◌, ℕ, ◌<◌, [], length, get_or}
use Rattle.aes_block.specs.Inside.Keys.{unprepared}
use Rattle.aes_block.proofs.rounds.prepared.Given as goal

abbrev pub invariant-loop-round : goal.invariant-loop-round
invariant-loop-round l = record {
  long : length l.all ≡ 15;
  done : (r : ℕ) → r < l.round → unprepared (get_or l.all r []) ≡ get_or l.keys r [];
}
