use Rattle.std.proofs.Common.{◌≡◌, ◌-◌, ◌/◌, length, take, map}
use Rattle.aes_block.specs.Schedule.{schedule}
use Rattle.aes_block.specs.Inside.Words.{word_octets}
use Rattle.aes_block.proofs.key_schedule.expanded.Given as goal

abbrev pub invariant-loop-place : goal.invariant-loop-place
invariant-loop-place l = record {
  long : length l.words ≡ 60;
  schedule : map word_octets (take l.place l.words) ≡ schedule l.key (l.place - length l.key / 4);
}
