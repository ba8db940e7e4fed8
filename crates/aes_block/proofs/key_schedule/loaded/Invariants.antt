use Rattle.std.proofs.Common.{◌≡◌, length, take, map}
use Rattle.aes_block.specs.Schedule.{words_of}
use Rattle.aes_block.specs.Inside.Words.{word_octets}
use Rattle.aes_block.proofs.key_schedule.loaded.Given as goal

abbrev pub invariant-loop-place : goal.invariant-loop-place
invariant-loop-place l = (length l.words ≡ 60) × (map word_octets (take l.place l.words) ≡ take l.place (words_of l.key))
