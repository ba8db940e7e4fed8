use Rattle.std.proofs.Common.{◌≡◌, ℕ, ◌<◌, [], map, length, get_or}
use Rattle.aes_block.specs.Cipher.{round_key}
use Rattle.aes_block.specs.Inside.Words.{word_octets}
use Rattle.aes_block.proofs.key_schedule.round_keys.Given as goal

abbrev pub invariant-loop-round : goal.invariant-loop-round
invariant-loop-round l = record {
  long : length l.keys ≡ 15;
  done : (r : ℕ) → r < l.round → get_or l.keys r [] ≡ round_key (map word_octets l.words) r;
}
