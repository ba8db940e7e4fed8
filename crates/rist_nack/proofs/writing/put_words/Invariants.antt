use Rattle.std.proofs.Common.{◌≡◌, ◌*◌, take}
use Rattle.rist_nack.specs.Written.{words_spelling}
use Rattle.rist_nack.proofs.writing.put_words.Given as goal

abbrev pub invariant-loop-word : goal.invariant-loop-word
invariant-loop-word l = record {
  at : l.place ≡ 4 * l.word-index;
  octets : take l.place l.out ≡ words_spelling (take l.word-index l.words);
}
