use Rattle.std.proofs.Common.{◌≡◌, ◌/◌, ℕ, length, take, map, ap, sym, ◌∙◌, arith, length-set}
use Rattle.std.proofs.lemmas.List.{take_all}
use Rattle.aes_block.specs.Schedule.{words_of}
use Rattle.aes_block.specs.Inside.Words.{word_octets}
use Rattle.aes_block.proofs.ScheduleLemmas.{length-words_of, words_more}
use Rattle.aes_block.proofs.key_schedule.loaded.Goals as goal

pub loop-place-preserved : goal.loop-place-preserved
loop-place-preserved c = (
  omega (arith, length-set {A = ℕ}),
  words_more c.args.key.now c.loop-place.words c.loop-place.place c.word_from.result (omega arith) (omega arith) c.loop-place.invariant.1 c.word_from.ensures,
)

pub returns : goal.returns
returns c =
    let done : c.loop-place.place ≡ length c.args.key.now / 4 = omega arith in
    ap (λ (n : ℕ). map word_octets (take n c.loop-place.words)) (sym done) ∙ c.loop-place.invariant.1
    ∙ take_all c.loop-place.place (words_of c.args.key.now) (omega (arith, length-words_of c.args.key.now))
