-- `==` says whether the words are the same.
use Rattle.rist_compare.proofs.SameLemmas.{words_decide}
use Rattle.rist_compare.proofs.same.are_same_words.Goals as goal

pub returns : goal.returns
returns c = record { value = words_decide c.args.one.now c.args.other.now c.eq.result c.eq.ensures }
