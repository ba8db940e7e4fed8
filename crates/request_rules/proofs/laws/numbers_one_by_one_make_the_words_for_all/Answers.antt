use Rattle.std.proofs.Common.{sym}
use Rattle.request_rules.proofs.WordLemmas.{words-snoc, words_above}
use Rattle.request_rules.proofs.laws.numbers_one_by_one_make_the_words_for_all.Goals as goal

pub returns-clause-words : goal.returns-clause-words
returns-clause-words c = λ kind low x numbers h. sym (words-snoc kind low x numbers h)

pub returns-clause-above : goal.returns-clause-above
returns-clause-above c = λ kind low x numbers h near. words_above kind low x numbers near h
