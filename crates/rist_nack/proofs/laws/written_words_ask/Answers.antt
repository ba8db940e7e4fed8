use Rattle.rist_nack.proofs.AskLemmas.{words_written}
use Rattle.rist_nack.proofs.laws.written_words_ask.Goals as goal

pub returns : goal.returns
returns c = words_written
