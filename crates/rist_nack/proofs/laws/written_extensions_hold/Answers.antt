use Rattle.rist_nack.proofs.AskLemmas.{upper_written}
use Rattle.rist_nack.proofs.laws.written_extensions_hold.Goals as goal

pub returns : goal.returns
returns c = upper_written
