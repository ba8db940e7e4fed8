use Rattle.rist_rtt.proofs.EchoLemmas.{response_written}
use Rattle.rist_rtt.proofs.laws.written_answers_are_read.Goals as goal

pub returns : goal.returns
returns c = response_written
