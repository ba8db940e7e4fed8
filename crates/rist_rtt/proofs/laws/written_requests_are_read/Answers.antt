use Rattle.rist_rtt.proofs.EchoLemmas.{request_written}
use Rattle.rist_rtt.proofs.laws.written_requests_are_read.Goals as goal

pub returns : goal.returns
returns c = request_written
