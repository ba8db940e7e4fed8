use Rattle.std.proofs.Common.{arith}
use Rattle.outside_io.proofs.Given.{given_front}
use Rattle.outside_io.proofs.bytes.give.Goals as goal

pub returns-clause-given : goal.returns-clause-given
returns-clause-given c = given_front c.args.octets.now _ c.args.at c.copy_front.result _ (omega arith) c.copy_front.ensures.copied
