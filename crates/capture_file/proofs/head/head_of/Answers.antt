use Rattle.std.proofs.Common.{refl}
use Rattle.capture_file.proofs.HeadLemmas.{twelve}
use Rattle.capture_file.proofs.head.head_of.Goals as goal

pub returns-clause-octets : goal.returns-clause-octets
returns-clause-octets c = twelve c.args.octets.now _ _ _ _ c.requires refl c.in-Some.ensures.some c.number_16-length.ensures.spelled c.number_64-us.ensures.spelled
