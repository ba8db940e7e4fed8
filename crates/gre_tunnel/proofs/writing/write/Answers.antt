use Rattle.std.proofs.Common.{rules}
use Rattle.gre_tunnel.proofs.HeaderLemmas.{reading-written}
use Rattle.gre_tunnel.proofs.writing.write.Goals as goal

pub returns-clause-octets : goal.returns-clause-octets
returns-clause-octets c = search rules

pub returns-clause-read_back : goal.returns-clause-read_back
returns-clause-read_back c = λ more.
    reading-written c.args.tunnel c.args.key c.args.sequence c.args.long c.args.protocol _ more c.put_number-at.ensures.fits c.put_number.ensures.fits
    c.requires.paired c.requires.protocol (returns-clause-octets c)
