use Rattle.std.proofs.Common.{rules}
use Rattle.rist_ext.proofs.WordLemmas.{reading-written}
use Rattle.rist_ext.proofs.ext_word.ExtWord.write.Goals as goal

pub returns-clause-octets : goal.returns-clause-octets
returns-clause-octets c = search rules

pub returns-clause-read_back : goal.returns-clause-read_back
returns-clause-read_back c =
    reading-written c.args.self.now _ c.halves-first.ensures.fits c.upper_of.ensures.fits (returns-clause-octets c)
