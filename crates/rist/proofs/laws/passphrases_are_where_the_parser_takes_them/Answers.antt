use Rattle.std.proofs.Common.{refl}
use Rattle.rist.proofs.laws.passphrases_are_where_the_parser_takes_them.Goals as goal

pub returns-clause-own : goal.returns-clause-own
returns-clause-own c = refl

pub returns-clause-incoming : goal.returns-clause-incoming
returns-clause-incoming c = refl
