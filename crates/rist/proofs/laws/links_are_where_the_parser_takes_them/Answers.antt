use Rattle.std.proofs.Common.{refl}
use Rattle.rist.proofs.laws.links_are_where_the_parser_takes_them.Goals as goal

pub returns-clause-ahead : goal.returns-clause-ahead
returns-clause-ahead c = refl

pub returns-clause-flags : goal.returns-clause-flags
returns-clause-flags c = refl
