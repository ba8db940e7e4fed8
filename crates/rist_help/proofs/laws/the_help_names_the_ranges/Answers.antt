use Rattle.std.proofs.Common.{refl}
use Rattle.rist_help.proofs.laws.the_help_names_the_ranges.Goals as goal

pub returns-clause-options : goal.returns-clause-options
returns-clause-options c = refl

pub returns-clause-bounds : goal.returns-clause-bounds
returns-clause-bounds c = refl
