use Rattle.std.proofs.Common.{ap}
use Rattle.std.specs.Prelude.{is_ok}
use Rattle.rist_wire.proofs.laws.what_was_stripped_can_be_restored.Goals as goal

pub returns-clause-sent : goal.returns-clause-sent
returns-clause-sent c = λ payload kept shape stripped. ap is_ok (c.what_was_stripped_is_restored.ensures payload kept shape stripped)
