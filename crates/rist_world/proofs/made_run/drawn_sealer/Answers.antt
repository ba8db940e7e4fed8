use Rattle.std.proofs.Common.{rules}
use Rattle.rist_world.proofs.MadeLemmas.{left_after, never_fails}
use Rattle.rist_world.proofs.made_run.drawn_sealer.Goals as goal

pub unreachable-requires : goal.unreachable-requires
unreachable-requires c = never_fails c.args.words.now c.with.new.entropy c.requires.left c.requires.faults c.in-Err.ensures.cause c.in-Err.ensures.err

pub returns-clause-left : goal.returns-clause-left
returns-clause-left c = left_after c.args.words.now c.with.new.entropy c.in-Ok.ensures.ok.words c.in-Ok.ensures.ok.taken c.in-Ok.ensures.ok.given.drawn c.requires.faults (search rules)
