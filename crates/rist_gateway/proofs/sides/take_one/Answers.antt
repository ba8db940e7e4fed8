-- The last part is a worker's.
use Rattle.std.proofs.Common.{◌≡◌, [], rules}
use Rattle.rist_gateway.proofs.GatherLemmas.{last_part, no_part}
use Rattle.rist_gateway.proofs.sides.take_one.Goals as goal

pub returns-in-Some-clause-taken : goal.returns-in-Some-clause-taken
returns-in-Some-clause-taken g c = λ w left is room.
    let last = last_part _ _ left c.in-Some.part w c.in-Some.ensures.items is in
    (c.put_back.ensures.put w last.1 room, last.0)

pub returns-in-None-clause-taken : goal.returns-in-None-clause-taken
returns-in-None-clause-taken g c = λ w left is room.
    let none : c.args.parts.now.items ≡ [] = search rules in
    absurd (no_part c.args.parts.now.items left w none is)
