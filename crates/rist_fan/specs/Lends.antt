-- What a fan ends as, where its first sink is lent.
use Rattle.std.specs.Borrow.{Lends, Fml, RattleType, MutBor}
use Rattle.rist_fan.specs.contracts.fan.Fan.{the_row}
use Rattle.rist_fan.specs.declared.fan.Fan.{Fan}

-- the sink at place 0
abbrev pub first_sink : {K : Type 0} → Fan K → K
first_sink fan = fan.first.sink

-- the same fan with another sink there
abbrev pub with_sink : {K : Type 0} → Fan K → K → Fan K
with_sink fan sink = record fan { first = record fan.first { sink = sink } }

-- once the borrow r ends, the fan has the first sink that r was left with
abbrev pub lends_sink : (K : RattleType) → MutBor (Fan K.Denot) → MutBor K.Denot → Fml
lends_sink K s r = Lends (the_row K) K s r (with_sink s.now)
