use Rattle.std.proofs.Common.{arith, rules}
use Rattle.std.proofs.lemmas.List.{take_rest}
use Rattle.rtcp_compound.proofs.CompoundLemmas.{tested_on, tested_last, tested_first}
use Rattle.rtcp_compound.proofs.reading.test_all.Goals as goal

pub packets-init : goal.packets-init
packets-init c = record { within = omega arith; same = tested_first c.args.octets.now }

pub returns-in-Ok-clause-accepted : goal.returns-in-Ok-clause-accepted
returns-in-Ok-clause-accepted c =
    tested_last c.args.octets.now _ c.packets.place c.in-Ok.length _ (take_rest c.args.octets.now c.packets.place) c.in-Ok.ensures.length c.if-length-rest.true c.in-Ok.ensures.accepted c.packets.invariant.same

pub packets-preserved : goal.packets-preserved
packets-preserved c = record {
  within = search rules;
  same = tested_on c.args.octets.now _ c.packets.place c.in-Ok.length _ (take_rest c.args.octets.now c.packets.place) c.packets.invariant.within c.in-Ok.ensures.length c.in-Ok.ensures.within.1 c.if-length-rest.false c.in-Ok.ensures.accepted c.packets.invariant.same;
}
