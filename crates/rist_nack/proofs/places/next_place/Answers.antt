use Rattle.std.proofs.Common.{sym, ◌∙◌, arith}
use Rattle.rist_nack.proofs.AskLemmas.{places_set, places_clear}
use Rattle.rist_nack.proofs.places.next_place.Goals as goal

pub returns-then-is_set-clause-places : goal.returns-then-is_set-clause-places
returns-then-is_set-clause-places c =
    (c.loop-place-test.true, sym c.loop-place.invariant.same ∙ places_set c.loop-place.place c.loop-place.mask c.loop-place-test.true c.if-is_set.true)

pub loop-place-preserved : goal.loop-place-preserved
loop-place-preserved c = record {
  within = omega arith;
  same = sym (places_clear c.loop-place.place c.loop-place.mask c.loop-place-test.true c.if-is_set.false) ∙ c.loop-place.invariant.same;
}
