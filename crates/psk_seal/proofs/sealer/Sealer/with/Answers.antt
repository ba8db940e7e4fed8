use Rattle.std.proofs.Common.{arith, ◌∙◌}
use Rattle.psk_seal.proofs.NonceLemmas.{draws_more, are_drawn}
use Rattle.psk_seal.proofs.sealer.Sealer.with.Goals as goal

pub loop-place-preserved : goal.loop-place-preserved
loop-place-preserved g c = record {
  drawn = draws_more _ _ _ c.loop-place.nonces c.loop-place.place c.in-Ok.word c.first_free.result c.loop-place-test.true c.loop-place.invariant.drawn c.in-Ok.ensures.ok c.first_free.ensures.value;
  faults = c.in-Ok.ensures.cause ∙ c.loop-place.invariant.faults;
}

pub invariant_of-result : goal.invariant_of-result
invariant_of-result g c = (
  are_drawn _ _ c.loop-place.nonces c.loop-place.place (omega (arith, c.loop-place.auto.place-end, c.loop-place-test.false)) c.loop-place.invariant.drawn,
  omega arith,
)

pub returns-clause-nonces : goal.returns-clause-nonces
returns-clause-nonces g c =
    are_drawn _ _ c.loop-place.nonces c.loop-place.place (omega (arith, c.loop-place.auto.place-end, c.loop-place-test.false)) c.loop-place.invariant.drawn
