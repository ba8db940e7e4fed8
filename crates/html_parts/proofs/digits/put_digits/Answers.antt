-- One digit more.
use Rattle.std.proofs.Common.{◌-◌, length, refl, take, arith}
use Rattle.html_parts.proofs.DigitLemmas.{digits_done, digits_more}
use Rattle.html_parts.proofs.digits.put_digits.Goals as goal

pub loop-place-preserved : goal.loop-place-preserved
loop-place-preserved c = record {
  octets = digits_more c.args.digits.now c.loop-place.place (length c.args.digits.now - c.loop-place.place - 1) (take c.loop-place.end c.loop-place.out) (take c.put_digit-end.result c.put_digit-end.new.out) (take c.args.at c.args.out.now) c.loop-place-test.true refl c.loop-place.invariant.octets c.put_digit-end.ensures.octets;
  within = omega (arith, c.put_digit-end.ensures.within, c.loop-place.invariant.within);
}

pub returns-clause-octets : goal.returns-clause-octets
returns-clause-octets c = digits_done c.args.digits.now c.loop-place.place (take c.loop-place.end c.loop-place.out) (take c.args.at c.args.out.now) (omega arith) c.loop-place.invariant.octets
