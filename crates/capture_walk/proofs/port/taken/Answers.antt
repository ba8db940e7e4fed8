use Rattle.std.proofs.Common.{arith, length-take}
use Rattle.capture_walk.proofs.port.taken.Goals as goal

pub returns-clause-fits : goal.returns-clause-fits
returns-clause-fits c = record {
  link = omega arith;
  us = omega (arith, c.ranges.us.fits);
  octets = omega (arith, length-take c.copy_front-length.result c.copy_front-length.new.buf, c.copy_front-length.ensures.count, c.in_ok-channel.ensures.within);
}
