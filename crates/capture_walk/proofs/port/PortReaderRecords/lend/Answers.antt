use Rattle.std.proofs.Common.{refl, ap, sym, arith}
use Rattle.std.proofs.lemmas.List.{take_at}
use Rattle.capture_walk.proofs.port.PortReaderRecords.lend.Goals as goal

pub returns-clause-called : goal.returns-clause-called
returns-clause-called g c = record {
  lent = _;
  back = _;
  x = _;
  x_back = _;
  y = _;
  y_back = _;
  before = (ap (λ v. v.octets) c.self.view_is, refl, refl);
  after = (sym (take_at c.call.new.arg2 _ c.self.inside.length (omega (arith, c.call.auto.arg2))), refl, refl);
  met = c.call.ensures;
}
