use Rattle.std.proofs.Common.{refl, arith, take}
use Rattle.std.proofs.lemmas.List.{length-take-le}
use Rattle.pcap_file.specs.Tests.{fault_of_header}
use Rattle.pcap_file.proofs.TakenLemmas.{front-fails, only-fails}
use Rattle.pcap_file.proofs.reader.begin.Goals as goal

pub returns-in-Err-clause-value : goal.returns-in-Err-clause-value
returns-in-Err-clause-value g c =
    let e = c.in-Ok.ensures in
    let got = take c.in-Ok.count c.read_full.new.buf in
    let size = length-take-le c.in-Ok.count c.read_full.new.buf e.within in (
      refl,
      only-fails 24 fault_of_header c.in-Err.kind c.args.source.now.remaining _
          (front-fails 24 fault_of_header c.in-Err.kind c.args.source.now.remaining c.read_full.new.source.remaining got e.ok
          (omega (arith, size, e.within, c.read_full.auto.buf)) (λ lt. e.end (omega (arith, size, c.read_full.auto.buf, lt))) c.in-Err.ensures.fault),
    )
