use Rattle.std.proofs.Common.{refl, ◌∙◌, ap, ◌≡◌, arith, take}
use Rattle.std.proofs.lemmas.List.{length-take-le, take_all}
use Rattle.pcap_file.specs.Tests.{fault_of_head}
use Rattle.pcap_file.proofs.TakenLemmas.{front-fails, some-fails}
use Rattle.pcap_file.proofs.reader.head_at.Goals as goal

pub returns-in-Err-clause-value : goal.returns-in-Err-clause-value
returns-in-Err-clause-value g c =
    let e = c.in-Ok.ensures in
    let buf = c.read_full.new.buf in
    let got = take c.in-Ok.count buf in
    let size = length-take-le c.in-Ok.count buf e.within in
    let F = fault_of_head c.args.order c.args.at in
    let all : got ≡ buf = take_all c.in-Ok.count buf (omega (arith, c.if-count-lt-HEAD_LEN.false, c.read_full.auto.buf)) in (
      refl,
      some-fails 16 F c.in-Err.kind c.args.source.now.remaining _ (omega (arith, size, c.if-count-lt-HEAD_LEN.false))
          (front-fails 16 F c.in-Err.kind c.args.source.now.remaining c.read_full.new.source.remaining got e.ok
          (omega (arith, size, e.within, c.read_full.auto.buf)) (λ lt. absurd (omega (arith, size, c.if-count-lt-HEAD_LEN.false, lt))) (ap F all ∙ c.in-Err.ensures.fault)),
    )
