use Rattle.std.proofs.Common.{◌≡◌, ◌-◌, ◌++◌, List, ℕ, length, take, subst, arith, length-append}
use Rattle.std.proofs.lemmas.List.{take_all}
use Rattle.outside_io.specs.Told.{Takes}
use Rattle.outside_io.proofs.ToldLemmas.{takes_both}
use Rattle.pcap_file.proofs.TakenLemmas.{skips-bad}
use Rattle.pcap_file.proofs.StepLemmas.{body-front, body-bad}
use Rattle.pcap_file.proofs.reader.body.Goals as goal

pub returns-in-Ok-skip-clause-value : goal.returns-in-Ok-skip-clause-value
returns-in-Ok-skip-clause-value g c =
    let buf = c.read_full.new.buf in
    let s = c.in-Ok-skip.ensures.value in
    let given = c.min-given.result in
    let size : length buf ≡ given = omega (arith, c.read_full.auto.buf, c.min-given.ensures, c.told-buf) in
    let all : take c.in-Ok.got buf ≡ buf = take_all c.in-Ok.got buf (omega (arith, size, c.if-got-given.false)) in
    let took = subst (λ (x : List ℕ). Takes c.args.source.now.remaining c.read_full.new.source.remaining x) all c.in-Ok.ensures.ok in (
      buf ++ s.0,
      omega (arith, length-append buf s.0, size, s.1, c.min-given.ensures),
      takes_both _ _ _ buf s.0 took s.2,
      body-front given c.args.count buf _ s.0 size c.min-given.ensures s.1,
    )

pub returns-in-Err-clause-value : goal.returns-in-Err-clause-value
returns-in-Err-clause-value g c =
    let buf = c.read_full.new.buf in
    let given = c.min-given.result in
    let size : length buf ≡ given = omega (arith, c.read_full.auto.buf, c.min-given.ensures, c.told-buf) in
    let all : take c.in-Ok.got buf ≡ buf = take_all c.in-Ok.got buf (omega (arith, size, c.if-got-given.false)) in
    let took = subst (λ (x : List ℕ). Takes c.args.source.now.remaining c.read_full.new.source.remaining x) all c.in-Ok.ensures.ok in
    body-bad c.args.at c.args.count _ _ buf c.in-Err.bad
    (skips-bad c.args.at given (c.args.count - given) c.args.count _ c.read_full.new.source.remaining _ buf c.in-Err.bad size (omega (arith, c.min-given.ensures)) took c.in-Err.ensures.value)
