use Rattle.std.proofs.Common.{arith}
use Rattle.pcap_file.proofs.StepLemmas.{record-read, body-cut}
use Rattle.pcap_file.proofs.reader.record_at.Goals as goal

pub returns-in-Ok-clause-value : goal.returns-in-Ok-clause-value
returns-in-Ok-clause-value g c =
    let e = rw c.in-Ok-Some.field-0-is at c.in-Ok-Some.ensures in
    record-read c.args.format c.args.at _ c.in-Ok.length c.args.source.now.remaining c.head_at.new.source.remaining c.body.new.source.remaining c.in-Ok-Some.head
    _ c.body.new.buf e.value c.in-Ok.ensures.value c.micros_at.ensures.value (omega arith)

pub returns-in-Err-body-clause-value : goal.returns-in-Err-body-clause-value
returns-in-Err-body-clause-value g c =
    let e = rw c.in-Ok-Some.field-0-is at c.in-Ok-Some.ensures in
    body-cut c.args.format c.args.at c.args.source.now.remaining c.head_at.new.source.remaining c.body.new.source.remaining c.in-Ok-Some.head c.body.new.buf
    c.body.new.buf c.in-Err-body.bad e.value c.in-Err-body.ensures.value
