use Rattle.capture_file.proofs.ReadingLemmas.{body_cut}
use Rattle.capture_file.proofs.reader.record_at.Goals as goal

pub returns-in-Err-body-clause-value : goal.returns-in-Err-body-clause-value
returns-in-Err-body-clause-value g c =
    let e = rw c.in-Ok-Some.field-0-is at c.in-Ok-Some.ensures in
    body_cut c.args.at c.args.source.now.remaining c.head_at.new.source.remaining c.body.new.source.remaining c.in-Ok-Some.head c.body.new.source.taken c.body.new.source.taken
    c.in-Err-body.bad e.value c.in-Err-body.ensures.value
