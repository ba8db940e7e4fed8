use Rattle.std.proofs.Common.{subst, Err}
use Rattle.capture_file.specs.Reading.{ReadsNext}
use Rattle.capture_file.proofs.ReadingLemmas.{next_of_bad}
use Rattle.capture_file.proofs.reader.Reader.advance.Goals as goal

pub returns-in-Err-record_at-clause-value : goal.returns-in-Err-record_at-clause-value
returns-in-Err-record_at-clause-value g c =
    let made = next_of_bad c.self.inside.at c.in-Ok.at c.self.inside.source.remaining c.enter.new.source.remaining c.record_at.new.source.remaining
    c.record_at.new.source.taken c.in-Err-record_at.bad c.in-Ok.ensures.value c.in-Err-record_at.ensures.value in
    subst (λ v. ReadsNext v.at v.remaining c.record_at.new.source.remaining c.record_at.new.source.taken (Err c.in-Err-record_at.bad)) c.self.view_is made
