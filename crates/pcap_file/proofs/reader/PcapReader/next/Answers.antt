use Rattle.std.proofs.Common.{subst, Err, Some, true}
use Rattle.pcap_file.specs.Reader.{ReaderState}
use Rattle.pcap_file.specs.Reading.{ReadsNext}
use Rattle.pcap_file.proofs.StepLemmas.{next-of-bad}
use Rattle.pcap_file.proofs.reader.PcapReader.next.Goals as goal

pub returns-in-Err-record_at-clause-value : goal.returns-in-Err-record_at-clause-value
returns-in-Err-record_at-clause-value g c =
    let old : ReaderState = record {
      remaining = c.self.inside.source.remaining;
      ahead = c.self.inside.source.ahead;
      format = c.self.inside.format;
      at = c.self.inside.at;
      faults = c.self.inside.source.faults;
      spent = c.self.inside.spent;
    } in
    let new : ReaderState = record {
      remaining = c.record_at.new.source.remaining;
      ahead = c.record_at.new.source.ahead;
      format = Some c.in-Ok.format;
      at = c.self.inside.at;
      faults = c.record_at.new.source.faults;
      spent = true;
    } in
    subst (λ (v : ReaderState). ReadsNext v new c.record_at.new.buf (Err c.in-Err-record_at.bad)) c.self.view_is
    (next-of-bad old new c.enter.new.source.remaining c.in-Ok.format c.record_at.new.buf c.in-Err-record_at.bad c.in-Ok.ensures.value
    c.in-Err-record_at.ensures.value)
