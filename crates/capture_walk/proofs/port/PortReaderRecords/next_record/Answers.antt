-- The turn after frames that carry nothing gives the record, or says how the records ended.
use Rattle.std.proofs.Common.{◌++◌, ◌∷◌, [], ◌∙◌, arith, ap₂, subst, IfSome}
use Rattle.std.specs.Prelude.{Ok, Err}
use Rattle.capture_file.specs.Heads.{record_of}
use Rattle.capture_walk.specs.Form.{Form, Pcap}
use Rattle.capture_walk.specs.Leaves.{HasGiven, EndsAfter}
use Rattle.capture_walk.proofs.PortLemmas.{steps_on, steps_over, gives_on, ends_on}
use Rattle.capture_walk.proofs.PortEndLemmas.{turns_bad}
use Rattle.capture_walk.proofs.port.PortReaderRecords.next_record.Goals as goal

pub returns-in-Frame-Some-clause-on : goal.returns-in-Frame-Some-clause-on
returns-in-Frame-Some-clause-on g c first done read =
    let e = rw c.in-Frame-Some.field-0-is at c.in-Frame-Some.ensures in
    steps_on first c.loop-head.self c.turn.new.self done (record_of c.in-Frame-Some.head c.turn.new.self.octets ∷ [])
    (c.loop-head.invariant.kept first done read) e.value e.same.0 e.same.1

pub returns-in-Frame-Some-clause-given : goal.returns-in-Frame-Some-clause-given
returns-in-Frame-Some-clause-given g c first done read =
    let e = rw c.in-Frame-Some.field-0-is at c.in-Frame-Some.ensures in
    let i = c.loop-head.invariant in
    subst (λ (f : Form). IfSome first (λ b. HasGiven f 0 (done ++ record_of c.in-Frame-Some.head c.turn.new.self.octets ∷ []) b c.turn.new.self.frames.remaining)) (ap₂ Pcap i.profile i.port)
    (gives_on first c.loop-head.self c.turn.new.self done (record_of c.in-Frame-Some.head c.turn.new.self.octets ∷ []) (i.kept first done read) e.value)

pub loop-head-preserved : goal.loop-head-preserved
loop-head-preserved g c =
    let e = rw c.in-Frame-None.field-0-is at c.in-Frame-None.ensures in
    let i = c.loop-head.invariant in
    let further = e.progress.0 in
    record {
      kept = λ first done read. steps_over first c.loop-head.self c.turn.new.self done (i.kept first done read) e.value e.same.0 e.same.1;
      running = e.spent;
      profile = e.same.0 ∙ i.profile;
      port = e.same.1 ∙ i.port;
      place = omega (arith, i.place, further);
      faults = e.cause ∙ i.faults;
    }

pub returns-in-End-clause-end : goal.returns-in-End-clause-end
returns-in-End-clause-end g c first done read =
    let i = c.loop-head.invariant in
    subst (λ (f : Form). IfSome first (λ b. EndsAfter f 0 b c.turn.new.self.frames.remaining done (Ok tt))) (ap₂ Pcap i.profile i.port)
    (ends_on first c.loop-head.self c.turn.new.self done (i.kept first done read) c.in-End.ensures.value)

pub returns-in-Bad-clause-end : goal.returns-in-Bad-clause-end
returns-in-Bad-clause-end g c first done read =
    let i = c.loop-head.invariant in
    subst (λ (f : Form). IfSome first (λ b. EndsAfter f 0 b c.turn.new.self.frames.remaining done (Err c.in-Bad.bad))) (ap₂ Pcap i.profile i.port)
    (turns_bad first c.loop-head.self c.turn.new.self done c.in-Bad.bad (i.kept first done read) c.in-Bad.ensures.value)
