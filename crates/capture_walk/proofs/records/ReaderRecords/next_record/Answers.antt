-- The reader's answer, as one of a file's records.
use Rattle.std.proofs.Common.{◌≡◌, ◌++◌, ◌∷◌, [], ◌∙◌, take, length, arith, ap, sym, subst, IfSome}
use Rattle.std.specs.Prelude.{Err}
use Rattle.capture_file.specs.Heads.{record_of}
use Rattle.capture_walk.specs.Form.{Capture}
use Rattle.std.proofs.lemmas.List.{take_all}
use Rattle.capture_walk.specs.Inside.Sofar.{HasRead}
use Rattle.capture_walk.specs.Leaves.{HasGiven, EndsAfter}
use Rattle.capture_walk.specs.declared.walk_bad.WalkBad.{WalkBad}
use Rattle.capture_walk.proofs.GoingLemmas.{reads_on}
use Rattle.capture_walk.proofs.CaptureLemmas.{by_told, given_told}
use Rattle.capture_walk.proofs.records.ReaderRecords.next_record.Goals as goal

pub returns-in-Ok-Some-clause-on : goal.returns-in-Ok-Some-clause-on
returns-in-Ok-Some-clause-on g c first done read =
    let e = rw c.in-Ok-Some.field-0-is at c.in-Ok-Some.ensures in
    let octets = c.advance.new.self.octets in
    let whole : take c.in-Ok-Some.head.length octets ≡ octets = take_all c.in-Ok-Some.head.length octets (omega (arith, e.size)) in
    subst (λ l. HasRead first c.advance.new.self.remaining c.advance.new.self.at (done ++ record_of c.in-Ok-Some.head l ∷ [])) whole
    (reads_on first c.args.self.now.remaining c.advance.new.self.remaining c.args.self.now.at c.advance.new.self.at done octets c.in-Ok-Some.head
    read e.value e.at e.within (ap length whole ∙ e.size))

pub returns-in-Ok-Some-clause-given : goal.returns-in-Ok-Some-clause-given
returns-in-Ok-Some-clause-given g c first done read =
    let e = rw c.in-Ok-Some.field-0-is at c.in-Ok-Some.ensures in
    let place = e.at in
    let octets = c.advance.new.self.octets in
    let whole : take c.in-Ok-Some.head.length octets ≡ octets = take_all c.in-Ok-Some.head.length octets (omega (arith, e.size)) in
    subst (λ l. IfSome first (λ b. HasGiven Capture 0 (done ++ record_of c.in-Ok-Some.head l ∷ []) b c.advance.new.self.remaining)) whole
    (given_told first c.args.self.now.remaining c.advance.new.self.remaining c.args.self.now.at c.advance.new.self.at done
    (record_of c.in-Ok-Some.head (take c.in-Ok-Some.head.length octets)) read e.value.0 (omega (arith, place)) e.value.1)

pub returns-in-Err-clause-end : goal.returns-in-Err-clause-end
returns-in-Err-clause-end g c first done read =
    subst (λ (w : WalkBad). IfSome first (λ b. EndsAfter Capture 0 b c.advance.new.self.remaining done (Err w))) (sym c.from.ensures)
    (by_told first c.args.self.now.remaining c.advance.new.self.remaining c.args.self.now.at done c.advance.new.self.octets c.in-Err.bad read c.in-Err.ensures.value)
