-- The last turn says what the whole walk leaves.
use Rattle.std.proofs.Common.{sym, subst}
use Rattle.std.specs.Prelude.{Err, Ok}
use Rattle.capture_walk.specs.Leaves.{passage}
use Rattle.capture_walk.specs.Inside.Sofar.{Sofar}
use Rattle.capture_walk.proofs.EndingLemmas.{ends_as}
use Rattle.capture_walk.proofs.walking.walk.Goals as goal

pub returns-in-Ok-false-clause-work : goal.returns-in-Ok-false-clause-work
returns-in-Ok-false-clause-work g c =
    let over = rw c.in-Ok-false.field-0-test at c.in-Ok-false.ensures.over in
    let i = c.loop-bad.invariant in
    (ends_as (g.R.Records.form c.loop-bad.reader) (g.R.Records.form c.args.reader.now) (g.V.Visitor.so_far c.loop-bad.visitor) (g.V.Visitor.so_far c.args.visitor.now) (g.V.Visitor.whole c.loop-bad.visitor) (g.V.Visitor.whole c.args.visitor.now)
    (g.V.Visitor.has_ended c.visit_next.new.visitor) (passage (g.R.Records.remaining c.args.reader.now) (g.R.Records.remaining c.visit_next.new.reader) (g.K.Sink.contents c.args.sink.now) (g.K.Sink.contents c.visit_next.new.sink)) (Ok tt) i.form i.so_far i.whole
    (over (g.R.Records.remaining c.args.reader.now) (g.K.Sink.contents c.args.sink.now)
    (subst (λ f. Sofar f g.R.Records.has_read g.V.Visitor.has_seen (g.R.Records.remaining c.args.reader.now) c.loop-bad.reader c.loop-bad.visitor (g.K.Sink.contents c.args.sink.now) (g.K.Sink.contents c.loop-bad.sink)) (sym i.so_far) i.sofar))).leaves

pub returns-in-Ok-false-clause-seen : goal.returns-in-Ok-false-clause-seen
returns-in-Ok-false-clause-seen g c =
    let over = rw c.in-Ok-false.field-0-test at c.in-Ok-false.ensures.over in
    let i = c.loop-bad.invariant in
    (ends_as (g.R.Records.form c.loop-bad.reader) (g.R.Records.form c.args.reader.now) (g.V.Visitor.so_far c.loop-bad.visitor) (g.V.Visitor.so_far c.args.visitor.now) (g.V.Visitor.whole c.loop-bad.visitor) (g.V.Visitor.whole c.args.visitor.now)
    (g.V.Visitor.has_ended c.visit_next.new.visitor) (passage (g.R.Records.remaining c.args.reader.now) (g.R.Records.remaining c.visit_next.new.reader) (g.K.Sink.contents c.args.sink.now) (g.K.Sink.contents c.visit_next.new.sink)) (Ok tt) i.form i.so_far i.whole
    (over (g.R.Records.remaining c.args.reader.now) (g.K.Sink.contents c.args.sink.now)
    (subst (λ f. Sofar f g.R.Records.has_read g.V.Visitor.has_seen (g.R.Records.remaining c.args.reader.now) c.loop-bad.reader c.loop-bad.visitor (g.K.Sink.contents c.args.sink.now) (g.K.Sink.contents c.loop-bad.sink)) (sym i.so_far) i.sofar))).seen

pub returns-in-Err-clause-work : goal.returns-in-Err-clause-work
returns-in-Err-clause-work g c =
    let i = c.loop-bad.invariant in
    (ends_as (g.R.Records.form c.loop-bad.reader) (g.R.Records.form c.args.reader.now) (g.V.Visitor.so_far c.loop-bad.visitor) (g.V.Visitor.so_far c.args.visitor.now) (g.V.Visitor.whole c.loop-bad.visitor) (g.V.Visitor.whole c.args.visitor.now)
    (g.V.Visitor.has_ended c.visit_next.new.visitor) (passage (g.R.Records.remaining c.args.reader.now) (g.R.Records.remaining c.visit_next.new.reader) (g.K.Sink.contents c.args.sink.now) (g.K.Sink.contents c.visit_next.new.sink)) (Err c.in-Err.bad) i.form i.so_far i.whole
    (c.in-Err.ensures.over (g.R.Records.remaining c.args.reader.now) (g.K.Sink.contents c.args.sink.now)
    (subst (λ f. Sofar f g.R.Records.has_read g.V.Visitor.has_seen (g.R.Records.remaining c.args.reader.now) c.loop-bad.reader c.loop-bad.visitor (g.K.Sink.contents c.args.sink.now) (g.K.Sink.contents c.loop-bad.sink)) (sym i.so_far) i.sofar))).leaves

pub returns-in-Err-clause-seen : goal.returns-in-Err-clause-seen
returns-in-Err-clause-seen g c =
    let i = c.loop-bad.invariant in
    (ends_as (g.R.Records.form c.loop-bad.reader) (g.R.Records.form c.args.reader.now) (g.V.Visitor.so_far c.loop-bad.visitor) (g.V.Visitor.so_far c.args.visitor.now) (g.V.Visitor.whole c.loop-bad.visitor) (g.V.Visitor.whole c.args.visitor.now)
    (g.V.Visitor.has_ended c.visit_next.new.visitor) (passage (g.R.Records.remaining c.args.reader.now) (g.R.Records.remaining c.visit_next.new.reader) (g.K.Sink.contents c.args.sink.now) (g.K.Sink.contents c.visit_next.new.sink)) (Err c.in-Err.bad) i.form i.so_far i.whole
    (c.in-Err.ensures.over (g.R.Records.remaining c.args.reader.now) (g.K.Sink.contents c.args.sink.now)
    (subst (λ f. Sofar f g.R.Records.has_read g.V.Visitor.has_seen (g.R.Records.remaining c.args.reader.now) c.loop-bad.reader c.loop-bad.visitor (g.K.Sink.contents c.args.sink.now) (g.K.Sink.contents c.loop-bad.sink)) (sym i.so_far) i.sofar))).seen
