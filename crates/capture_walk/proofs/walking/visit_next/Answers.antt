-- A record is one more, and whatever else the reader answers ends the walk.
use Rattle.std.proofs.Common.{ℕ, List, Option, [], ◌∷◌, ◌++◌, ap, sym, subst, IfSome}
use Rattle.std.specs.Prelude.{Err, Ok}
use Rattle.capture_file.specs.Heads.{record_of}
use Rattle.capture_walk.specs.Leaves.{Brought, HasGiven}
use Rattle.capture_walk.proofs.GoingLemmas.{gained}
use Rattle.capture_walk.proofs.EndingLemmas.{brought, ended_told, front_told, end_front_told, refused_told}
use Rattle.capture_walk.proofs.walking.visit_next.Goals as goal

pub returns-in-Ok-clause-on : goal.returns-in-Ok-clause-on
returns-in-Ok-clause-on g c first u sofar =
    let e = rw c.in-Ok-Some.field-0-is at c.in-Ok-Some.ensures in
    record {
      done = _;
      read = c.in-Ok.ensures.read first _ (e.on first sofar.done sofar.read);
      seen = c.in-Ok.ensures.seen sofar.done sofar.seen;
      sink = gained u (g.K.Sink.contents c.args.sink.now) (g.K.Sink.contents c.bring.new.sink) _ _ sofar.sink (c.in-Ok.ensures.sink sofar.done sofar.seen);
    }

pub returns-in-Err-WriteFault-clause-over : goal.returns-in-Err-WriteFault-clause-over
returns-in-Err-WriteFault-clause-over g c first u sofar =
    let e = rw c.in-Ok-Some.field-0-is at c.in-Ok-Some.ensures in
    record {
      leaves = front_told (g.R.Records.form c.args.reader.now) (g.V.Visitor.so_far c.args.visitor.now) (g.V.Visitor.whole c.args.visitor.now) first (g.R.Records.remaining c.bring.new.reader)
          u (g.K.Sink.contents c.args.sink.now) (g.K.Sink.contents c.bring.new.sink)
          sofar.done (record_of c.in-Ok-Some.head (g.R.Records.octets c.next_record.new.self))
          (subst (λ (left : Option (List ℕ)). IfSome first (λ b. HasGiven (g.R.Records.form c.args.reader.now) 0 (sofar.done ++ record_of c.in-Ok-Some.head (g.R.Records.octets c.next_record.new.self) ∷ []) b left)) (sym c.in-Err-WriteFault.ensures.source.0)
          (e.given first sofar.done sofar.read)) sofar.sink (c.in-Err-WriteFault.ensures.part sofar.done sofar.seen);
      seen = tt;
    }

pub returns-in-Err-Memory-clause-over : goal.returns-in-Err-Memory-clause-over
returns-in-Err-Memory-clause-over g c first u sofar =
    let e = rw c.in-Ok-Some.field-0-is at c.in-Ok-Some.ensures in
    record {
      leaves = refused_told (g.R.Records.form c.args.reader.now) (g.V.Visitor.so_far c.args.visitor.now) (g.V.Visitor.whole c.args.visitor.now) first (g.R.Records.remaining c.bring.new.reader)
          u (g.K.Sink.contents c.args.sink.now) (g.K.Sink.contents c.bring.new.sink)
          sofar.done (record_of c.in-Ok-Some.head (g.R.Records.octets c.next_record.new.self))
          (subst (λ (left : Option (List ℕ)). IfSome first (λ b. HasGiven (g.R.Records.form c.args.reader.now) 0 (sofar.done ++ record_of c.in-Ok-Some.head (g.R.Records.octets c.next_record.new.self) ∷ []) b left)) (sym c.in-Err-Memory.ensures.source.0)
          (e.given first sofar.done sofar.read)) sofar.sink (c.in-Err-Memory.ensures.none (ap Err c.in-Err-Memory.field-0-is));
      seen = tt;
    }

pub returns-in-Ok-finish-clause-over : goal.returns-in-Ok-finish-clause-over
returns-in-Ok-finish-clause-over g c first u sofar =
    let e = rw c.in-Ok-None.field-0-is at c.in-Ok-None.ensures in
    record {
      leaves = ended_told (g.R.Records.form c.args.reader.now) (g.V.Visitor.so_far c.args.visitor.now) (g.V.Visitor.whole c.args.visitor.now) first (g.R.Records.remaining c.next_record.new.self)
          u (g.K.Sink.contents c.finish.new.sink) sofar.done (Ok tt) (e.end first sofar.done sofar.read)
          (gained u (g.K.Sink.contents c.args.sink.now) (g.K.Sink.contents c.finish.new.sink) _ _ sofar.sink (c.in-Ok-finish.ensures.sink sofar.done sofar.seen));
      seen = record { done = sofar.done; seen = c.in-Ok-finish.ensures.seen sofar.done sofar.seen; read = e.end first sofar.done sofar.read };
    }

pub returns-in-Err-finish-clause-over : goal.returns-in-Err-finish-clause-over
returns-in-Err-finish-clause-over g c first u sofar =
    let e = rw c.in-Ok-None.field-0-is at c.in-Ok-None.ensures in
    record {
      leaves = end_front_told (g.R.Records.form c.args.reader.now) (g.V.Visitor.so_far c.args.visitor.now) (g.V.Visitor.whole c.args.visitor.now) first (g.R.Records.remaining c.next_record.new.self)
          u (g.K.Sink.contents c.args.sink.now) (g.K.Sink.contents c.finish.new.sink) sofar.done (Ok tt) (e.end first sofar.done sofar.read) sofar.sink
          (c.in-Err-finish.ensures.part sofar.done sofar.seen);
      seen = tt;
    }

pub returns-in-Ok-finish-2-clause-over : goal.returns-in-Ok-finish-2-clause-over
returns-in-Ok-finish-2-clause-over g c first u sofar =
    let seen : Brought (g.R.Records.form c.args.reader.now) first (g.R.Records.remaining c.next_record.new.self) (g.V.Visitor.has_ended c.finish-in-Err.new.self) (Err c.in-Err.bad) =
    record { done = sofar.done; seen = c.in-Ok-finish-2.ensures.seen sofar.done sofar.seen; read = c.in-Err.ensures.end first sofar.done sofar.read } in
    record {
      leaves = ended_told (g.R.Records.form c.args.reader.now) (g.V.Visitor.so_far c.args.visitor.now) (g.V.Visitor.whole c.args.visitor.now) first (g.R.Records.remaining c.next_record.new.self)
          u (g.K.Sink.contents c.finish-in-Err.new.sink) sofar.done (Err c.in-Err.bad) (c.in-Err.ensures.end first sofar.done sofar.read)
          (gained u (g.K.Sink.contents c.args.sink.now) (g.K.Sink.contents c.finish-in-Err.new.sink) _ _ sofar.sink (c.in-Ok-finish-2.ensures.sink sofar.done sofar.seen));
      seen = brought (Err c.in-Err.bad) _ seen;
    }

pub returns-in-Err-finish-2-clause-over : goal.returns-in-Err-finish-2-clause-over
returns-in-Err-finish-2-clause-over g c first u sofar =
    record {
      leaves = end_front_told (g.R.Records.form c.args.reader.now) (g.V.Visitor.so_far c.args.visitor.now) (g.V.Visitor.whole c.args.visitor.now) first (g.R.Records.remaining c.next_record.new.self)
          u (g.K.Sink.contents c.args.sink.now) (g.K.Sink.contents c.finish-in-Err.new.sink) sofar.done (Err c.in-Err.bad) (c.in-Err.ensures.end first sofar.done sofar.read) sofar.sink
          (c.in-Err-finish-2.ensures.part sofar.done sofar.seen);
      seen = tt;
    }
