-- What was brought, and then the end.
use Rattle.std.proofs.Common.{◌∷◌, ◌∙◌, List, length, ap, sym, subst}
use Rattle.std.proofs.lemmas.List.{with_items_is}
use Rattle.capture_file.specs.Capture.{Record}
use Rattle.capture_walk.specs.Leaves.{Brought}
use Rattle.rist_fan.specs.Fan.{flows_in}
use Rattle.rist_fan.specs.declared.flow.Came.{Came}
use Rattle.rist_split.specs.Inside.Splitting.{AllSplitFrom, HasSplit}
use Rattle.rist_split.proofs.TellingLemmas.{IsOneSessions}
use Rattle.rist_split.proofs.SplitLemmas.{brought_as, flows_end, no_fault, no_want, sessions_at, was_brought}
use Rattle.rist_split.proofs.splitting.named_split.Goals as goal

pub returns-clause-work : goal.returns-clause-work
returns-clause-work g c =
    let w = c.walk-end.ensures in
    let law = c.a_datagram_is_one_sessions.ensures in
    let main = c.requires.main in
    let legal = c.requires.ports in
    let one : IsOneSessions c.args.ports.now c.args.opener = record {
      own = λ channel octets place item is. (law.own c.args.opener c.args.ports.now channel octets place item legal is).1;
      others = λ channel octets place v item is low apart. law.others c.args.opener c.args.ports.now channel octets place v item legal main is low apart;
      refused = λ channel octets v bad is low. law.refused c.args.opener c.args.ports.now channel octets v bad legal main is low;
    } in
    let start = g.B.Start.start in
    let sessions = sessions_at start c.args.opener c.args.ports.now c.requires.begun.session_is c.requires.begun.ports_are one in
    let f = c.finish-first.ensures in
    let splitter = c.walk-end.new.visitor in
    let flows = c.finish-first.result.0 ∷ c.finish-first.result.1.items in
    let P : List Record → Type 0 = λ rs. HasSplit g.K.Sink.contents g.K.Sink.faults start splitter.opener splitter.ports.now (flows_in splitter.fan) rs in
    let form = g.R.Records.form c.args.reader.now in
    let had = g.R.Records.remaining c.args.reader.now in
    let left = g.R.Records.remaining c.walk-end.new.reader in
    let b : Brought form had left P c.walk-end.result = was_brought c.walk-end.result (Brought form had left P c.walk-end.result) w.seen w.write w.memory in
    subst (λ (l : List Came). Brought form had left (AllSplitFrom g.K.Sink.contents g.K.Sink.faults start flows l) c.walk-end.result) (sym (with_items_is splitter.came c.finish-first.new.came (f.room ∙ c.deref_mut.ensures.len)))
    (brought_as form had left P (AllSplitFrom g.K.Sink.contents g.K.Sink.faults start flows c.finish-first.new.came) c.walk-end.result
    (λ rs has. flows_end g.K.Sink.contents g.K.Sink.faults start rs (flows_in splitter.fan) flows c.deref_mut.result.now c.finish-first.new.came
    f.places (c.deref_mut.ensures.len ∙ splitter.room) has.places sessions f.steps has.flows_after) b)

pub returns-clause-places : goal.returns-clause-places
returns-clause-places g c =
    let w = c.walk-end.ensures in
    let splitter = c.walk-end.new.visitor in
    let P : List Record → Type 0 = λ rs. HasSplit g.K.Sink.contents g.K.Sink.faults g.B.Start.start splitter.opener splitter.ports.now (flows_in splitter.fan) rs in
    let b : Brought (g.R.Records.form c.args.reader.now) (g.R.Records.remaining c.args.reader.now) (g.R.Records.remaining c.walk-end.new.reader) P c.walk-end.result =
    was_brought c.walk-end.result (Brought (g.R.Records.form c.args.reader.now) (g.R.Records.remaining c.args.reader.now) (g.R.Records.remaining c.walk-end.new.reader) P c.walk-end.result) w.seen w.write w.memory in
    let places = b.seen.places ∙ sym (ap length c.requires.begun.ports_are) in (c.finish-first.ensures.places ∙ places, splitter.room ∙ places)

pub returns-clause-own : goal.returns-clause-own
returns-clause-own g c = (no_fault c.walk-end.result c.walk-end.ensures.write, no_want c.walk-end.result c.walk-end.ensures.memory)
