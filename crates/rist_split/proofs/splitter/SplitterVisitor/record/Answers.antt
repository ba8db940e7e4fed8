-- The receivers take one more record.
use Rattle.std.proofs.Common.{◌≡◌, ◌∙◌, ℕ, List, Option, Result, ap}
use Rattle.capture_file.specs.Capture.{Record}
use Rattle.capture_file.specs.Heads.{record_of}
use Rattle.receiver_rules.specs.Steps.{tick_of}
use Rattle.request_rules.specs.Steps.{Input, Step as ReceiverStep}
use Rattle.rist_wire.specs.declared.session.Session.{Session}
use Rattle.rist_wire.specs.declared.bad.WireBad.{WireBad}
use Rattle.rist_wire.specs.declared.item.Item.{Item}
use Rattle.rist_wire.specs.Among.{item_among}
use Rattle.rist_ends.specs.declared.told.Told.{Told}
use Rattle.rist_ends.specs.Told.{input_of, step_of}
use Rattle.rist_ends.specs.Items.{input_read}
use Rattle.rist_fan.specs.Fan.{flows_in}
use Rattle.rist_fan.specs.Seen.{is_for, told_for, what_for}
use Rattle.rist_split.specs.Inside.Telling.{input_at, step_at}
use Rattle.rist_split.proofs.TellingLemmas.{told_at}
use Rattle.rist_split.proofs.SplitLemmas.{flows_on}
use Rattle.rist_split.proofs.splitter.SplitterVisitor.record.Goals as goal

pub returns-clause-seen : goal.returns-clause-seen
returns-clause-seen g c = λ done has.
    let start = g.B.Start.start in
    let r : Record = record_of c.args.head.now c.args.octets.now in
    let us = c.args.head.now.us in
    let found : Result (ℕ × Item) WireBad = c.take_any-found.result in
    let place = c.place_of-place.ensures.place in
    let what = c.what_of.result in
    let read = c.what_of.ensures.value us ∙ ap (input_read us) c.item_of-item.ensures.item in
    let told : Told = record { link = c.args.head.now.link; us = us; what = what } in
    let is : found ≡ item_among start.ports start.session r.channel r.octets =
    c.take_any-found.ensures.value ∙ (ap (λ (s : Session). item_among c.args.self.now.ports.now s r.channel r.octets) has.session_is ∙ ap (λ (p : List ℕ). item_among p start.session r.channel r.octets) has.ports_are) in
    let same : (v : ℕ) → step_of (told_for (is_for c.place_of-place.result v) told) ≡ step_at start.ports start.session v r =
    λ v. ap (λ (i : Input). let s : ReceiverStep = record { link = c.args.head.now.link; tick = tick_of us; input = i } in s)
    (ap (λ (p : Option ℕ). input_of us (what_for (is_for p v) what)) place ∙ (told_at found v us what read ∙ ap (input_at v us) is)) in
    let s = c.step.ensures in
    record {
      session_is = c.take_any-found.ensures.same ∙ has.session_is;
      ports_are = has.ports_are;
      places = s.places ∙ has.places;
      flows_after = flows_on g.K.Sink.contents g.K.Sink.faults start c.place_of-place.result told r done (flows_in c.args.self.now.fan) (flows_in c.step.new.self) c.deref_mut.result.now c.step.new.came
          s.places (c.deref_mut.ensures.len ∙ c.args.self.now.room) s.room c.what_of.ensures.going same s.steps has.flows_after;
    }
