-- How the run ended is a status of a receiving of several flows.
use Rattle.std.proofs.Common.{◌∙◌, ap, length, sym, subst}
use Rattle.std.specs.List.{All}
use Rattle.std.proofs.lemmas.List.{length-map}
use Rattle.outside_net.specs.Links.{LinkTells}
use Rattle.rist_words.specs.Shown.{shown_fan}
use Rattle.run_parts.specs.Sealing.{IsFreshFor}
use Rattle.run_fan.specs.Ends.{IsFanEnd}
use Rattle.run_fan.specs.Inside.Making.{sealers_in, sink_of}
use Rattle.run_fan.proofs.RunLemmas.{ends_fan}
use Rattle.run_fan.proofs.receiving.receive_into.Goals as goal

pub returns-clause-ends : goal.returns-clause-ends
returns-clause-ends g c =
    let line = shown_fan c.args.line.now in
    let tells : LinkTells g.row.L.Denot = record { reads = g.L.Link.reads; taken = g.L.Link.taken; knows = g.L.Link.knows; ends = g.L.Link.ends; faults = g.L.Link.faults } in
    let made = c.in_ok-made in
    let f = c.in_ok-ending.ensures.work in
    subst (IsFanEnd line) (sym c.fan_status.ensures.value)
    (ends_fan g.C.Clock.moments tells g.K.Sink.contents g.K.Sink.faults line _ _ _ f.flows f.left f.came c.in_ok-ending.ending f.run (sealers_in made.made)
    (sym (length-map f.flows sink_of) ∙ (ap length f.had ∙ (c.requires.places ∙ (sym c.requires.sealers ∙ sym (ap length made.ensures.sealers)))))
    (subst (All (IsFreshFor line.session)) (sym made.ensures.sealers) c.requires.fresh) f.set)
