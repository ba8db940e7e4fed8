use Rattle.std.proofs.Common.{◌∙◌, set, true, take, map, Ok, refl, sym, ap}
use Rattle.outside_net.specs.Links.{Gave, Quiet, End, Failed}
use Rattle.rist_send.specs.declared.progress.Progress.{Progress}
use Rattle.rist_send.specs.Turns.{with_answer}
use Rattle.rist_send.specs.Inside.Moves.{with_links}
use Rattle.rist_send.proofs.MoveLemmas.{moves_none, reads_then}
use Rattle.rist_send.proofs.reading.read_on.Goals as goal

pub returns-in-Datagram-clause-work : goal.returns-in-Datagram-clause-work
returns-in-Datagram-clause-work g c = λ settings from at.
    let gave = Gave (record { channel = c.in-Datagram.channel; octets = take c.in-Datagram.count c.read_at.new.block }) in
    reads_then _ c.args.sender.now c.answer.new.sender c.args.progress.now c.args.progress.now settings c.args.link gave c.args.links.now c.read_at.new.links c.answer.new.links from c.answer.result
    c.read_at.auto.links c.requires.among c.in-Datagram.ensures.reads at at.progress
    (λ here. c.answer.ensures.work settings (with_answer c.args.link gave from) here)

pub returns-in-Quiet-clause-work : goal.returns-in-Quiet-clause-work
returns-in-Quiet-clause-work g c = λ settings from at.
    let run = with_answer c.args.link Quiet from in
    let mid = c.read_at.new.links in
    let sender = c.args.sender.now in
    reads_then _ sender sender c.args.progress.now c.args.progress.now settings c.args.link Quiet c.args.links.now mid mid from (Ok tt) c.read_at.auto.links c.requires.among c.in-Quiet.ensures.reads at
    (at.progress)
    (λ here. moves_none _ sender c.args.progress.now (with_links run (map g.L.Link.reads mid)) mid run _ run refl here (refl, refl))

pub returns-in-End-clause-work : goal.returns-in-End-clause-work
returns-in-End-clause-work g c = λ settings from at.
    let run = with_answer c.args.link End from in
    let mid = c.read_at.new.links in
    let sender = c.args.sender.now in
    reads_then _ sender sender c.args.progress.now c.close.new.self settings c.args.link End c.args.links.now mid mid from (Ok tt) c.read_at.auto.links c.requires.among c.in-End.ensures.reads at
    (ap (λ (p : Progress). record p { closed = set p.closed c.args.link true }) at.progress ∙ sym c.close.ensures.state)
    (λ here. moves_none _ sender c.close.new.self (with_links run (map g.L.Link.reads mid)) mid run _ run refl here (refl, refl))

pub returns-in-Failed-clause-work : goal.returns-in-Failed-clause-work
returns-in-Failed-clause-work g c = λ settings from at.
    let run = with_answer c.args.link Failed from in
    let mid = c.read_at.new.links in
    let sender = c.args.sender.now in
    reads_then _ sender sender c.args.progress.now c.close-in-Failed.new.self settings c.args.link Failed c.args.links.now mid mid from (Ok tt) c.read_at.auto.links c.requires.among c.in-Failed.ensures.reads at
    (ap (λ (p : Progress). record p { closed = set p.closed c.args.link true }) at.progress ∙ sym c.close-in-Failed.ensures.state)
    (λ here. moves_none _ sender c.close-in-Failed.new.self (with_links run (map g.L.Link.reads mid)) mid run _ run refl here (refl, refl))
