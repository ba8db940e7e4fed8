use Rattle.std.proofs.Common.{map, length}
use Rattle.std.specs.List.{range_with_len}
use Rattle.rist_send.specs.Run.{setup_of}
use Rattle.rist_send.specs.Turns.{ReadsInTurn, TicksOnce}
use Rattle.rist_send.specs.Inside.Moves.{with_links}
use Rattle.rist_send.proofs.MoveLemmas.{follows, stops, at_self}
use Rattle.rist_send.proofs.sending.read_and_tick.Goals as goal

pub returns-in-Ok-clause-work : goal.returns-in-Ok-clause-work
returns-in-Ok-clause-work g c = λ settings from at.
    let d = c.in-Ok.ensures.work settings from at in
    follows _ c.args.sender.now c.read_links.new.sender c.tick.new.sender c.read_links.new.progress c.read_links.new.progress
    (with_links from (map g.L.Link.reads c.read_links.new.links)) (map g.L.Link.reads c.tick.new.links) c.args.links.now c.read_links.new.links c.tick.new.links from from settings
    (λ s. ReadsInTurn s (range_with_len 0 s.links)) TicksOnce c.tick.result c.read_links.auto.links c.in-Ok.ensures.set d
    (c.tick.ensures.work settings d.to (at_self _ _ _ d.to d.stands))

pub returns-in-Err-clause-work : goal.returns-in-Err-clause-work
returns-in-Err-clause-work g c = λ settings from at.
    let setup = setup_of settings c.args.sender.now (length c.args.links.now) in
    stops _ c.args.sender.now c.read_links.new.sender c.read_links.new.progress (with_links from (map g.L.Link.reads c.read_links.new.links)) c.args.links.now c.read_links.new.links from from
    (ReadsInTurn setup (range_with_len 0 setup.links)) (TicksOnce setup) c.in-Err.fault
    (c.in-Err.ensures.work settings from at)
