-- The one history, and the end at each place.
use Rattle.std.proofs.Common.{◌∷◌, sym, ◌∙◌}
use Rattle.turn_lock.specs.Turns.{entries}
use Rattle.fan_run.proofs.ConcludeLemmas.{have_concluded}
use Rattle.fan_run.proofs.closing.conclude_flows.Goals as goal

pub close-fan-requires-clause-all : goal.close-fan-requires-clause-all
close-fan-requires-clause-all g c = record { all = c.requires.all; each = λ k p e. let mine = c.requires.own k p e in (mine.own, mine.number) }

pub returns-clause-concluded : goal.returns-clause-concluded
returns-clause-concluded g c = λ own owned.
    let closed = c.close-fan.ensures.closed in
    let end = c.tell_end.ensures in
    have_concluded c.args.desk g.N.FanOrigin.given g.K.Sink.contents g.K.Sink.faults c.args.passes.items c.close-fan.result (c.tell_end.result.0 ∷ c.tell_end.result.1.items) c.tell_end.new.came.items
    closed (end.ended (entries closed.turns) closed.stood) (end.places ∙ sym c.close-fan.ensures.places) (end.room ∙ sym end.places) c.requires.own own owned
