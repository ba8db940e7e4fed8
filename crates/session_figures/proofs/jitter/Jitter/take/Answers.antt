-- The packet's transit is held against that of the one before.
use Rattle.std.proofs.Common.{◌∙◌, ap, arith}
use Rattle.session_figures.specs.Spreads.{transit_before}
use Rattle.session_figures.proofs.JitterLemmas.{first_taken}
use Rattle.session_figures.proofs.jitter.Jitter.take.Goals as goal

pub returns-then-first-gt0 : goal.returns-then-first-gt0
returns-then-first-gt0 c = record {
  state = λ last values are.
      first_taken c.hold.new.self c.args.restarts c.args.first c.args.tick c.args.stamp c.transit.result last values (omega arith) c.transit.ensures.value
      (c.hold.ensures.state (transit_before c.args.restarts last) values (record { last = c.transit_before-self.ensures.value ∙ ap (transit_before c.args.restarts) are.last; values = are.values }));
}
