-- What is due goes out, and then all that waits: as the end at its own tick.
use Rattle.std.proofs.Common.{◌∷◌, subst}
use Rattle.receiver_rules.specs.declared.limits.Limits.{Limits}
use Rattle.outside_io.specs.Told.{Writes, WritesPart}
use Rattle.receiver_rules.specs.Steps.{time_step, end_step}
use Rattle.receiver_rules.specs.History.{released_bytes}
use Rattle.rist_ends.proofs.SteppingLemmas.{end_state, end_part, writes_both, part_both, on_err_always}
use Rattle.rist_ends.proofs.stepping.step_end.Goals as goal

pub returns-in_err-release-clause-part : goal.returns-in_err-release-clause-part
returns-in_err-release-clause-part g c =
    on_err_always c.from_residual.result _ (λ history s.
    end_part c.args.buffer.now history c.args.now c.args.tick c.max-at.result _ _ (record { state = s; running = c.requires.running; clock = c.requires.clock; later = c.max-at.ensures }) (c.in_err-release.ensures.part history s))

pub returns-clause-state : goal.returns-clause-state
returns-clause-state g c = λ history s.
    end_state c.args.buffer.now c.flush.new.self history c.args.now c.args.tick c.max-at.result (record { state = s; running = c.requires.running; clock = c.requires.clock; later = c.max-at.ensures })
    (c.in_ok-flush.ensures.state (time_step c.max-at.result ∷ history) (c.in_ok-release.ensures.state history s))

pub returns-clause-sink : goal.returns-clause-sink
returns-clause-sink g c = λ history s.
    writes_both _ _ _ _ _ _ (c.in_ok-release.ensures.sink history s) (subst (λ (l : Limits). Writes (g.K.Sink.contents c.release.new.sink) (g.K.Sink.contents c.flush.new.sink) (released_bytes l (time_step c.max-at.result ∷ history)) (released_bytes l (end_step ∷ time_step c.max-at.result ∷ history))) c.in_ok-release.ensures.limits
    (c.in_ok-flush.ensures.sink (time_step c.max-at.result ∷ history) (c.in_ok-release.ensures.state history s)))

pub returns-in_err-flush-clause-part : goal.returns-in_err-flush-clause-part
returns-in_err-flush-clause-part g c =
    on_err_always c.from_residual-in_err-flush.result _ (λ history s.
    part_both _ _ _ _ _ _ (c.in_ok-release.ensures.sink history s) (subst (λ (l : Limits). WritesPart (g.K.Sink.contents c.release.new.sink) (g.K.Sink.contents c.flush.new.sink) (released_bytes l (time_step c.max-at.result ∷ history)) (released_bytes l (end_step ∷ time_step c.max-at.result ∷ history))) c.in_ok-release.ensures.limits
    (c.in_err-flush.ensures.part (time_step c.max-at.result ∷ history) (c.in_ok-release.ensures.state history s))))
