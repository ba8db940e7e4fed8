-- The packet is received at the effective time, as at its own tick.
use Rattle.std.proofs.Common.{ap, ◌∙◌, Some}
use Rattle.receiver_rules.specs.Steps.{Media}
use Rattle.receiver_rules.specs.Seen.{seen}
use Rattle.rist_ends.proofs.SteppingLemmas.{state_told, writes_told, part_told, verdict_told}
use Rattle.rist_ends.proofs.SteppingLemmas.{on_err_always}
use Rattle.rist_ends.proofs.stepping.step_media.Goals as goal

pub returns-clause-verdict : goal.returns-clause-verdict
returns-clause-verdict g c history s =
    ap Some (c.in_ok-receive.ensures.verdict history s ∙ verdict_told c.args.buffer.now history c.args.now c.args.tick c.max-at.result (seen c.args.arrival.now) (record { state = s; running = c.requires.running; clock = c.requires.clock; later = c.max-at.ensures }))

pub returns-clause-state : goal.returns-clause-state
returns-clause-state g c history s =
    state_told c.args.buffer.now c.receive.new.self history c.args.now c.args.tick c.max-at.result (Media (seen c.args.arrival.now)) (record { state = s; running = c.requires.running; clock = c.requires.clock; later = c.max-at.ensures }) (c.in_ok-receive.ensures.state history s)

pub returns-clause-sink : goal.returns-clause-sink
returns-clause-sink g c history s =
    writes_told c.args.buffer.now history c.args.now c.args.tick c.max-at.result (Media (seen c.args.arrival.now)) _ _ (record { state = s; running = c.requires.running; clock = c.requires.clock; later = c.max-at.ensures }) (c.in_ok-receive.ensures.sink history s)

pub returns-in_err-receive-clause-part : goal.returns-in_err-receive-clause-part
returns-in_err-receive-clause-part g c =
    on_err_always c.from_residual.result _ (λ history s.
    part_told c.args.buffer.now history c.args.now c.args.tick c.max-at.result (Media (seen c.args.arrival.now)) _ _ (record { state = s; running = c.requires.running; clock = c.requires.clock; later = c.max-at.ensures }) (c.in_err-receive.ensures.part history s))
