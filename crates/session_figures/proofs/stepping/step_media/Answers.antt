-- The packet is received at the effective time, as at its own tick.
use Rattle.std.proofs.Common.{◌∙◌, ap, length}
use Rattle.receiver_rules.specs.Steps.{Media}
use Rattle.receiver_rules.specs.declared.verdict.Verdict.{Verdict}
use Rattle.receiver_rules.specs.Seen.{seen}
use Rattle.rist_ends.proofs.SteppingLemmas.{state_told, verdict_told}
use Rattle.session_figures.specs.Amounts.{media_amounts, nothing_passed}
use Rattle.session_figures.proofs.FigureLemmas.{numbers_told}
use Rattle.session_figures.proofs.stepping.step_media.Goals as goal

pub returns-clause-state : goal.returns-clause-state
returns-clause-state c history s =
    state_told c.args.buffer.now c.receive-verdict.new.buffer history c.args.now c.args.tick c.max-at.result (Media (seen c.args.arrival.now)) (record { state = s; running = c.requires.running; clock = c.requires.clock; later = c.max-at.ensures }) (c.receive-verdict.ensures.state history s)

pub returns-clause-numbers : goal.returns-clause-numbers
returns-clause-numbers c history s are =
    numbers_told c.args.buffer.now history c.args.now c.args.tick c.max-at.result (Media (seen c.args.arrival.now)) c.receive-verdict.new.numbers (record { state = s; running = c.requires.running; clock = c.requires.clock; later = c.max-at.ensures }) (c.receive-verdict.ensures.numbers history s are)

pub returns-clause-amounts : goal.returns-clause-amounts
returns-clause-amounts c history s =
    c.media.ensures.value
    ∙ ap (λ (v : Verdict). media_amounts c.args.link v c.args.arrival.now.again (length c.args.arrival.now.payload.now) nothing_passed)
    (c.receive-verdict.ensures.verdict history s ∙ verdict_told c.args.buffer.now history c.args.now c.args.tick c.max-at.result (seen c.args.arrival.now) (record { state = s; running = c.requires.running; clock = c.requires.clock; later = c.max-at.ensures }))
