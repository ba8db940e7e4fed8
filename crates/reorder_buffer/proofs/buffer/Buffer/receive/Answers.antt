-- What is due goes out, and the arrival is judged after it: as one step of the history.
use Rattle.std.proofs.Common.{◌≡◌, ◌≢◌, ◌≤◌, ◌∷◌, ◌∙◌, ap, sym, subst}
use Rattle.std.specs.Prelude.{IsSome}
use Rattle.receiver_rules.specs.Steps.{media_step}
use Rattle.receiver_rules.specs.Seen.{seen}
use Rattle.reorder_buffer.specs.State.{State, IsNoLower}
use Rattle.reorder_buffer.specs.StateAfter.{Shows}
use Rattle.reorder_buffer.specs.Inside.Changes.{taken, raised, opened_at}
use Rattle.reorder_buffer.specs.Inside.Release.{floor_then}
use Rattle.receiver_rules.specs.Packets.{At}
use Rattle.reorder_buffer.specs.Inside.Tests.{judged}
use Rattle.reorder_buffer.proofs.ReceiveLemmas.{judged_raised, shows_taken, taken_then, received, received_part, highest_opened}
use Rattle.reorder_buffer.proofs.OpeningLemmas.{opened_highest, small_word}
use Rattle.reorder_buffer.proofs.WriteLemmas.{on_err_always}
use Rattle.reorder_buffer.proofs.buffer.Buffer.receive.Goals as goal

pub returns-in_err-let_out-clause-part : goal.returns-in_err-let_out-clause-part
returns-in_err-let_out-clause-part g c =
    on_err_always c.from_residual.result _ (λ history s.
    received_part c.args.self.now history c.args.at (seen c.args.arrival.now) _ _ (record { state = s; running = c.requires.running; clock = c.requires.clock }) c.in_err-let_out.ensures.part)

pub returns-clause-verdict : goal.returns-clause-verdict
returns-clause-verdict g c = λ history s.
    c.take.ensures.verdict
    ∙ ap (λ b. judged (opened_at b c.args.at c.args.arrival.now.flow) c.args.at (seen c.args.arrival.now)) c.in_ok-let_out.ensures.ok
    ∙ judged_raised c.args.self.now history c.args.at (seen c.args.arrival.now) (record { state = s; running = c.requires.running; clock = c.requires.clock })

pub returns-clause-state : goal.returns-clause-state
returns-clause-state g c = λ history s _.
    subst (λ b. Shows b (media_step c.args.at (seen c.args.arrival.now) ∷ history))
    (sym (c.take.ensures.taken ∙ ap (λ b. taken (opened_at b c.args.at c.args.arrival.now.flow) c.args.at (seen c.args.arrival.now)) c.in_ok-let_out.ensures.ok ∙ taken_then c.args.self.now c.args.at (seen c.args.arrival.now)))
    (shows_taken c.args.self.now history c.args.at (seen c.args.arrival.now) (record { state = s; running = c.requires.running; clock = c.requires.clock }))

pub returns-clause-sink : goal.returns-clause-sink
returns-clause-sink g c = λ history s.
    received c.args.self.now history c.args.at (seen c.args.arrival.now) _ _ (record { state = s; running = c.requires.running; clock = c.requires.clock }) c.in_ok-let_out.ensures.sink

pub returns-clause-high : goal.returns-clause-high
returns-clause-high g c =
    let is = c.take.ensures.taken ∙ ap (λ b. taken (opened_at b c.args.at c.args.arrival.now.flow) c.args.at (seen c.args.arrival.now)) c.in_ok-let_out.ensures.ok in
    subst (λ (b : State). b.epoch ≡ c.args.self.now.epoch → IsNoLower c.args.self.now.highest b.highest) (sym is)
    (highest_opened (raised c.args.self.now (floor_then c.args.self.now (At c.args.at))) c.args.at (seen c.args.arrival.now))

pub returns-clause-opens : goal.returns-clause-opens
returns-clause-opens g c =
    let is = c.take.ensures.taken ∙ ap (λ b. taken (opened_at b c.args.at c.args.arrival.now.flow) c.args.at (seen c.args.arrival.now)) c.in_ok-let_out.ensures.ok in
    let delay : 1 ≤ c.args.self.now.limits.playout_delay = c.let_out.ensures.range.some_delay in
    subst (λ (b : State). b.epoch ≢ c.args.self.now.epoch → IsSome b.highest) (sym is)
    (opened_highest (raised c.args.self.now (floor_then c.args.self.now (At c.args.at))) c.args.at (seen c.args.arrival.now) delay (small_word c.args.arrival.now.width c.args.arrival.now.word c.requires.word))
