-- What the buffer tells of an arrival is what the history says of it.
use Rattle.std.proofs.Common.{◌≡◌, ◌∷◌, ◌∙◌, ℕ, max, ap}
use Rattle.receiver_rules.specs.declared.limits.Limits.{Limits}
use Rattle.receiver_rules.specs.Steps.{media_step, effective_time}
use Rattle.receiver_rules.specs.Packets.{is_kept}
use Rattle.receiver_rules.specs.Epochs.{epochs_of}
use Rattle.receiver_rules.specs.History.{epoch_number}
use Rattle.receiver_rules.specs.Seen.{seen}
use Rattle.reorder_buffer.specs.State.{State}
use Rattle.reorder_buffer.specs.StateAfter.{Shows}
use Rattle.reorder_buffer.proofs.PhaseLemmas.{not_failed}
use Rattle.rist_ends.proofs.NumberLemmas.{number_in, opened_is, received_numbers}
use Rattle.session_figures.proofs.stepping.receive.Goals as goal

pub returns-clause-numbers : goal.returns-clause-numbers
returns-clause-numbers c history s are =
    let b : State = c.args.buffer.now in
    let new : State = c.receive.new.self in
    let arrival = seen c.args.arrival.now in
    let t : ℕ = max c.args.at (effective_time history) in
    let before : Shows b history = s (not_failed b.phase c.requires.running) in
    let after : Shows new (media_step c.args.at arrival ∷ history) = c.in-Ok.ensures.state history s (not_failed new.phase c.in-Ok.ensures.time.1) in
    let place : c.epoch.result ≡ epoch_number b.limits (media_step c.args.at arrival ∷ history) =
    c.epoch.ensures.value ∙ after.epoch ∙ ap (λ (l : Limits). epoch_number l (media_step c.args.at arrival ∷ history)) c.in-Ok.ensures.limits in
    received_numbers b.limits (epochs_of b.limits history) t arrival c.args.numbers.now c.take.new.self _ c.is_kept.result c.high-high.result
    c.take.ensures.value
    (opened_is b.limits (epochs_of b.limits history) t arrival c.epoch-epoch.result c.epoch.result (c.epoch-epoch.ensures.value ∙ before.epoch) place)
    (c.high-high.ensures.number ∙ ap number_in before.highest)
    (c.is_kept.ensures ∙ ap is_kept (c.in-Ok.ensures.verdict history s))
    are
