use Rattle.std.proofs.Common.{◌≡◌, ◌∙◌, Bool, Option, None, List, cond, ap, subst, sym, max, ◌∷◌, option_map}
use Rattle.std.proofs.lemmas.Result.{on_ok_weaker}
use Rattle.receiver_rules.specs.declared.anchor.Highest.{Highest}
use Rattle.receiver_rules.specs.Packets.{Packet, highest_of}
use Rattle.receiver_rules.specs.Epochs.{epochs_of, is_opening}
use Rattle.receiver_rules.specs.History.{accepted_packets}
use Rattle.receiver_rules.specs.Steps.{effective_time}
use Rattle.plain_rules.specs.Receiver.Run.{RunShows}
use Rattle.request_rules.specs.Steps.{buffer_history, receiver_input}
use Rattle.receiver_rules.specs.ReceiverSteps.{buffer_event}
use Rattle.request_rules.specs.Requests.{requests_after, requests_of}
use Rattle.plain_rules.specs.Requests.Told.{input_of}
use Rattle.plain_rules.specs.Inside.RequestsAsking.{found_in}
use Rattle.plain_rules.proofs.AskingLemmas.{mark_more, highest_before}
use Rattle.plain_rules.proofs.requests.asking.take_step.Goals as goal

pub returns-clause-shows : goal.returns-clause-shows
returns-clause-shows c = on_ok_weaker c.take.result
    (λ f history shows rtts.
    let now : c.max-t.result ≡ max c.args.step.now.tick (effective_time (buffer_history history)) = c.max-t.ensures ∙ ap (max c.args.step.now.tick) shows.run.time in
    let event = buffer_event (receiver_input (input_of c.args.step.now.input)) in
    let opens = c.opens_epoch-opens.ensures (buffer_history history) shows.run in
    let opens_then = opens ∙ ap (λ t. is_opening c.args.limits.now (epochs_of c.args.limits.now (buffer_history history)) t event) now in
    record {
      run = subst (λ s. RunShows c.args.limits.now c.take.new.run (s ∷ buffer_history history)) c.buffer_step.ensures.value (f (buffer_history history) shows.run);
      marks = λ x. ap (λ l. found_in l x) c.in_ok-insert.ensures.items
          ∙ mark_more c.args.limits.now (record { tick = c.args.step.now.tick; event = event }) (buffer_history history)
          (record { highest = c.highest_before.result; time = c.max-t.result }) c.args.asking.now.marks.items x
          (c.highest_before.ensures
          ∙ ap (λ (b : Bool). option_map (λ h. h.number) (cond b None c.args.asking.now.run.highest)) opens_then
          ∙ ap (λ (o : Option Highest). option_map (λ h. h.number) (cond (is_opening c.args.limits.now (epochs_of c.args.limits.now (buffer_history history)) (max c.args.step.now.tick (effective_time (buffer_history history))) event) None o))
          (c.requires.small.run.known ∙ ap highest_of shows.run.epochs.kept)
          ∙ ap (option_map (λ h. h.number)) (highest_before (is_opening c.args.limits.now (epochs_of c.args.limits.now (buffer_history history)) (max c.args.step.now.tick (effective_time (buffer_history history))) event) (accepted_packets c.args.limits.now (buffer_history history))))
          now (shows.marks x);
      made = c.in_ok-made.ensures.made history shows rtts opens ∙ ap (λ t. requests_after c.args.limits.now c.args.policy.now history (requests_of c.args.limits.now c.args.policy.now history) t (input_of c.args.step.now.input)) now;
    }) c.take.ensures.shows
