-- What was kept in earlier epochs is out, and behind it what is out of the current one.
use Rattle.std.proofs.Common.{◌∙◌, ◌++◌, List, Bool, ℕ, ap, map, cond}
use Rattle.std.specs.List.{filter}
use Rattle.receiver_rules.specs.Steps.{Step, has_ended}
use Rattle.receiver_rules.specs.Packets.{Packet, Moment, At, Ever, is_played_out}
use Rattle.receiver_rules.specs.Seen.{moment_of}
use Rattle.receiver_rules.specs.Epochs.{epochs_of}
use Rattle.receiver_rules.specs.History.{playout_of}
use Rattle.plain_rules.specs.declared.receiver.kept.Kept.{Kept}
use Rattle.plain_rules.specs.Receiver.Told.{history_of}
use Rattle.plain_rules.specs.Receiver.Kept.{kept_packets}
use Rattle.plain_rules.proofs.RunLemmas.{playout_shown}
use Rattle.plain_rules.proofs.receiver.programs.released.Goals as goal

pub returns : goal.returns
returns c =
    let run = c.in_ok-run.run' in
    let shows = c.in_ok-run.ensures.shows in
    let history : List Step = history_of c.args.steps.now in
    let m : Moment = moment_of c.until_of-until.result in
    let out = λ (kept ordered : List Kept). map (λ (p : Packet). p.payload) (filter (is_played_out (kept_packets kept) m) (kept_packets ordered)) in
    c.in_ok-add_payloads_out.ensures
    ∙ ap (λ xs. xs ++ out c.as_slice-2.result.now c.as_slice-3.result.now) (c.in_ok-payloads.ensures ∙ ap (λ (ks : List Kept). map (λ (p : Packet). p.payload) (kept_packets ks)) c.as_slice.ensures.value)
    ∙ ap (λ ks. map (λ (p : Packet). p.payload) (kept_packets run.over.items) ++ out ks c.as_slice-3.result.now) c.as_slice-2.ensures.value
    ∙ ap (λ ks. map (λ (p : Packet). p.payload) (kept_packets run.over.items) ++ out run.kept.items ks) c.as_slice-3.ensures.value
    ∙ playout_shown run (epochs_of c.args.limits.now history) m shows.epochs
    ∙ ap (λ n. map (λ (p : Packet). p.payload) (playout_of (epochs_of c.args.limits.now history) n))
    (c.until_of-until.ensures.value ∙ ap (λ (b : Bool). cond b Ever (At run.time)) shows.ended ∙ ap (λ (t : ℕ). cond (has_ended history) Ever (At t)) shows.time)
