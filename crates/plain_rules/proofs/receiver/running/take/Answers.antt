-- What is known after an arrival is that of the history with it.
use Rattle.std.proofs.Common.{◌≡◌, max, refl, ◌∷◌, subst, sym, arith}
use Rattle.std.proofs.lemmas.Result.{on_ok_weaker}
use Rattle.receiver_rules.specs.Seen.{seen}
use Rattle.plain_rules.specs.Receiver.Told.{event_of}
use Rattle.plain_rules.specs.Receiver.Run.{RunShows}
use Rattle.plain_rules.proofs.RunLemmas.{after_arrival}
use Rattle.plain_rules.proofs.receiver.running.take.Goals as goal

pub returns-in-Media-clause-shows : goal.returns-in-Media-clause-shows
returns-in-Media-clause-shows c =
    let t : c.max-run.result ≡ max c.args.step.now.tick c.args.run.now.time = omega (arith, c.max-run.ensures) in
    on_ok_weaker c.bring.result
    (λ taken history s. subst (λ e. RunShows c.args.limits.now c.bring.new.run (record { tick = c.args.step.now.tick; event = event_of e } ∷ history)) (sym c.in-Media.is)
    (after_arrival c.args.limits.now c.args.run.now _ c.bring.new.run history c.args.step.now.tick (seen c.in-Media.arrival)
    (record { time = t; ended = refl; anchor = refl; kept = refl; ordered = refl; last = refl; over = refl; verdicts = refl; clock = refl }) taken s))
    c.bring.ensures.after
