use Rattle.std.proofs.Common.{◌≡◌, ◌∙◌, sym, ap, subst, ◌+◌, ◌-◌, ◌<◌, ◌^◌, max}
use Rattle.std.specs.List.{All}
use Rattle.receiver_rules.specs.Packets.{playout_floor}
use Rattle.receiver_rules.specs.Seen.{moment_of}
use Rattle.plain_rules.specs.Receiver.Kept.{kept_packets}
use Rattle.request_rules.specs.Words.{words_for}
use Rattle.request_rules.specs.Missing.{lowest_wanted}
use Rattle.plain_rules.proofs.AskingLemmas.{due_here, below_all}
use Rattle.plain_rules.proofs.requests.asks.ask_at.Goals as goal
use Rattle.std.proofs.lemmas.Result.{IfOk-weaker}

pub floor_of-floor-requires-clause-below : goal.floor_of-floor-requires-clause-below
floor_of-floor-requires-clause-below c =
    subst (All (λ k. k.place.number < 2 ^ 62)) (sym c.as_slice.ensures.value)
    (below_all c.args.asking.now.run.kept.items c.in-Some-highest.highest (2 ^ 62) (sym c.requires.small.run.known ∙ c.in-Some-highest.is) (c.requires.small.run.highest c.in-Some-highest.highest c.in-Some-highest.is).high)

pub returns : goal.returns
returns c =
    let low : c.lowest-low.result ≡ lowest_wanted c.args.limits.now c.in-Some.anchor (kept_packets c.args.asking.now.run.kept.items) (moment_of c.until_of.result) c.in-Some-highest.highest =
    c.lowest-low.ensures ∙ ap (λ f. max (max c.in-Some.anchor.number f) (c.in-Some-highest.highest.number + 1 - c.args.limits.now.capacity))
    (c.floor_of-floor.ensures ∙ ap (λ ks. playout_floor (kept_packets ks) (moment_of c.until_of.result)) c.as_slice.ensures.value) in
    IfOk-weaker c.ask_between.result _ _
    (λ s asked history shows rtts. (
      asked.0 ∙ ap (words_for c.args.policy.now.kind 64)
          (due_here c.args.limits.now c.args.policy.now c.args.rtt c.args.t c.lowest-low.result c.args.asking.now history c.in-Some.anchor c.in-Some-highest.highest (moment_of c.until_of.result) shows c.requires.small.run.known
          c.in-Some.is c.in-Some-highest.is rtts c.until_of.ensures.value low),
      asked.1,
    ))
    c.ask_between.ensures
