use Rattle.std.proofs.Common.{◌≡◌, ◌∙◌, sym, ap, subst, ◌-◌, ◌≤◌, arith}
use Rattle.std.specs.List.{filter, range_with_len}
use Rattle.request_rules.specs.Words.{words_for}
use Rattle.std.specs.Prelude.{if◌then◌else◌}
use Rattle.request_rules.specs.Building.{IsAboveLast, with_number}
use Rattle.plain_rules.specs.Inside.RequestsAsking.{is_wanted}
use Rattle.request_rules.proofs.WordLemmas.{words_above}
use Rattle.plain_rules.proofs.AskingLemmas.{rising_between, between-more, snoc_asked}
use Rattle.plain_rules.proofs.requests.asks.ask_between.Goals as goal

pub look-requires-clause-above : goal.look-requires-clause-above
look-requires-clause-above c =
    let p = is_wanted c.args.policy.now c.args.rtt c.args.t c.args.asking.now in
    let le : c.args.low ≤ c.loop-number.number = c.loop-number.auto.number in
    subst (λ ws. IsAboveLast c.args.policy.now.kind ws c.loop-number.number) (sym c.loop-number.invariant.0.0)
    (words_above c.args.policy.now.kind c.args.low c.loop-number.number (filter p (range_with_len c.args.low (c.loop-number.number - c.args.low)))
    (omega (arith, c.requires.near, c.loop-number-test.true)) (rising_between p c.args.low c.loop-number.number le))

pub loop-number-preserved : goal.loop-number-preserved
loop-number-preserved c =
    let p = is_wanted c.args.policy.now c.args.rtt c.args.t c.args.asking.now in
    let le : c.args.low ≤ c.loop-number.number = c.loop-number.auto.number in
    let due = filter p (range_with_len c.args.low (c.loop-number.number - c.args.low)) in (
      (
        snoc_asked c.args.policy.now.kind c.args.low c.loop-number.number due (p c.loop-number.number) c.loop-number.words c.look.new.words (rising_between p c.args.low c.loop-number.number le) c.loop-number.invariant.0.0
            (c.in_ok-look.ensures.words ∙ ap (λ b. if b then with_number c.args.policy.now.kind 64 c.loop-number.words c.loop-number.number else c.loop-number.words) c.is_wanted-is_wanted.ensures)
            ∙ ap (words_for c.args.policy.now.kind 64) (sym (between-more p c.args.low c.loop-number.number le)),
        c.in_ok-look.ensures.named,
      ),
      omega (arith, c.loop-number-test.true),
    )

pub returns : goal.returns
returns c =
    let le : c.args.low ≤ c.loop-number.number = c.loop-number.auto.number in
    let k : c.loop-number.number - c.args.low ≡ c.args.high - c.args.low = omega (arith, c.loop-number-test.false, c.loop-number.invariant.1) in
    (c.loop-number.invariant.0.0 ∙ ap (λ n. words_for c.args.policy.now.kind 64 (filter (is_wanted c.args.policy.now c.args.rtt c.args.t c.args.asking.now) (range_with_len c.args.low n))) k, c.loop-number.invariant.0.1)
