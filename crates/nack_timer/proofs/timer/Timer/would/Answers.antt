use Rattle.std.proofs.Common.{◌≡◌, ◌∙◌, ℕ, List, ◌∷◌, Some, option_map, sym, ap, subst, arith}
use Rattle.receiver_rules.specs.declared.anchor.Anchor.{Anchor}
use Rattle.receiver_rules.specs.declared.anchor.Highest.{Highest}
use Rattle.receiver_rules.specs.Steps.{tick_of}
use Rattle.reorder_buffer.specs.StateAfter.{IsStateAfter}
use Rattle.request_rules.specs.Steps.{Step, buffer_history, longest_rtt}
use Rattle.nack_timer.specs.State.{TimerState, AreRising, high_or}
use Rattle.nack_timer.specs.Steps.{tick_step}
use Rattle.nack_timer.specs.TimerAfter.{IsTimerAfter}
use Rattle.nack_timer.proofs.NoneLemmas.{some_of}
use Rattle.std.specs.List.{list_any}
use Rattle.request_rules.specs.Words.{words_for}
use Rattle.nack_timer.specs.Inside.Pass.{is_wanted}
use Rattle.nack_timer.specs.OneMore.{is_any}
use Rattle.nack_timer.proofs.WouldLemmas.{would_is}
use Rattle.nack_timer.proofs.StandsLemmas.{Asked, due_here}
use Rattle.nack_timer.proofs.timer.Timer.would.Goals as goal

asked : (c : goal.After-is_any_due) (before : List Step) (link tick micros : ℕ) → IsTimerAfter c.args.self.now c.args.buffer.now.limits before → IsStateAfter c.args.buffer.now (buffer_history (tick_step link tick micros ∷ before)) → c.args.rtt ≡ tick_of (longest_rtt 16 before)
    → (a : Anchor) (h : Highest) → c.args.buffer.now.anchor ≡ Some a → a.number ≡ c.in-Some.first → c.args.buffer.now.highest ≡ Some h → h.number ≡ c.in-Some-high.high
    → Asked c.args.self.now c.args.buffer.now before link tick micros c.args.at c.args.rtt c.lowest_wanted-low.result a h
asked c before link tick micros s stands rtts a h first a_is top h_is =
    let span : c.self.inside.missing.capacity ≡ c.args.self.now.span = ap (λ (t : TimerState). t.span) c.self.view_is in
    let high : high_or c.args.self.now.high ≡ h.number = ap high_or (sym c.requires.told ∙ ap (option_map (λ (g : Highest). g.number)) top) in
    record {
      timer = s;
      buffer = stands;
      open_ = c.requires.running;
      time = c.requires.clock;
      first = first;
      top = top;
      rtts = rtts;
      lowest = omega (arith, c.lowest_wanted-low.ensures, c.capacity-span.ensures.capacity, span, a_is, h_is);
      order = subst (λ (t : TimerState). AreRising 0 (high_or t.high) t.missing) c.self.view_is c.self.invariant.rising;
      near = omega (arith, c.lowest_wanted-low.ensures, c.capacity-span.ensures.capacity, c.self.invariant.few, high, h_is);
    }

pub returns : goal.returns
returns c = λ before link tick micros s stands rtts.
    let a = some_of (λ (a : Anchor). a.number) c.args.buffer.now.anchor c.in-Some.first (sym c.first.ensures ∙ c.in-Some.is) in
    let h = some_of (λ (h : Highest). h.number) c.args.buffer.now.highest c.in-Some-high.high (sym c.high.ensures.number ∙ c.in-Some-high.is) in
    let t = c.args.self.now in
    c.is_any_due.ensures
    ∙ ap (λ (u : TimerState). list_any (is_wanted u.policy c.args.rtt c.args.at c.lowest_wanted-low.result c.args.buffer.now.held) u.missing) c.self.view_is
    ∙ would_is t.policy c.args.rtt c.args.at c.lowest_wanted-low.result c.args.buffer.now.held t.missing
    ∙ ap (λ (xs : List ℕ). is_any (words_for t.policy.kind 64 xs))
    (due_here t c.args.buffer.now before link tick micros c.args.at c.args.rtt c.lowest_wanted-low.result a.value h.value (asked c before link tick micros s stands rtts a.value h.value a.is a.number h.is h.number))
