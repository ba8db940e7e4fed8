use Rattle.std.proofs.Common.{◌≡◌, ◌≤◌, ◌+◌, ◌∙◌, ℕ, List, ◌∷◌, Some, option_map, sym, ap, subst, arith}
use Rattle.receiver_rules.specs.declared.bounds.TheConstants.{MAX_SPAN}
use Rattle.receiver_rules.specs.declared.anchor.Anchor.{Anchor}
use Rattle.receiver_rules.specs.declared.anchor.Highest.{Highest}
use Rattle.receiver_rules.specs.Steps.{tick_of}
use Rattle.receiver_rules.proofs.HistoryLemmas.{anchorless}
use Rattle.reorder_buffer.specs.StateAfter.{Shows, IsStateAfter}
use Rattle.request_rules.specs.Steps.{Step, buffer_history, longest_rtt}
use Rattle.nack_timer.specs.State.{TimerState, AreRising, high_or}
use Rattle.nack_timer.specs.Steps.{tick_step}
use Rattle.nack_timer.specs.TimerAfter.{IsTimerAfter}
use Rattle.nack_timer.proofs.NoneLemmas.{none_stands, none_of, some_of}
use Rattle.nack_timer.proofs.StandsLemmas.{Asked, words_stand, after_stands}
use Rattle.request_rules.specs.Near.{AreNear}
use Rattle.nack_timer.proofs.NearLemmas.{near_words}
use Rattle.nack_timer.proofs.timer.Timer.due.Goals as goal

pub returns-in_default-clause-state : goal.returns-in_default-clause-state
returns-in_default-clause-state c = λ before link tick micros s stands rtts.
    let order = subst (λ (t : TimerState). AreRising 0 (high_or t.high) t.missing) c.self.view_is c.self.invariant.rising in
    let shows : Shows c.args.buffer.now (buffer_history (tick_step link tick micros ∷ before)) = stands (λ failed. absurd cc) in
    let none = none_of (λ (a : Anchor). a.number) c.args.buffer.now.anchor (sym c.first.ensures ∙ c.in_default.is) in
    (none_stands c.args.buffer.now.limits c.args.self.now before link tick micros c.args.at s order (anchorless c.args.buffer.now.limits (buffer_history before) (sym shows.anchor ∙ none))).1

asked : (c : goal.After-ask_for_missing) (before : List Step) (link tick micros : ℕ) → IsTimerAfter c.args.self.now c.args.buffer.now.limits before → IsStateAfter c.args.buffer.now (buffer_history (tick_step link tick micros ∷ before)) → c.args.rtt ≡ tick_of (longest_rtt 16 before)
    → (a : Anchor) (h : Highest) → c.args.buffer.now.anchor ≡ Some a → a.number ≡ c.in-Some.first → c.args.buffer.now.highest ≡ Some h → h.number ≡ c.in-Some-high.high
    → Asked c.args.self.now c.args.buffer.now before link tick micros c.args.at c.args.rtt c.lowest_wanted-low.result a h
asked c before link tick micros s stands rtts a h first a_is top h_is =
    let span : c.self.inside.missing.capacity ≡ c.args.self.now.span = ap (λ (t : TimerState). t.span) c.self.view_is in
    let high : high_or c.args.self.now.high ≡ h.number = ap high_or (sym c.requires.told ∙ ap (option_map (λ (g : Highest). g.number)) top) in
    record {
      timer = s;
      buffer = stands;
      open_ = c.requires.running;
      time = c.requires.clock;
      first = first;
      top = top;
      rtts = rtts;
      lowest = omega (arith, c.lowest_wanted-low.ensures, c.capacity-span.ensures.capacity, span, a_is, h_is);
      order = subst (λ (t : TimerState). AreRising 0 (high_or t.high) t.missing) c.self.view_is c.self.invariant.rising;
      near = omega (arith, c.lowest_wanted-low.ensures, c.capacity-span.ensures.capacity, c.self.invariant.few, high, h_is);
    }

pub returns-clause-requests : goal.returns-clause-requests
returns-clause-requests c = λ before link tick micros s stands rtts.
    let a = some_of (λ (a : Anchor). a.number) c.args.buffer.now.anchor c.in-Some.first (sym c.first.ensures ∙ c.in-Some.is) in
    let h = some_of (λ (h : Highest). h.number) c.args.buffer.now.highest c.in-Some-high.high (sym c.high.ensures.number ∙ c.in-Some-high.is) in
    c.ask_for_missing.ensures.words ∙ words_stand c.args.self.now c.args.buffer.now before link tick micros c.args.at c.args.rtt c.lowest_wanted-low.result a.value h.value (asked c before link tick micros s stands rtts a.value h.value a.is a.number h.is h.number)

pub returns-clause-state : goal.returns-clause-state
returns-clause-state c = λ before link tick micros s stands rtts.
    let a = some_of (λ (a : Anchor). a.number) c.args.buffer.now.anchor c.in-Some.first (sym c.first.ensures ∙ c.in-Some.is) in
    let h = some_of (λ (h : Highest). h.number) c.args.buffer.now.highest c.in-Some-high.high (sym c.high.ensures.number ∙ c.in-Some-high.is) in
    subst (λ (t : TimerState). IsTimerAfter t c.args.buffer.now.limits (tick_step link tick micros ∷ before)) (sym c.ask_for_missing.ensures.state)
    (after_stands c.args.self.now c.args.buffer.now before link tick micros c.args.at c.args.rtt c.lowest_wanted-low.result a.value h.value (asked c before link tick micros s stands rtts a.value h.value a.is a.number h.is h.number))

pub returns-clause-near : goal.returns-clause-near
returns-clause-near c =
    let order = subst (λ (t : TimerState). AreRising 0 (high_or t.high) t.missing) c.self.view_is c.self.invariant.rising in
    let high : high_or c.args.self.now.high ≡ c.in-Some-high.high = ap high_or (sym c.requires.told ∙ sym c.high.ensures.number ∙ c.in-Some-high.is) in
    let near : high_or c.args.self.now.high ≤ c.lowest_wanted-low.result + MAX_SPAN = omega (arith, c.lowest_wanted-low.ensures, c.capacity-span.ensures.capacity, c.self.invariant.few, high) in
    subst AreNear (sym c.ask_for_missing.ensures.words)
    (near_words c.args.self.now.policy c.args.rtt c.args.at c.lowest_wanted-low.result (high_or c.args.self.now.high) c.args.buffer.now.held c.args.self.now.missing near order)
