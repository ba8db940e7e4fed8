use Rattle.std.proofs.Common.{◌≤◌, ◌+◌, sym, subst, ℕ, List, []}
use Rattle.nack_timer.specs.declared.entry.Missing.{Missing}
use Rattle.nack_timer.specs.State.{TimerState, high_or}
use Rattle.nack_timer.specs.Inside.Sound.{IsSoundTimer}
use Rattle.nack_timer.specs.Inside.Pass.{entries_of}
use Rattle.nack_timer.proofs.PassLemmas.{sound_passed}
use Rattle.nack_timer.proofs.RaiseLemmas.{rising_higher}
use Rattle.nack_timer.proofs.timer.Timer.ask_for_missing.Goals as goal
use Rattle.receiver_rules.specs.declared.bounds.TheConstants.{MAX_SPAN}

pub look_at_all-requires-clause-rising : goal.look_at_all-requires-clause-rising
look_at_all-requires-clause-rising c =
    rising_higher 0 (high_or c.self.inside.high) (c.args.low + MAX_SPAN) c.self.inside.missing.items (subst (λ (t : TimerState). high_or t.high ≤ c.args.low + MAX_SPAN) (sym c.self.view_is) c.requires.near) c.self.invariant.rising

pub invariant_of-self : goal.invariant_of-self
invariant_of-self c =
    let old = c.self.inside in
    let s = sound_passed old.policy old.missing.capacity c.args.rtt c.args.at c.args.low c.args.buffer.now.held old.high old.missing.items c.requires.time c.self.invariant in
    subst (λ (es : List Missing). IsSoundTimer old.policy c.look_at_all.new.missing.capacity old.high es) (sym c.look_at_all.ensures.entries)
    (subst (λ (n : ℕ). IsSoundTimer old.policy n old.high (entries_of old.policy c.args.rtt c.args.at c.args.low c.args.buffer.now.held [] old.missing.items)) (sym c.look_at_all.ensures.capacity) s)
