use Rattle.std.proofs.Common.{◌≤◌, sym, subst, Some, ℕ, List, ◌++◌}
use Rattle.circular_buffer.specs.Buffer.{keep_last}
use Rattle.nack_timer.specs.declared.entry.Missing.{Missing}
use Rattle.nack_timer.specs.State.{TimerState, high_or}
use Rattle.nack_timer.specs.Inside.Sound.{IsSoundTimer}
use Rattle.nack_timer.specs.Inside.Raise.{found_between}
use Rattle.nack_timer.proofs.RaiseLemmas.{sound_raised}
use Rattle.nack_timer.proofs.timer.Timer.raise.Goals as goal

pub invariant_of-self : goal.invariant_of-self
invariant_of-self c =
    let old = c.self.inside in
    let s = sound_raised old.policy old.missing.capacity c.args.at c.args.high old.high old.missing.items c.self.invariant (subst (λ (t : TimerState). high_or t.high ≤ c.args.high) (sym c.self.view_is) c.requires.above) c.requires.small c.requires.time in
    subst (λ (es : List Missing). IsSoundTimer old.policy c.note_between.new.missing.capacity (Some c.args.high) es) (sym c.note_between.ensures.items)
    (subst (λ (n : ℕ). IsSoundTimer old.policy n (Some c.args.high) (keep_last old.missing.capacity (old.missing.items ++ found_between old.high old.missing.capacity c.args.at c.args.high))) (sym c.note_between.ensures.capacity) s)
