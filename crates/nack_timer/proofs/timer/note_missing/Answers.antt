use Rattle.std.proofs.Common.{◌≡◌, ◌∙◌, ◌≤◌, ◌-◌, ◌∷◌, ◌++◌, [], refl, ap, arith, ℕ}
use Rattle.circular_buffer.specs.Buffer.{keep_last}
use Rattle.nack_timer.specs.Inside.Raise.{new_entry, new_entries}
use Rattle.nack_timer.proofs.RaiseLemmas.{noted_none, noted_more}
use Rattle.nack_timer.proofs.timer.note_missing.Goals as goal

pub loop-number-init : goal.loop-number-init
loop-number-init c = (noted_none c.args.at c.args.low c.args.missing.now.capacity c.args.missing.now.items c.requires.room, refl, omega arith)

pub loop-number-preserved : goal.loop-number-preserved
loop-number-preserved c =
    let le : c.args.low ≤ c.loop-number.number = c.loop-number.auto.number in
    let pushed = ap (λ b. b.items) c.push_back.ensures.items in
    let size = ap (λ b. b.capacity) c.push_back.ensures.items in (
      noted_more c.args.at c.args.low c.loop-number.number c.args.missing.now.capacity c.args.missing.now.items c.loop-number.missing.items c.push_back.new.self.items le c.loop-number.invariant.0
          (pushed ∙ ap (λ (n : ℕ). keep_last n (c.loop-number.missing.items ++ new_entry c.args.at c.loop-number.number ∷ [])) c.loop-number.invariant.1),
      size ∙ c.loop-number.invariant.1,
      omega (arith, c.loop-number-test.true),
    )

pub returns : goal.returns
returns c =
    let le : c.args.low ≤ c.loop-number.number = c.loop-number.auto.number in
    let k : c.loop-number.number - c.args.low ≡ c.args.high - c.args.low = omega (arith, le, c.loop-number-test.false, c.loop-number.invariant.2) in
    record {
      items = c.loop-number.invariant.0 ∙ ap (λ (n : ℕ). keep_last c.args.missing.now.capacity (c.args.missing.now.items ++ new_entries c.args.at c.args.low n)) k;
      capacity = c.loop-number.invariant.1;
    }
