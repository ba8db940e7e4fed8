use Rattle.std.proofs.Common.{◌≡◌, ◌+◌, ◌*◌, ◌-◌, ◌/◌, ℕ, length, take, map, ap, sym, ◌∙◌, arith, length-set}
use Rattle.aes_block.specs.Schedule.{schedule}
use Rattle.aes_block.specs.Inside.Words.{word_octets}
use Rattle.aes_block.proofs.ScheduleLemmas.{schedule_more}
use Rattle.aes_block.proofs.key_schedule.expanded.Goals as goal

pub loop-place-init : goal.loop-place-init
unfolding schedule
loop-place-init c =
    let none : length c.args.key.now / 4 - length c.args.key.now / 4 ≡ 0 = omega arith in
    record {
      long = omega arith;
      schedule = c.loaded-words.ensures ∙ sym (ap (schedule c.args.key.now) none);
    }

pub loop-place-preserved : goal.loop-place-preserved
loop-place-preserved c =
    let k = length c.args.key.now / 4 in
    let i = c.loop-place.place in
    let w = c.loop-place.words in
    record {
      long = omega (arith, length-set {A = ℕ});
      schedule = schedule_more c.args.key.now w i c.step.result (omega arith) (omega arith) (omega arith) c.loop-place.invariant.schedule c.step.ensures;
    }

pub returns : goal.returns
returns c =
    let key = c.args.key.now in
    let end : c.loop-place.place ≡ 4 * (length key / 4 + 6 + 1) = omega (arith, c.loop-place.auto.place-end (omega arith)) in
    ap (λ (n : ℕ). map word_octets (take n c.loop-place.words)) (sym end) ∙ c.loop-place.invariant.schedule
    ∙ ap (λ (n : ℕ). schedule key (n - length key / 4)) end
