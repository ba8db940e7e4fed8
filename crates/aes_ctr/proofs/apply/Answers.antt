use Rattle.std.proofs.Common.{◌≡◌, ℕ, ◌+◌, ◌-◌, ◌%◌, ◌^◌, [], ◌∷◌, length, take, refl, ap, ◌∙◌, arith}
use Rattle.std.specs.Int.{w128, from_be_bytes, to_be_bytes}
use Rattle.aes_ctr.proofs.CounterLemmas.{again, row_on}
use Rattle.aes_ctr.proofs.CtrLemmas.{counter_on, ctr_from_octets, group_more}
use Rattle.aes_ctr.proofs.apply.Goals as goal

pub groups-init : goal.groups-init
groups-init c = record {
  key = c.prefix-prefix.ensures.key;
  row = c.prefix-prefix.ensures.octets ∙ ap (take 15) c.counter_block.ensures ∙ ap (λ (n : ℕ). take 15 (to_be_bytes w128 n)) (omega arith);
  within = omega arith;
  whole = refl;
  counter = omega arith;
  done = λ k low. absurd (omega arith);
  rest = λ k low. refl;
}

pub output_blocks-requires-clause-key : goal.output_blocks-requires-clause-key
output_blocks-requires-clause-key c = c.groups.invariant.key

pub output_blocks-requires-clause-row : goal.output_blocks-requires-clause-row
output_blocks-requires-clause-row c = c.groups.invariant.row

pub output_blocks-requires-then-rest-gt0-clause-key : goal.output_blocks-requires-then-rest-gt0-clause-key
output_blocks-requires-then-rest-gt0-clause-key c = c.groups.invariant.key

pub output_blocks-requires-then-rest-gt0-clause-row : goal.output_blocks-requires-then-rest-gt0-clause-row
output_blocks-requires-then-rest-gt0-clause-row c = c.groups.invariant.row

pub groups-preserved-then-counter-lt4 : goal.groups-preserved-then-counter-lt4
groups-preserved-then-counter-lt4 c =
    let before = c.groups.invariant in
    let b = c.output_blocks.result in
    record {
      key = c.prefix-prefix-then-counter-lt4.ensures.key;
      row = c.prefix-prefix-then-counter-lt4.ensures.octets ∙ ap (take 15) c.counter_block-then-counter-lt4.ensures
          ∙ ap (λ (n : ℕ). take 15 (to_be_bytes w128 n)) (again (c.groups.counter + 4));
      within = omega arith;
      whole = omega arith;
      counter = ap (λ (n : ℕ). (n + 4) % 2 ^ 128) before.counter ∙ counter_on (from_be_bytes w128 c.args.first) c.groups.offset 64 (omega arith);
      done = group_more c.args.aes.now c.args.first c.args.text.now c.groups.text c.add_group.new.text (b.0 ∷ b.1 ∷ b.2 ∷ b.3 ∷ []) c.groups.counter c.groups.offset 64 (omega arith) (omega arith) before.counter c.output_blocks.ensures before.done before.rest c.add_group.ensures.group c.add_group.ensures.before;
      rest = λ k low. c.add_group.ensures.after k low ∙ before.rest k (omega arith);
    }

pub groups-preserved : goal.groups-preserved
groups-preserved c =
    let before = c.groups.invariant in
    let b = c.output_blocks.result in
    record {
      key = before.key;
      row = before.row ∙ row_on c.groups.counter c.groups.auto.counter-fits.fits (omega arith);
      within = omega arith;
      whole = omega arith;
      counter = ap (λ (n : ℕ). (n + 4) % 2 ^ 128) before.counter ∙ counter_on (from_be_bytes w128 c.args.first) c.groups.offset 64 (omega arith);
      done = group_more c.args.aes.now c.args.first c.args.text.now c.groups.text c.add_group.new.text (b.0 ∷ b.1 ∷ b.2 ∷ b.3 ∷ []) c.groups.counter c.groups.offset 64 (omega arith) (omega arith) before.counter c.output_blocks.ensures before.done before.rest c.add_group.ensures.group c.add_group.ensures.before;
      rest = λ k low. c.add_group.ensures.after k low ∙ before.rest k (omega arith);
    }

pub returns-then-rest-gt0 : goal.returns-then-rest-gt0
returns-then-rest-gt0 c =
    let before = c.groups.invariant in
    let b = c.output_blocks-then-rest-gt0.result in
    let count = length c.groups.text - c.groups.offset in
    let end : c.groups.offset + count ≡ length c.args.text.now = omega arith in
    let done = group_more c.args.aes.now c.args.first c.args.text.now c.groups.text c.add_rest.new.text (b.0 ∷ b.1 ∷ b.2 ∷ b.3 ∷ []) c.groups.counter c.groups.offset count (omega arith) (omega arith) before.counter c.output_blocks-then-rest-gt0.ensures before.done before.rest c.add_rest.ensures.group c.add_rest.ensures.before in
    record {
      text = ctr_from_octets c.args.aes.now c.args.first c.args.text.now c.add_rest.new.text (omega arith) (rw end at done);
    }

pub returns-else-rest-gt0 : goal.returns-else-rest-gt0
returns-else-rest-gt0 c =
    let end : c.groups.offset ≡ length c.args.text.now = omega arith in
    record {
      text = ctr_from_octets c.args.aes.now c.args.first c.args.text.now c.groups.text (omega arith) (rw end at c.groups.invariant.done);
    }
