use Rattle.std.proofs.Common.{◌≡◌, [], ◌∷◌, ◌+◌, ◌%◌, ◌^◌, get_or, ap, ◌∙◌}
use Rattle.std.specs.Int.{w128, to_be_bytes}
use Rattle.aes_block.specs.Cipher.{cipher}
use Rattle.aes_ctr.proofs.CtrLemmas.{below_four}
use Rattle.aes_ctr.proofs.blocks_of_two_rows.Goals as goal

pub returns : goal.returns
returns c =
    let r = c.encrypt_four.result in
    let e = c.encrypt_four.ensures in
    let key = c.args.aes.now in
    below_four (λ j. get_or (r.0 ∷ r.1 ∷ r.2 ∷ r.3 ∷ []) j [] ≡ cipher key (to_be_bytes w128 ((c.args.counter + j) % 2 ^ 128)))
    (e.first ∙ ap (cipher key) c.counter_block-first.ensures)
    (e.second ∙ ap (cipher key) c.counter_block-second.ensures)
    (e.third ∙ ap (cipher key) c.counter_block-third.ensures)
    (e.fourth ∙ ap (cipher key) c.counter_block-fourth.ensures)
