use Rattle.std.proofs.Common.{bit_xor, ◌∙◌}
use Rattle.aes_block.specs.Field.{times_x, partial_product, product, square, product_of_squares, inverse, affine_image, sub_byte}
use Rattle.aes_block.specs.Inside.Tables.{read}
use Rattle.aes_block.specs.Inside.Tower.{untower, upper, lower}
use Rattle.aes_block.specs.declared.substitution.TheConstants.{LAST_UPPER, LAST_LOWER}
use Rattle.aes_block.proofs.LaneLemmas.{places, looked_up, summed, map_same, with_constant}
use Rattle.aes_block.proofs.substitution.substituted_last.Goals as goal

pub look_up-last_upper-requires : goal.look_up-last_upper-requires
unfolding upper lower
look_up-last_upper-requires c = places upper c.args.t c.parts.result.0 c.fits-t.1 c.parts.ensures.upper tt

pub look_up-last_lower-requires : goal.look_up-last_lower-requires
unfolding upper lower
look_up-last_lower-requires c = places lower c.args.t c.parts.result.1 c.fits-t.1 c.parts.ensures.lower tt

pub returns : goal.returns
unfolding times_x partial_product product square product_of_squares inverse affine_image sub_byte untower upper lower
returns c =
    let t = c.args.t in
    let e_u = looked_up LAST_UPPER upper t c.look_up-last_upper.ensures c.parts.ensures.upper in
    let e_l = looked_up LAST_LOWER lower t c.look_up-last_lower.ensures c.parts.ensures.lower in
    let e = summed (λ x. read LAST_UPPER (upper x)) (λ x. read LAST_LOWER (lower x)) t c.sum-last.ensures e_u e_l in
    with_constant (λ y. bit_xor (read LAST_UPPER (upper y)) (read LAST_LOWER (lower y))) t c.sum-last.result 99 c.fits-t.0 e
    ∙ map_same (λ y. bit_xor (bit_xor (read LAST_UPPER (upper y)) (read LAST_LOWER (lower y))) 99) (λ y. sub_byte (untower y)) t c.fits-t.1 tt
