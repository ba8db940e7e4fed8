use Rattle.std.proofs.Common.{◌≡◌, ◌/◌, map, bit_and, ap, ◌∙◌}
use Rattle.aes_block.specs.Inside.Tables.{read}
use Rattle.aes_block.specs.Inside.Tower.{tower, untower}
use Rattle.aes_block.specs.declared.tower.TheConstants.{TOWER_LOW, TOWER_HIGH}
use Rattle.aes_block.proofs.LaneLemmas.{back, places, looked_up, summed}
use Rattle.aes_block.proofs.tower.towered.Goals as goal

pub look_up-tower_low-requires : goal.look_up-tower_low-requires
look_up-tower_low-requires c = places (λ x. bit_and x 15) c.args.v c.low-v_low.result c.fits-v.1 c.low-v_low.ensures tt

pub look_up-tower_high-requires : goal.look_up-tower_high-requires
look_up-tower_high-requires c = places (λ x. x / 16) c.args.v c.high-v_high.result c.fits-v.1 c.high-v_high.ensures tt

pub returns-clause-tower : goal.returns-clause-tower
unfolding tower
returns-clause-tower c =
    let v = c.args.v in
    summed (λ x. read TOWER_LOW (bit_and x 15)) (λ x. read TOWER_HIGH (x / 16)) v c.sum.ensures
    (looked_up TOWER_LOW (λ x. bit_and x 15) v c.look_up-tower_low.ensures c.low-v_low.ensures)
    (looked_up TOWER_HIGH (λ x. x / 16) v c.look_up-tower_high.ensures c.high-v_high.ensures)

pub returns-clause-back : goal.returns-clause-back
unfolding tower
returns-clause-back c =
    let v = c.args.v in
    let is : c.sum.result ≡ map tower v =
    summed (λ x. read TOWER_LOW (bit_and x 15)) (λ x. read TOWER_HIGH (x / 16)) v c.sum.ensures
    (looked_up TOWER_LOW (λ x. bit_and x 15) v c.look_up-tower_low.ensures c.low-v_low.ensures)
    (looked_up TOWER_HIGH (λ x. x / 16) v c.look_up-tower_high.ensures c.high-v_high.ensures) in
    ap (map untower) is ∙ back v c.fits-v.1
