use Rattle.std.proofs.Common.{map, ap, ◌∙◌}
use Rattle.aes_block.specs.Inside.Mix.{columns_of}
use Rattle.aes_block.specs.Inside.Tower.{tower, untower}
use Rattle.aes_block.proofs.RowLemmas.{back_in_columns, towered_length}
use Rattle.aes_block.proofs.rounds.begun.Goals as goal

pub returns-clause-lanes : goal.returns-clause-lanes
returns-clause-lanes c = c.transposed.ensures ∙ ap columns_of (c.towered.ensures.tower ∙ ap (map tower) c.sum.ensures)

pub returns-clause-octets : goal.returns-clause-octets
returns-clause-octets c =
    let v = c.towered.result in
    let long = towered_length c.args.block c.args.key c.sum.result v c.fits-block.0 c.fits-key.0 c.sum.ensures c.towered.ensures.tower in
    ap (map untower) (back_in_columns v c.transposed.result long c.transposed.ensures) ∙ c.towered.ensures.back ∙ c.sum.ensures
