use Rattle.std.proofs.Common.{refl, ap, ◌∙◌}
use Rattle.aes_block.specs.Inside.Mix.{across, columns_of}
use Rattle.aes_block.specs.Inside.Rounds.{octets_of}
use Rattle.aes_block.proofs.RowLemmas.{lane_round_is, picked_fits, rows_round}
use Rattle.aes_block.proofs.rounds.middle.Goals as goal

pub returns-clause-lanes : goal.returns-clause-lanes
returns-clause-lanes c =
    rows_round c.args.t c.args.key c.substituted.result.0 c.substituted.result.1 c.fits-t.0 c.fits-key.0
    c.substituted.ensures.once c.substituted.ensures.twice

pub returns-clause-octets : goal.returns-clause-octets
returns-clause-octets c =
    ap octets_of (rows_round c.args.t c.args.key c.substituted.result.0 c.substituted.result.1 c.fits-t.0 c.fits-key.0
    c.substituted.ensures.once c.substituted.ensures.twice)
    ∙ lane_round_is (columns_of c.args.t) (columns_of c.args.key) refl
    (picked_fits c.args.t across c.fits-t.1) (picked_fits c.args.key across c.fits-key.1)
