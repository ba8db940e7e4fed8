use Rattle.std.proofs.Common.{ℕ, map, replicate, bit_xor, refl, ap, ◌∙◌}
use Rattle.aes_block.specs.Inside.Tower.{untower}
use Rattle.aes_block.proofs.LaneLemmas.{key_back}
use Rattle.aes_block.proofs.RowLemmas.{back_in_columns, towered_length}
use Rattle.aes_block.proofs.rounds.prepared_key.Goals as goal

pub returns : goal.returns
returns c =
    let f : ℕ → ℕ = λ y. bit_xor (untower y) 99 in
    let long = towered_length c.args.key (replicate 16 99) _ c.towered.result c.fits-key.0 refl refl c.towered.ensures.tower in
    ap (map f) (back_in_columns c.towered.result c.transposed.result long c.transposed.ensures)
    ∙ key_back c.args.key _ c.towered.result c.fits-key.0 c.fits-key.1 refl c.towered.ensures.tower
