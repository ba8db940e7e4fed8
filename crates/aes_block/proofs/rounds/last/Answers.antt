use Rattle.std.proofs.Common.{List, ℕ, ap, sym, ◌∙◌}
use Rattle.std.proofs.lemmas.Simd.{map-map}
use Rattle.aes_block.specs.Field.{sub_byte}
use Rattle.aes_block.specs.State.{add_round_key, shift_rows}
use Rattle.aes_block.specs.Inside.Mix.{columns_of}
use Rattle.aes_block.specs.Inside.Tower.{untower}
use Rattle.aes_block.proofs.RowLemmas.{shifted_back}
use Rattle.aes_block.proofs.rounds.last.Goals as goal

pub returns : goal.returns
returns c =
    let t = c.args.t in
    ap (λ (s : List ℕ). add_round_key s c.args.key)
    (c.substituted_last.ensures
    ∙ shifted_back (λ y. sub_byte (untower y)) t c.fits-t.0
    ∙ ap shift_rows (sym (map-map sub_byte untower (columns_of t))))
