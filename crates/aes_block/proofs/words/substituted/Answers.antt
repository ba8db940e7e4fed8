use Rattle.std.proofs.Common.{map, sym, ap, ◌∙◌}
use Rattle.std.proofs.lemmas.Simd.{map-map}
use Rattle.aes_block.specs.Field.{sub_byte}
use Rattle.aes_block.specs.Inside.Tower.{untower}
use Rattle.aes_block.proofs.words.substituted.Goals as goal

pub returns : goal.returns
returns c =
    c.substituted_last.ensures ∙ sym (map-map sub_byte untower c.towered.result) ∙ ap (map sub_byte) c.towered.ensures.back
