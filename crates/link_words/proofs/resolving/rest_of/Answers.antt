use Rattle.std.proofs.Common.{◌∙◌, ap, arith, length, map, string_bytes, sym}
use Rattle.std.proofs.lemmas.List.{drop-map}
use Rattle.std.proofs.lemmas.Slice.{between_to_end}
use Rattle.link_words.proofs.resolving.rest_of.Goals as goal

pub returns : goal.returns
returns c =
    ap (map string_bytes) (between_to_end c.args.words.now 2 (length c.args.words.now) (omega arith))
    ∙ sym (drop-map string_bytes 2 c.args.words.now)
