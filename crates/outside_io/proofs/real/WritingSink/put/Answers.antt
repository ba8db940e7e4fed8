use Rattle.std.proofs.Common.{take, drop, sym}
use Rattle.std.proofs.lemmas.List.{take-append-drop}
use Rattle.outside_io.proofs.real.WritingSink.put.Goals as goal

pub returns-clause-front : goal.returns-clause-front
returns-clause-front g c =
    let piece = c.args.piece.now in
    let count = c.write_through.result in
    (take count piece, (drop count piece, sym (take-append-drop count piece)), c.write_through.ensures.value)
