use Rattle.rist_pack.proofs.LawLemmas.{piece-taken, piece-content}
use Rattle.rist_pack.proofs.laws.each_datagram_is_its_piece.Goals as goal

pub returns-clause-taken : goal.returns-clause-taken
returns-clause-taken c = piece-taken

pub returns-clause-content : goal.returns-clause-content
returns-clause-content c = piece-content
