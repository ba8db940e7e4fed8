use Rattle.block_source.proofs.PieceLemmas.{pieces_joined, piece_sized}
use Rattle.block_source.proofs.laws.the_pieces_are_the_whole.Goals as goal

pub returns-clause-whole : goal.returns-clause-whole
returns-clause-whole c = pieces_joined

pub returns-clause-each : goal.returns-clause-each
returns-clause-each c = piece_sized
