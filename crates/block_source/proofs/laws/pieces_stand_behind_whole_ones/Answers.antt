use Rattle.block_source.proofs.PieceLemmas.{pieces_behind, next_piece}
use Rattle.block_source.proofs.laws.pieces_stand_behind_whole_ones.Goals as goal

pub returns-clause-behind : goal.returns-clause-behind
returns-clause-behind c = pieces_behind

pub returns-clause-first : goal.returns-clause-first
returns-clause-first c = next_piece
