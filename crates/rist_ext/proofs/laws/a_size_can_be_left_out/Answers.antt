use Rattle.rist_ext.proofs.SizeLemmas.{size-first, size-last}
use Rattle.rist_ext.proofs.laws.a_size_can_be_left_out.Goals as goal

pub returns : goal.returns
returns c = record { first = size-first; last = size-last }
