use Rattle.rist_words.proofs.RangeLemmas.{line_range}
use Rattle.rist_words.proofs.laws.lines_are_in_range.Goals as goal

pub returns : goal.returns
returns c words line e = line_range words line e
