use Rattle.capture_file.proofs.FormatLemmas.{one_spelling}
use Rattle.capture_file.proofs.laws.one_spelling.Goals as goal

pub returns : goal.returns
returns c = one_spelling
