use Rattle.rist_pack.proofs.LawLemmas.{clear-capture}
use Rattle.rist_pack.proofs.laws.without_a_passphrase_a_capture_is_one.Goals as goal

pub returns : goal.returns
returns c = clear-capture
