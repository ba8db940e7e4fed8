use Rattle.std.proofs.Common.{refl}
use Rattle.rist_pack.proofs.LawLemmas.{records_fit}
use Rattle.rist_pack.proofs.laws.what_is_packed_is_a_capture.Goals as goal

pub returns : goal.returns
returns c = λ session nonces settings b gap bound. record { each = records_fit session nonces settings b gap bound; whole = refl }
