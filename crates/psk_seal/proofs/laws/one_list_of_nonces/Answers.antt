use Rattle.psk_seal.proofs.NonceLemmas.{one_list}
use Rattle.psk_seal.proofs.laws.one_list_of_nonces.Goals as goal

pub returns : goal.returns
returns c = one_list
