use Rattle.sender_rules.specs.Sendings.{sent_packets}
use Rattle.sender_rules.proofs.StoredLemmas.{word_finds}
use Rattle.sender_rules.proofs.laws.a_word_finds_one_packet.Goals as goal

pub returns : goal.returns
returns c = λ history size width place packet numbered few here. word_finds size width (sent_packets history) place packet numbered few here
