use Rattle.pcap_file.proofs.FormatLemmas.{one-spelling}
use Rattle.pcap_file.proofs.laws.one_spelling.Goals as goal

pub returns : goal.returns
returns c = one-spelling
