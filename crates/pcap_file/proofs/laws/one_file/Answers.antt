use Rattle.pcap_file.proofs.FormatLemmas.{one-file}
use Rattle.pcap_file.proofs.laws.one_file.Goals as goal

pub returns : goal.returns
returns c = one-file
