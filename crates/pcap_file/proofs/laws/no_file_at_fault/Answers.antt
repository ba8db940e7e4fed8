use Rattle.pcap_file.proofs.FormatLemmas.{no-file}
use Rattle.pcap_file.proofs.laws.no_file_at_fault.Goals as goal

pub returns : goal.returns
returns c = no-file
