use Rattle.pcap_file.proofs.FormatLemmas.{one-list-of-frames}
use Rattle.pcap_file.proofs.laws.one_list_of_frames.Goals as goal

pub returns : goal.returns
returns c = one-list-of-frames
