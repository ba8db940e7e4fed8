-- What a contract sees of a reader of the datagrams that a pcap file's frames carry to a UDP port.
use Rattle.std.specs.Prelude.{ℕ, List}
use Rattle.link_channels.specs.declared.profile.Profile.{Profile}
use Rattle.pcap_file.specs.Reader.{ReaderState}

-- the reader of frames, which datagrams are taken, and the octets of the one that was read last
pub record PortState : Type 0 where
  pub frames : ReaderState
  pub profile : Profile
  pub port : ℕ
  pub octets : List ℕ
