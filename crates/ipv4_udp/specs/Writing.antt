-- The datagrams that are written: a header without options, and both checksums (RFC 791, section 3.1; RFC 768).
use Rattle.std.specs.Prelude.{ℕ, List, [], ◌++◌, if◌then◌else◌, ◌==◌}
use Rattle.ipv4_udp.specs.declared.writing.IpHead.{IpHead}
use Rattle.ipv4_udp.specs.Sum.{checksum_of, whole_sum}
use Rattle.ipv4_udp.specs.Ip.{Datagram, OtherFields, header_octets, udp_octets, pseudo_header, udp_length}

-- the datagram of a head and its data
abbrev pub datagram_with : IpHead → List ℕ → Datagram
datagram_with head payload = record {
  from = head.from;
  to = head.to;
  from_port = head.from_port;
  to_port = head.to_port;
  payload = payload;
}

-- The other fields (this profile): service and identification 0, not to be fragmented, a time to live of 64, no
-- options.
abbrev pub fields_with : ℕ → ℕ → OtherFields
fields_with header_sum udp_sum = record {
  service = 0;
  identification = 0;
  flags = 1;
  time_to_live = 64;
  header_sum = header_sum;
  options = [];
  udp_sum = udp_sum;
  padding = [];
  trailer = [];
}

-- the checksum of the header
abbrev pub header_sum_of : Datagram → ℕ
header_sum_of datagram = checksum_of (header_octets datagram (fields_with 0 0))

-- that of the UDP datagram as it is computed
abbrev pub computed_sum_of : Datagram → ℕ
computed_sum_of datagram =
    checksum_of (pseudo_header datagram.from datagram.to (udp_length datagram) ++ udp_octets datagram 0)

-- and as it is written: a computed 0 would say that none was made
abbrev pub udp_sum_of : Datagram → ℕ
udp_sum_of datagram = if computed_sum_of datagram == 0 then whole_sum else computed_sum_of datagram

-- the other fields with both checksums
abbrev pub written_fields : Datagram → OtherFields
written_fields datagram = fields_with (header_sum_of datagram) (udp_sum_of datagram)
