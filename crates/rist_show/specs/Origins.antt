-- Where and when a record's datagram came, by the record's head.
use Rattle.capture_file.specs.declared.head.Head.{Head}
use Rattle.rist_show.specs.Lines.{Origin}

-- that of a record with this head
abbrev pub origin_in : Head → Origin
origin_in head = record { at = head.us; channel = head.channel; link = head.link }
