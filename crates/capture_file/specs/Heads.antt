-- The octets of a head.
use Rattle.std.specs.Prelude.{ℕ, List}
use Rattle.capture_file.specs.Capture.{Record, head_spelling}
use Rattle.capture_file.specs.declared.head.Head.{Head}

-- the twelve that a head is spelled with
abbrev pub head_octets : Head → List ℕ
head_octets head = head_spelling head.link head.channel head.length head.us

-- the record of a head and its octets
abbrev pub record_of : Head → List ℕ → Record
record_of head octets = record { link = head.link; channel = head.channel; us = head.us; octets = octets }
