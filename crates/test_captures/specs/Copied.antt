-- What a visitor writes that copies the octets of each record.
use Rattle.std.specs.Prelude.{ℕ, List, flat_map}
use Rattle.capture_file.specs.Capture.{Record}

-- the octets of the records, one after another
abbrev pub copied : List Record → List ℕ
copied rs = flat_map (λ (r : Record). r.octets) rs
