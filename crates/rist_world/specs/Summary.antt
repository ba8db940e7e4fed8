-- How what came of a script is written.
use Rattle.std.specs.Prelude.{ℕ, List, ◌++◌, codes}
use Rattle.octet_fields.specs.Lines.{line}
use Rattle.hex.specs.Hex.{encode_lower}
use Rattle.rist_world.specs.declared.running.Report.{Report}

-- a line for each count, and the SHA-256 in hexadecimal digits
abbrev pub summary_of : Report → List ℕ
summary_of r =
    (((((((line (codes "sent") r.sent ++ line (codes "carried") r.carried) ++ line (codes "lost") r.lost)
    ++ line (codes "asked") r.asked)
    ++ line (codes "resent") r.resent) ++ line (codes "released") r.released)
    ++ codes "sha256 ") ++ encode_lower r.digest) ++ codes "\n"
