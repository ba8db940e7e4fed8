-- The line that tells how a receiver does (this profile): a JSON object (RFC 8259) without blanks, its members in the order
-- of their names, and a line feed.
use Rattle.std.specs.Prelude.{ℕ, List, [], ◌∷◌, ◌++◌, codes}
use Rattle.serde_json.specs.Data.{Data, string, object, member, no_members}
use Rattle.serde_json.specs.Written.{compact_text}
use Rattle.outside_net.specs.declared.figures.ReceiverFigures.{ReceiverFigures}
use Rattle.metered_link.specs.Lines.{natural}

-- what became of the packets that came
abbrev pub packets_data : ReceiverFigures → Data
packets_data f =
    object (member (codes "behind") (natural f.behind)
    (member (codes "early") (natural f.early)
    (member (codes "exhausted") (natural f.exhausted)
    (member (codes "kept") (natural f.kept)
    (member (codes "late") (natural f.late)
    (member (codes "recovered") (natural f.recovered)
    (member (codes "span") (natural f.span)
    (member (codes "stranger") (natural f.stranger)
    (member (codes "twice") (natural f.twice) no_members)))))))))

-- the members of a line: a moment in microseconds, the place of the receiver's flow, and its figures
abbrev pub receiver_data : ℕ → ℕ → ReceiverFigures → Data
receiver_data us flow f =
    object (member (codes "asked") (natural f.asked)
    (member (codes "at") (natural us)
    (member (codes "event") (string (codes "receiver"))
    (member (codes "fill") (natural f.fill)
    (member (codes "flow") (natural flow)
    (member (codes "held") (natural f.held)
    (member (codes "lost") (natural f.lost)
    (member (codes "packets") (packets_data f)
    (member (codes "refused") (natural f.refused) no_members)))))))))

-- the line
abbrev pub receiver_line : ℕ → ℕ → ReceiverFigures → List ℕ
receiver_line us flow figures = compact_text (receiver_data us flow figures) ++ 10 ∷ []
