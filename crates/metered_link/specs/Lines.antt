-- The line that tells how a link does (this profile): a JSON object (RFC 8259) without blanks, its members in the order
-- of their names, and a line feed.
use Rattle.std.specs.Prelude.{ℕ, ◌-◌, ◌*◌, ◌/◌, ◌^◌, min, max, List, [], ◌∷◌, ◌++◌, codes}
use Rattle.serde_json.specs.Data.{Data, number, unsigned, string, object, member, no_members}
use Rattle.serde_json.specs.Written.{compact_text}
use Rattle.metered_link.specs.declared.meter.LinkTotals.{LinkTotals}
use Rattle.metered_link.specs.declared.meter.Telling.{Telling}
use Rattle.metered_link.specs.declared.meter.Event.{Event}
use Rattle.metered_link.specs.declared.meter.Event.TheVariants.{Interval, Up, Down}

-- a whole number, which JSON writes without sign and fraction
abbrev pub natural : ℕ → Data
natural n = number (unsigned n)

-- why a link tells
abbrev pub event_name : Event → List ℕ
event_name Interval = codes "interval"
event_name Up = codes "up"
event_name Down = codes "down"

-- the bits a second between two totals; 2^40 octets count at most
abbrev pub rate : LinkTotals → LinkTotals → ℕ
rate before now = min (now.octets - before.octets) (2 ^ 40) * 8000000 / max (now.us - before.us) 1

-- the members of a line
abbrev pub link_data : ℕ → Telling → Data
link_data place t =
    object (member (codes "at") (natural t.totals.us)
    (member (codes "bits") (natural (rate t.since t.totals))
    (member (codes "datagrams") (natural t.totals.datagrams)
    (member (codes "dropped") (natural t.totals.dropped)
    (member (codes "event") (string (event_name t.event))
    (member (codes "failed") (natural t.totals.failed)
    (member (codes "link") (natural place)
    (member (codes "octets") (natural t.totals.octets)
    (member (codes "refused") (natural t.totals.refused)
    (member (codes "written") (natural t.totals.written) no_members))))))))))

-- the line
abbrev pub link_line : ℕ → Telling → List ℕ
link_line place telling = compact_text (link_data place telling) ++ 10 ∷ []
