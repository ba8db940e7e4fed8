-- What is counted of the records of a capture, and how it is written.
use Rattle.std.specs.Prelude.{ℕ, List, ◌++◌, codes}
use Rattle.octet_fields.specs.Lines.{line}
use Rattle.capture_file.specs.Capture.{Record}
use Rattle.receiver_rules.specs.declared.limits.Limits.{Limits}
use Rattle.receiver_rules.specs.declared.verdict.Verdict.TheVariants.{Kept, Stranger, Exhausted, Late, Behind, Early}
use Rattle.receiver_rules.specs.declared.verdict.Verdict.TheVariants.{Twice, Span}
use Rattle.request_rules.specs.Steps.{Step}
use Rattle.rist_wire.specs.declared.session.Session.{Session}
use Rattle.rist_ends.specs.declared.counts.Counts.{Counts}
use Rattle.rist_ends.specs.Counts.{capped, refused_count, verdict_count}
use Rattle.rist_replay.specs.Steps.{receiver_history}

-- the counts of a history: how many arrivals had each verdict, and how many datagrams were refused, each up to 2^64 - 1
abbrev pub counts_of : Limits → List Step → Counts
counts_of limits history = record {
  kept = capped (verdict_count Kept limits history);
  stranger = capped (verdict_count Stranger limits history);
  exhausted = capped (verdict_count Exhausted limits history);
  late = capped (verdict_count Late limits history);
  behind = capped (verdict_count Behind limits history);
  early = capped (verdict_count Early limits history);
  twice = capped (verdict_count Twice limits history);
  span = capped (verdict_count Span limits history);
  refused = capped (refused_count history);
}

-- a line for each verdict, in the order of the tests, and one for what was refused
abbrev pub text_of : Counts → List ℕ
text_of c =
    (((((((line (codes "kept") c.kept ++ line (codes "stranger") c.stranger) ++ line (codes "exhausted") c.exhausted)
    ++ line (codes "late") c.late) ++ line (codes "behind") c.behind) ++ line (codes "early") c.early)
    ++ line (codes "twice") c.twice) ++ line (codes "span") c.span) ++ line (codes "refused") c.refused

-- what is written of the records of a capture in a session
abbrev pub counted : Session → Limits → List Record → List ℕ
counted session limits rs = text_of (counts_of limits (receiver_history session rs))
