-- How many arrivals of a history had each verdict.
use Rattle.std.specs.Prelude.{◌≡◌, ℕ, ◌+◌, ◌-◌, ◌^◌, min, List, [], ◌∷◌, Option, None, Some, ◌&&◌, if◌then◌else◌}
use Rattle.receiver_rules.specs.declared.verdict.Verdict.{Verdict}
use Rattle.receiver_rules.specs.declared.verdict.Verdict.TheVariants as verdicts
use Rattle.receiver_rules.specs.declared.limits.Limits.{Limits}
use Rattle.receiver_rules.specs.Packets.{is_kept}
use Rattle.receiver_rules.specs.History.{verdict}
use Rattle.request_rules.specs.Steps.{Input, Media, Control, Keepalive, Refused, Tick, End, Step, buffer_history}
use Rattle.rist_ends.specs.declared.counts.Counts.{Counts}
use Rattle.rist_ends.specs.declared.told.What.{What}
use Rattle.rist_ends.specs.declared.told.What.TheVariants as whats

-- one where two verdicts are the same
abbrev pub one_where_same : Verdict → Verdict → ℕ
one_where_same verdicts.Kept verdicts.Kept = 1
one_where_same verdicts.Stranger verdicts.Stranger = 1
one_where_same verdicts.Exhausted verdicts.Exhausted = 1
one_where_same verdicts.Late verdicts.Late = 1
one_where_same verdicts.Behind verdicts.Behind = 1
one_where_same verdicts.Early verdicts.Early = 1
one_where_same verdicts.Twice verdicts.Twice = 1
one_where_same verdicts.Span verdicts.Span = 1
one_where_same _ _ = 0

-- one where a step brings a media packet with this verdict
abbrev pub counted_verdict : Verdict → Limits → List Step → ℕ → Input → ℕ
counted_verdict v limits before tick (Media arrival) =
    one_where_same v (verdict limits (buffer_history before) tick arrival)
counted_verdict v limits before tick (Control sample request) = 0
counted_verdict v limits before tick Keepalive = 0
counted_verdict v limits before tick Refused = 0
counted_verdict v limits before tick (Tick micros) = 0
counted_verdict v limits before tick End = 0

-- how many media packets of a history had this verdict
abbrev pub verdict_count : Verdict → Limits → List Step → ℕ
verdict_count v limits [] = 0
verdict_count v limits (step ∷ before) =
    verdict_count v limits before + counted_verdict v limits before step.tick step.input

-- one where a step is of an item that was refused
abbrev pub counted_refusal : Input → ℕ
counted_refusal (Media arrival) = 0
counted_refusal (Control sample request) = 0
counted_refusal Keepalive = 0
counted_refusal Refused = 1
counted_refusal (Tick micros) = 0
counted_refusal End = 0

-- how many items of a history were refused
abbrev pub refused_count : List Step → ℕ
refused_count [] = 0
refused_count (step ∷ before) = refused_count before + counted_refusal step.input

-- one where a step brings a packet that had been sent again, and it is kept
abbrev pub counted_recovery : Limits → List Step → ℕ → Input → ℕ
counted_recovery limits before tick (Media arrival) =
    if is_kept (verdict limits (buffer_history before) tick arrival) && arrival.again then 1 else 0
counted_recovery limits before tick (Control sample request) = 0
counted_recovery limits before tick Keepalive = 0
counted_recovery limits before tick Refused = 0
counted_recovery limits before tick (Tick micros) = 0
counted_recovery limits before tick End = 0

-- how many packets of a history that had been sent again were kept
abbrev pub recovered_count : Limits → List Step → ℕ
recovered_count limits [] = 0
recovered_count limits (step ∷ before) =
    recovered_count limits before + counted_recovery limits before step.tick step.input

-- a count stays at its greatest value
abbrev pub capped : ℕ → ℕ
capped n = min n (2 ^ 64 - 1)

-- how many had a verdict, as the counts tell
abbrev pub count_of : Verdict → Counts → ℕ
count_of verdicts.Kept c = c.kept
count_of verdicts.Stranger c = c.stranger
count_of verdicts.Exhausted c = c.exhausted
count_of verdicts.Late c = c.late
count_of verdicts.Behind c = c.behind
count_of verdicts.Early c = c.early
count_of verdicts.Twice c = c.twice
count_of verdicts.Span c = c.span

-- the counts are those of a history
pub record AreCountsOf (c : Counts) (limits : Limits) (history : List Step) : Type 0 where
  pub each : (v : Verdict) → count_of v c ≡ capped (verdict_count v limits history)
  pub refused : c.refused ≡ capped (refused_count history)

-- ---- one more

-- nothing came yet
abbrev pub no_counts : Counts
no_counts =
    record { kept = 0; stranger = 0; exhausted = 0; late = 0; behind = 0; early = 0; twice = 0; span = 0; refused = 0 }

-- the counts after one more verdict
abbrev pub one_more : Verdict → Counts → Counts
one_more verdicts.Kept c = record c { kept = capped (c.kept + 1) }
one_more verdicts.Stranger c = record c { stranger = capped (c.stranger + 1) }
one_more verdicts.Exhausted c = record c { exhausted = capped (c.exhausted + 1) }
one_more verdicts.Late c = record c { late = capped (c.late + 1) }
one_more verdicts.Behind c = record c { behind = capped (c.behind + 1) }
one_more verdicts.Early c = record c { early = capped (c.early + 1) }
one_more verdicts.Twice c = record c { twice = capped (c.twice + 1) }
one_more verdicts.Span c = record c { span = capped (c.span + 1) }

-- the counts after one more refusal
abbrev pub one_refused : Counts → Counts
one_refused c = record c { refused = capped (c.refused + 1) }

-- the counts after one more step without a verdict
abbrev pub counts_after : What → Counts → Counts
counts_after (whats.Media arrival) c = c
counts_after (whats.Control compound) c = c
counts_after whats.Keepalive c = c
counts_after whats.Refused c = one_refused c
counts_after whats.Tick c = c
counts_after whats.End c = c

-- the counts after one more step
abbrev pub counts_with : Option Verdict → What → Counts → Counts
counts_with (Some v) what c = one_more v c
counts_with None what c = counts_after what c

-- how many packets that had been sent again were kept, after one more step
abbrev pub recovered_with : Option Verdict → What → ℕ → ℕ
recovered_with (Some v) (whats.Media arrival) n = if is_kept v && arrival.again then capped (n + 1) else n
recovered_with (Some v) (whats.Control compound) n = n
recovered_with (Some v) whats.Keepalive n = n
recovered_with (Some v) whats.Refused n = n
recovered_with (Some v) whats.Tick n = n
recovered_with (Some v) whats.End n = n
recovered_with None what n = n
