-- What is printed of a tear.
use Rattle.std.specs.Prelude.{ℕ, List, ◌++◌, codes, decimal, Option, None, Some}
use Rattle.receiver_rules.specs.declared.verdict.Verdict.TheVariants as verdicts
use Rattle.rist_desk.specs.declared.step.Event.{Event}
use Rattle.rist_desk.specs.declared.step.Event.TheVariants as events
use Rattle.rist_desk.specs.declared.step.Mark.{Mark}
use Rattle.rist_desk.specs.declared.step.Mark.TheVariants as marks
use Rattle.rist_desk.specs.declared.step.Step.{Step}
use Rattle.rist_compare.specs.declared.tear.Tear.{Tear}

-- what came with a step
abbrev pub kind_text : Event → List ℕ
kind_text (events.Media packet) = codes "media"
kind_text (events.Control echoes) = codes "control"
kind_text events.Keepalive = codes "keepalive"
kind_text events.Refused = codes "refused"
kind_text (events.Tick micros) = codes "tick"
kind_text events.End = codes "end"

-- the sequence number that a media packet carries, else 0
abbrev pub word_in : Event → ℕ
word_in (events.Media packet) = packet.word
word_in (events.Control echoes) = 0
word_in events.Keepalive = 0
word_in events.Refused = 0
word_in (events.Tick micros) = 0
word_in events.End = 0

-- the place of the test that a media packet failed, from 1, else 0
abbrev pub mark_number : Mark → ℕ
mark_number (marks.Verdict verdicts.Kept) = 0
mark_number (marks.Verdict verdicts.Stranger) = 1
mark_number (marks.Verdict verdicts.Exhausted) = 2
mark_number (marks.Verdict verdicts.Late) = 3
mark_number (marks.Verdict verdicts.Behind) = 4
mark_number (marks.Verdict verdicts.Early) = 5
mark_number (marks.Verdict verdicts.Twice) = 6
mark_number (marks.Verdict verdicts.Span) = 7
mark_number marks.Plain = 0
mark_number marks.Spent = 0
mark_number marks.WriteFault = 0

-- the kind of a step, its tick, its number and its mark
abbrev pub there_text : Option Step → List ℕ
there_text None = codes "none"
there_text (Some s) =
    kind_text s.what ++ (codes " "
    ++ (decimal s.at ++ (codes " " ++ (decimal (word_in s.what) ++ (codes " " ++ decimal (mark_number s.mark))))))

-- where the lists differ first, and what stands there in each
abbrev pub tear_text : Tear → List ℕ
tear_text t =
    codes "torn: link " ++ (decimal t.link ++ (codes " step " ++ (decimal t.place
    ++ (codes ": desk " ++ (there_text t.desk ++ (codes ", own " ++ there_text t.own))))))
