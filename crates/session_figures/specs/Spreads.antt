-- Jitter and round-trip times, over the history of a receiver's steps, the newest first.
use Rattle.std.specs.Prelude.{ℕ, ◌+◌, ◌-◌, ◌/◌, ◌%◌, ◌^◌, min, List, [], ◌∷◌, ◌++◌, ◌==◌, if◌then◌else◌}
use Rattle.std.specs.declared.option.Option.{Option}
use Rattle.std.specs.declared.option.Option.TheVariants.{None, Some}
use Rattle.value_histogram.specs.Ranks.{told_value}
use Rattle.receiver_rules.specs.declared.limits.Limits.{Limits}
use Rattle.request_rules.specs.Steps.{Input, Media, Control, Keepalive, Refused, Tick, End, Step}
use Rattle.session_figures.specs.Amounts.{amounts_of, restarts_by}

-- ---- jitter: RFC 3550, section 6.4.1 and appendix A.8

-- how far one word of 32 bits lies behind another, around the cycle
abbrev pub word_from : ℕ → ℕ → ℕ
word_from a b = (a + (2 ^ 32 - b)) % 2 ^ 32

-- a packet's relative transit time: the tick at which it came less its timestamp, as a word
abbrev pub transit_word : ℕ → ℕ → ℕ
transit_word tick timestamp = word_from (tick % 2 ^ 32) timestamp

-- how far two transits differ, whichever is longer, in ticks of 1/90,000 s
abbrev pub transit_difference : ℕ → ℕ → ℕ
transit_difference a b = min (word_from a b) (word_from b a)

-- the same in tenths of a millisecond, rounded down, as a histogram tells it
abbrev pub jitter_of : ℕ → ℕ → ℕ
jitter_of a b = told_value (transit_difference a b / 9)

-- the timestamp of a media packet, and 0 where another thing came
abbrev pub timestamp_in : Input → ℕ
timestamp_in (Media arrival) = arrival.timestamp
timestamp_in (Control sample request) = 0
timestamp_in Keepalive = 0
timestamp_in Refused = 0
timestamp_in (Tick micros) = 0
timestamp_in End = 0

-- the transit of the packet before, and none where the flow restarts in between
abbrev pub transit_before : ℕ → Option ℕ → Option ℕ
transit_before restarts last = if restarts == 0 then last else None

-- the transit that the next packet's is held against: that of the last packet of the epoch that was received first time
abbrev pub last_transit : Limits → List Step → Option ℕ
last_transit limits [] = None
last_transit limits (step ∷ before) =
    if (amounts_of limits before step).first == 0
    then transit_before (restarts_by limits before step) (last_transit limits before)
    else Some (transit_word step.tick (timestamp_in step.input))

-- the jitter of a packet, where one came before it
abbrev pub jitters_by : Option ℕ → ℕ → List ℕ
jitters_by None transit = []
jitters_by (Some last) transit = jitter_of last transit ∷ []

-- the jitter of each packet of a history that was received first time, but for the first of each epoch: how far the
-- time between it and the one before differs from that between their timestamps. The newest comes first
abbrev pub jitters_of : Limits → List Step → List ℕ
jitters_of limits [] = []
jitters_of limits (step ∷ before) =
    (if (amounts_of limits before step).first == 0 then []
    else jitters_by (transit_before (restarts_by limits before step) (last_transit limits before))
    (transit_word step.tick (timestamp_in step.input))) ++ jitters_of limits before

-- ---- round-trip times

-- the sample of a step's compound, in whole milliseconds, as a histogram tells it: how long before a response came the
-- moment lies that its request was stamped with, less the responder's delay
abbrev pub trips_by : Input → List ℕ
trips_by (Media arrival) = []
trips_by (Control None request) = []
trips_by (Control (Some sample) request) = told_value (sample / 1000) ∷ []
trips_by Keepalive = []
trips_by Refused = []
trips_by (Tick micros) = []
trips_by End = []

-- the samples of a history, the newest first
abbrev pub trips_of : List Step → List ℕ
trips_of [] = []
trips_of (step ∷ before) = trips_by step.input ++ trips_of before
