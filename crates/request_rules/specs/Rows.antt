-- Worked runs. A run is written in the order in which it happened.
use Rattle.std.specs.Prelude.{ℕ, ◌+◌, ◌*◌, ◌-◌, ◌/◌, ◌^◌, max, List, [], map, reverse, None, Some, false}
use Rattle.std.specs.List.{range_with_len}
use Rattle.receiver_rules.specs.declared.limits.Limits.{Limits}
use Rattle.seq_unwrap.specs.declared.width.Width.{Width}
use Rattle.seq_unwrap.specs.declared.width.Width.TheVariants.{W16}
use Rattle.receiver_rules.specs.Steps.{Arrival}
use Rattle.request_rules.specs.declared.policy.NackKind.{NackKind}
use Rattle.request_rules.specs.declared.policy.Policy.{Policy}
use Rattle.request_rules.specs.declared.word.AskWord.{AskWord}
use Rattle.request_rules.specs.Steps.{Media, Tick, Control, Step, effective_time}
use Rattle.request_rules.specs.Requests.{asked_words}

-- a delay of one second, and a span of 8
abbrev pub usual : Limits
usual = record { playout_delay = 90000; capacity = 8; restart_time = 0; drift = false }

-- and a restart time of two seconds
abbrev pub restarting : Limits
restarting = record { playout_delay = 90000; capacity = 8; restart_time = 180000; drift = false }

-- a tolerance of 25 ms, at least 50 ms between two requests, and so many of them
abbrev pub patient : NackKind → ℕ → Policy
patient kind tries = record { reorder_tolerance = 2250; retry_interval = 4500; retry_limit = tries; kind = kind }

-- a packet of a flow on link 0, with a width and no payload
abbrev pub comes_of : ℕ → Width → ℕ → ℕ → ℕ → Step
comes_of flow width tick word timestamp =
    let arrival : Arrival =
    record { flow = flow; again = false; width = width; word = word; timestamp = timestamp; payload = [] } in
    record { link = 0; tick = tick; input = Media arrival }

-- the same of one flow
abbrev pub comes : Width → ℕ → ℕ → ℕ → Step
comes width tick word timestamp = comes_of 270544960 width tick word timestamp

-- number n of a flow, 10 ms after the one before it
abbrev pub packet : ℕ → ℕ → Step
packet tick n = comes W16 tick n (900 * (n - 10))

-- a packet of another flow, 10 ms after the one before it
abbrev pub other : ℕ → ℕ → Step
other tick n = comes_of 540029072 W16 tick n (900 * n)

-- a tick of the clock on link 0; the moment in microseconds is that of the tick
abbrev pub clock : ℕ → Step
clock tick = record { link = 0; tick = tick; input = Tick (tick * 100 / 9) }

-- and on another link
abbrev pub clock_on : ℕ → ℕ → Step
clock_on link tick = record { link = link; tick = tick; input = Tick (tick * 100 / 9) }

-- a sample of the round-trip time on a link
abbrev pub sampled : ℕ → ℕ → ℕ → Step
sampled link tick micros = record { link = link; tick = tick; input = Control (Some micros) None }

-- a number of the first cycle, and a word of a request
abbrev pub word : ℕ → ℕ → AskWord
word n second = record { first = 2 ^ 40 + n; second = second }

-- so many odd numbers, from 1 on
abbrev pub odd_numbers : ℕ → List ℕ
odd_numbers count = map (λ n. 2 * n + 1) (range_with_len 0 count)

-- the words that ask at a tick after a run
abbrev pub words_at : Limits → Policy → List Step → ℕ → List AskWord
words_at limits policy run tick = asked_words limits policy (reverse run) (max tick (effective_time (reverse run)))
