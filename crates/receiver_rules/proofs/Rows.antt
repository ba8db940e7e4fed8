-- The worked runs, computed from the definitions.
use Rattle.std.specs.Prelude.{◌≡◌, ℕ, false, true, pos, negsuc, replicate, ◌++◌, ◌+◌, ◌*◌, ◌-◌, ◌^◌, Bool, List, [], ◌∷◌, map, reverse}
use Rattle.seq_unwrap.specs.declared.width.Width.TheVariants.{W16}
use Rattle.receiver_rules.specs.Sent.{SentStream, CopyOf, reached_numbers}
use Rattle.receiver_rules.specs.SentEpochs.{CopyIn, sent_epochs, reached_payloads}
use Rattle.std.proofs.Common.{refl}
use Rattle.receiver_rules.specs.declared.verdict.Verdict.TheVariants.{Kept, Stranger, Late, Behind, Early, Twice, Span}
use Rattle.receiver_rules.specs.declared.verdict.Verdict.{Verdict}
use Rattle.receiver_rules.specs.declared.limits.Limits.{Limits}
use Rattle.receiver_rules.specs.declared.anchor.Anchor.{Anchor}
use Rattle.receiver_rules.specs.Clock.{clock_base, clock_of, base_towards}
use Rattle.receiver_rules.specs.Packets.{Packet, deadline_of}
use Rattle.receiver_rules.specs.Epochs.{Epoch, base_of, epoch_with}
use Rattle.receiver_rules.specs.Steps.{Media, Step, time_step, end_step}
use Rattle.receiver_rules.specs.History.{verdicts_of, released_bytes}
use Rattle.seq_unwrap.specs.Nearest.{nearest}

-- ---- how a run is written: in the order in which it happened

-- a delay of one second, and a span of 8
abbrev usual : Limits
usual = record { playout_delay = 90000; capacity = 8; restart_time = 0; drift = false }

-- an arrival of flow 1, with one octet
abbrev brings : ℕ → ℕ → ℕ → ℕ → Step
brings tick word timestamp octet = record { tick = tick; event = Media (record { flow = 1; again = false; width = W16; word = word; timestamp = timestamp; payload = octet ∷ [] }) }

-- an arrival of flow 2
abbrev stranger : ℕ → Step
stranger tick = record { tick = tick; event = Media (record { flow = 2; again = false; width = W16; word = 11; timestamp = 900; payload = 66 ∷ [] }) }

-- the verdicts of a run
abbrev verdicts : List Step → List Verdict
verdicts run = verdicts_of usual (reverse run)

-- what a run releases
abbrev written : List Step → List ℕ
written run = released_bytes usual (reverse run)

-- an arrival of a flow, with one octet
abbrev brings_of : ℕ → ℕ → ℕ → ℕ → Step
brings_of flow tick word octet = record { tick = tick; event = Media (record { flow = flow; again = false; width = W16; word = word; timestamp = 0; payload = octet ∷ [] }) }

-- the same delay and span, and a restart time in ticks
abbrev restarting : ℕ → Limits
restarting restart = record { playout_delay = 90000; capacity = 8; restart_time = restart; drift = false }

-- the verdicts of a run under a restart time, and what it releases
abbrev verdicts_under : ℕ → List Step → List Verdict
verdicts_under restart run = verdicts_of (restarting restart) (reverse run)

abbrev written_under : ℕ → List Step → List ℕ
written_under restart run = released_bytes (restarting restart) (reverse run)

-- ---- the runs

-- an arrival one tick before its deadline is kept, and the packet before it has gone out by then
abbrev just_in_time : List Step
just_in_time = brings 0 10 0 65 ∷ brings 200 12 1800 67 ∷ brings 90899 11 900 66 ∷ []

in_time : verdicts just_in_time ≡ Kept ∷ Kept ∷ Kept ∷ []
unfolding nearest
in_time = refl

in_time_end : written (brings 0 10 0 65 ∷ brings 200 12 1800 67 ∷ brings 90899 11 900 66 ∷ end_step ∷ []) ≡ 65 ∷ 66 ∷ 67 ∷ []
unfolding nearest
in_time_end = refl

-- at its deadline it is late
at_deadline : verdicts (brings 0 10 0 65 ∷ brings 200 12 1800 67 ∷ brings 90900 11 900 66 ∷ end_step ∷ []) ≡ Kept ∷ Kept ∷ Late ∷ []
unfolding nearest
at_deadline = refl

-- a second copy is a duplicate while the first is buffered, and is late afterwards
second_copy : verdicts (brings 0 10 0 65 ∷ brings 5000 11 900 66 ∷ brings 6000 11 900 66 ∷ brings 90900 11 900 66 ∷ []) ≡ Kept ∷ Kept ∷ Twice ∷ Late ∷ []
unfolding nearest
second_copy = refl

-- lower numbers than the first's go before it
lower_first : written (brings 0 10 1800 10 ∷ brings 10 9 900 9 ∷ brings 20 8 0 8 ∷ time_step 90000 ∷ []) ≡ 8 ∷ 9 ∷ 10 ∷ []
unfolding nearest
lower_first = refl

-- the span counts against what is buffered, and not against what was played out
span_held : verdicts (brings 0 10 0 10 ∷ brings 100 18 7200 18 ∷ brings 100 17 6300 17 ∷ brings 90000 18 7200 18 ∷ end_step ∷ []) ≡ Kept ∷ Span ∷ Kept ∷ Kept ∷ []
unfolding nearest
span_held = refl

-- a later number with an earlier deadline takes the lower one along
taken_along : written (brings 0 5 900 5 ∷ brings 0 6 0 6 ∷ time_step 89100 ∷ []) ≡ 5 ∷ 6 ∷ []
unfolding nearest
taken_along = refl

behind : verdicts (brings 0 5 900 5 ∷ brings 0 6 0 6 ∷ brings 89100 4 900 4 ∷ []) ≡ Kept ∷ Kept ∷ Behind ∷ []
unfolding nearest
behind = refl

-- more than twice the delay ahead is early
early : verdicts (brings 0 10 0 10 ∷ brings 0 11 90001 11 ∷ []) ≡ Kept ∷ Early ∷ []
unfolding nearest
early = refl

other_flow : verdicts (brings 0 10 0 65 ∷ stranger 900 ∷ []) ≡ Kept ∷ Stranger ∷ []
unfolding nearest
other_flow = refl

-- numbers that pass the end of their 16 bits
wraps : written (brings 0 65534 0 1 ∷ brings 0 0 1800 3 ∷ brings 0 1 2700 4 ∷ brings 0 65535 900 2 ∷ end_step ∷ []) ≡ 1 ∷ 2 ∷ 3 ∷ 4 ∷ []
unfolding nearest
wraps = refl

-- the same in sent numbers: 65,536 never comes in time, and 65,537 comes twice
late_copy : reached_numbers usual (record { flow = 1; width = W16; timestamp = λ n. 900 * (n - 65534); payload = λ n. n ∷ [] })
    (record { tick = 91800; what = CopyOf 65536 false } ∷ record { tick = 300; what = CopyOf 65535 false } ∷ record { tick = 200; what = CopyOf 65537 false } ∷ record { tick = 100; what = CopyOf 65537 false } ∷ record { tick = 0; what = CopyOf 65534 false } ∷ []) ≡ 65535 ∷ 65537 ∷ 65537 ∷ 65534 ∷ []
late_copy = refl

-- ---- a clock that drifts

-- a span of 2,048 packets, with compensation of drift
abbrev drifting : Limits
drifting = record { playout_delay = 90000; capacity = 2048; restart_time = 0; drift = true }

-- number 0, with timestamp 0, comes at tick 50, and number k at 90 * k with that timestamp. Until 1,022 the base stays
before_the_window : clock_base drifting 50 (replicate 1022 (pos 0) ++ pos 50 ∷ []) ≡ pos 50
before_the_window = refl

-- and after 1,023 it is 9 ticks nearer to the quickest
after_a_window : clock_of drifting 50 (replicate 1023 (pos 0) ++ pos 50 ∷ []) ≡ record { base = pos 41; originals = 1024; least = pos 0 }
after_a_window = refl

-- number 1,024, with timestamp 92,160, is then due at 182,201, and at 182,210 where the base stays
abbrev first_anchor : Anchor
first_anchor = record { flow = 1; time = 50; number = 2 ^ 40; timestamp = 2 ^ 60 }

due_nearer : deadline_of drifting first_anchor (pos 41) (2 ^ 60 + 92160) ≡ pos 182201
due_nearer = refl

due_as_ever : deadline_of usual first_anchor (clock_base usual 50 (replicate 1023 (pos 0) ++ pos 50 ∷ [])) (2 ^ 60 + 92160) ≡ pos 182210
due_as_ever = refl

-- a move is of 9 ticks at most either way, and ends at the quickest
nearer : base_towards (pos 5) (pos 0) ≡ pos 0
nearer = refl

down : base_towards (pos 14) (pos 0) ≡ pos 5
down = refl

up : base_towards (pos 0) (pos 20) ≡ pos 9
up = refl

below : base_towards (pos 0) (negsuc 19) ≡ negsuc 8
below = refl

-- number 0 comes at 0, number k 20 ticks after its timestamp: the first window stays at 0, since its least is number
-- 0's, and the second one moves up
second_window : clock_base drifting 0 (replicate 2047 (pos 20) ++ pos 0 ∷ []) ≡ pos 9
second_window = refl

-- an epoch of which 1,023 originals have come, which were under way for 20 ticks. One more moves the
-- base, a retransmission does not
abbrev nearly : Epoch
nearly = record { anchor = record { flow = 1; time = 0; number = 2 ^ 40; timestamp = 2 ^ 60 }; accepted = record { number = 2 ^ 40 + 1022; timestamp = 2 ^ 60 + 91980; deadline = pos 181980; payload = [] } ∷ []; last = 92000; transits = replicate 1023 (pos 20) }

abbrev then : Bool → Epoch
then again = epoch_with drifting nearly 92090 (record { flow = 1; again = again; width = W16; word = 1023; timestamp = 92070; payload = [] })

an_original_counts : base_of drifting (then false) ≡ pos 9
unfolding nearest
an_original_counts = refl

a_retransmission_does_not : base_of drifting (then true) ≡ pos 0
unfolding nearest
a_retransmission_does_not = refl

-- what is kept keeps its deadline: the packet that ends the window has the old base's
kept_deadlines : map (λ (p : Packet). p.deadline) (then false).accepted ≡ pos 182070 ∷ pos 181980 ∷ []
unfolding nearest
kept_deadlines = refl

-- ---- a flow that restarts: flow 1's number 10 comes at tick 0 and is due at 90,000

-- a restart time of two seconds: one tick early the other flow's packet is a stranger
too_soon : verdicts_under 180000 (brings 0 10 0 65 ∷ brings_of 2 179999 7 66 ∷ []) ≡ Kept ∷ Stranger ∷ []
unfolding nearest
too_soon = refl

-- and then it is kept: number 10 goes out before it, and it at the end
restarts : verdicts_under 180000 (brings 0 10 0 65 ∷ brings_of 2 180000 7 66 ∷ []) ≡ Kept ∷ Kept ∷ []
unfolding nearest
restarts = refl

restarts_written : written_under 180000 (brings 0 10 0 65 ∷ brings_of 2 180000 7 66 ∷ []) ≡ 65 ∷ []
unfolding nearest
restarts_written = refl

restarts_end : written_under 180000 (brings 0 10 0 65 ∷ brings_of 2 180000 7 66 ∷ end_step ∷ []) ≡ 65 ∷ 66 ∷ []
unfolding nearest
restarts_end = refl

-- half a second: while a packet waits no epoch opens
still_waits : verdicts_under 45000 (brings 0 10 0 65 ∷ brings_of 2 45000 7 66 ∷ []) ≡ Kept ∷ Stranger ∷ []
unfolding nearest
still_waits = refl

nothing_waits : verdicts_under 45000 (brings 0 10 0 65 ∷ brings_of 2 90000 7 66 ∷ []) ≡ Kept ∷ Kept ∷ []
unfolding nearest
nothing_waits = refl

-- without a restart time another flow stays a stranger
never : verdicts_under 0 (brings 0 10 0 65 ∷ brings_of 2 900000 7 66 ∷ []) ≡ Kept ∷ Stranger ∷ []
unfolding nearest
never = refl

-- a flow that was there before opens an epoch again, and its numbers count anew
comes_back : written_under 45000 (brings 0 10 0 65 ∷ brings_of 2 90000 7 66 ∷ brings_of 1 180000 3 67 ∷ end_step ∷ []) ≡ 65 ∷ 66 ∷ 67 ∷ []
unfolding nearest
comes_back = refl

-- a stranger puts the time off for none: only kept packets do
strangers_do_not_count : verdicts_under 180000 (brings 0 10 0 65 ∷ brings_of 2 90000 7 66 ∷ brings_of 2 180000 7 66 ∷ []) ≡ Kept ∷ Stranger ∷ Kept ∷ []
unfolding nearest
strangers_do_not_count = refl

-- and once an epoch is open the flow before it is a stranger
left_behind : verdicts_under 180000 (brings 0 10 0 65 ∷ brings_of 2 180000 7 66 ∷ brings 180100 11 900 67 ∷ []) ≡ Kept ∷ Kept ∷ Stranger ∷ []
unfolding nearest
left_behind = refl

-- the same in sent numbers: flow 1 sends from 10 on, and flow 2 from 7 on; flow 2's 9 comes first, and its 7 too late
abbrev stream_of : ℕ → SentStream
stream_of epoch = record { flow = epoch + 1; width = W16; timestamp = λ n. 900 * n; payload = λ n. n ∷ epoch ∷ [] }

two_streams : reached_payloads stream_of (sent_epochs (restarting 180000) stream_of
    (record { tick = 270000; what = CopyIn 1 7 false } ∷ record { tick = 180800; what = CopyIn 1 8 false } ∷ record { tick = 180700; what = CopyIn 1 9 false } ∷ record { tick = 600; what = CopyIn 0 10 false } ∷ record { tick = 700; what = CopyIn 0 12 false } ∷ record { tick = 600; what = CopyIn 0 11 false } ∷ []))
    ≡ (10 ∷ 0 ∷ []) ∷ (11 ∷ 0 ∷ []) ∷ (12 ∷ 0 ∷ []) ∷ (8 ∷ 1 ∷ []) ∷ (9 ∷ 1 ∷ []) ∷ []
two_streams = refl
