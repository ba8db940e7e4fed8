-- Worked runs: what their steps make, computed from the definitions.
use Rattle.std.specs.Prelude.{◌≡◌, ◌+◌, ◌^◌, ℕ, List, [], ◌∷◌, ◌++◌, reverse, true, false, Bool, None, Some}
use Rattle.std.proofs.Common.{refl}
use Rattle.rtcp_compound.specs.Compound.{Content, receiver_report, description, application, feedback}
use Rattle.rtcp_compound.specs.Name.{rist_name}
use Rattle.rist_rtt.specs.Echo.{EchoOf, request, response}
use Rattle.seq_unwrap.specs.Nearest.{nearest}
use Rattle.seq_unwrap.specs.declared.width.Width.TheVariants.{W32}
use Rattle.receiver_rules.specs.declared.limits.Limits.{Limits}
use Rattle.request_rules.specs.declared.policy.NackKind.TheVariants.{Range, Mask}
use Rattle.request_rules.specs.declared.policy.Policy.{Policy}
use Rattle.request_rules.specs.Steps.{Step, Control, Keepalive, control_input}
use Rattle.request_rules.specs.Words.{masked_numbers}
use Rattle.request_rules.specs.Rows.{usual, patient, comes, packet, clock, clock_on}
use Rattle.rist_reporter.specs.Nacks.{nacks}
use Rattle.rist_reporter.specs.Control.{ControlSettings, Datagram, Compound, Alive, opening, datagrams_of}
use Rattle.rist_reporter.specs.Asking.{asked_count, number_count}

-- a receiver with SSRC 7 in the Main Profile, or the Simple one
abbrev end_of : Limits → Policy → Bool → ControlSettings
end_of limits policy is_main = record { limits = limits; policy = policy; own = 7; has_keepalives = is_main; is_muted = false }

-- in the Main Profile and the Simple one, with range NACKs up to eight times
abbrev main : ControlSettings
main = end_of usual (patient Range 8) true

abbrev simple : ControlSettings
simple = end_of usual (patient Range 8) false

-- the datagrams that a step makes after a run, which is written in the order in which it happened
abbrev made : ControlSettings → List Step → Step → List Datagram
made settings run step = datagrams_of settings (reverse run) step

-- ---- reports and keepalives

-- the opening, octet for octet: RFC 3550's report and source description of SSRC 7
opened : opening 7 ≡ receiver_report 7 [] ∷ description 1 (0 ∷ 0 ∷ 0 ∷ 7 ∷ 1 ∷ 4 ∷ 114 ∷ 105 ∷ 115 ∷ 116 ∷ 0 ∷ 0 ∷ []) ∷ []
opened = refl

-- the first tick of a link reports, in the Main Profile with a keepalive; no round-trip time is asked for while no flow is known
first_tick : made main [] (clock 0) ≡ Compound (opening 7) ∷ Alive 7 ∷ []
unfolding nearest
first_tick = refl

first_tick_simple : made simple [] (clock 0) ≡ Compound (opening 7) ∷ []
unfolding nearest
first_tick_simple = refl

-- the next report is due 100 ms later, and the next keepalive a second later, each link for itself
quiet : made main (clock 0 ∷ clock 5000 ∷ []) (clock 8999) ≡ []
unfolding nearest
quiet = refl

next_report : made main (clock 0 ∷ clock 5000 ∷ []) (clock 9000) ≡ Compound (opening 7) ∷ []
unfolding nearest
next_report = refl

no_keepalive_yet : made main (clock 0 ∷ []) (clock 89999) ≡ Compound (opening 7) ∷ []
unfolding nearest
no_keepalive_yet = refl

next_keepalive : made main (clock 0 ∷ []) (clock 90000) ≡ Compound (opening 7) ∷ Alive 7 ∷ []
unfolding nearest
next_keepalive = refl

keepalive_alone : made main (clock 0 ∷ clock 89999 ∷ []) (clock 90000) ≡ Alive 7 ∷ []
unfolding nearest
keepalive_alone = refl

other_link : made main (clock 0 ∷ []) (clock_on 1 100) ≡ Compound (opening 7) ∷ Alive 7 ∷ []
unfolding nearest
other_link = refl

-- a tick for which no pair was left counts as a keepalive that came: the next one reports
after_spent : made simple (record { link = 0; tick = 0; input = Keepalive } ∷ []) (clock 100) ≡ Compound (opening 7) ∷ []
unfolding nearest
after_spent = refl

-- a muted receiver makes nothing
muted : made (record simple { is_muted = true }) [] (clock 0) ≡ []
unfolding nearest
muted = refl

-- ---- requests

-- 10 comes at 0 and 15 at 100: 11 to 14 are missing from then on
abbrev gap : List Step
gap = packet 0 10 ∷ packet 100 15 ∷ []

-- a report of a known flow asks for the round-trip time, and for what is missing
report_with_request : made simple gap (clock 2350)
    ≡ Compound (opening 7 ++ request 270544960 26111 ∷ application 0 270544960 rist_name (0 ∷ 11 ∷ 0 ∷ 3 ∷ []) ∷ []) ∷ []
unfolding nearest
report_with_request = refl

report_alone : made simple gap (clock 2349) ≡ Compound (opening 7 ++ request 270544960 26100 ∷ []) ∷ []
unfolding nearest
report_alone = refl

-- a compound for requests alone is no report, and leaves the report's time
request_alone : made simple (clock 0 ∷ gap) (clock 2350)
    ≡ Compound (opening 7 ++ application 0 270544960 rist_name (0 ∷ 11 ∷ 0 ∷ 3 ∷ []) ∷ []) ∷ []
unfolding nearest
request_alone = refl

report_time_stays : made (end_of usual (patient Range 1) false) (clock 0 ∷ gap ++ clock 2350 ∷ []) (clock 9000)
    ≡ Compound (opening 7 ++ request 270544960 100000 ∷ []) ∷ []
unfolding nearest
report_time_stays = refl

-- in masks the sender of the request is named too
in_a_generic_nack : made (end_of usual (patient Mask 8) false) (clock 0 ∷ gap) (clock 2350)
    ≡ Compound (opening 7 ++ feedback 205 1 7 270544960 (0 ∷ 11 ∷ 0 ∷ 7 ∷ []) ∷ []) ∷ []
unfolding nearest
in_a_generic_nack = refl

-- where numbers have 32 bits an extension stands before each group: a run across 65,536 stands in the group of its first number
abbrev wide_span : Limits
wide_span = record { playout_delay = 90000; capacity = 16; restart_time = 0; drift = false }

extended : made (end_of wide_span (patient Range 8) false) (clock 0 ∷ comes W32 0 65530 0 ∷ comes W32 0 65538 900 ∷ comes W32 0 65541 1800 ∷ []) (clock 2250)
    ≡ Compound (opening 7 ++ application 1 270544960 rist_name (0 ∷ 0 ∷ 0 ∷ 0 ∷ []) ∷ application 0 270544960 rist_name (255 ∷ 251 ∷ 0 ∷ 6 ∷ [])
    ∷ application 1 270544960 rist_name (0 ∷ 1 ∷ 0 ∷ 0 ∷ []) ∷ application 0 270544960 rist_name (0 ∷ 3 ∷ 0 ∷ 1 ∷ []) ∷ []) ∷ []
unfolding nearest
extended = refl

-- the upper half goes on from 2^32 at 0
across_the_cycle : nacks Range 7 8 W32 (record { first = 2 ^ 40 + 4294967295; second = 0 } ∷ record { first = 2 ^ 40 + 4294967297; second = 1 } ∷ [])
    ≡ application 1 8 rist_name (255 ∷ 255 ∷ 0 ∷ 0 ∷ []) ∷ application 0 8 rist_name (255 ∷ 255 ∷ 0 ∷ 0 ∷ [])
    ∷ application 1 8 rist_name (0 ∷ 0 ∷ 0 ∷ 0 ∷ []) ∷ application 0 8 rist_name (0 ∷ 1 ∷ 0 ∷ 1 ∷ []) ∷ []
across_the_cycle = refl

-- ---- answers

-- an RTT request is answered with its own stamp and SSRC, and the answer is no report
abbrev asking : EchoOf
asking = record { answer = false; flow = 99; stamp = 1000000; delay = 0; more = [] }

abbrev asks : ℕ → ℕ → Step
asks link tick = record { link = link; tick = tick; input = Control None (Some asking) }

answered : made main (clock 0 ∷ []) (asks 3 100) ≡ Compound (opening 7 ++ response asking 0 ∷ []) ∷ []
unfolding nearest
answered = refl

no_report : made simple (asks 0 100 ∷ []) (clock 200) ≡ Compound (opening 7) ∷ []
unfolding nearest
no_report = refl

-- of two requests the first is answered
abbrev two_requests : List Content
two_requests = receiver_report 9 [] ∷ request 99 1000000 ∷ request 98 2000000 ∷ []

first_of_two : made main [] (record { link = 0; tick = 0; input = control_input 0 two_requests }) ≡ Compound (opening 7 ++ response asking 0 ∷ []) ∷ []
unfolding nearest Rattle.rist_rtt.specs.Echo.stamp_in Rattle.rist_rtt.specs.Echo.delay_in
first_of_two = refl

-- ---- how many numbers are asked for

-- a range of 100 and four more: 100 to 104
five_of_a_range : number_count Range (record { first = 100; second = 4 } ∷ []) ≡ 5
unfolding masked_numbers
five_of_a_range = refl

-- 100, and the first and the third after it
three_of_a_mask : number_count Mask (record { first = 100; second = 5 } ∷ []) ≡ 3
unfolding masked_numbers
three_of_a_mask = refl

-- 100 alone, and 200 and the sixteen after it
eighteen_of_two_masks : number_count Mask (record { first = 100; second = 0 } ∷ record { first = 200; second = 65535 } ∷ []) ≡ 18
unfolding masked_numbers
eighteen_of_two_masks = refl

-- 11 to 14 are asked for at 2350, and 50 ms later again, by range or by mask
asked_once : asked_count simple (reverse (gap ++ clock 2350 ∷ clock 6849 ∷ [])) ≡ 4
unfolding nearest masked_numbers
asked_once = refl

asked_twice : asked_count simple (reverse (gap ++ clock 2350 ∷ clock 6850 ∷ [])) ≡ 8
unfolding nearest masked_numbers
asked_twice = refl

asked_twice_in_masks : asked_count (end_of usual (patient Mask 8) false) (reverse (gap ++ clock 2350 ∷ clock 6850 ∷ [])) ≡ 8
unfolding nearest masked_numbers
asked_twice_in_masks = refl

-- a muted receiver asks for nothing
none_asked : asked_count (record simple { is_muted = true }) (reverse (gap ++ clock 2350 ∷ [])) ≡ 0
unfolding nearest masked_numbers
none_asked = refl
