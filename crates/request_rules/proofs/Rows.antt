-- The worked runs, computed from the definitions.
use Rattle.std.specs.Prelude.{◌≡◌, ℕ, List, [], ◌∷◌, ◌++◌, length, true, Option, None, Some, false}
use Rattle.std.specs.List.{range_with_len}
use Rattle.std.proofs.Common.{refl}
use Rattle.rist_rtt.specs.Echo.{EchoOf}
use Rattle.seq_unwrap.specs.Nearest.{nearest}
use Rattle.seq_unwrap.specs.declared.width.Width.TheVariants.{W16}
use Rattle.receiver_rules.specs.declared.limits.Limits.{Limits}
use Rattle.request_rules.specs.declared.policy.NackKind.TheVariants.{Range, Mask}
use Rattle.request_rules.specs.Steps.{Step, Keepalive, End, sample_at, rtt_of, longest_rtt}
use Rattle.request_rules.specs.Words.{words_for, asked_numbers, masked_numbers}
use Rattle.request_rules.specs.Rows.{usual, restarting, patient, comes, packet, other, clock, clock_on, sampled, word, words_at, odd_numbers}

-- ---- when

-- 10 comes at 0 and 15 at 100: 11 to 14 are missing from then on
abbrev gap : List Step
gap = packet 0 10 ∷ packet 100 15 ∷ []

-- they are asked for 25 ms later, and not before
too_early : words_at usual (patient Range 8) gap 2349 ≡ []
unfolding nearest
too_early = refl

in_a_range : words_at usual (patient Range 8) gap 2350 ≡ word 11 3 ∷ []
unfolding nearest
in_a_range = refl

in_a_mask : words_at usual (patient Mask 8) gap 2350 ≡ word 11 7 ∷ []
unfolding nearest
in_a_mask = refl

-- and again 50 ms after that, and not before; a tick that asked for nothing doesn't count
abbrev asked_once : List Step
asked_once = gap ++ clock 2349 ∷ clock 2350 ∷ []

too_early_again : words_at usual (patient Range 8) asked_once 6849 ≡ []
unfolding nearest
too_early_again = refl

again : words_at usual (patient Range 8) asked_once 6850 ≡ word 11 3 ∷ []
unfolding nearest
again = refl

again_in_a_mask : words_at usual (patient Mask 8) asked_once 6850 ≡ word 11 7 ∷ []
unfolding nearest masked_numbers
again_in_a_mask = refl

-- a request on one link counts on each: it belongs to the receiver
on_another_link : words_at usual (patient Range 8) (gap ++ clock_on 1 2350 ∷ []) 6849 ≡ []
unfolding nearest
on_another_link = refl

-- what came on request is asked for no more, and the rest in two words
filled : words_at usual (patient Range 8) (asked_once ++ packet 5000 13 ∷ []) 6850 ≡ word 11 1 ∷ word 14 0 ∷ []
unfolding nearest
filled = refl

filled_in_a_mask : words_at usual (patient Mask 8) (asked_once ++ packet 5000 13 ∷ []) 6850 ≡ word 11 5 ∷ []
unfolding nearest masked_numbers
filled_in_a_mask = refl

-- a higher gap changes nothing for the numbers that were asked for before: 16 has its own time
higher_gap : words_at usual (patient Range 8) (asked_once ++ packet 3000 17 ∷ []) 5250 ≡ word 16 0 ∷ []
unfolding nearest
higher_gap = refl

higher_gap_later : words_at usual (patient Range 8) (asked_once ++ packet 3000 17 ∷ clock 5250 ∷ []) 6850 ≡ word 11 3 ∷ []
unfolding nearest
higher_gap_later = refl

-- a tick for whose answer no pair was left asked for nothing
unanswered : words_at usual (patient Range 8) (gap ++ record { link = 0; tick = 2350; input = Keepalive } ∷ []) 2351 ≡ word 11 3 ∷ []
unfolding nearest
unanswered = refl

-- each packet is asked for as often as the limit says
used_up : words_at usual (patient Range 2) (asked_once ++ clock 6850 ∷ []) 80000 ≡ []
unfolding nearest
used_up = refl

not_used_up : words_at usual (patient Range 3) (asked_once ++ clock 6850 ∷ []) 11350 ≡ word 11 3 ∷ []
unfolding nearest
not_used_up = refl

never : words_at usual (patient Range 0) gap 2350 ≡ []
unfolding nearest
never = refl

-- a round-trip time of 100 ms is longer than the interval, and holds a second request back until then; that of another link,
-- if longer, likewise; one of 40 ms doesn't count
held_back : words_at usual (patient Range 8) (sampled 0 0 100000 ∷ asked_once) 11349 ≡ []
unfolding nearest
held_back = refl

not_held_back : words_at usual (patient Range 8) (sampled 0 0 100000 ∷ asked_once) 11350 ≡ word 11 3 ∷ []
unfolding nearest
not_held_back = refl

longest_of_two : words_at usual (patient Range 8) (sampled 15 0 100000 ∷ sampled 1 0 40000 ∷ asked_once) 11349 ≡ []
unfolding nearest
longest_of_two = refl

short_one : words_at usual (patient Range 8) (sampled 0 0 40000 ∷ asked_once) 6850 ≡ word 11 3 ∷ []
unfolding nearest
short_one = refl

-- ---- which

-- nothing below the first packet's number, though a lower one was kept
not_below_the_first : words_at usual (patient Range 8) (comes W16 0 10 5400 ∷ comes W16 0 7 2700 ∷ comes W16 100 12 7200 ∷ []) 2350 ≡ word 11 0 ∷ []
unfolding nearest
not_below_the_first = refl

-- nothing at or below what was played out
not_below_the_played_out : words_at usual (patient Range 8) (packet 0 10 ∷ packet 0 12 ∷ packet 0 14 ∷ []) 91800 ≡ word 13 0 ∷ []
unfolding nearest
not_below_the_played_out = refl

-- nothing the span or more below the highest number: 10 was played out, and 30 comes
within_the_span : words_at usual (patient Range 8) (packet 0 10 ∷ packet 90000 30 ∷ []) 92250 ≡ word 23 6 ∷ []
unfolding nearest
within_the_span = refl

-- each packet is missing since a higher number first came
found_one_by_one : words_at usual (patient Range 8) (packet 0 10 ∷ packet 0 12 ∷ packet 1000 14 ∷ packet 1000 17 ∷ []) 2250 ≡ word 11 0 ∷ []
unfolding nearest
found_one_by_one = refl

-- nothing where nothing came, or one packet alone; nothing of another flow
nothing_came : words_at usual (patient Range 8) (clock 0 ∷ []) 90000 ≡ []
unfolding nearest
nothing_came = refl

one_alone : words_at usual (patient Range 8) (packet 0 10 ∷ []) 89999 ≡ []
unfolding nearest
one_alone = refl

-- a run across 65,536 stays one word
abbrev wide_span : Limits
wide_span = record { playout_delay = 90000; capacity = 16; restart_time = 0; drift = false }

across : words_at wide_span (patient Range 8) (comes W16 0 65530 0 ∷ comes W16 0 4 900 ∷ []) 2250 ≡ word 65531 8 ∷ []
unfolding nearest
across = refl

across_in_a_mask : words_at wide_span (patient Mask 8) (comes W16 0 65530 0 ∷ comes W16 0 4 900 ∷ []) 2250 ≡ word 65531 255 ∷ []
unfolding nearest
across_in_a_mask = refl

-- nothing after the end, when all counts as played out
after_the_end : words_at usual (patient Range 8) (gap ++ record { link = 0; tick = 200; input = End } ∷ []) 2350 ≡ []
unfolding nearest
after_the_end = refl

-- ---- words

-- no more than 64 words: 66 numbers with gaps between them, as runs, and in masks that hold nine each
most_words : length (words_for Range 64 (odd_numbers 66)) ≡ 64
most_words = refl

most_numbers : asked_numbers Range (words_for Range 64 (odd_numbers 66)) ≡ odd_numbers 64
most_numbers = refl

in_masks : length (words_for Mask 64 (odd_numbers 66)) ≡ 8
in_masks = refl

numbers_of_masks : asked_numbers Mask (words_for Mask 64 (odd_numbers 66)) ≡ odd_numbers 66
unfolding masked_numbers
numbers_of_masks = refl

-- a mask covers sixteen numbers after its first, and the next begins a word
one_mask : words_for Mask 64 (range_with_len 100 17) ≡ record { first = 100; second = 65535 } ∷ []
one_mask = refl

two_masks : words_for Mask 64 (range_with_len 100 18) ≡ record { first = 100; second = 65535 } ∷ record { first = 117; second = 0 } ∷ []
two_masks = refl

-- a run is as long as the numbers go on
long_run : words_for Range 64 (range_with_len 65000 2000) ≡ record { first = 65000; second = 1999 } ∷ []
long_run = refl

most_masks : asked_numbers Mask (words_for Mask 2 (range_with_len 100 60)) ≡ range_with_len 100 34
unfolding masked_numbers
most_masks = refl

-- ---- the round-trip time

-- the first sample, and then an eighth of each
smoothed_one : rtt_of 0 (sampled 0 10 16000 ∷ sampled 1 5 90000 ∷ sampled 0 0 8000 ∷ []) ≡ Some 9000
smoothed_one = refl

longest_one : longest_rtt 16 (sampled 0 10 16000 ∷ sampled 1 5 90000 ∷ sampled 0 0 8000 ∷ []) ≡ 90000
longest_one = refl

-- a response is stale where its stamp lies ahead, or more than ten seconds back; a delay above the time gives 0
abbrev echo : ℕ → ℕ → Option EchoOf
echo stamp delay = Some (record { answer = true; flow = 0; stamp = stamp; delay = delay; more = [] })

ahead : sample_at 999 (echo 1000 0) ≡ None
ahead = refl

too_old : sample_at 10000001 (echo 0 0) ≡ None
too_old = refl

just_fresh : sample_at 10000000 (echo 0 0) ≡ Some 10000000
just_fresh = refl

less_the_delay : sample_at 5000 (echo 1000 3000) ≡ Some 1000
less_the_delay = refl

no_less_than_nothing : sample_at 5000 (echo 1000 4001) ≡ Some 0
no_less_than_nothing = refl

-- ---- a flow that restarts

-- 11 to 14 were asked for once, and two seconds after 15 another flow's 12 opens an epoch
abbrev restarted : List Step
restarted = gap ++ clock 2350 ∷ other 180100 12 ∷ []

-- numbers of the old epoch are asked for no more
no_old_numbers : words_at restarting (patient Range 8) restarted 190000 ≡ []
unfolding nearest
no_old_numbers = refl

-- 13 and 14 are missing from its 15 on, and not since the old one's
found_anew : words_at restarting (patient Range 1) (restarted ++ other 180200 15 ∷ []) 182449 ≡ []
unfolding nearest
found_anew = refl

-- they are asked for once each, though these numbers were asked for in the old epoch
asked_anew : words_at restarting (patient Range 1) (restarted ++ other 180200 15 ∷ []) 182450 ≡ word 13 1 ∷ []
unfolding nearest
asked_anew = refl
