-- Worked runs, by the definitions.
use Rattle.std.proofs.Common.{◌≡◌, List, [], ◌∷◌, map, true, false, None, refl}
use Rattle.std.specs.List.{range_with_len}
use Rattle.sender_rules.specs.Bonding.{Duplicate, Share}
use Rattle.rist_sender.specs.declared.answer.Answer.TheVariants.{Took, NoPeer, Failed}
use Rattle.rist_sender.specs.Messages.{Report, Alive, seconds_of, fraction_of, rtp_time_of}
use Rattle.rist_sender.specs.History.{Event, Called, Wrote, is_down}
use Rattle.rist_sender.specs.Calls.{links_tried, report_due, keepalive_due, status_at}
use Rattle.rist_sender.specs.Rows.{sent, again, asks_for_three, numbers_again}

-- ---- retransmissions

-- 100 to 110 were sent, and a compound asks for 100, 101 and 116: 100 and 101 are sent again
two_again : numbers_again (sent 100 11) asks_for_three ≡ 100 ∷ 101 ∷ []
two_again = refl

-- within 20 ms they aren't sent once more
too_soon : numbers_again (Called 5000 ∷ again 101 (again 100 (sent 100 11))) asks_for_three ≡ []
too_soon = refl

-- and then they are
later : numbers_again (Called 20000 ∷ again 101 (again 100 (sent 100 11))) asks_for_three ≡ 100 ∷ 101 ∷ []
later = refl

-- ---- bonding

-- with weights 3 and 1 payloads 0, 1, 2 are tried on link 0 first, 3 on link 1, 4 on link 0
shared : map (links_tried (Share (3 ∷ 1 ∷ []))) (range_with_len 0 5) ≡ (0 ∷ 1 ∷ []) ∷ (0 ∷ 1 ∷ []) ∷ (0 ∷ 1 ∷ []) ∷ (1 ∷ 0 ∷ []) ∷ (0 ∷ 1 ∷ []) ∷ []
shared = refl

-- by duplication each is tried on each
duplicated : links_tried (Duplicate 3) 7 ≡ 0 ∷ 1 ∷ 2 ∷ []
duplicated = refl

-- ---- ticks

-- a first tick makes a report and a keepalive due on each link
first_report : report_due 0 (Called 0 ∷ []) 1 ≡ Report (status_at 0 []) ∷ []
first_report = refl

first_keepalive : keepalive_due true (Called 0 ∷ []) 1 ≡ Alive ∷ []
first_keepalive = refl

-- 99,999 us after that nothing is due, and 100,000 us after it a report is
abbrev reported : List Event
reported = Wrote (record { link = 1; message = Report (status_at 0 []); pair = None; tick = 0; answer = Took }) ∷ Called 0 ∷ []

quiet : report_due 99999 (Called 99999 ∷ reported) 1 ≡ []
quiet = refl

next_report : report_due 100000 (Called 100000 ∷ reported) 1 ≡ Report (status_at 100000 []) ∷ []
next_report = refl

-- a link is down for good after a write on it that failed, and a link that knows no peer isn't
down_for_good : map (is_down (Called 7 ∷ Wrote (record { link = 1; message = Alive; pair = None; tick = 0; answer = Failed })
    ∷ Wrote (record { link = 0; message = Alive; pair = None; tick = 0; answer = NoPeer }) ∷ [])) (0 ∷ 1 ∷ 2 ∷ []) ≡ false ∷ true ∷ false ∷ []
down_for_good = refl

-- retransmissions don't count in a report: at 1.5 s, after eleven packets
counted_once : status_at 1500000 (again 101 (again 100 (sent 100 11))) ≡ record { micros = 1500000; packets = 11; octets = 0 }
counted_once = refl

seconds_of_a_report : seconds_of 1500000 ≡ 1
seconds_of_a_report = refl

fraction_of_a_report : fraction_of 1500000 ≡ 2147483648
fraction_of_a_report = refl

rtp_time_of_a_report : rtp_time_of 1500000 ≡ 135000
rtp_time_of_a_report = refl
