-- The worked runs, computed from the definitions.
use Rattle.std.specs.Prelude.{◌≡◌, List, [], ◌∷◌, ◌++◌, map, true, ◌||◌, ◌==◌}
use Rattle.std.specs.List.{range_with_len}
use Rattle.std.proofs.Common.{refl}
use Rattle.sender_rules.specs.Bonding.{Duplicate, Share, link_for, links_from, planned_links}
use Rattle.sender_rules.specs.Sendings.{Sending, Again}
use Rattle.sender_rules.specs.Rows.{sends, short, long, sent_again}

-- ---- retransmissions, of 100 to 110

abbrev eleven : List Sending
eleven = sends 100 11

-- 100, 101 and 116 are asked for: the stored two are sent again
stored_two : sent_again 32 eleven 0 (short (100 ∷ 101 ∷ 116 ∷ [])) ≡ 100 ∷ 101 ∷ []
stored_two = refl

-- within 20 ms they aren't sent once more
abbrev sent_again_once : List Sending
sent_again_once = eleven ++ Again 100 0 ∷ Again 101 0 ∷ []

too_soon : sent_again 32 sent_again_once 450 (short (100 ∷ 101 ∷ 116 ∷ [])) ≡ []
too_soon = refl

one_tick_early : sent_again 32 sent_again_once 1799 (short (100 ∷ 101 ∷ 116 ∷ [])) ≡ []
one_tick_early = refl

after_the_hold_time : sent_again 32 sent_again_once 1800 (short (100 ∷ 101 ∷ 116 ∷ [])) ≡ 100 ∷ 101 ∷ []
after_the_hold_time = refl

-- a number that is asked for twice is sent again once, and one that left the store not at all
each_once_of_the_stored : sent_again 4 eleven 0 (short (105 ∷ 106 ∷ 107 ∷ 108 ∷ 107 ∷ [])) ≡ 107 ∷ 108 ∷ []
each_once_of_the_stored = refl

-- a word of 16 bits stands for the stored number that ends in it, a word of 32 bits for that with all these bits
across_a_cycle : sent_again 8 (sends 65533 6) 0 (short (65535 ∷ 0 ∷ 1 ∷ [])) ≡ 65535 ∷ 65536 ∷ 65537 ∷ []
across_a_cycle = refl

wide_words_are_whole : sent_again 8 (sends 65533 6) 0 (long (0 ∷ 65536 ∷ [])) ≡ 65536 ∷ []
wide_words_are_whole = refl

-- ---- bonding

-- with weights 3 and 1 payloads 0, 1, 2 go on link 0, 3 on link 1, 4 on link 0
three_to_one : map (link_for (3 ∷ 1 ∷ [])) (range_with_len 0 5) ≡ 0 ∷ 0 ∷ 0 ∷ 1 ∷ 0 ∷ []
three_to_one = refl

-- with link 1 down 3 goes on link 0
next_is_link_0 : planned_links (λ link. link == 1) (Share (3 ∷ 1 ∷ [])) 3 ≡ 0 ∷ []
next_is_link_0 = refl

-- the next links are tried cyclically, and with all down it goes on none
cyclic : links_from 2 4 ≡ 2 ∷ 3 ∷ 0 ∷ 1 ∷ []
cyclic = refl

past_two_down : planned_links (λ link. (link == 2) || (link == 3)) (Share (1 ∷ 1 ∷ 1 ∷ 1 ∷ [])) 2 ≡ 0 ∷ []
past_two_down = refl

none_up : planned_links (λ link. true) (Share (3 ∷ 1 ∷ [])) 3 ≡ []
none_up = refl

-- duplicated packets go on each link that isn't down
on_each : planned_links (λ link. link == 1) (Duplicate 3) 7 ≡ 0 ∷ 2 ∷ []
on_each = refl
