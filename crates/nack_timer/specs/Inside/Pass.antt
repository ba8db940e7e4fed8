-- One pass over the packets that a timer keeps, by rising number.
use Rattle.std.specs.Prelude.{ℕ, ◌+◌, max, List, [], ◌∷◌, ◌++◌, Bool, false, not, ◌&&◌, nat_le, nat_lt, ◌==◌}
use Rattle.std.specs.Prelude.{if◌then◌else◌, Option, None, Some}
use Rattle.std.specs.List.{list_any}
use Rattle.receiver_rules.specs.Packets.{Packet}
use Rattle.request_rules.specs.declared.policy.Policy.{Policy}
use Rattle.request_rules.specs.declared.word.AskWord.{AskWord}
use Rattle.link_channels.specs.Intervals.{has_passed_since}
use Rattle.request_rules.specs.Building.{with_number, takes}
use Rattle.nack_timer.specs.declared.entry.Missing.{Missing}

-- it is still missing, and still looked for
abbrev pub is_live : ℕ → List Packet → Missing → Bool
is_live low held e = nat_le low e.number && not (list_any (λ p. p.number == e.number) held)

-- it is due, where the round-trip time is so many ticks
abbrev pub is_due_entry : Policy → ℕ → ℕ → Missing → Bool
is_due_entry policy rtt t e =
    nat_le (e.found + policy.reorder_tolerance) t
    && (has_passed_since (max rtt policy.retry_interval) t e.last && nat_lt e.count policy.retry_limit)

-- it is both
abbrev pub is_wanted : Policy → ℕ → ℕ → ℕ → List Packet → Missing → Bool
is_wanted policy rtt t low held e = is_live low held e && is_due_entry policy rtt t e

-- there is an entry, and it is both
abbrev pub is_wanted_one : Policy → ℕ → ℕ → ℕ → List Packet → Option Missing → Bool
is_wanted_one policy rtt t low held None = false
is_wanted_one policy rtt t low held (Some e) = is_wanted policy rtt t low held e

-- it was asked for once more
abbrev pub stamped : ℕ → Missing → Missing
stamped t e = record { number = e.number; found = e.found; last = Some t; count = e.count + 1 }

-- the words after one entry
abbrev pub words_after : Policy → ℕ → ℕ → List AskWord → Missing → List AskWord
words_after policy rtt t words e =
    if is_due_entry policy rtt t e then with_number policy.kind 64 words e.number else words

-- the entry after it was looked at
abbrev pub entry_after : Policy → ℕ → ℕ → List AskWord → Missing → Missing
entry_after policy rtt t words e =
    if is_due_entry policy rtt t e && takes policy.kind 64 words e.number then stamped t e else e

-- the words after all entries
abbrev pub words_of : Policy → ℕ → ℕ → ℕ → List Packet → List AskWord → List Missing → List AskWord
words_of policy rtt t low held words [] = words
words_of policy rtt t low held words (e ∷ es) =
    words_of policy rtt t low held (if is_live low held e then words_after policy rtt t words e else words) es

-- the entries that are left
abbrev pub entries_of : Policy → ℕ → ℕ → ℕ → List Packet → List AskWord → List Missing → List Missing
entries_of policy rtt t low held words [] = []
entries_of policy rtt t low held words (e ∷ es) =
    (if is_live low held e then entry_after policy rtt t words e ∷ [] else [])
    ++ entries_of policy rtt t low held (if is_live low held e then words_after policy rtt t words e else words) es
