-- Link bonding: which links a media packet goes on (VSF TR-06-1, bonding of several links; the weights of load sharing
-- are this profile's). Links and payloads are counted from 0.
use Rattle.std.specs.Prelude.{ℕ, suc, ◌-◌, ◌%◌, ◌<◌, ◌≤◌, List, [], ◌∷◌, ◌++◌, length, take, Bool, not, nat_lt}
use Rattle.std.specs.Prelude.{if◌then◌else◌, Option, None, Some}
use Rattle.std.specs.List.{sum, filter, find, range_with_len}

-- each packet goes on all of so many links, or on one of them by their weights
pub data Bonding : Type 0 where
  Duplicate : ℕ → Bonding
  Share : List ℕ → Bonding

-- how many links there are
abbrev pub link_count : Bonding → ℕ
link_count (Duplicate links) = links
link_count (Share weights) = length weights

-- a link has a place where the place lies in its interval: each link's interval is as long as its weight, and the
-- intervals follow one another from 0 on
pub record HasPlace (weights : List ℕ) (place link : ℕ) : Type 0 where
  pub among : link < length weights
  pub from : sum (take link weights) ≤ place
  pub below : place < sum (take (suc link) weights)

-- the link that has a place, computed
abbrev pub link_at : List ℕ → ℕ → ℕ
link_at [] place = 0
link_at (weight ∷ weights) place = if nat_lt place weight then 0 else suc (link_at weights (place - weight))

-- the link of payload k: payloads take the places in turn, again and again
abbrev pub link_for : List ℕ → ℕ → ℕ
link_for weights k = link_at weights (k % sum weights)

-- the links from one on, cyclically, each once
abbrev pub links_from : ℕ → ℕ → List ℕ
links_from link count = range_with_len link (count - link) ++ range_with_len 0 link

-- the first link from one on, cyclically, that isn't down
abbrev pub next_up : (ℕ → Bool) → ℕ → ℕ → Option ℕ
next_up is_down link count = find (λ l. not (is_down l)) (links_from link count)

-- a link, if there is one
abbrev pub link_or_none : Option ℕ → List ℕ
link_or_none None = []
link_or_none (Some link) = link ∷ []

-- the links that payload k goes on, where some may be down: by duplication each that isn't down, by sharing its own
-- link, or where that is down the next that isn't
abbrev pub planned_links : (ℕ → Bool) → Bonding → ℕ → List ℕ
planned_links is_down (Duplicate links) k = filter (λ link. not (is_down link)) (range_with_len 0 links)
planned_links is_down (Share weights) k = link_or_none (next_up is_down (link_for weights k) (length weights))
