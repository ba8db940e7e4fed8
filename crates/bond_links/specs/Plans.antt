-- What a bond answers, in the sender's rules.
use Rattle.std.specs.Prelude.{ℕ, ◌%◌, List, [], ◌∷◌, Bool, false, slice_index_or, Option, None, Some}
use Rattle.std.specs.List.{sum, range_with_len}
use Rattle.sender_rules.specs.Bonding.{Bonding, Duplicate, Share, HasPlace, link_count, link_for}
use Rattle.bond_links.specs.declared.plan.Plan.{Plan}
use Rattle.bond_links.specs.declared.plan.Plan.TheVariants.{All, One}

-- a bond of so many links, by weights if there are any
abbrev pub bonding_of : ℕ → Option (List ℕ) → Bonding
bonding_of links None = Duplicate links
bonding_of links (Some weights) = Share weights

-- the plan for payload k
abbrev pub plan_of : Bonding → ℕ → Plan
plan_of (Duplicate links) k = All
plan_of (Share weights) k = One (link_for weights k)

-- the links that a plan names
abbrev pub links_of : Bonding → Plan → List ℕ
links_of bonding All = range_with_len 0 (link_count bonding)
links_of bonding (One link) = link ∷ []

-- where a plan names one link, that link has the place of payload k
abbrev pub HasItsPlace : Bonding → ℕ → Plan → Type 0
HasItsPlace (Duplicate links) k plan = Unit {0}
HasItsPlace (Share weights) k All = Unit {0}
HasItsPlace (Share weights) k (One link) = HasPlace weights (k % sum weights) link

-- whether a link is down, by what is told of each
abbrev pub is_down : List Bool → ℕ → Bool
is_down down link = slice_index_or down link false
