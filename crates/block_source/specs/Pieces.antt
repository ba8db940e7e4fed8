-- The pieces that octets are cut into: one after each 1,316 octets, the length of seven transport stream packets, and
-- the rest, if there is one (this profile).
use Rattle.std.specs.Prelude.{ℕ, ◌+◌, ◌-◌, ◌/◌, List, length, map}
use Rattle.std.specs.List.{range_with_len}
use Rattle.std.specs.Fork.{slice_chunk}

-- the first pieces, so many
abbrev pub first_pieces : ℕ → List ℕ → List (List ℕ)
first_pieces count b = map (slice_chunk b 1316) (range_with_len 0 count)

-- all of them, the last of which may have fewer octets
unfoldable pub pieces_of : List ℕ → List (List ℕ)
pieces_of b = first_pieces ((length b + 1315) / 1316) b

-- those of 1,316 octets
unfoldable pub whole_pieces_of : List ℕ → List (List ℕ)
whole_pieces_of b = first_pieces (length b / 1316) b

-- all but the last
unfoldable pub pieces_before_last : List ℕ → List (List ℕ)
pieces_before_last b = first_pieces ((length b + 1315) / 1316 - 1) b
