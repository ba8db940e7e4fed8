-- The name of RIST's application packets (VSF TR-06-1).
use Rattle.std.specs.Prelude.{ℕ, Bool, ◌&&◌, ◌==◌, List, [], ◌∷◌, slice_index}

-- `RIST`
abbrev pub rist_name : List ℕ
rist_name = 82 ∷ 73 ∷ 83 ∷ 84 ∷ []

-- whether the four octets are that name
abbrev pub is_rist : List ℕ → Bool
is_rist name =
    slice_index name 0 == 82 && (slice_index name 1 == 73 && (slice_index name 2 == 83 && slice_index name 3 == 84))
