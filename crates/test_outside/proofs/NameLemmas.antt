-- Names, no two of which are the same.
use Rattle.std.proofs.Common.{ℕ, List}
use Rattle.std.specs.List.{IsDistinct}
use Rattle.std.specs.Str.{bytes_eq}
use Rattle.std.proofs.lemmas.Map.Made.{AllPairs-from_IsDistinct}
use Rattle.std.proofs.lemmas.Slice.Eq.{bytes_eq-Decides}
use Rattle.outside_host.specs.Sinks.{AreDifferent}

pub names_differ : (names : List (List ℕ)) → IsDistinct bytes_eq names → AreDifferent names
names_differ names distinct = AllPairs-from_IsDistinct bytes_eq-Decides names distinct
