-- The words of a command line before and after each of its links has an address.
use Rattle.std.specs.Prelude.{◌≡◌, true, false, List, Option, Some, Ok, map, string_bytes}
use Rattle.std.specs.declared.string.String.{String}
use Rattle.link_words.specs.Addresses.{Table, has_written, resolved_of}
use Rattle.pass_words.specs.Placing.{IsPlacedInTurn}

-- where no link has a name or a URL they are the same; else those that a table of names gives, where it is told
pub record AreAddressed {A : Type 0} (table : Option Table) (old new : List (String A)) : Type 0 where
  pub same : has_written (map string_bytes old) ≡ false → new ≡ old
  pub resolved : has_written (map string_bytes old) ≡ true → (t : Table) → table ≡ Some t
      → resolved_of t (map string_bytes old) ≡ Ok (map string_bytes new)

-- first each passphrase is in its place, and then each address
abbrev pub AreResolved : {A : Type 0} → Option Table → List (String A) → List (String A) → Type 0
AreResolved {A} table old new = (whole : List (String A)) × IsPlacedInTurn old whole × AreAddressed table whole new
