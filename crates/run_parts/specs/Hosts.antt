-- What a host that a command begins with has handed out.
use Rattle.std.specs.Prelude.{◌≡◌, Bool, IsTrue, []}
use Rattle.outside_host.specs.Shelf.{Shelf}

-- a host tells what stands on its shelf, and has handed out no random words yet
abbrev pub IsFresh : {I O E L C : Type 0} → Bool → Shelf I O E L C → Type 0
IsFresh tells shelf = IsTrue tells × (shelf.next_entropy ≡ 0)

-- a host tells what stands on its shelf, and has handed out no random words, no link and no clock yet
pub record IsUnused {I O E L C : Type 0} (tells : Bool) (shelf : Shelf I O E L C) : Type 0 where
  pub told : IsTrue tells
  pub entropy : shelf.next_entropy ≡ 0
  pub links : shelf.opened_links ≡ []
  pub clock : shelf.next_clock ≡ 0
