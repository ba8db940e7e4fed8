-- How a sending ends in which nothing fails but links.
use Rattle.std.specs.Prelude.{◌≡◌, ◌⊎◌, ◌≤◌, ◌^◌, ℕ, List, length, Some, true, is_some}
use Rattle.outside_host.specs.Shelf.{Shelf}
use Rattle.outside_host.specs.declared.host.Place.TheVariants.{Here}
use Rattle.outside_net.specs.Links.{LinkTells}
use Rattle.rist_words.specs.CommandLine.{Send, SendCommand}
use Rattle.run_parts.specs.Objects.{Tells}
use Rattle.run_parts.specs.declared.status.Status.{Status}
use Rattle.run_parts.specs.declared.status.Status.TheVariants as statuses
use Rattle.run_parts.specs.Complete.{NoneFailed, StaysUp}

-- a run came to the source's end, or it had too few turns for that, or with a passphrase too few pairs, or memory was
-- refused
abbrev pub IsWhole : SendCommand → Status → Type 0
IsWhole c status =
    (status ≡ statuses.Done)
    ⊎ ((status ≡ statuses.TurnsSpent)
    ⊎ (((status ≡ statuses.Spent) × (is_some c.session.pass ≡ true)) ⊎ (status ≡ statuses.Memory)))

-- a sending of such a source in which nothing failed but links, of which one stays up, ends so
abbrev pub CompletesSending : {I O E L C : Type 0} → Tells I O E → LinkTells L → Shelf I O E L C → Shelf I O E L C
    → SendCommand → Status → Type 0
CompletesSending {I} tells line old new c status =
    (source : I) (b : List ℕ) → old.sources c.source ≡ Here source → tells.remaining source ≡ Some b → length b ≤ 2 ^ 40
    → NoneFailed tells old new (Send c) → StaysUp line old.links new.links (length c.links) → IsWhole c status
