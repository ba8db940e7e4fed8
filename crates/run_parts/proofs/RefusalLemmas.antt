-- Whether a run was begun.
use Rattle.std.proofs.Common.{◌≡◌, refl, ◌⊎◌}
use mathlib.Core.Logic.{inl, inr}
use Rattle.run_parts.specs.Causes.{CanRefuse}
use Rattle.run_parts.specs.declared.status.Status.{Status}
use Rattle.run_parts.specs.declared.status.Status.TheVariants as statuses

-- nothing is begun where memory is refused
pub refuses : CanRefuse statuses.Memory
refuses = inr (inl refl)

none_of : (s : Status) → (s ≡ statuses.OpenFault → ⊥) → (s ≡ statuses.Memory → ⊥) → (s ≡ statuses.EntropyFault → ⊥) → CanRefuse s → ⊥
none_of s a b d (inl e) = a e
none_of s a b d (inr (inl e)) = b e
none_of s a b d (inr (inr e)) = d e

pub is_refused : (s : Status) → CanRefuse s ⊎ (CanRefuse s → ⊥)
is_refused statuses.OpenFault = inl (inl refl)
is_refused statuses.Memory = inl (inr (inl refl))
is_refused statuses.EntropyFault = inl (inr (inr refl))
is_refused statuses.Done = inr (none_of statuses.Done (λ e. cc) (λ e. cc) (λ e. cc))
is_refused statuses.Usage = inr (none_of statuses.Usage (λ e. cc) (λ e. cc) (λ e. cc))
is_refused statuses.ReadFault = inr (none_of statuses.ReadFault (λ e. cc) (λ e. cc) (λ e. cc))
is_refused statuses.WriteFault = inr (none_of statuses.WriteFault (λ e. cc) (λ e. cc) (λ e. cc))
is_refused (statuses.BadCapture kind at) = inr (none_of (statuses.BadCapture kind at) (λ e. cc) (λ e. cc) (λ e. cc))
is_refused statuses.TooLong = inr (none_of statuses.TooLong (λ e. cc) (λ e. cc) (λ e. cc))
is_refused (statuses.BadPcap kind at) = inr (none_of (statuses.BadPcap kind at) (λ e. cc) (λ e. cc) (λ e. cc))
is_refused statuses.LinksDown = inr (none_of statuses.LinksDown (λ e. cc) (λ e. cc) (λ e. cc))
is_refused statuses.TraceFull = inr (none_of statuses.TraceFull (λ e. cc) (λ e. cc) (λ e. cc))
is_refused (statuses.Torn tear) = inr (none_of (statuses.Torn tear) (λ e. cc) (λ e. cc) (λ e. cc))
is_refused statuses.Spent = inr (none_of statuses.Spent (λ e. cc) (λ e. cc) (λ e. cc))
is_refused statuses.TurnsSpent = inr (none_of statuses.TurnsSpent (λ e. cc) (λ e. cc) (λ e. cc))
