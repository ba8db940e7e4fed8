-- What one more step does to a buffer and its sink, for each history that the buffer stands for.
use Rattle.std.specs.Prelude.{◌≡◌, ℕ, ◌+◌, ◌==◌, Bool, List, ◌∷◌, length, Option}
use Rattle.std.specs.List.{list_any}
use Rattle.receiver_rules.specs.Steps.{Arrival, Step}
use Rattle.receiver_rules.specs.declared.verdict.Verdict.{Verdict}
use Rattle.receiver_rules.specs.History.{verdict, accepted_packets, released_payloads, released_bytes}
use Rattle.reorder_buffer.specs.State.{State}
use Rattle.reorder_buffer.specs.StateAfter.{IsStateAfter}
use Rattle.outside_io.specs.Told.{Writes, WritesPart}

-- the new state stands for the history with the step
abbrev pub StandsAfter : State → State → Step → Type 0
StandsAfter old new step = (history : List Step) → IsStateAfter old history → IsStateAfter new (step ∷ history)

-- the sink has gained what the history with the step releases and did not release before
abbrev pub Releases : State → Step → Option (List ℕ) → Option (List ℕ) → Type 0
Releases b step old new =
    (history : List Step) → IsStateAfter b history
    → Writes old new (released_bytes b.limits history) (released_bytes b.limits (step ∷ history))

-- it has gained a front part of that
abbrev pub ReleasesPart : State → Step → Option (List ℕ) → Option (List ℕ) → Type 0
ReleasesPart b step old new =
    (history : List Step) → IsStateAfter b history
    → WritesPart old new (released_bytes b.limits history) (released_bytes b.limits (step ∷ history))

-- a history that the state stands for releases no octet more with the step
abbrev pub ReleasesNothing : State → Step → Type 0
ReleasesNothing b step =
    (history : List Step) × IsStateAfter b history
    × (released_bytes b.limits (step ∷ history) ≡ released_bytes b.limits history)

-- so many packets are played out that were not before
abbrev pub Counts : State → Step → ℕ → Type 0
Counts b step n =
    (history : List Step) → IsStateAfter b history
    → n + length (released_payloads b.limits history) ≡ length (released_payloads b.limits (step ∷ history))

-- the verdict on an arrival
abbrev pub Judges : State → ℕ → Arrival → Verdict → Type 0
Judges b at arrival v = (history : List Step) → IsStateAfter b history → v ≡ verdict b.limits history at arrival

-- whether the packet with a number was kept
abbrev pub IsKept : State → ℕ → Bool → Type 0
IsKept b number answer =
    (history : List Step) → IsStateAfter b history
    → answer ≡ list_any (λ p. p.number == number) (accepted_packets b.limits history)
