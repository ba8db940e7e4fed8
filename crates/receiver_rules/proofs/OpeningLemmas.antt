-- Whether an arrival opened an epoch, by how many there are.
use Rattle.std.proofs.Common.{◌≡◌, ℕ, ◌+◌, ◌-◌, true, false, List, [], ◌∷◌, unwrap_or, length, refl, ap, arith}
use Rattle.receiver_rules.specs.declared.limits.Limits.{Limits}
use Rattle.receiver_rules.specs.Steps.{Arrival, Media}
use Rattle.receiver_rules.specs.Epochs.{Epoch, new_anchor, new_epoch, opens_next, opens_epoch, epoch_with, epochs_after, newest_anchor, newest_accepted}
use Rattle.receiver_rules.proofs.HistoryLemmas.{epochs_opened, epochs_continued}

-- an arrival that opened the next epoch
pub record HasOpened (limits : Limits) (epochs : List Epoch) (t : ℕ) (arrival : Arrival) : Type 0 where
  pub opens : opens_epoch limits epochs t arrival ≡ true
  pub is : epochs_after limits epochs t (Media arrival) ≡ epoch_with limits (new_epoch t arrival) t arrival ∷ epochs

pub has_opened : (limits : Limits) (epochs : List Epoch) (t : ℕ) (arrival : Arrival) → length (epochs_after limits epochs t (Media arrival)) - 1 ≡ length epochs - 1 + 1 → HasOpened limits epochs t arrival
has_opened limits [] t arrival h = absurd (omega (arith, h))
has_opened limits (current ∷ earlier) t arrival h =
    elim (opens_next limits current t arrival) as (λ c. opens_next limits current t arrival ≡ c → HasOpened limits (current ∷ earlier) t arrival) [
      | true ↦ λ e. record { opens = e; is = epochs_opened limits current earlier t arrival e }
      | false ↦ λ e. absurd (omega (arith, h, ap length (epochs_continued limits current earlier t arrival e)))
    ] refl

-- an arrival that opened none, or the first: the epoch that it came in
pub record HasContinued (limits : Limits) (epochs : List Epoch) (t : ℕ) (arrival : Arrival) : Type 0 where
  pub epoch : Epoch
  pub earlier : List Epoch
  pub is : epochs_after limits epochs t (Media arrival) ≡ epoch_with limits epoch t arrival ∷ earlier
  pub accepted : newest_accepted epochs ≡ epoch.accepted
  pub anchor : epoch.anchor ≡ unwrap_or (newest_anchor epochs) (new_anchor t arrival)
  pub first : opens_epoch limits epochs t arrival ≡ true → epochs ≡ []

pub has_continued : (limits : Limits) (epochs : List Epoch) (t : ℕ) (arrival : Arrival) → length (epochs_after limits epochs t (Media arrival)) - 1 ≡ length epochs - 1 → HasContinued limits epochs t arrival
has_continued limits [] t arrival h = record { epoch = new_epoch t arrival; earlier = []; is = refl; accepted = refl; anchor = refl; first = λ e. refl }
has_continued limits (current ∷ earlier) t arrival h =
    elim (opens_next limits current t arrival) as (λ c. opens_next limits current t arrival ≡ c → HasContinued limits (current ∷ earlier) t arrival) [
      | true ↦ λ e. absurd (omega (arith, h, ap length (epochs_opened limits current earlier t arrival e)))
      | false ↦ λ e. record {
        epoch = current;
        earlier = earlier;
        is = epochs_continued limits current earlier t arrival e;
        accepted = refl;
        anchor = refl;
        first = λ f. cc;
      }
    ] refl

-- an arrival opens one epoch at most
pub one_more : (limits : Limits) (epochs : List Epoch) (t : ℕ) (arrival : Arrival) → (length (epochs_after limits epochs t (Media arrival)) - 1 ≡ length epochs - 1 → ⊥) → length (epochs_after limits epochs t (Media arrival)) - 1 ≡ length epochs - 1 + 1
one_more limits [] t arrival other = absurd (other refl)
one_more limits (current ∷ earlier) t arrival other =
    elim (opens_next limits current t arrival) as (λ c. opens_next limits current t arrival ≡ c → length (epochs_after limits (current ∷ earlier) t (Media arrival)) - 1 ≡ length (current ∷ earlier) - 1 + 1) [
      | true ↦ λ e. omega (arith, ap length (epochs_opened limits current earlier t arrival e))
      | false ↦ λ e. absurd (other (ap (λ es. length es - 1) (epochs_continued limits current earlier t arrival e)))
    ] refl
