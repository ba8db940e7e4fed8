-- Reading a source payload by payload, by the payloads that it had and has left, where it tells them (this profile).
use Rattle.std.specs.Prelude.{◌≡◌, ◌<◌, ◌≤◌, ◌^◌, ℕ, List, length, Result, Ok, Err, Option}
use Rattle.link_channels.specs.declared.bounds.TheConstants.{MAX_PAYLOAD}
use Rattle.live_source.specs.Payloads.{TakesPayload, HasNone}
use Rattle.block_source.specs.declared.fault.PieceFault.{PieceFault}
use Rattle.block_source.specs.declared.fault.PieceFault.TheVariants.{ReadFault, TooLong}

-- payload k was read, whole; none is the end
pub record TakesNext (k : ℕ) (had left : Option (List (List ℕ))) (payload : List ℕ) : Type 0 where
  pub few : length payload ≤ MAX_PAYLOAD
  pub within : k < 2 ^ 40
  pub taken : 0 < length payload → TakesPayload had left payload
  pub none : length payload ≡ 0 → HasNone had left

-- what the reading of payload k gives, or why it gives none: a read fails, or 2^40 payloads were read before
abbrev pub ReadsPayload : ℕ → Option (List (List ℕ)) → Option (List (List ℕ)) → Result (List ℕ) PieceFault → Type 0
ReadsPayload k had left (Ok payload) = TakesNext k had left payload
ReadsPayload k had left (Err ReadFault) = left ≡ had
ReadsPayload k had left (Err TooLong) = (left ≡ had) × (2 ^ 40 ≤ k)
