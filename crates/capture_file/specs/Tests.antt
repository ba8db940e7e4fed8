-- The tests of a capture, in their order (this profile).
use Rattle.std.specs.Prelude.{◌≡◌, ◌≢◌, ◌⊎◌, ℕ, ◌+◌, ◌^◌, ◌<◌, List, ◌++◌, length, take, drop, flat_map, All}
use Rattle.link_channels.specs.declared.bounds.TheConstants.{MAX_DATAGRAM}
use Rattle.std.specs.Prelude.{if◌then◌else◌, nat_lt, None, Some, get_or}
use Rattle.std.specs.declared.option.Option.{Option}
use Rattle.std.specs.Int.{w16, w64, from_be_bytes}
use Rattle.capture_file.specs.Capture.{Record, Fits, magic, spelling}
use Rattle.capture_file.specs.declared.reader.CapKind.{CapKind}
use Rattle.capture_file.specs.declared.reader.CapKind.TheVariants.{Magic, Truncated, Link, Channel, Long, TooLong}

-- the length that twelve octets of a head say
abbrev pub length_said : List ℕ → ℕ
length_said head = from_be_bytes w16 (take 2 (drop 2 head))

-- and the time
abbrev pub time_said : List ℕ → ℕ
time_said head = from_be_bytes w64 (take 8 (drop 4 head))

-- the first test that fails of these octets at this offset, the front of them up to twelve as the head
abbrev pub fault_of_head : ℕ → List ℕ → Option CapKind
fault_of_head at head =
    if nat_lt (length head) 12 then Some Truncated
    else (if nat_lt 15 (get_or head 0 0) then Some Link
    else (if nat_lt 2 (get_or head 1 0) then Some Channel
    else (if nat_lt MAX_DATAGRAM (length_said head) then Some Long
    else (if nat_lt (2 ^ 40) (at + 12 + length_said head) then Some TooLong
    else None))))

-- the octets behind a head are fewer than it says
abbrev pub fault_of_body : List ℕ → List ℕ → Option CapKind
fault_of_body head body = if nat_lt (length body) (length_said head) then Some Truncated else None

-- the first of two tests that fails
abbrev pub or_else : Option CapKind → Option CapKind → Option CapKind
or_else None next = next
or_else (Some kind) next = Some kind

-- the first test that fails of what stands at this offset; none where a record stands there
abbrev pub fault_at : ℕ → List ℕ → Option CapKind
fault_at at rest = or_else (fault_of_head at (take 12 rest)) (fault_of_body (take 12 rest) (drop 12 rest))

-- whole records stand before this offset, and there a test fails first
pub record FaultIn (b : List ℕ) (kind : CapKind) (at : ℕ) : Type 0 where
  pub done : List Record
  pub rest : List ℕ
  pub each : All Fits done
  pub whole : b ≡ magic ++ (flat_map spelling done ++ rest)
  pub place : at ≡ length magic + length (flat_map spelling done)
  pub some : 0 < length rest
  pub fails : fault_at at rest ≡ Some kind

-- the first test that fails of all octets, and its offset
abbrev pub BadAt : List ℕ → CapKind → ℕ → Type 0
BadAt b kind at = ((kind ≡ Magic) × (at ≡ 0) × (take 8 b ≢ magic)) ⊎ FaultIn b kind at
