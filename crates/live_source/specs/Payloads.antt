-- The payloads of datagrams, as a source gives them, where it tells them.
use Rattle.std.specs.Prelude.{◌≡◌, ◌&&◌, ◌∷◌, ℕ, nat_le, List, [], length, if◌then◌else◌, Bool, Option, IfSome}
use Rattle.std.specs.Option.{option_map}
use Rattle.link_channels.specs.declared.bounds.TheConstants.{MAX_PAYLOAD}

-- this payload was taken from the front of those that it had still to give
abbrev pub TakesPayload : Option (List (List ℕ)) → Option (List (List ℕ)) → List ℕ → Type 0
TakesPayload old new payload = old ≡ option_map (λ rest. payload ∷ rest) new

-- it had none to give, and has none
abbrev pub HasNone : Option (List (List ℕ)) → Option (List (List ℕ)) → Type 0
HasNone old new = IfSome old (λ payloads. payloads ≡ []) × (new ≡ old)

-- a payload that is given has an octet, and 1,500 at most
abbrev pub is_payload : List ℕ → Bool
is_payload payload = nat_le 1 (length payload) && nat_le (length payload) MAX_PAYLOAD

-- such a payload as a list, and none of any other
abbrev pub given_of : List ℕ → List (List ℕ)
given_of payload = if is_payload payload then payload ∷ [] else []
