-- The payloads of a made script (this profile): seven transport packets of 188 octets (ISO/IEC 13818-1, section
-- 2.4.3.2).
use Rattle.std.specs.Prelude.{ℕ, ◌+◌, ◌/◌, ◌%◌, ◌==◌, List, map, Bool, if◌then◌else◌}
use Rattle.std.specs.List.{range_with_len}

-- of the packets of all payloads one of five is null
abbrev pub is_null_packet : ℕ → ℕ → Bool
is_null_packet payload packet = (payload + packet) % 5 == 0

-- an octet of a null packet: its PID is 0x1FFF
abbrev pub null_octet : ℕ → ℕ
null_octet place =
    if place == 0 then 0x47 else if place == 1 then 0x1F else if place == 2 then 0xFF else if place == 3 then 0x10
    else 0xFF

-- an octet of another packet, whose PID is 0x100: behind the header each octet is one more than the one before it
abbrev pub media_octet : ℕ → ℕ → ℕ
media_octet first place =
    if place == 0 then 0x47 else if place == 1 then 0x01 else if place == 2 then 0x00 else if place == 3 then 0x10
    else (first + place) % 256

-- the octet at a place of a packet of a payload
abbrev pub octet_of : ℕ → ℕ → ℕ → ℕ
octet_of payload packet place =
    if is_null_packet payload packet then null_octet place else media_octet (payload + packet) place

-- the payload of a number
abbrev pub made_payload : ℕ → List ℕ
made_payload payload = map (λ n. octet_of payload (n / 188) (n % 188)) (range_with_len 0 1316)
