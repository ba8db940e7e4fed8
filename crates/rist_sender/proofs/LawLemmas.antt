-- The datagram of a payload at the other end.
use Rattle.std.proofs.Common.{◌≡◌, ℕ, ◌%◌, ◌^◌, ◌<◌, ◌≤◌, Bool, true, false, List, length, Option, Some, None, IfSome, is_ok, refl, sym, ap, arith}
use Rattle.std.specs.Prelude.{All, if◌then◌else◌}
use Rattle.ts_nulls.specs.Shape.{Shape, IsShape}
use Rattle.ts_nulls.specs.Nulls.{stripping_of, blanking_of}
use Rattle.ts_nulls.proofs.LawLemmas.{restoring-stripped, told-stripped, stays-unstripped}
use Rattle.rist_wire.specs.Media.{can_restore, octets_in, restored_payload}
use Rattle.rist_wire.specs.Sent.{IsMediaOut}
use Rattle.rist_wire.proofs.StripLemmas.{stripped-are}
use Rattle.rist_sender.specs.Messages.{media_of}
use Rattle.rist_sender.specs.Calls.{packet_with, packet_for}

-- what is told of it fits its bits, and can be put back
record IsPacketOf (strip : Option Shape) (sent whole payload : List ℕ) : Type 0 where
  shape : IfSome strip (λ shape. IsShape shape.units shape.nulls)
  restored : can_restore strip sent ≡ true
  content : restored_payload strip sent ≡ whole
  few : length sent ≤ length payload

with-packet : (number timestamp : ℕ) (payload : List ℕ) (told : Option (Shape × List ℕ)) → stripping_of payload ≡ told
    → IsPacketOf (packet_with number timestamp payload told).strip (packet_with number timestamp payload told).payload (blanking_of payload) payload
with-packet number timestamp payload None is = record { shape = tt; restored = refl; content = sym (stays-unstripped payload is); few = omega arith }
with-packet number timestamp payload (Some (shape, kept)) is =
    let back = restoring-stripped payload kept shape is in
    let told = told-stripped payload kept shape is in
    record { shape = told.0; restored = ap is_ok back; content = ap octets_in back; few = told.1 }

packet-of : (nulls : Bool) (number tick : ℕ) (payload : List ℕ)
    → IsPacketOf (packet_for nulls number tick payload).strip (packet_for nulls number tick payload).payload (if nulls then blanking_of payload else payload) payload
packet-of true number tick payload = with-packet number (tick % 2 ^ 32) payload (stripping_of payload) refl
packet-of false number tick payload = record { shape = tt; restored = refl; content = refl; few = omega arith }

-- what is sent of a payload of octets is octets
with-are : (number timestamp : ℕ) (payload : List ℕ) (told : Option (Shape × List ℕ)) → stripping_of payload ≡ told
    → All (λ octet. octet < 256) payload → All (λ octet. octet < 256) (packet_with number timestamp payload told).payload
with-are number timestamp payload None is are = are
with-are number timestamp payload (Some (shape, kept)) is are = stripped-are payload kept shape is are

pub octets-are : (nulls : Bool) (number tick : ℕ) (payload : List ℕ) → All (λ octet. octet < 256) payload
    → All (λ octet. octet < 256) (packet_for nulls number tick payload).payload
octets-are true number tick payload are = with-are number (tick % 2 ^ 32) payload (stripping_of payload) refl are
octets-are false number tick payload are = are

pub content-is : (nulls : Bool) (number tick : ℕ) (payload : List ℕ)
    → restored_payload (packet_for nulls number tick payload).strip (packet_for nulls number tick payload).payload ≡ (if nulls then blanking_of payload else payload)
content-is nulls number tick payload = (packet-of nulls number tick payload).content

stamped : (number timestamp : ℕ) (payload : List ℕ) (told : Option (Shape × List ℕ)) → (packet_with number timestamp payload told).timestamp ≡ timestamp
stamped number timestamp payload None = refl
stamped number timestamp payload (Some told) = refl

pub media-is : (nulls again : Bool) (flow number tick : ℕ) (payload : List ℕ) → flow % 2 ≡ 0 → flow < 2 ^ 32 → length payload ≤ 1500
    → IsMediaOut (media_of flow again (packet_for nulls number tick payload))
media-is nulls again flow number tick payload even small few =
    let is = packet-of nulls number tick payload in
    record {
      even = even;
      flow = small;
      stamp = omega (arith, stamped number (tick % 2 ^ 32) payload (if nulls then stripping_of payload else None));
      strip = is.shape;
      payload = omega (arith, is.few, few);
      whole = is.restored;
    }
