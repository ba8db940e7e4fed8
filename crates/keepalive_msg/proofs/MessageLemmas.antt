-- The message that stands in octets, from a spelling and back to it.
use Rattle.std.proofs.Common.{◌≡◌, ℕ, ◌+◌, ◌-◌, ◌≤◌, ltb, List, ◌++◌, length, take, drop, Result, Ok, Err, sym, ap, ◌∙◌, arith}
use Rattle.std.specs.Prelude.{IfOk}
use Rattle.std.specs.Int.{w16, from_be_bytes, to_be_bytes}
use Rattle.std.proofs.lemmas.Bool.{le-ltb, ltb-false}
use Rattle.std.proofs.lemmas.List.{length-append, length-take, length-drop, take-append-drop, take_at, drop_at, drop-drop}
use Rattle.std.proofs.lemmas.Nat.{from_be_bytes-to_be_bytes_2}
use Rattle.octet_fields.proofs.OctetLemmas.{AreOctets}
use Rattle.octet_fields.proofs.NumberLemmas.{u16-back, u16-fits}
use Rattle.octet_fields.proofs.TestLemmas.{passed}
use Rattle.keepalive_msg.specs.declared.keepalive.KeepBad.{KeepBad}
use Rattle.keepalive_msg.specs.declared.keepalive.KeepBad.TheVariants.{Short}
use Rattle.keepalive_msg.specs.declared.keepalive.Keepalive.{Keepalive}
use Rattle.keepalive_msg.specs.Keepalive.{Message, Spells}
use Rattle.keepalive_msg.specs.Reading.{value_of, value_in, reading_of}

-- the message that stands in the octets
abbrev pub message_in : List ℕ → Message
message_in octets = record {
  mac = take 6 octets;
  capabilities = from_be_bytes w16 (take 2 (drop 6 octets));
  text = drop 8 octets;
}

pub message-spelled : (message : Message) (octets : List ℕ) → Spells message octets → message_in octets ≡ message
message-spelled message octets spells =
    let rest : List ℕ = to_be_bytes w16 message.capabilities ++ message.text in
    let after : drop 6 octets ≡ rest = ap (drop 6) spells.whole ∙ drop_at message.mac rest 6 spells.fits.mac in
    let mac-is : take 6 octets ≡ message.mac = ap (take 6) spells.whole ∙ take_at message.mac rest 6 spells.fits.mac in
    let capabilities-are : from_be_bytes w16 (take 2 (drop 6 octets)) ≡ message.capabilities =
    ap (λ (l : List ℕ). from_be_bytes w16 (take 2 l)) after ∙ from_be_bytes-to_be_bytes_2 message.capabilities spells.fits.capabilities in
    let text-is : drop 8 octets ≡ message.text = sym (drop-drop 2 6 octets) ∙ ap (drop 2) after in
    λ i. record { mac = mac-is i; capabilities = capabilities-are i; text = text-is i }

spelled-len : (message : Message) (octets : List ℕ) → Spells message octets → length octets ≡ 8 + length message.text
spelled-len message octets spells =
    omega (arith, ap length spells.whole, length-append message.mac (to_be_bytes w16 message.capabilities ++ message.text), spells.fits.mac)

pub reading-spelled : (message : Message) (octets : List ℕ) → Spells message octets → reading_of octets ≡ Ok (value_of message)
unfolding reading_of
reading-spelled message octets spells =
    let len = spelled-len message octets spells in
    let same = message-spelled message octets spells in
    let text-len : length octets - 8 ≡ length message.text = omega arith in
    rw (le-ltb (length octets) 8 (omega arith)) (λ i. Ok (record { mac = (same i).mac; capabilities = (same i).capabilities; text = text-len i }))

message-back : (octets : List ℕ) → AreOctets octets → 8 ≤ length octets → Spells (message_in octets) octets
message-back octets are long = record {
  fits = record { mac = omega (arith, length-take 6 octets); capabilities = u16-fits 6 octets are };
  whole = sym (take-append-drop 6 octets) ∙ ap (λ (x : List ℕ). take 6 octets ++ x) (sym (u16-back 6 octets are long));
}

pub reading-spells : (octets : List ℕ) (value : Keepalive) → AreOctets octets → reading_of octets ≡ Ok value
    → (message : Message) × Spells message octets × (value ≡ value_of message)
unfolding reading_of
reading-spells octets value are e =
    let one = passed (ltb (length octets) 8) Short (Ok (value_in octets)) value e in
    let same : value_in octets ≡ value = cc in (
      message_in octets,
      message-back octets are (ltb-false (length octets) 8 one.0),
      sym same ∙ (λ i. record { mac = take 6 octets; capabilities = from_be_bytes w16 (take 2 (drop 6 octets)); text = sym (length-drop 8 octets) i }),
    )

-- the same of what a function answered
pub found_from : (octets : List ℕ) (answer : Result Keepalive KeepBad) → AreOctets octets → answer ≡ reading_of octets
    → IfOk answer (λ value. (message : Message) × Spells message octets × (value ≡ value_of message))
found_from octets (Ok value) are e = reading-spells octets value are (sym e)
found_from octets (Err bad) are e = tt
