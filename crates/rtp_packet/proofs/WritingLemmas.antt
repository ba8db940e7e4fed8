-- What is written is the spelling of the packet.
use Rattle.std.proofs.Common.{◌≡◌, ℕ, ◌+◌, ◌*◌, ◌^◌, ◌<◌, ◌≤◌, Ok, length, List, ◌∷◌, ◌++◌, Option, Some, None, refl, sym, ap, ◌∙◌, append_assoc, arith}
use Rattle.std.specs.Borrow.{Bor}
use Rattle.std.specs.Prelude.{is_some, IfSome}
use Rattle.std.specs.Int.{w16, w32, to_be_bytes, from_bool}
use Rattle.std.specs.Option.{ForSome}
use Rattle.std.proofs.lemmas.Bool.{le-ltb}
use Rattle.std.proofs.lemmas.List.{append-nil}
use Rattle.rtp_packet.specs.declared.writing.RtpHead.{RtpHead}
use Rattle.rtp_packet.specs.Rtp.{AreWords, IsExtension, extension_octets, spelling}
use Rattle.rtp_packet.specs.Reading.{extension_shown, reading_of, value_of}
use Rattle.rtp_packet.specs.Writing.{packet_with, header_octets, IsHead}
use Rattle.rtp_packet.proofs.WholeLemmas.{reading-spelled}

pub is_some-shown : (e : Option (ℕ × Bor (List ℕ))) → is_some e ≡ is_some (extension_shown e)
is_some-shown None = refl
is_some-shown (Some e) = refl

pub spelling-written : (head : RtpHead) (e : Option (ℕ × List ℕ)) (payload all front middle : List ℕ) → all ≡ middle ++ payload
    → middle ≡ front ++ extension_octets e → front ≡ header_octets head (is_some e) → all ≡ spelling (packet_with head e payload) None
unfolding spelling
spelling-written head e payload all front middle end extended begun =
    let first : 128 + 16 * from_bool (is_some e) ≡ 128 + 16 * from_bool (is_some e) + 0 = omega arith in
    end ∙ ap (λ (m : List ℕ). m ++ payload) (extended ∙ ap (λ (f : List ℕ). f ++ extension_octets e) begun)
    ∙ append_assoc (header_octets head (is_some e)) (extension_octets e) payload
    ∙ (λ i. first i ∷ 33 ∷ (to_be_bytes w16 head.number ++ (to_be_bytes w32 head.stamp ++ (to_be_bytes w32 head.ssrc
    ++ (extension_octets e ++ sym (append-nil payload) i)))))

extension-fits : (e : Option (ℕ × Bor (List ℕ))) → IfSome (extension_shown e) (λ x. x.0 < 2 ^ 16) → ForSome e (λ x. AreWords 8 x.1.now)
    → IfSome (extension_shown e) IsExtension
extension-fits None profile words = tt
extension-fits (Some e) profile words =
    let few = words e refl in
    record { profile = profile; words = record { whole = few.whole; few = omega (arith, few.few) } }

pub reading-written : (head : RtpHead) (e : Option (ℕ × Bor (List ℕ))) (payload all : List ℕ) → IsHead head
    → IfSome (extension_shown e) (λ x. x.0 < 2 ^ 16) → ForSome e (λ x. AreWords 8 x.1.now) → length payload ≤ 1500
    → all ≡ spelling (packet_with head (extension_shown e) payload) None → reading_of all ≡ Ok (value_of (packet_with head (extension_shown e) payload))
reading-written head e payload all fits profile words few whole =
    reading-spelled (packet_with head (extension_shown e) payload) all (record {
      packet_fits = record {
        payload_type = omega arith;
        number = fits.number;
        stamp = fits.stamp;
        ssrc = fits.ssrc;
        sources = record { whole = refl; few = omega arith };
        extension = extension-fits e profile words;
      };
      padding = None;
      padding_fits = tt;
      whole = whole;
    }) ∙ rw (le-ltb 1500 (length payload) few) refl
