-- The reading of an address of IPv6 gives what RFC 4291 writes, and nothing else.
use Rattle.std.proofs.Common.{◌≡◌, ◌∙◌, Bool, true, false, suc, arith, length, [], ◌∷◌, Option, Some, None, ap, append-nil, option_map, refl, subst, sym}
use Rattle.std.specs.Prelude.{◌==◌, if◌then◌else◌}
use Rattle.std.specs.declared.net.ipv6_addr.Ipv6Addr.{Ipv6Addr}
use Rattle.std.specs.declared.net.ip_addr.IpAddr.TheVariants.{V6}
use Rattle.std.specs.Net.Grammar.{IsColonHex, IsIpv6Text}
use Rattle.std.specs.Net.Reader.{read_ipv6, whole_value}
use Rattle.std.proofs.lemmas.Bool.{ne_eqb}
use Rattle.std.proofs.NetLemmas.Ipv6.{EndsGroups-nil, read_ipv6_complete, read_ipv6_sound}
use Rattle.host_text.specs.Parts.{Text}
use Rattle.host_text.specs.Hosts.{ipv6_address, ipv6_of}

-- what is written is read
written_read : (text segments : Text) → IsColonHex text segments → whole_value (read_ipv6 text) ≡ Some segments
written_read text segments h = ap whole_value (rw append-nil at (read_ipv6_complete text segments [] h EndsGroups-nil))

pub ipv6_given : (text : Text) (address : Ipv6Addr) → IsIpv6Text text address → Some (V6 address) ≡ ipv6_of text
ipv6_given text address h = sym (ap (option_map ipv6_address) (written_read text address.segments h))

not_chosen : {P : Type 0} (b : Bool) (value segments : Text) → b ≡ false → (if b then Some value else None) ≡ Some segments → P
not_chosen true value segments is e = cc
not_chosen false value segments is e = cc

-- a whole reading leaves no text
whole_pair : (value rest segments : Text) → whole_value (Some (value, rest)) ≡ Some segments → ◌≡◌ {A = Option (Text × Text)} (Some (value, rest)) (Some (segments, []))
whole_pair value [] segments e = cc
whole_pair value (c ∷ rest) segments e = not_chosen (length (c ∷ rest) == 0) value segments (ne_eqb (suc (length rest)) 0 (omega arith)) e

whole_some : (r : Option (Text × Text)) (segments : Text) → whole_value r ≡ Some segments → r ≡ Some (segments, [])
whole_some None segments e = cc
whole_some (Some p) segments e = whole_pair p.0 p.1 segments e

-- what is read is written
read_written : (text segments : Text) → whole_value (read_ipv6 text) ≡ Some segments → IsColonHex text segments
read_written text segments e =
    let (front, split, is) = read_ipv6_sound text segments [] (whole_some (read_ipv6 text) segments e) in
    subst (λ t. IsColonHex t segments) (sym (split ∙ append-nil front)) is

pub ipv6_missing : (text : Text) → ((address : Ipv6Addr) → ¬ (IsIpv6Text text address)) → None ≡ ipv6_of text
ipv6_missing text lacks = by_reading (whole_value (read_ipv6 text)) refl
  where
    by_reading : (o : Option Text) → whole_value (read_ipv6 text) ≡ o → None ≡ option_map ipv6_address o
    by_reading None is = refl
    by_reading (Some segments) is = absurd (lacks (record { segments = segments }) (read_written text segments is))
