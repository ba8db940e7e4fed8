-- What is written is the spelling of the datagram, and holds its checksums.
use Rattle.std.proofs.Common.{◌≡◌, ℕ, zero, suc, ◌+◌, ◌-◌, ◌^◌, ◌<◌, ◌≤◌, List, [], ◌∷◌, ◌++◌, length, get_or, refl, sym, ap, ◌∙◌, append_assoc, append-nil, length-append, ◌%◌, arith, inr}
use Rattle.std.specs.Prelude.{if◌then◌else◌, ◌==◌}
use Rattle.std.specs.List.{sum}
use Rattle.std.specs.Int.{w16, w32, to_be_bytes}
use Rattle.std.proofs.lemmas.Bool.Decides.{nat_tests}
use Rattle.octet_fields.proofs.OctetLemmas.{AreOctets}
use Rattle.ipv4_udp.specs.declared.ip.Sums.TheVariants.{Test}
use Rattle.ipv4_udp.specs.declared.writing.IpHead.{IpHead}
use Rattle.ipv4_udp.specs.Sum.{words_of, ones_sum, whole_sum}
use Rattle.ipv4_udp.specs.Ip.{Datagram, IsDatagram, Spells, spelling, header_octets, udp_octets, pseudo_header, udp_length}
use Rattle.ipv4_udp.specs.Writing.{datagram_with, fields_with, header_sum_of, computed_sum_of, udp_sum_of, written_fields}
use Rattle.ipv4_udp.specs.Inside.Total.{folded_total}
use Rattle.ipv4_udp.proofs.SumLemmas.{AreOctets-both, ones-folded, total-append, filled, filled_or_full}

-- each is an octet, part by part
pub record Octets (octets : List ℕ) : Type 0 where
  pub at : (i : ℕ) → get_or octets i 0 < 256

none : Octets []
none = record { at = λ i. omega arith }

at-cons : (n : ℕ) (rest : List ℕ) → n < 256 → ((i : ℕ) → get_or rest i 0 < 256) → (i : ℕ) → get_or (n ∷ rest) i 0 < 256
at-cons n rest lt more zero = lt
at-cons n rest lt more (suc i) = more i

pub octet : (n : ℕ) (rest : List ℕ) → n < 256 → Octets rest → Octets (n ∷ rest)
octet n rest lt more = record { at = at-cons n rest lt more.at }

pub half : (n : ℕ) (rest : List ℕ) → n < 2 ^ 16 → Octets rest → Octets (to_be_bytes w16 n ++ rest)
half n rest lt more = octet _ _ (omega arith) (octet _ _ (omega arith) more)

pub whole : (n : ℕ) (rest : List ℕ) → n < 2 ^ 32 → Octets rest → Octets (to_be_bytes w32 n ++ rest)
whole n rest lt more = octet _ _ (omega arith) (octet _ _ (omega arith) (octet _ _ (omega arith) (octet _ _ (omega arith) more)))

-- ---- the header
header-octets : (d : Datagram) (header_sum udp_sum : ℕ) → IsDatagram d → length d.payload ≤ 1560 → header_sum < 2 ^ 16
    → Octets (header_octets d (fields_with header_sum udp_sum))
unfolding header_octets
header-octets d header_sum udp_sum fits few lt =
    octet 0x45 _ (omega arith) (octet 0 _ (omega arith) (half (20 + 0 + udp_length d + 0) _ (omega arith) (half 0 _ (omega arith) (half (2 ^ 14) _ (omega arith)
    (octet 64 _ (omega arith) (octet 17 _ (omega arith) (half header_sum _ lt (whole d.from _ fits.from (whole d.to _ fits.to none)))))))))

header-total : (d : Datagram) (header_sum udp_sum : ℕ) → header_sum < 2 ^ 16
    → sum (words_of (header_octets d (fields_with header_sum udp_sum))) ≡ sum (words_of (header_octets d (fields_with 0 0))) + header_sum
unfolding header_octets words_of
header-total d header_sum udp_sum lt = omega arith

pub header-summed : (d : Datagram) (udp_sum : ℕ) → IsDatagram d → length d.payload ≤ 1560
    → ones_sum (words_of (header_octets d (fields_with (header_sum_of d) udp_sum))) ≡ whole_sum
header-summed d udp_sum fits few =
    let zeroed = ones-folded (header_octets d (fields_with 0 0)) (header-octets d 0 0 fits few (omega arith)).at in
    let lt : header_sum_of d < 2 ^ 16 = omega arith in
    ones-folded (header_octets d (fields_with (header_sum_of d) udp_sum)) (header-octets d (header_sum_of d) udp_sum fits few lt).at
    ∙ ap folded_total (header-total d (header_sum_of d) udp_sum lt)
    ∙ filled (sum (words_of (header_octets d (fields_with 0 0)))) (header_sum_of d) (ap (λ (n : ℕ). 65535 - n) zeroed)

-- ---- UDP

-- the octets before the data where UDP is summed
front_octets : Datagram → ℕ → List ℕ
front_octets d udp_sum =
    pseudo_header d.from d.to (udp_length d) ++ (to_be_bytes w16 d.from_port ++ (to_be_bytes w16 d.to_port
    ++ (to_be_bytes w16 (udp_length d) ++ to_be_bytes w16 udp_sum)))

front-octets : (d : Datagram) (udp_sum : ℕ) → IsDatagram d → length d.payload ≤ 1560 → udp_sum < 2 ^ 16 → Octets (front_octets d udp_sum)
unfolding front_octets pseudo_header
front-octets d udp_sum fits few lt =
    whole d.from _ fits.from (whole d.to _ fits.to (octet 0 _ (omega arith) (octet 17 _ (omega arith) (half (udp_length d) _ (omega arith)
    (half d.from_port _ fits.from_port (half d.to_port _ fits.to_port (half (udp_length d) _ (omega arith) (half udp_sum [] lt none))))))))

front-total : (d : Datagram) (udp_sum : ℕ) → udp_sum < 2 ^ 16 → sum (words_of (front_octets d udp_sum)) ≡ sum (words_of (front_octets d 0)) + udp_sum
unfolding front_octets pseudo_header words_of
front-total d udp_sum lt = omega arith

udp-parts : (d : Datagram) (udp_sum : ℕ) → pseudo_header d.from d.to (udp_length d) ++ udp_octets d udp_sum ≡ front_octets d udp_sum ++ d.payload
unfolding front_octets pseudo_header udp_octets
udp-parts d udp_sum = refl

udp-total : (d : Datagram) (udp_sum : ℕ) → sum (words_of (pseudo_header d.from d.to (udp_length d) ++ udp_octets d udp_sum))
    ≡ sum (words_of (front_octets d udp_sum)) + sum (words_of d.payload)
unfolding front_octets pseudo_header
udp-total d udp_sum = ap (λ (x : List ℕ). sum (words_of x)) (udp-parts d udp_sum) ∙ total-append (front_octets d udp_sum) d.payload refl

udp-folded : (d : Datagram) (udp_sum : ℕ) → IsDatagram d → length d.payload ≤ 1560 → AreOctets d.payload → udp_sum < 2 ^ 16
    → ones_sum (words_of (pseudo_header d.from d.to (udp_length d) ++ udp_octets d udp_sum))
    ≡ folded_total (sum (words_of (pseudo_header d.from d.to (udp_length d) ++ udp_octets d udp_sum)))
udp-folded d udp_sum fits few are lt =
    ap (λ (x : List ℕ). ones_sum (words_of x)) (udp-parts d udp_sum)
    ∙ ones-folded (front_octets d udp_sum ++ d.payload) (AreOctets-both (front_octets d udp_sum) d.payload (front-octets d udp_sum fits few lt).at are)
    ∙ ap (λ (x : List ℕ). folded_total (sum (words_of x))) (sym (udp-parts d udp_sum))

udp_sum-most : (n : ℕ) → n ≤ 65535 → (if n == 0 then 65535 else n) < 2 ^ 16
udp_sum-most n le = grind (arith, nat_tests)

pub udp_sum-fits : (d : Datagram) → udp_sum_of d < 2 ^ 16
udp_sum-fits d = udp_sum-most (computed_sum_of d) (omega arith)

udp-summed : (d : Datagram) → IsDatagram d → length d.payload ≤ 1560 → AreOctets d.payload
    → ones_sum (words_of (pseudo_header d.from d.to (udp_length d) ++ udp_octets d (udp_sum_of d))) ≡ whole_sum
udp-summed d fits few are =
    let zeroed = udp-folded d 0 fits few are (omega arith) in
    let lt = udp_sum-fits d in
    let more : sum (words_of (pseudo_header d.from d.to (udp_length d) ++ udp_octets d (udp_sum_of d)))
    ≡ sum (words_of (pseudo_header d.from d.to (udp_length d) ++ udp_octets d 0)) + udp_sum_of d =
    omega (arith, udp-total d (udp_sum_of d), udp-total d 0, front-total d (udp_sum_of d) lt) in
    udp-folded d (udp_sum_of d) fits few are lt ∙ ap folded_total more
    ∙ filled_or_full (sum (words_of (pseudo_header d.from d.to (udp_length d) ++ udp_octets d 0))) (udp_sum_of d)
    (ap (λ (n : ℕ). if 65535 - n == 0 then 65535 else 65535 - n) zeroed)

-- ---- the whole
pub spelling-spells : (d : Datagram) (octets : List ℕ) → IsDatagram d → length d.payload ≤ 1560 → AreOctets d.payload → octets ≡ spelling d (written_fields d)
    → Spells Test d octets
spelling-spells d octets fits few are whole-is = record {
  fits = fits;
  others = written_fields d;
  fields = record {
    service = omega arith;
    identification = omega arith;
    flags = omega arith;
    time_to_live = omega arith;
    header_sum = omega arith;
    options = omega arith;
    words = refl;
    udp_sum = udp_sum-fits d;
    total = omega arith;
  };
  summed = record { header = header-summed d (udp_sum_of d) fits few; udp = inr (udp-summed d fits few are) };
  whole = whole-is;
}

header-same : (d : Datagram) (udp_sum : ℕ) → header_octets d (fields_with (header_sum_of d) 0) ≡ header_octets d (fields_with (header_sum_of d) udp_sum)
unfolding header_octets
header-same d udp_sum = refl

pub spelling-written : (head : IpHead) (payload all middle front udp : List ℕ) (header_sum udp_sum : ℕ) → all ≡ middle ++ payload → middle ≡ front ++ udp
    → front ≡ header_octets (datagram_with head payload) (fields_with header_sum 0) → udp ++ payload ≡ udp_octets (datagram_with head payload) udp_sum
    → header_sum ≡ header_sum_of (datagram_with head payload) → udp_sum ≡ udp_sum_of (datagram_with head payload)
    → all ≡ spelling (datagram_with head payload) (written_fields (datagram_with head payload))
spelling-written head payload all middle front udp header_sum udp_sum end mid begin carried first second =
    let d : Datagram = datagram_with head payload in
    end ∙ ap (λ (x : List ℕ). x ++ payload) mid ∙ append_assoc front udp payload
    ∙ (λ i. begin i ++ carried i)
    ∙ (λ i. header_octets d (fields_with (first i) 0) ++ udp_octets d (second i))
    ∙ (λ i. header-same d (udp_sum_of d) i ++ sym (append-nil (udp_octets d (udp_sum_of d))) i)

pub udp-even : (d : Datagram) (header : List ℕ) (udp_sum : ℕ) → header ++ d.payload ≡ udp_octets d udp_sum → length header % 2 ≡ 0
unfolding udp_octets
udp-even d header udp_sum e = omega (arith, ap length e, length-append header d.payload)
