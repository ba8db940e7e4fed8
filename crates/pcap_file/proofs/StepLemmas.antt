-- What the steps of a reader say together.
use Rattle.std.proofs.Common.{◌≡◌, ℕ, ◌+◌, ◌-◌, ◌^◌, ◌<◌, ◌≤◌, min, List, [], ◌++◌, length, take, drop, None, Some, Ok, Err, refl, sym, ap, ◌∙◌, IfSome, length-append, append-nil, append_assoc, arith}
use mathlib.Core.Logic.{inl, inr}
use Rattle.std.proofs.lemmas.Bool.{cases_lt}
use Rattle.std.proofs.lemmas.Bool.Decides.{nat_tests}
use Rattle.std.proofs.lemmas.List.{take_at, drop_at, take_all}
use Rattle.std.specs.declared.option.Option.{Option}
use Rattle.std.specs.Option.{option_map}
use Rattle.outside_io.proofs.ToldLemmas.{takes_both}
use Rattle.pcap_file.specs.declared.format.ByteOrder.{ByteOrder}
use Rattle.pcap_file.specs.declared.format.Format.{Format}
use Rattle.pcap_file.specs.declared.head.Head.{Head}
use Rattle.pcap_file.specs.declared.bad.PcapKind.{PcapKind}
use Rattle.pcap_file.specs.declared.bad.PcapKind.TheVariants.{Truncated}
use Rattle.pcap_file.specs.declared.bad.PcapBad.{PcapBad}
use Rattle.pcap_file.specs.declared.bad.PcapBad.TheVariants.{Bad, ReadFault}
use Rattle.pcap_file.specs.Pcap.{Packet, head_spelling, micros_at}
use Rattle.pcap_file.specs.Tests.{kept_said, fault_of_head, fault_of_body, fault_at, or_else}
use Rattle.pcap_file.specs.Reader.{ReaderState}
use Rattle.pcap_file.specs.Reading.{NoRecord, IsBadAt, ReadsNext}
use Rattle.pcap_file.specs.Inside.Steps.{head_octets, Enters, ReadsHead, Skips, ReadsBody, IsRead, ReadsRecord}
use Rattle.pcap_file.proofs.NumberLemmas.{head-len, kept-is, empty-is}
use Rattle.pcap_file.proofs.TakenLemmas.{same_some, no_some}

-- ---- a record's octets

-- those in the block are the first of all
pub body-front : (given count : ℕ) (buf post rest : List ℕ) → length buf ≡ given → given ≡ min count 4096 → length rest ≡ count - given
    → take given (buf ++ post) ≡ take 4096 (buf ++ rest)
body-front given count buf post rest len is more = take_at buf post given len ∙ sym (elim (cases_lt given 4096) [
  | inl lt ↦
      let none : rest ≡ [] = empty-is rest (omega (arith, more, is)) in
      ap (λ (x : List ℕ). take 4096 (buf ++ x)) none ∙ ap (take 4096) (append-nil buf) ∙ take_all 4096 buf (omega (arith, len, is))
  | inr le ↦ take_at buf rest 4096 (omega (arith, len, is, le))
])

pub body-bad : (at count : ℕ) (a c : Option (List ℕ)) (buf : List ℕ) (bad : PcapBad) → Skips at count a c (Err bad) → ReadsBody at count a c buf (Err bad)
body-bad at count a c buf (Bad kind place) skips = skips
body-bad at count a c buf ReadFault skips = skips

-- ---- a record

pub record-read : (format : Format) (at end length_given : ℕ) (a b c : Option (List ℕ)) (head : Head) (at_us : ℕ) (buf : List ℕ)
    → ReadsHead format.order at a b (Ok (Some head)) → ReadsBody at head.kept b c buf (Ok length_given)
    → at_us ≡ micros_at format.fraction head.seconds head.fraction → end ≡ at + 16 + head.kept
    → IsRead format at a c (record { at_us = at_us; link_type = format.link_type; octets = take length_given buf }) end
record-read format at end length_given a b c head at_us buf h o time place =
    let octets : List ℕ = o.0 in
    let packet : Packet = record { seconds = head.seconds; fraction = head.fraction; first_len = head.first_len; octets = octets } in
    let len : head.kept ≡ length octets = sym o.1 in
    record {
      packet = packet;
      fits = record { seconds = h.0.seconds; fraction = h.0.fraction; first_len = h.0.first_len; octets = omega (arith, len, h.0.kept) };
      takes =
          takes_both a b c (head_octets format.order head) octets h.3 o.2
          ∙ ap (λ (n : ℕ). option_map (λ (rest : List ℕ). (head_spelling format.order head.seconds head.fraction n head.first_len ++ octets) ++ rest) c) len;
      same = λ i. record { at_us = time i; link_type = format.link_type; octets = o.3 i };
      place = omega (arith, place, len);
    }

-- fewer octets than a head says are no whole record
pub no-record-cut : (order : ByteOrder) (head : Head) (part : List ℕ) → head.kept ≤ 2 ^ 18 → length part < head.kept → NoRecord order (head_octets order head ++ part)
no-record-cut order head part few short packet more fits e =
    let spelled : List ℕ = head_spelling order packet.seconds packet.fraction (length packet.octets) packet.first_len in
    let whole : head_octets order head ++ part ≡ spelled ++ (packet.octets ++ more) = e ∙ append_assoc spelled packet.octets more in
    let said : head.kept ≡ length packet.octets =
    sym (kept-is order head.seconds head.fraction head.kept head.first_len part (omega (arith, few))) ∙ ap (kept_said order) whole
    ∙ kept-is order packet.seconds packet.fraction (length packet.octets) packet.first_len (packet.octets ++ more) (omega (arith, fits.octets)) in
    let first = head-len order head.seconds head.fraction head.kept head.first_len in
    let second = head-len order packet.seconds packet.fraction (length packet.octets) packet.first_len in
    let tail : part ≡ packet.octets ++ more = sym (drop_at (head_octets order head) part 16 first) ∙ ap (drop 16) whole ∙ drop_at spelled (packet.octets ++ more) 16 second in
    absurd (omega (arith, ap length tail, length-append packet.octets more, said))

cut-short : (order : ByteOrder) (head body : List ℕ) → length body < kept_said order head → fault_of_body order head body ≡ Some Truncated
cut-short order head body short = grind (arith, nat_tests)

-- a record that was cut short, by the end or by a fault, is no whole record
pub body-cut : (format : Format) (at : ℕ) (a b c : Option (List ℕ)) (head : Head) (got buf : List ℕ) (bad : PcapBad) → ReadsHead format.order at a b (Ok (Some head))
    → ReadsBody at head.kept b c got (Err bad) → ReadsRecord format at a c buf (Err bad)
body-cut format at None b c head got buf (Bad kind place) h o = (o.1, tt)
body-cut format at (Some x) None c head got buf (Bad kind place) h o = absurd (no_some h.3)
body-cut format at (Some x) (Some y) c head got buf (Bad kind place) h o =
    let order : ByteOrder = format.order in
    let octets : List ℕ = head_octets order head in
    let len : length octets ≡ 16 = head-len order head.seconds head.fraction head.kept head.first_len in
    let e : x ≡ octets ++ y = same_some h.3 in
    let front : take 16 x ≡ octets = ap (take 16) e ∙ take_at octets y 16 len in
    let behind : drop 16 x ≡ y = ap (drop 16) e ∙ drop_at octets y 16 len in (
      o.1,
      (
        omega (arith, ap length e, length-append octets y, len),
        (λ i. or_else (fault_of_head order (o.1 i) (front i)) (fault_of_body order (front i) (behind i)))
            ∙ ap (λ (f : Option PcapKind). or_else f (fault_of_body order octets y)) h.1
            ∙ cut-short order octets y (omega (arith, o.2, h.2)) ∙ ap (λ (k : PcapKind). Some k) (sym o.0),
      ),
    )
body-cut format at a b c head got buf ReadFault h o = (
  head_octets format.order head ++ o.0,
  takes_both a b c (head_octets format.order head) o.0 h.3 o.1,
  no-record-cut format.order head o.0 h.0.kept o.2,
)

-- ---- the next frame

bad-behind : (known : Option Format) (at : ℕ) (a b : Option (List ℕ)) (format : Format) (kind : PcapKind) (place : ℕ) → Enters known a b (Ok format)
    → place ≡ at → IfSome b (λ rest. (0 < length rest) × (fault_at format.order place rest ≡ Some kind)) → IfSome a (λ octets. IsBadAt known at octets kind place)
bad-behind known at None b format kind place e here o = tt
bad-behind known at (Some x) None format kind place e here o = absurd (no_some e.2)
bad-behind known at (Some x) (Some y) format kind place e here o =
    inr (here, record { format = format; header = e.0; rest = y; begins = e.1; whole = same_some e.2; some = o.0; fails = o.1 })

-- where no record was given, the step is what was read behind the header
pub next-of-bad : (old new : ReaderState) (b : Option (List ℕ)) (format : Format) (buf : List ℕ) (bad : PcapBad) → Enters old.format old.remaining b (Ok format)
    → ReadsRecord format old.at b new.remaining buf (Err bad) → ReadsNext old new buf (Err bad)
next-of-bad old new b format buf (Bad kind place) e o = bad-behind old.format old.at old.remaining b format kind place e o.0 o.1
next-of-bad old new b format buf ReadFault e o =
    (e.0 ++ o.0, takes_both old.remaining b new.remaining e.0 o.0 e.2 o.1, inr (format, e.0, o.0, e.1, refl, o.2))
