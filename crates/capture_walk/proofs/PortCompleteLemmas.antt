-- No record of a pcap file within the greatest offset is too long.
use Rattle.std.proofs.Common.{◌≡◌, ℕ, ◌+◌, ◌^◌, ◌<◌, ◌≤◌, List, [], ◌∷◌, ◌++◌, length, take, drop, flat_map, Some, None, All, refl, sym, ap, ◌∙◌, subst, append_assoc, append-nil, arith, length-append, if◌then◌else◌}
use mathlib.Core.Logic.{inl, inr}
use Rattle.std.specs.Prelude.{nat_lt}
use Rattle.std.specs.declared.option.Option.{Option}
use Rattle.std.proofs.lemmas.Bool.Decides.{nat_tests}
use Rattle.std.proofs.lemmas.List.{take_at, drop_at}
use Rattle.std.proofs.lemmas.List.Elements.{All-head, All-tail}
use Rattle.pcap_file.specs.Pcap.{Packet, Fits, IsPcap, head_spelling, spelling}
use Rattle.pcap_file.specs.Tests.{BadAt, FaultIn, fault_at, fault_of_head, fault_of_body, fault_of_header, kept_said, or_else}
use Rattle.pcap_file.specs.declared.format.ByteOrder.{ByteOrder}
use Rattle.pcap_file.specs.declared.format.Format.{Format}
use Rattle.pcap_file.specs.declared.bad.PcapKind.{PcapKind}
use Rattle.pcap_file.specs.declared.bad.PcapKind.TheVariants.{Truncated, Long, TooLong}
use Rattle.pcap_file.proofs.NumberLemmas.{head-len, kept-is}
use Rattle.pcap_file.proofs.FormatLemmas.{header-len, header-good, one-header, one-spelling}

-- what stands behind whole records of a file are its other records
record Behind (order : ByteOrder) (rest : List ℕ) : Type 0 where
  others : List Packet
  each : All Fits others
  whole : rest ≡ flat_map (spelling order) others

spelled_long : (order : ByteOrder) (packet : Packet) → length (spelling order packet) ≡ 16 + length packet.octets
spelled_long order packet =
    let head = head_spelling order packet.seconds packet.fraction (length packet.octets) packet.first_len in
    omega (arith, length-append head packet.octets, head-len order packet.seconds packet.fraction (length packet.octets) packet.first_len)

behind : (order : ByteOrder) (done packets : List Packet) (rest : List ℕ) → All Fits done → All Fits packets → flat_map (spelling order) done ++ rest ≡ flat_map (spelling order) packets → Behind order rest
behind order [] packets rest f g e = record { others = packets; each = g; whole = e }
behind order (d ∷ done) [] rest f g e =
    let spelled = flat_map (spelling order) done in
    absurd (omega (arith, ap length e, length-append (spelling order d ++ spelled) rest, length-append (spelling order d) spelled, spelled_long order d))
behind order (d ∷ done) (p ∷ packets) rest f g e =
    let step = one-spelling order d p (flat_map (spelling order) done ++ rest) (flat_map (spelling order) packets) (All-head Fits d done f) (All-head Fits p packets g)
    (sym (append_assoc (spelling order d) (flat_map (spelling order) done) rest) ∙ e) in
    behind order done packets rest (All-tail Fits d done f) (All-tail Fits p packets g) step.1

limit : (at head kept body : ℕ) → head ≡ 16 → kept ≤ 2 ^ 18
    → or_else (if nat_lt head 16 then Some Truncated else (if nat_lt (2 ^ 18) kept then Some Long else (if nat_lt (2 ^ 40) (at + 16 + kept) then Some TooLong else None)))
    (if nat_lt body kept then Some Truncated else None) ≡ Some TooLong → 2 ^ 40 < at + 16 + kept
limit at head kept body a b e = grind (arith, nat_tests)

-- a record that is too long ends past the greatest offset
past : (order : ByteOrder) (at : ℕ) (packet : Packet) (more : List ℕ) → Fits packet → fault_at order at (spelling order packet ++ more) ≡ Some TooLong → 2 ^ 40 < at + (16 + length packet.octets)
past order at packet more f found =
    let head : List ℕ = head_spelling order packet.seconds packet.fraction (length packet.octets) packet.first_len in
    let len : length head ≡ 16 = head-len order packet.seconds packet.fraction (length packet.octets) packet.first_len in
    let whole : (head ++ packet.octets) ++ more ≡ head ++ (packet.octets ++ more) = append_assoc head packet.octets more in
    let front : take 16 ((head ++ packet.octets) ++ more) ≡ head = ap (take 16) whole ∙ take_at head (packet.octets ++ more) 16 len in
    let back : drop 16 ((head ++ packet.octets) ++ more) ≡ packet.octets ++ more = ap (drop 16) whole ∙ drop_at head (packet.octets ++ more) 16 len in
    let here : or_else (fault_of_head order at head) (fault_of_body order head (packet.octets ++ more)) ≡ Some TooLong =
    (λ i. or_else (fault_of_head order at (sym front i)) (fault_of_body order (sym front i) (sym back i))) ∙ found in
    let said : kept_said order head ≡ length packet.octets =
    ap (kept_said order) (sym (append-nil head)) ∙ kept-is order packet.seconds packet.fraction (length packet.octets) packet.first_len [] (omega (arith, f.octets)) in
    omega (arith, said, limit at (length head) (kept_said order head) (length (packet.octets ++ more)) len (omega (arith, said, f.octets)) here)

too_long_in : (octets : List ℕ) (at : ℕ) (fault : FaultIn octets TooLong at) (others : List Packet) → All Fits others → fault.rest ≡ flat_map (spelling fault.format.order) others → length octets ≤ 2 ^ 40 → ⊥
too_long_in octets at fault [] each whole bound = absurd (omega (arith, ap length whole, fault.some))
too_long_in octets at fault (p ∷ packets) each whole bound =
    let order = fault.format.order in
    let spelled = flat_map (spelling order) fault.done in
    let far = past order at p (flat_map (spelling order) packets) (All-head Fits p packets each) (subst (λ (l : List ℕ). fault_at order at l ≡ Some TooLong) whole fault.fails) in
    absurd (omega (
      arith,
      far,
      ap length fault.whole,
      ap length whole,
      fault.place,
      bound,
      header-len fault.format fault.header fault.is_header,
      length-append fault.header (spelled ++ fault.rest),
      length-append spelled fault.rest,
      length-append (spelling order p) (flat_map (spelling order) packets),
      spelled_long order p,
    ))

none_some : (kind : PcapKind) → ◌≡◌ {A = Option PcapKind} (Some kind) None → ⊥
none_some kind e = cc

pub no_long_packet : (octets : List ℕ) (at : ℕ) (format : Format) (packets : List Packet) → BadAt octets TooLong at → IsPcap format packets octets → length octets ≤ 2 ^ 40 → ⊥
no_long_packet octets at format packets (inl header) is bound =
    none_some TooLong (sym header.1 ∙ ap (λ (o : List ℕ). fault_of_header (take 24 o)) is.whole ∙ header-good format is.header _ is.is_header)
no_long_packet octets at format packets (inr fault) is bound =
    let head = one-header fault.format format fault.header is.header _ _ fault.is_header is.is_header (sym fault.whole ∙ is.whole) in
    let order : format.order ≡ fault.format.order = ap (λ (f : Format). f.order) (sym head.0) in
    let same : flat_map (spelling fault.format.order) fault.done ++ fault.rest ≡ flat_map (spelling fault.format.order) packets =
    head.1 ∙ ap (λ (o : ByteOrder). flat_map (spelling o) packets) order in
    let o = behind fault.format.order fault.done packets fault.rest fault.each is.each same in
    too_long_in octets at fault o.others o.each o.whole bound
