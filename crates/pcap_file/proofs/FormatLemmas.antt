-- Laws of the format.
use Rattle.std.proofs.Common.{◌≡◌, ℕ, ◌+◌, ◌%◌, ◌^◌, ◌<◌, ◌≤◌, true, List, [], ◌∷◌, ◌++◌, length, take, drop, map, None, Some, refl, sym, ap, ◌∙◌, subst, append_assoc, append-nil, length-append, arith}
use mathlib.Core.Logic.{inl, inr}
use Rattle.std.specs.Prelude.{flat_map, All, if◌then◌else◌, nat_lt}
use Rattle.std.specs.declared.option.Option.{Option}
use Rattle.std.specs.Int.{w32, to_be_bytes, to_le_bytes, from_be_bytes, from_le_bytes}
use Rattle.std.proofs.lemmas.Bool.Decides.{nat_tests}
use Rattle.std.proofs.lemmas.List.{take_at, drop_at}
use Rattle.std.proofs.lemmas.List.Elements.{All-head, All-tail}
use Rattle.std.proofs.lemmas.Nat.{from_be_bytes-to_be_bytes_4, from_le_bytes-to_le_bytes_4}
use Rattle.pcap_file.specs.declared.format.ByteOrder.{ByteOrder}
use Rattle.pcap_file.specs.declared.format.ByteOrder.TheVariants.{Big, Little}
use Rattle.pcap_file.specs.declared.format.Fraction.{Fraction}
use Rattle.pcap_file.specs.declared.format.Fraction.TheVariants.{Micros, Nanos}
use Rattle.pcap_file.specs.declared.format.Format.{Format}
use Rattle.pcap_file.specs.declared.bad.PcapKind.{PcapKind}
use Rattle.pcap_file.specs.declared.bad.PcapKind.TheVariants.{Truncated, Long, TooLong}
use Rattle.pcap_file.specs.Pcap.{spelled_16, spelled_32, magic_of, IsHeader, Packet, Fits, head_spelling, spelling, IsPcap, Captured, frame_of, HasFrames}
use Rattle.pcap_file.specs.Tests.{number_32_at, kind_of, is_version, link_type_in, fault_of_header, kept_said, fault_of_head, fault_of_body, fault_at, or_else, BadAt}
use Rattle.pcap_file.specs.Reading.{NoRecord}
use Rattle.pcap_file.proofs.NumberLemmas.{same-kind, head-len, kept-is}

-- ---- a header

-- its octets, one part behind another, before what follows
laid : ByteOrder → Fraction → List ℕ → ℕ → List ℕ → List ℕ
laid order fraction unread link x =
    spelled_32 order (magic_of fraction) ++ (spelled_16 order 2 ++ (spelled_16 order 4 ++ (unread ++ (spelled_32 order link ++ x))))

-- what is read of them
record IsTold (order : ByteOrder) (fraction : Fraction) (link : ℕ) (octets : List ℕ) : Type 0 where
  kind : kind_of (from_be_bytes w32 (take 4 octets)) ≡ Some (order, fraction)
  version : is_version order octets ≡ true
  word : number_32_at order 20 octets ≡ link

laid-told : (order : ByteOrder) (fraction : Fraction) (unread : List ℕ) (link : ℕ) (x : List ℕ) → length unread ≡ 12 → link < 2 ^ 32
    → IsTold order fraction link (laid order fraction unread link x)
unfolding laid
laid-told Big Micros unread link x len lt = record {
  kind = refl;
  version = refl;
  word = ap (λ (l : List ℕ). from_be_bytes w32 (take 4 l)) (drop_at unread (to_be_bytes w32 link ++ x) 12 len) ∙ from_be_bytes-to_be_bytes_4 link lt;
}
laid-told Big Nanos unread link x len lt = record {
  kind = refl;
  version = refl;
  word = ap (λ (l : List ℕ). from_be_bytes w32 (take 4 l)) (drop_at unread (to_be_bytes w32 link ++ x) 12 len) ∙ from_be_bytes-to_be_bytes_4 link lt;
}
laid-told Little Micros unread link x len lt = record {
  kind = refl;
  version = refl;
  word = ap (λ (l : List ℕ). from_le_bytes w32 (take 4 l)) (drop_at unread (to_le_bytes w32 link ++ x) 12 len) ∙ from_le_bytes-to_le_bytes_4 link lt;
}
laid-told Little Nanos unread link x len lt = record {
  kind = refl;
  version = refl;
  word = ap (λ (l : List ℕ). from_le_bytes w32 (take 4 l)) (drop_at unread (to_le_bytes w32 link ++ x) 12 len) ∙ from_le_bytes-to_le_bytes_4 link lt;
}

laid-len : (order : ByteOrder) (fraction : Fraction) (unread : List ℕ) (link : ℕ) → length unread ≡ 12 → length (laid order fraction unread link []) ≡ 24
unfolding laid
laid-len Big fraction unread link len = omega (arith, length-append unread (to_be_bytes w32 link ++ []), len)
laid-len Little fraction unread link len = omega (arith, length-append unread (to_le_bytes w32 link ++ []), len)

laid-is : (format : Format) (header x : List ℕ) (is : IsHeader format header) → header ++ x ≡ laid format.order format.fraction is.unread is.link_word x
unfolding laid
laid-is format header x is =
    let m : List ℕ = spelled_32 format.order (magic_of format.fraction) in
    let a : List ℕ = spelled_16 format.order 2 in
    let b : List ℕ = spelled_16 format.order 4 in
    let l : List ℕ = spelled_32 format.order is.link_word in
    ap (λ (h : List ℕ). h ++ x) is.whole
    ∙ append_assoc m (a ++ (b ++ (is.unread ++ l))) x
    ∙ ap (λ (y : List ℕ). m ++ y) (append_assoc a (b ++ (is.unread ++ l)) x
    ∙ ap (λ (y : List ℕ). a ++ y) (append_assoc b (is.unread ++ l) x
    ∙ ap (λ (y : List ℕ). b ++ y) (append_assoc is.unread l x)))

header-told : (format : Format) (header x : List ℕ) (is : IsHeader format header) → IsTold format.order format.fraction is.link_word (header ++ x)
header-told format header x is =
    subst (λ (o : List ℕ). IsTold format.order format.fraction is.link_word o) (sym (laid-is format header x is))
    (laid-told format.order format.fraction is.unread is.link_word x is.unread_len is.link_fits)

pub header-len : (format : Format) (header : List ℕ) → IsHeader format header → length header ≡ 24
header-len format header is =
    ap length (sym (append-nil header) ∙ laid-is format header [] is) ∙ laid-len format.order format.fraction is.unread is.link_word is.unread_len

header-link : (format : Format) (header x : List ℕ) (is : IsHeader format header) → link_type_in format.order (header ++ x) ≡ format.link_type
header-link format header x is = ap (λ (n : ℕ). n % 2 ^ 16) (header-told format header x is).word ∙ is.link_type

same-format : (f g : Format) → f.order ≡ g.order → f.fraction ≡ g.fraction → f.link_type ≡ g.link_type → f ≡ g
same-format f g a b c = λ i. record { order = a i; fraction = b i; link_type = c i }

pub one-header : (f g : Format) (h k x y : List ℕ) → IsHeader f h → IsHeader g k → h ++ x ≡ k ++ y → (f ≡ g) × (x ≡ y)
one-header f g h k x y is js e =
    let told = header-told f h x is in
    let other = header-told g k y js in
    let kind = same-kind f.order g.order f.fraction g.fraction
    (sym told.kind ∙ ap (λ (o : List ℕ). kind_of (from_be_bytes w32 (take 4 o))) e ∙ other.kind) in
    let link : f.link_type ≡ g.link_type =
    sym (header-link f h x is) ∙ (λ i. link_type_in (kind.0 i) (e i)) ∙ header-link g k y js in (
      same-format f g kind.0 kind.1 link,
      sym (drop_at h x 24 (header-len f h is)) ∙ ap (drop 24) e ∙ drop_at k y 24 (header-len g k js),
    )

-- no test fails of a header
pub header-good : (format : Format) (header x : List ℕ) → IsHeader format header → fault_of_header (take 24 (header ++ x)) ≡ None
header-good format header x is =
    let len = header-len format header is in
    let told = header-told format header [] is in
    let bare = append-nil header in
    let kind : kind_of (from_be_bytes w32 (take 4 header)) ≡ Some (format.order, format.fraction) =
    ap (λ (o : List ℕ). kind_of (from_be_bytes w32 (take 4 o))) (sym bare) ∙ told.kind in
    let version : is_version format.order header ≡ true = ap (is_version format.order) (sym bare) ∙ told.version in
    let link : link_type_in format.order header ≡ format.link_type = ap (link_type_in format.order) (sym bare) ∙ header-link format header [] is in
    ap fault_of_header (take_at header x 24 len) ∙ rw (len, kind, len, version, link, is.known) refl

-- ---- records

numbers-are : (order : ByteOrder) (seconds fraction len first_len : ℕ) (rest : List ℕ) → seconds < 2 ^ 32 → fraction < 2 ^ 32 → first_len < 2 ^ 32
    → (number_32_at order 0 (head_spelling order seconds fraction len first_len ++ rest) ≡ seconds)
    × (number_32_at order 4 (head_spelling order seconds fraction len first_len ++ rest) ≡ fraction)
    × (number_32_at order 12 (head_spelling order seconds fraction len first_len ++ rest) ≡ first_len)
numbers-are Big seconds fraction len first_len rest a b c =
    (from_be_bytes-to_be_bytes_4 seconds a, from_be_bytes-to_be_bytes_4 fraction b, from_be_bytes-to_be_bytes_4 first_len c)
numbers-are Little seconds fraction len first_len rest a b c =
    (from_le_bytes-to_le_bytes_4 seconds a, from_le_bytes-to_le_bytes_4 fraction b, from_le_bytes-to_le_bytes_4 first_len c)

same-packet : (p q : Packet) → p.seconds ≡ q.seconds → p.fraction ≡ q.fraction → p.first_len ≡ q.first_len → p.octets ≡ q.octets → p ≡ q
same-packet p q a b c d = λ i. record { seconds = a i; fraction = b i; first_len = c i; octets = d i }

head-of : ByteOrder → Packet → List ℕ
head-of order p = head_spelling order p.seconds p.fraction (length p.octets) p.first_len

pub one-spelling : (order : ByteOrder) (p q : Packet) (x y : List ℕ) → Fits p → Fits q → spelling order p ++ x ≡ spelling order q ++ y → (p ≡ q) × (x ≡ y)
unfolding head-of
one-spelling order p q x y f g e =
    let whole : head-of order p ++ (p.octets ++ x) ≡ head-of order q ++ (q.octets ++ y) =
    sym (append_assoc (head-of order p) p.octets x) ∙ e ∙ append_assoc (head-of order q) q.octets y in
    let a = numbers-are order p.seconds p.fraction (length p.octets) p.first_len (p.octets ++ x) f.seconds f.fraction f.first_len in
    let b = numbers-are order q.seconds q.fraction (length q.octets) q.first_len (q.octets ++ y) g.seconds g.fraction g.first_len in
    let len : length p.octets ≡ length q.octets =
    sym (kept-is order p.seconds p.fraction (length p.octets) p.first_len (p.octets ++ x) (omega (arith, f.octets))) ∙ ap (kept_said order) whole
    ∙ kept-is order q.seconds q.fraction (length q.octets) q.first_len (q.octets ++ y) (omega (arith, g.octets)) in
    let rest : p.octets ++ x ≡ q.octets ++ y =
    sym (drop_at (head-of order p) (p.octets ++ x) 16 (head-len order p.seconds p.fraction (length p.octets) p.first_len)) ∙ ap (drop 16) whole
    ∙ drop_at (head-of order q) (q.octets ++ y) 16 (head-len order q.seconds q.fraction (length q.octets) q.first_len) in
    let n : ℕ = length p.octets in (
      same-packet p q (sym a.0 ∙ ap (number_32_at order 0) whole ∙ b.0) (sym a.1 ∙ ap (number_32_at order 4) whole ∙ b.1) (sym a.2 ∙ ap (number_32_at order 12) whole ∙ b.2)
          (sym (take_at p.octets x n refl) ∙ ap (take n) rest ∙ take_at q.octets y n (sym len)),
      sym (drop_at p.octets x n refl) ∙ ap (drop n) rest ∙ drop_at q.octets y n (sym len),
    )

-- nothing is at the front of nothing
no-record-in-nothing : (order : ByteOrder) → NoRecord order []
unfolding head-of
no-record-in-nothing order packet more f e =
    let len = head-len order packet.seconds packet.fraction (length packet.octets) packet.first_len in
    absurd (omega (arith, ap length e, length-append (spelling order packet) more, length-append (head-of order packet) packet.octets, len))

-- Records at the front of octets, up to where none is, are these alone.
one-front : (order : ByteOrder) (ps qs : List Packet) (x y : List ℕ) → All Fits ps → All Fits qs → NoRecord order x → NoRecord order y
    → flat_map (spelling order) ps ++ x ≡ flat_map (spelling order) qs ++ y → (ps ≡ qs) × (x ≡ y)
one-front order [] [] x y f g n m e = (refl, e)
one-front order [] (q ∷ qs) x y f g n m e =
    absurd (n q (flat_map (spelling order) qs ++ y) (All-head Fits q qs g) (e ∙ append_assoc (spelling order q) (flat_map (spelling order) qs) y))
one-front order (p ∷ ps) [] x y f g n m e =
    absurd (m p (flat_map (spelling order) ps ++ x) (All-head Fits p ps f) (sym e ∙ append_assoc (spelling order p) (flat_map (spelling order) ps) x))
one-front order (p ∷ ps) (q ∷ qs) x y f g n m e =
    let step = one-spelling order p q (flat_map (spelling order) ps ++ x) (flat_map (spelling order) qs ++ y) (All-head Fits p ps f) (All-head Fits q qs g)
    (sym (append_assoc (spelling order p) (flat_map (spelling order) ps) x) ∙ e ∙ append_assoc (spelling order q) (flat_map (spelling order) qs) y) in
    let rest = one-front order ps qs x y (All-tail Fits p ps f) (All-tail Fits q qs g) n m step.1 in
    (ap (λ (a : Packet). a ∷ ps) step.0 ∙ ap (λ (l : List Packet). q ∷ l) rest.0, rest.1)

-- ---- files
pub one-file : (format other : Format) (packets others : List Packet) (octets : List ℕ) → IsPcap format packets octets → IsPcap other others octets
    → (format ≡ other) × (packets ≡ others)
one-file format other packets others octets is js =
    let head = one-header format other is.header js.header _ _ is.is_header js.is_header (sym is.whole ∙ js.whole) in
    let order : format.order ≡ other.order = ap (λ (f : Format). f.order) head.0 in
    let rest : flat_map (spelling format.order) packets ++ [] ≡ flat_map (spelling format.order) others ++ [] =
    ap (λ (l : List ℕ). l ++ []) (head.1 ∙ ap (λ (o : ByteOrder). flat_map (spelling o) others) (sym order)) in
    (head.0, (one-front format.order packets others [] [] is.each js.each (no-record-in-nothing format.order) (no-record-in-nothing format.order) rest).0)

pub one-list-of-frames : (frames others : List Captured) (octets : List ℕ) → HasFrames frames octets → HasFrames others octets → frames ≡ others
one-list-of-frames frames others octets is js =
    let one = one-file is.format js.format is.packets js.packets octets is.file js.file in
    is.same ∙ (λ i. map (frame_of (one.0 i)) (one.1 i)) ∙ sym js.same

only-too-long : (at head kept body : ℕ) (kind : PcapKind) → head ≡ 16 → kept ≤ 2 ^ 18 → kept ≤ body
    → or_else (if nat_lt head 16 then Some Truncated else (if nat_lt (2 ^ 18) kept then Some Long else (if nat_lt (2 ^ 40) (at + 16 + kept) then Some TooLong else None)))
    (if nat_lt body kept then Some Truncated else None) ≡ Some kind → kind ≡ TooLong
only-too-long at head kept body kind a b c e = grind (arith, nat_tests)

-- Where a test fails but the one of the offset, no record stands.
pub no-record-at-fault : (order : ByteOrder) (at : ℕ) (kind : PcapKind) (rest : List ℕ) → fault_at order at rest ≡ Some kind → (kind ≡ TooLong → ⊥) → NoRecord order rest
unfolding head-of
no-record-at-fault order at kind rest found other packet more f e =
    let head : List ℕ = head-of order packet in
    let len : length head ≡ 16 = head-len order packet.seconds packet.fraction (length packet.octets) packet.first_len in
    let whole : rest ≡ head ++ (packet.octets ++ more) = e ∙ append_assoc head packet.octets more in
    let front : take 16 rest ≡ head = ap (take 16) whole ∙ take_at head (packet.octets ++ more) 16 len in
    let behind : drop 16 rest ≡ packet.octets ++ more = ap (drop 16) whole ∙ drop_at head (packet.octets ++ more) 16 len in
    let here : or_else (fault_of_head order at head) (fault_of_body order head (packet.octets ++ more)) ≡ Some kind =
    (λ i. or_else (fault_of_head order at (sym front i)) (fault_of_body order (sym front i) (sym behind i))) ∙ found in
    let said : kept_said order head ≡ length packet.octets =
    ap (kept_said order) (sym (append-nil head)) ∙ kept-is order packet.seconds packet.fraction (length packet.octets) packet.first_len [] (omega (arith, f.octets)) in
    other (only-too-long at (length head) (kept_said order head) (length (packet.octets ++ more)) kind len (omega (arith, said, f.octets))
    (omega (arith, said, length-append packet.octets more)) here)

some-is-none : (kind : PcapKind) → ◌≡◌ {A = Option PcapKind} (Some kind) None → ⊥
some-is-none kind e = cc

pub no-file : (octets : List ℕ) (kind : PcapKind) (at : ℕ) (format : Format) (packets : List Packet) → BadAt octets kind at → (kind ≡ TooLong → ⊥)
    → IsPcap format packets octets → ⊥
no-file octets kind at format packets (inl header) other is =
    some-is-none kind (sym header.1 ∙ ap (λ (o : List ℕ). fault_of_header (take 24 o)) is.whole ∙ header-good format is.header _ is.is_header)
no-file octets kind at format packets (inr fault) other is =
    let head = one-header fault.format format fault.header is.header _ _ fault.is_header is.is_header (sym fault.whole ∙ is.whole) in
    let order : format.order ≡ fault.format.order = ap (λ (f : Format). f.order) (sym head.0) in
    let same : flat_map (spelling fault.format.order) fault.done ++ fault.rest ≡ flat_map (spelling fault.format.order) packets ++ [] =
    head.1 ∙ sym (append-nil (flat_map (spelling format.order) packets)) ∙ ap (λ (o : ByteOrder). flat_map (spelling o) packets ++ []) order in
    let one = one-front fault.format.order fault.done packets fault.rest [] fault.each is.each
    (no-record-at-fault fault.format.order at kind fault.rest fault.fails other) (no-record-in-nothing fault.format.order) same in
    omega (arith, fault.some, ap length one.1)
