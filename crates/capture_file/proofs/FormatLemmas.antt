-- Laws of the capture format.
use Rattle.std.specs.Prelude.{◌≡◌, ℕ, ◌+◌, ◌^◌, ◌<◌, ◌≤◌, List, [], ◌∷◌, ◌++◌, length, take, drop, flat_map, All, None, Some, if◌then◌else◌, nat_lt}
use Rattle.std.specs.Int.{w16, w64, to_be_bytes, from_be_bytes}
use Rattle.std.proofs.Common.{refl, sym, ap, ◌∙◌, subst, append_assoc, append-nil, arith, length-append, get_or}
use Rattle.std.proofs.lemmas.Nat.{from_be_bytes-to_be_bytes_2, from_be_bytes-to_be_bytes_8}
use Rattle.std.proofs.lemmas.List.{take_at, drop_at}
use Rattle.std.proofs.lemmas.List.Elements.{All-head, All-tail}
use Rattle.capture_file.specs.Tests.{BadAt, fault_at, fault_of_head, fault_of_body, or_else}
use Rattle.capture_file.specs.declared.reader.CapKind.{CapKind}
use Rattle.capture_file.specs.declared.reader.CapKind.TheVariants.{Truncated, Link, Long, TooLong, Channel as ChannelBad}
use mathlib.Core.Logic.{inl, inr}
use Rattle.std.proofs.lemmas.Bool.Decides.{nat_tests}
use Rattle.link_channels.specs.declared.channel.Channel.{Channel}
use Rattle.link_channels.specs.declared.channel.Channel.TheVariants.{Media, Control, Tunnel}
use Rattle.capture_file.specs.Capture.{Record, Fits, spelling, head_spelling, channel_code, NoRecord, IsFront, IsCapture}

same_code : (a b : Channel) → channel_code a ≡ channel_code b → a ≡ b
same_code Media Media e = refl
same_code Media Control e = absurd (omega (arith, e))
same_code Media Tunnel e = absurd (omega (arith, e))
same_code Control Media e = absurd (omega (arith, e))
same_code Control Control e = refl
same_code Control Tunnel e = absurd (omega (arith, e))
same_code Tunnel Media e = absurd (omega (arith, e))
same_code Tunnel Control e = absurd (omega (arith, e))
same_code Tunnel Tunnel e = refl

-- lists that start with as many octets have the same start and the same rest
same_start : (n : ℕ) (a b x y : List ℕ) → length a ≡ n → length b ≡ n → a ++ x ≡ b ++ y → (a ≡ b) × (x ≡ y)
same_start n a b x y p q e = (sym (take_at a x n p) ∙ ap (take n) e ∙ take_at b y n q, sym (drop_at a x n p) ∙ ap (drop n) e ∙ drop_at b y n q)

same_record : (r s : Record) → r.link ≡ s.link → r.channel ≡ s.channel → r.us ≡ s.us → r.octets ≡ s.octets → r ≡ s
same_record r s a b c d = λ i. record { link = a i; channel = b i; us = c i; octets = d i }

-- No record's spelling begins another's, but its own.
pub one_spelling : (r s : Record) (x y : List ℕ) → Fits r → Fits s → spelling r ++ x ≡ spelling s ++ y → (r ≡ s) × (x ≡ y)
one_spelling r s x y f g e =
    let two : to_be_bytes w16 (length r.octets) ≡ to_be_bytes w16 (length s.octets) = ap (λ l. take 2 (drop 2 l)) e in
    let eight : to_be_bytes w64 r.us ≡ to_be_bytes w64 s.us = ap (λ l. take 8 (drop 4 l)) e in
    let long : length r.octets ≡ length s.octets =
    sym (from_be_bytes-to_be_bytes_2 (length r.octets) (omega (arith, f.octets))) ∙ ap (from_be_bytes w16) two ∙ from_be_bytes-to_be_bytes_2 (length s.octets) (omega (arith, g.octets)) in
    let time : r.us ≡ s.us = sym (from_be_bytes-to_be_bytes_8 r.us f.us) ∙ ap (from_be_bytes w64) eight ∙ from_be_bytes-to_be_bytes_8 s.us g.us in
    let rest : r.octets ++ x ≡ s.octets ++ y = ap (drop 12) e in
    let parts = same_start (length r.octets) r.octets s.octets x y refl (sym long) rest in
    (same_record r s (ap (λ l. get_or l 0 0) e) (same_code r.channel s.channel (ap (λ l. get_or l 1 0) e)) time parts.0, parts.1)

-- nothing is at the front of nothing
pub no_record_in_nothing : NoRecord []
no_record_in_nothing r more f e = let size = ap length e in absurd (omega (arith, size))

-- Records at the front of octets, up to where none is, are these alone.
pub one_front : (rs ss : List Record) (x y : List ℕ) → All Fits rs → All Fits ss → NoRecord x → NoRecord y
    → flat_map spelling rs ++ x ≡ flat_map spelling ss ++ y → (rs ≡ ss) × (x ≡ y)
one_front [] [] x y f g p q e = (refl, e)
one_front [] (s ∷ ss) x y f g p q e = absurd (p s (flat_map spelling ss ++ y) (All-head Fits s ss g) (e ∙ append_assoc (spelling s) (flat_map spelling ss) y))
one_front (r ∷ rs) [] x y f g p q e = absurd (q r (flat_map spelling rs ++ x) (All-head Fits r rs f) (sym e ∙ append_assoc (spelling r) (flat_map spelling rs) x))
one_front (r ∷ rs) (s ∷ ss) x y f g p q e =
    let step = one_spelling r s (flat_map spelling rs ++ x) (flat_map spelling ss ++ y) (All-head Fits r rs f) (All-head Fits s ss g)
    (sym (append_assoc (spelling r) (flat_map spelling rs) x) ∙ e ∙ append_assoc (spelling s) (flat_map spelling ss) y) in
    let rest = one_front rs ss x y (All-tail Fits r rs f) (All-tail Fits s ss g) p q step.1 in
    (ap (λ a. a ∷ rs) step.0 ∙ ap (λ l. s ∷ l) rest.0, rest.1)

pub code_bound : (c : Channel) → channel_code c < 3
code_bound Media = omega arith
code_bound Control = omega arith
code_bound Tunnel = omega arith

said : (r : Record) → Fits r → from_be_bytes w16 (to_be_bytes w16 (length r.octets)) ≡ length r.octets
said r f = from_be_bytes-to_be_bytes_2 (length r.octets) (omega (arith, f.octets))

pub whole_body : (len size more : ℕ) → len ≡ size → (if nat_lt (size + more) len then Some Truncated else None) ≡ None
whole_body len size more e = grind (arith, nat_tests)

only_too_long : (at link code len : ℕ) (kind : CapKind) → link < 16 → code < 3 → len ≤ 2048
    → or_else (if nat_lt 15 link then Some Link else (if nat_lt 2 code then Some ChannelBad else (if nat_lt 2048 len then Some Long else (if nat_lt (2 ^ 40) (at + 12 + len) then Some TooLong else None)))) None ≡ Some kind
    → kind ≡ TooLong
only_too_long at link code len kind a b c e = grind (arith, nat_tests)

-- Where a test fails but the one of the offset, no record stands.
pub no_record_at_fault : (at : ℕ) (kind : CapKind) (rest : List ℕ) → fault_at at rest ≡ Some kind → (kind ≡ TooLong → ⊥) → NoRecord rest
no_record_at_fault at kind rest found other r more f e =
    let here : fault_at at (spelling r ++ more) ≡ Some kind = subst (λ l. fault_at at l ≡ Some kind) e found in
    let len = from_be_bytes w16 (to_be_bytes w16 (length r.octets)) in
    let body : fault_of_body (take 12 (spelling r ++ more)) (r.octets ++ more) ≡ None =
    subst (λ n. (if nat_lt n len then Some Truncated else None) ≡ None) (sym (length-append r.octets more)) (whole_body len (length r.octets) (length more) (said r f)) in
    let head = subst (λ o. or_else (fault_of_head at (take 12 (spelling r ++ more))) o ≡ Some kind) body here in
    other (only_too_long at r.link (channel_code r.channel) len kind f.link (code_bound r.channel) (omega (arith, said r f, f.octets)) head)

-- where a test but that of the offset fails, the octets are no capture
pub no_capture : (b : List ℕ) (kind : CapKind) (at : ℕ) (rs : List Record) → BadAt b kind at → (kind ≡ TooLong → ⊥) → IsCapture rs b → ⊥
no_capture b kind at rs (inl name) other c = name.2 (ap (take 8) c.whole)
no_capture b kind at rs (inr fault) other c =
    let same : flat_map spelling fault.done ++ fault.rest ≡ flat_map spelling rs ++ [] =
    ap (drop 8) (sym fault.whole ∙ c.whole) ∙ sym (append-nil (flat_map spelling rs)) in
    let one = one_front fault.done rs fault.rest [] fault.each c.each (no_record_at_fault at kind fault.rest fault.fails other) no_record_in_nothing same in
    let size = ap length one.1 in
    absurd (omega (arith, fault.some, size))

pub one_reading : (b : List ℕ) (rs ss : List Record) → IsFront rs b → IsFront ss b → rs ≡ ss
one_reading b rs ss p q = (one_front rs ss p.rest q.rest p.each q.each p.no_more q.no_more (ap (drop 8) (sym p.whole ∙ q.whole))).0

-- fewer octets than a head says are no whole record
pub no_record_cut : (link us len : ℕ) (channel : Channel) (part : List ℕ) → len ≤ 2048 → length part < len → NoRecord (head_spelling link channel len us ++ part)
no_record_cut link us len channel part bound short r more f e =
    let two : to_be_bytes w16 len ≡ to_be_bytes w16 (length r.octets) = ap (λ l. take 2 (drop 2 l)) e in
    let long : len ≡ length r.octets =
    sym (from_be_bytes-to_be_bytes_2 len (omega arith)) ∙ ap (from_be_bytes w16) two ∙ from_be_bytes-to_be_bytes_2 (length r.octets) (omega (arith, f.octets)) in
    let tail : part ≡ r.octets ++ more = ap (drop 12) e in
    absurd (omega (arith, ap length tail, length-append r.octets more))

-- fewer octets than a head has are no whole record
pub no_record_short : (part : List ℕ) → length part < 12 → NoRecord part
no_record_short part short r more f e = let size = ap length e in absurd (omega (arith, size))
