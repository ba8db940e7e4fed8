-- A capture within the greatest offset is walked to its end.
use Rattle.std.proofs.Common.{◌≡◌, ℕ, ◌+◌, ◌^◌, ◌<◌, ◌≤◌, List, [], ◌∷◌, ◌++◌, length, take, drop, flat_map, Some, None, All, refl, sym, ap, ◌∙◌, subst, append_assoc, arith, length-append, if◌then◌else◌, IfSome}
use mathlib.Core.Logic.{inl, inr}
use Rattle.std.specs.Prelude.{Result, Ok, Err, nat_lt}
use Rattle.std.specs.Int.{w16, to_be_bytes, from_be_bytes}
use Rattle.std.proofs.lemmas.Nat.{from_be_bytes-to_be_bytes_2}
use Rattle.std.proofs.lemmas.Bool.Decides.{nat_tests}
use Rattle.std.proofs.lemmas.List.Elements.{All-head, All-tail}
use Rattle.capture_file.specs.Capture.{Record, Fits, IsCapture, magic, spelling, channel_code}
use Rattle.capture_file.specs.Tests.{BadAt, FaultIn, fault_at, fault_of_head, fault_of_body, or_else}
use Rattle.capture_file.proofs.FormatLemmas.{one_spelling, no_capture, code_bound, whole_body}
use Rattle.capture_file.specs.declared.reader.CapKind.TheVariants.{Truncated, Link, Long, TooLong, Channel as ChannelBad}
use Rattle.outside_io.specs.Told.{Passage, Appends}
use Rattle.capture_walk.specs.Leaves.{Leaves, EndsAfter}
use Rattle.capture_walk.specs.declared.walk_bad.WalkBad.{WalkBad}
use Rattle.capture_walk.specs.declared.walk_bad.WalkBad.TheVariants as bads

-- what stands behind whole records of a capture are its other records
pub record Behind (rest : List ℕ) : Type 0 where
  pub others : List Record
  pub each : All Fits others
  pub whole : rest ≡ flat_map spelling others

behind : (done rs : List Record) (rest : List ℕ) → All Fits done → All Fits rs → flat_map spelling done ++ rest ≡ flat_map spelling rs → Behind rest
behind [] rs rest f g e = record { others = rs; each = g; whole = e }
behind (d ∷ done) [] rest f g e = let size = ap length e in absurd (omega (arith, size, length-append (spelling d ++ flat_map spelling done) rest, length-append (spelling d) (flat_map spelling done)))
behind (d ∷ done) (r ∷ rs) rest f g e =
    let step = one_spelling d r (flat_map spelling done ++ rest) (flat_map spelling rs) (All-head Fits d done f) (All-head Fits r rs g)
    (sym (append_assoc (spelling d) (flat_map spelling done) rest) ∙ e) in
    behind done rs rest (All-tail Fits d done f) (All-tail Fits r rs g) step.1

limit : (at link code len : ℕ) → link < 16 → code < 3 → len ≤ 2048
    → or_else (if nat_lt 15 link then Some Link else (if nat_lt 2 code then Some ChannelBad else (if nat_lt 2048 len then Some Long else (if nat_lt (2 ^ 40) (at + 12 + len) then Some TooLong else None)))) None ≡ Some TooLong
    → 2 ^ 40 < at + 12 + len
limit at link code len a b c e = grind (arith, nat_tests)

-- a record that is too long ends past the greatest offset
past : (at : ℕ) (r : Record) (more : List ℕ) → Fits r → fault_at at (spelling r ++ more) ≡ Some TooLong → 2 ^ 40 < at + 12 + length r.octets
past at r more f here =
    let len = from_be_bytes w16 (to_be_bytes w16 (length r.octets)) in
    let said : len ≡ length r.octets = from_be_bytes-to_be_bytes_2 (length r.octets) (omega (arith, f.octets)) in
    let body : fault_of_body (take 12 (spelling r ++ more)) (r.octets ++ more) ≡ None =
    subst (λ n. (if nat_lt n len then Some Truncated else None) ≡ None) (sym (length-append r.octets more)) (whole_body len (length r.octets) (length more) said) in
    let head = subst (λ o. or_else (fault_of_head at (take 12 (spelling r ++ more))) o ≡ Some TooLong) body here in
    let far = limit at r.link (channel_code r.channel) len f.link (code_bound r.channel) (omega (arith, said, f.octets)) head in
    omega (arith, far, said)

too_long_in : (b : List ℕ) (at : ℕ) (fault : FaultIn b TooLong at) (others : List Record) → All Fits others → fault.rest ≡ flat_map spelling others → length b ≤ 2 ^ 40 → ⊥
too_long_in b at fault [] each whole bound = let size = ap length whole in absurd (omega (arith, size, fault.some))
too_long_in b at fault (r ∷ rs) each whole bound =
    let far = past at r (flat_map spelling rs) (All-head Fits r rs each) (subst (λ l. fault_at at l ≡ Some TooLong) whole fault.fails) in
    let all = ap length fault.whole in
    let rest = ap length whole in
    absurd (omega (arith, far, all, rest, fault.place, bound, length-append magic (flat_map spelling fault.done ++ fault.rest), length-append (flat_map spelling fault.done) fault.rest, length-append (spelling r) (flat_map spelling rs)))

-- no record of a capture within the greatest offset is too long
pub no_too_long : (b : List ℕ) (at : ℕ) (rs : List Record) → BadAt b TooLong at → IsCapture rs b → length b ≤ 2 ^ 40 → ⊥
no_too_long b at rs (inl name) c bound = name.2 (ap (take 8) c.whole)
no_too_long b at rs (inr fault) c bound =
    let o = behind fault.done rs fault.rest fault.each c.each (ap (drop 8) (sym fault.whole ∙ c.whole)) in
    too_long_in b at fault o.others o.each o.whole bound
