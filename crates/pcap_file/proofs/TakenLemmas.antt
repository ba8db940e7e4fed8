-- Octets that were taken from a source, part by part.
use Rattle.std.proofs.Common.{◌≡◌, ℕ, ◌+◌, ◌<◌, ◌≤◌, List, [], ◌++◌, length, take, None, Some, Err, ap, ◌∙◌, IfSome, length-append, append-nil, arith}
use mathlib.Core.Logic.{inl, inr}
use Rattle.std.proofs.lemmas.Bool.{cases_lt}
use Rattle.std.proofs.lemmas.List.{take_at, take_all}
use Rattle.std.specs.declared.option.Option.{Option}
use Rattle.outside_io.specs.Told.{Takes, IsEmpty}
use Rattle.outside_io.proofs.ToldLemmas.{takes_both}
use Rattle.pcap_file.specs.Inside.Steps.{Skips}
use Rattle.pcap_file.specs.declared.bad.PcapKind.{PcapKind}
use Rattle.pcap_file.specs.declared.bad.PcapBad.{PcapBad}
use Rattle.pcap_file.specs.declared.bad.PcapBad.TheVariants.{Bad, ReadFault}

pub same_some : {A : Type 0} {x y : A} → ◌≡◌ {A = Option A} (Some x) (Some y) → x ≡ y
same_some e = cc

pub no_some : {A : Type 0} {x : A} → ◌≡◌ {A = Option A} (Some x) None → ⊥
no_some e = cc

-- what was taken up to so many octets, or up to the end, is the front of what remained
front-is : (n : ℕ) (b c got : List ℕ) → b ≡ got ++ c → length got ≤ n → (length got < n → c ≡ []) → take n b ≡ got
front-is n b c got whole few end = elim (cases_lt (length got) n) [
  | inl lt ↦
      let all : b ≡ got = whole ∙ ap (λ (x : List ℕ). got ++ x) (end lt) ∙ append-nil got in
      ap (take n) all ∙ take_all n got few
  | inr le ↦ ap (take n) whole ∙ take_at got c n (omega arith)
]

-- a test that fails of it fails of that front
pub front-fails : (n : ℕ) (F : List ℕ → Option PcapKind) (kind : PcapKind) (old new : Option (List ℕ)) (got : List ℕ) → Takes old new got
    → length got ≤ n → (length got < n → IsEmpty new) → F got ≡ Some kind → IfSome old (λ b. (length got ≤ length b) × (F (take n b) ≡ Some kind))
front-fails n F kind None new got took few end fails = tt
front-fails n F kind (Some b) None got took few end fails = absurd (no_some took)
front-fails n F kind (Some b) (Some c) got took few end fails =
    let whole : b ≡ got ++ c = same_some took in
    (omega (arith, ap length whole, length-append got c), ap F (front-is n b c got whole few end) ∙ fails)

pub only-fails : (n : ℕ) (F : List ℕ → Option PcapKind) (kind : PcapKind) (old : Option (List ℕ)) (k : ℕ)
    → IfSome old (λ b. (k ≤ length b) × (F (take n b) ≡ Some kind)) → IfSome old (λ b. F (take n b) ≡ Some kind)
only-fails n F kind None k fails = tt
only-fails n F kind (Some b) k fails = fails.1

pub some-fails : (n : ℕ) (F : List ℕ → Option PcapKind) (kind : PcapKind) (old : Option (List ℕ)) (k : ℕ) → 0 < k
    → IfSome old (λ b. (k ≤ length b) × (F (take n b) ≡ Some kind)) → IfSome old (λ b. (0 < length b) × (F (take n b) ≡ Some kind))
some-fails n F kind None k some fails = tt
some-fails n F kind (Some b) k some fails = (omega (arith, fails.0), fails.1)

-- ---- octets that are stepped over
pub skips-bad : (at first next count : ℕ) (a b c : Option (List ℕ)) (octets : List ℕ) (bad : PcapBad) → length octets ≡ first → first + next ≤ count
    → Takes a b octets → Skips at next b c (Err bad) → Skips at count a c (Err bad)
skips-bad at first next count None b c octets (Bad kind place) len sum took skips = (skips.0, skips.1, tt)
skips-bad at first next count (Some x) None c octets (Bad kind place) len sum took skips = absurd (no_some took)
skips-bad at first next count (Some x) (Some y) c octets (Bad kind place) len sum took skips =
    let whole : x ≡ octets ++ y = same_some took in
    (skips.0, skips.1, omega (arith, ap length whole, length-append octets y, skips.2, len))
skips-bad at first next count a b c octets ReadFault len sum took skips =
    (octets ++ skips.0, takes_both a b c octets skips.0 took skips.1, omega (arith, length-append octets skips.0, len, skips.2))
