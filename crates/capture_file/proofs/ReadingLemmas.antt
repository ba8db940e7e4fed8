-- What the steps of a reader say together.
use Rattle.std.proofs.Common.{◌≡◌, ◌≢◌, ℕ, ◌<◌, arith, List, ◌++◌, length, take, None, Some, Ok, Err, refl, sym, ap, ◌∙◌, IfSome, length-append, length-take}
use Rattle.std.proofs.lemmas.List.{take_at}
use Rattle.std.proofs.lemmas.Bool.Decides.{nat_tests}
use Rattle.std.specs.declared.option.Option.{Option}
use mathlib.Core.Logic.{inr}
use Rattle.outside_io.specs.Told.{Takes, IsEmpty}
use Rattle.outside_io.proofs.ToldLemmas.{takes_both}
use Rattle.capture_file.specs.Capture.{magic}
use Rattle.capture_file.specs.Tests.{fault_at, fault_of_body, length_said, or_else}
use Rattle.capture_file.proofs.FormatLemmas.{no_record_cut}
use Rattle.capture_file.specs.Heads.{head_octets}
use Rattle.capture_file.specs.Reading.{ReadsNext, name_at}
use Rattle.capture_file.specs.Inside.Steps.{ReadsHead, ReadsBody, Enters, ReadsRecord}
use Rattle.capture_file.specs.declared.head.Head.{Head}
use Rattle.capture_file.specs.declared.reader.CapKind.TheVariants.{Truncated}
use Rattle.capture_file.specs.declared.reader.CapBad.{CapBad}
use Rattle.capture_file.specs.declared.reader.CapBad.TheVariants.{Bad, ReadFault}

same_some : {A : Type 0} {x y : A} → ◌≡◌ {A = Option A} (Some x) (Some y) → x ≡ y
same_some e = cc

no_some : {A : Type 0} {x : A} → ◌≡◌ {A = Option A} (Some x) None → ⊥
no_some e = cc

-- fewer octets than the name's are not the name
pub no_name_short : (old new : Option (List ℕ)) (got : List ℕ) → Takes old new got → IsEmpty new → length got < 8 → IfSome old (λ b. take 8 b ≢ magic)
no_name_short None new got took end short = tt
no_name_short (Some b) None got took end short = absurd (no_some took)
no_name_short (Some b) (Some c) got took end short = λ same.
    omega (arith, ap length same, ap length (same_some took), length-append got c, ap length end, length-take 8 b)

-- eight other octets are not the name
pub no_name_other : (old new : Option (List ℕ)) (got : List ℕ) → Takes old new got → length got ≡ 8 → got ≢ magic → IfSome old (λ b. take 8 b ≢ magic)
no_name_other None new got took size other = tt
no_name_other (Some b) None got took size other = absurd (no_some took)
no_name_other (Some b) (Some c) got took size other = λ same. other (sym (take_at got c 8 size) ∙ ap (take 8) (sym (same_some took)) ∙ same)

cut_short : (head body : List ℕ) → length body < length_said head → fault_of_body head body ≡ Some Truncated
cut_short head body short = grind (arith, nat_tests)

-- a body that was cut short, by the end or by a fault, is no whole record
pub body_cut : (at : ℕ) (a b c : Option (List ℕ)) (head : Head) (got buf : List ℕ) (bad : CapBad) → ReadsHead at a b (Ok (Some head)) → ReadsBody at head.length b c got (Err bad)
    → ReadsRecord at a c buf (Err bad)
body_cut at None b c head got buf (Bad kind place) h o = (o.1, tt)
body_cut at (Some x) None c head got buf (Bad kind place) h o = absurd (no_some h.3)
body_cut at (Some x) (Some y) c head got buf (Bad kind place) h o =
    let e : x ≡ head_octets head ++ y = same_some h.3 in
    let short : length y < length_said (head_octets head) = omega (arith, o.2, h.2) in (
      o.1,
      (
        omega (arith, ap length e),
        ap (λ p. fault_at p x) o.1 ∙ ap (fault_at at) e ∙ ap (λ f. or_else f (fault_of_body (head_octets head) y)) h.1 ∙ cut_short (head_octets head) y short ∙ ap Some (sym o.0),
      ),
    )
body_cut at a b c head got buf ReadFault h o = (
  head_octets head ++ o.0,
  takes_both a b c (head_octets head) o.0 h.3 o.1,
  no_record_cut head.link head.us head.length head.channel o.0 h.0.1 o.2,
)

-- where no record was given, the step is what was read after the name
pub next_of_bad : (at place : ℕ) (a b c : Option (List ℕ)) (buf : List ℕ) (bad : CapBad) → Enters at a b (Ok place) → ReadsRecord place b c buf (Err bad) → ReadsNext at a c buf (Err bad)
next_of_bad at place None b c buf (Bad kind p) e o = tt
next_of_bad at place (Some x) None c buf (Bad kind p) e o = absurd (no_some e.1)
next_of_bad at place (Some x) (Some y) c buf (Bad kind p) e o = inr (o.0 ∙ e.0, (y, same_some e.1, o.1.0, o.1.1))
next_of_bad at place a b c buf ReadFault e o = (name_at at ++ o.0, takes_both a b c (name_at at) o.0 e.1 o.1, inr (o.0, refl, o.2))
