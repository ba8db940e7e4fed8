-- The counts of a history with one more step.
use Rattle.std.proofs.Common.{◌≡◌, ℕ, ◌+◌, List, [], ◌∷◌, Some, None, Option, refl, sym, subst, ap, ◌∙◌, arith, Bool, true, false, ◌&&◌, if◌then◌else◌}
use Rattle.receiver_rules.specs.declared.verdict.Verdict.{Verdict}
use Rattle.receiver_rules.specs.declared.verdict.Verdict.TheVariants as verdicts
use Rattle.receiver_rules.specs.declared.limits.Limits.{Limits}
use Rattle.receiver_rules.specs.Steps.{Arrival}
use Rattle.receiver_rules.specs.Seen.{seen}
use Rattle.receiver_rules.specs.Packets.{is_kept}
use Rattle.receiver_rules.specs.History.{verdict}
use Rattle.receiver_rules.specs.declared.arrival.Arrival.{Arrival as Offered}
use Rattle.request_rules.specs.Steps.{Step as ReceiverStep, buffer_history, control_input}
use Rattle.request_rules.specs.Steps as inputs
use Rattle.rist_ends.specs.declared.counts.Counts.{Counts}
use Rattle.rist_ends.specs.declared.told.What.{What}
use Rattle.rist_ends.specs.declared.told.What.TheVariants.{Media, Control, Keepalive, Refused, Tick, End}
use Rattle.rist_ends.specs.Counts.{AreCountsOf, capped, count_of, verdict_count, counted_verdict, refused_count, counted_refusal, one_where_same, no_counts, one_more, one_refused, counts_after, counts_with, recovered_count, recovered_with}
use Rattle.rist_ends.specs.Told.{input_of}
use Rattle.rist_ends.specs.Inside.Stepping.{SaysVerdictOn}

one : (c x : ℕ) → c ≡ capped x → capped (c + 1) ≡ capped (x + 1)
one c x e = omega (arith, e)

same : (c x : ℕ) → c ≡ capped x → c ≡ capped (x + 0)
same c x e = omega (arith, e)

-- one more verdict raises its own count
with_verdict : (v w : Verdict) (c : Counts) (x : ℕ) → count_of v c ≡ capped x → count_of v (one_more w c) ≡ capped (x + one_where_same v w)
with_verdict verdicts.Kept verdicts.Kept c x e = one c.kept x e
with_verdict verdicts.Stranger verdicts.Stranger c x e = one c.stranger x e
with_verdict verdicts.Exhausted verdicts.Exhausted c x e = one c.exhausted x e
with_verdict verdicts.Late verdicts.Late c x e = one c.late x e
with_verdict verdicts.Behind verdicts.Behind c x e = one c.behind x e
with_verdict verdicts.Early verdicts.Early c x e = one c.early x e
with_verdict verdicts.Twice verdicts.Twice c x e = one c.twice x e
with_verdict verdicts.Span verdicts.Span c x e = one c.span x e
with_verdict v w c x e = same (count_of v c) x e

-- and leaves the refusals as they were
refused_same : (w : Verdict) (c : Counts) → (one_more w c).refused ≡ c.refused
refused_same verdicts.Kept c = refl
refused_same verdicts.Stranger c = refl
refused_same verdicts.Exhausted c = refl
refused_same verdicts.Late c = refl
refused_same verdicts.Behind c = refl
refused_same verdicts.Early c = refl
refused_same verdicts.Twice c = refl
refused_same verdicts.Span c = refl

same_some : {A : Type 0} {x y : A} → Some x ≡ Some y → x ≡ y
same_some e = cc

abbrev media_step : ℕ → ℕ → Arrival → ReceiverStep
media_step link tick arrival = record { link = link; tick = tick; input = inputs.Media arrival }

media_counted : (v : Option Verdict) (what : What) (c : Counts) (limits : Limits) (h : List ReceiverStep) (link tick : ℕ) (arrival : Arrival) → v ≡ Some (verdict limits (buffer_history h) tick arrival) → AreCountsOf c limits h
    → AreCountsOf (counts_with v what c) limits (media_step link tick arrival ∷ h)
media_counted v what c limits h link tick arrival e a =
    let w : Verdict = verdict limits (buffer_history h) tick arrival in
    subst (λ o. AreCountsOf (counts_with o what c) limits (media_step link tick arrival ∷ h)) (sym e)
    (record {
      each = λ of. with_verdict of w c (verdict_count of limits h) (a.each of);
      refused = refused_same w c ∙ same c.refused (refused_count h) a.refused;
    })

-- a step without a verdict leaves the counts of verdicts as they were
silent_counted : (v : Option Verdict) (what : What) (c : Counts) (limits : Limits) (h : List ReceiverStep) (step : ReceiverStep) → v ≡ None
    → ((of : Verdict) → counted_verdict of limits h step.tick step.input ≡ 0) → ((of : Verdict) → count_of of (counts_after what c) ≡ count_of of c)
    → (counts_after what c).refused ≡ capped (refused_count h + counted_refusal step.input) → AreCountsOf c limits h
    → AreCountsOf (counts_with v what c) limits (step ∷ h)
silent_counted v what c limits h step e none kept refused a =
    subst (λ o. AreCountsOf (counts_with o what c) limits (step ∷ h)) (sym e)
    (record { each = λ of. omega (arith, a.each of, none of, kept of); refused = refused })

one_refused_keeps : (of : Verdict) (c : Counts) → count_of of (one_refused c) ≡ count_of of c
one_refused_keeps verdicts.Kept c = refl
one_refused_keeps verdicts.Stranger c = refl
one_refused_keeps verdicts.Exhausted c = refl
one_refused_keeps verdicts.Late c = refl
one_refused_keeps verdicts.Behind c = refl
one_refused_keeps verdicts.Early c = refl
one_refused_keeps verdicts.Twice c = refl
one_refused_keeps verdicts.Span c = refl

-- the counts of what is told, with the verdict that its step says
pub counted : (v : Option Verdict) (what : What) (c : Counts) (limits : Limits) (h : List ReceiverStep) (link tick us : ℕ) → SaysVerdictOn v limits (buffer_history h) tick (input_of us what) → AreCountsOf c limits h
    → AreCountsOf (counts_with v what c) limits (record { link = link; tick = tick; input = input_of us what } ∷ h)
counted v (Media arrival) c limits h link tick us e a = media_counted v (Media arrival) c limits h link tick (seen arrival) e a
counted v (Control compound) c limits h link tick us e a =
    silent_counted v (Control compound) c limits h (record { link = link; tick = tick; input = control_input us compound.now }) e (λ of. refl) (λ of. refl) (same c.refused (refused_count h) a.refused) a
counted v Keepalive c limits h link tick us e a =
    silent_counted v Keepalive c limits h (record { link = link; tick = tick; input = inputs.Keepalive }) e (λ of. refl) (λ of. refl) (same c.refused (refused_count h) a.refused) a
counted v Tick c limits h link tick us e a =
    silent_counted v Tick c limits h (record { link = link; tick = tick; input = inputs.Tick us }) e (λ of. refl) (λ of. refl) (same c.refused (refused_count h) a.refused) a
counted v End c limits h link tick us e a =
    silent_counted v End c limits h (record { link = link; tick = tick; input = inputs.End }) e (λ of. refl) (λ of. refl) (same c.refused (refused_count h) a.refused) a
counted v Refused c limits h link tick us e a =
    silent_counted v Refused c limits h (record { link = link; tick = tick; input = inputs.Refused }) e (λ of. refl) (λ of. one_refused_keeps of c) (one c.refused (refused_count h) a.refused) a

none_at : (v : Verdict) → count_of v no_counts ≡ 0
none_at verdicts.Kept = refl
none_at verdicts.Stranger = refl
none_at verdicts.Exhausted = refl
none_at verdicts.Late = refl
none_at verdicts.Behind = refl
none_at verdicts.Early = refl
none_at verdicts.Twice = refl
none_at verdicts.Span = refl

pub none_counted : (limits : Limits) → AreCountsOf no_counts limits []
none_counted limits = record { each = λ v. none_at v; refused = refl }

-- ---- packets that had been sent again

raised : (b : Bool) (n x : ℕ) → n ≡ capped x → (if b then capped (n + 1) else n) ≡ capped (x + (if b then 1 else 0))
raised true n x e = one n x e
raised false n x e = same n x e

media_recovered : (v : Option Verdict) (n : ℕ) (limits : Limits) (h : List ReceiverStep) (link tick : ℕ) (arrival : Offered) → v ≡ Some (verdict limits (buffer_history h) tick (seen arrival)) → n ≡ capped (recovered_count limits h)
    → recovered_with v (Media arrival) n ≡ capped (recovered_count limits (media_step link tick (seen arrival) ∷ h))
media_recovered v n limits h link tick arrival e is =
    ap (λ (o : Option Verdict). recovered_with o (Media arrival) n) e
    ∙ raised (is_kept (verdict limits (buffer_history h) tick (seen arrival)) && arrival.again) n (recovered_count limits h) is

silent_recovered : (v : Option Verdict) (what : What) (n x : ℕ) → v ≡ None → n ≡ capped x → recovered_with v what n ≡ capped (x + 0)
silent_recovered v what n x e is = ap (λ (o : Option Verdict). recovered_with o what n) e ∙ same n x is

-- those of what is told, with the verdict that its step says
pub recovered : (v : Option Verdict) (what : What) (n : ℕ) (limits : Limits) (h : List ReceiverStep) (link tick us : ℕ) → SaysVerdictOn v limits (buffer_history h) tick (input_of us what) → n ≡ capped (recovered_count limits h)
    → recovered_with v what n ≡ capped (recovered_count limits (record { link = link; tick = tick; input = input_of us what } ∷ h))
recovered v (Media arrival) n limits h link tick us e is = media_recovered v n limits h link tick arrival e is
recovered v (Control compound) n limits h link tick us e is = silent_recovered v (Control compound) n (recovered_count limits h) e is
recovered v Keepalive n limits h link tick us e is = silent_recovered v Keepalive n (recovered_count limits h) e is
recovered v Refused n limits h link tick us e is = silent_recovered v Refused n (recovered_count limits h) e is
recovered v Tick n limits h link tick us e is = silent_recovered v Tick n (recovered_count limits h) e is
recovered v End n limits h link tick us e is = silent_recovered v End n (recovered_count limits h) e is

-- ---- numbers that were asked for

pub asked_more : (asked more now x y : ℕ) → now ≡ capped (asked + more) → asked ≡ capped x → y ≡ x + more → now ≡ capped y
asked_more asked more now x y is before then_ = omega (arith, is, before, then_)
