-- What was a copy of what was sent stays one where more is sent.
use Rattle.std.proofs.Common.{◌≡◌, ◌∙◌, ℕ, suc, ◌+◌, ◌<◌, Bool, true, false, List, [], ◌∷◌, length, refl, sym, ap, subst, arith}
use Rattle.std.specs.Prelude.{nat_le, nat_lt, ◌==◌, ◌&&◌, ◌||◌, if◌then◌else◌}
use Rattle.std.proofs.lemmas.Bool.{ne_eqb, ltb-true, lt-leb}
use Rattle.std.proofs.lemmas.Bool.Decides.{nat_tests}
use Rattle.seq_unwrap.specs.declared.width.Width.{Width}
use Rattle.receiver_rules.specs.Steps.{Arrival, Event, Media, TimeOnly, End, Step}
use Rattle.receiver_rules.specs.Sent.{copy_of}
use Rattle.world_rules.specs.SentFlows.{SentPayload, SentFlow, is_known, tick_at, payload_at, stream_in, stream_of, was_sent, IsCopy, BringsCopy, BringCopies}

-- what was sent stays as it is
pub record Grows (width : Width) (old new : List SentFlow) : Type 0 where
  pub sends : (flow n : ℕ) → was_sent old flow n ≡ true → was_sent new flow n ≡ true
  pub same : (flow n : ℕ) (again : Bool) → was_sent old flow n ≡ true → copy_of (stream_of width new flow) n again ≡ copy_of (stream_of width old flow) n again

pub grows_not : (width : Width) (flows : List SentFlow) → Grows width flows flows
grows_not width flows = record { sends = λ flow n is. is; same = λ flow n again is. refl }

both : (a b : Bool) → (a && b) ≡ true → (a ≡ true) × (b ≡ true)
both true true e = (refl, refl)
both true false e = cc
both false b e = cc

-- ---- one more payload

below_then : (first count n : ℕ) → (nat_le first n && nat_lt n (first + count)) ≡ true → (nat_le first n && nat_lt n (first + suc count)) ≡ true
below_then first count n is = grind (arith, nat_tests)

not_last : (first count n : ℕ) → (nat_le first n && nat_lt n (first + count)) ≡ true → (nat_le (first + count) n ≡ false) × ((n == first + count) ≡ false)
not_last first count n is =
    let lt : n < first + count = ltb-true _ _ (both (nat_le first n) (nat_lt n (first + count)) is).1 in
    (lt-leb _ _ lt, ne_eqb _ _ (λ e. omega (arith, lt, e)))

tick_stays : (first : ℕ) (p : SentPayload) (sent : List SentPayload) (n : ℕ) → nat_le (first + length sent) n ≡ false → tick_at first (p ∷ sent) n ≡ tick_at first sent n
tick_stays first p sent n is = ap (λ (c : Bool). if c then p.tick else tick_at first sent n) is

payload_stays : (first : ℕ) (p : SentPayload) (sent : List SentPayload) (n : ℕ) → (n == first + length sent) ≡ false → payload_at first (p ∷ sent) n ≡ payload_at first sent n
payload_stays first p sent n is = ap (λ (c : Bool). if c then p.payload else payload_at first sent n) is

pub grows_sent : (width : Width) (p : SentPayload) (f : SentFlow) (fs : List SentFlow) → Grows width (f ∷ fs) (record { flow = f.flow; first = f.first; sent = p ∷ f.sent } ∷ fs)
grows_sent width p f fs = record { sends = sends; same = same }
  where
    sends : (flow n : ℕ) → was_sent (f ∷ fs) flow n ≡ true → was_sent (record { flow = f.flow; first = f.first; sent = p ∷ f.sent } ∷ fs) flow n ≡ true
    sends flow n = elim (f.flow == flow) as (λ (c : Bool). (if c then nat_le f.first n && nat_lt n (f.first + length f.sent) else was_sent fs flow n) ≡ true
        → (if c then nat_le f.first n && nat_lt n (f.first + length (p ∷ f.sent)) else was_sent fs flow n) ≡ true) [
          | true ↦ λ is. below_then f.first (length f.sent) n is
          | false ↦ λ is. is
        ]

    same : (flow n : ℕ) (again : Bool) → was_sent (f ∷ fs) flow n ≡ true
        → copy_of (stream_of width (record { flow = f.flow; first = f.first; sent = p ∷ f.sent } ∷ fs) flow) n again ≡ copy_of (stream_of width (f ∷ fs) flow) n again
    same flow n again = elim (f.flow == flow) as (λ (c : Bool). (if c then nat_le f.first n && nat_lt n (f.first + length f.sent) else was_sent fs flow n) ≡ true
        → copy_of (if c then stream_in width (record { flow = f.flow; first = f.first; sent = p ∷ f.sent }) else stream_of width fs flow) n again
        ≡ copy_of (if c then stream_in width f else stream_of width fs flow) n again) [
          | true ↦ λ is.
              let other = not_last f.first (length f.sent) n is in
              let t = tick_stays f.first p f.sent n other.0 in
              let q = payload_stays f.first p f.sent n other.1 in
              rw (t, q) refl
          | false ↦ λ is. refl
        ]

-- ---- one more flow

sent_known : (fs : List SentFlow) (flow n : ℕ) → was_sent fs flow n ≡ true → is_known fs flow ≡ true
sent_known [] flow n = λ is. cc
sent_known (f ∷ fs) flow n =
    elim (f.flow == flow) as (λ (c : Bool). (if c then nat_le f.first n && nat_lt n (f.first + length f.sent) else was_sent fs flow n) ≡ true → (c || is_known fs flow) ≡ true) [
      | true ↦ λ is. refl
      | false ↦ λ is. sent_known fs flow n is
    ]

other_flow : (f : SentFlow) (fs : List SentFlow) (flow n : ℕ) → is_known fs f.flow ≡ false → was_sent fs flow n ≡ true → (f.flow == flow) ≡ false
other_flow f fs flow n new is =
    ne_eqb _ _ (λ (e : f.flow ≡ flow). absurd (cc (sent_known fs flow n is, subst (λ k. is_known fs k ≡ false) e new)))

pub grows_flow : (width : Width) (f : SentFlow) (fs : List SentFlow) → is_known fs f.flow ≡ false → Grows width fs (f ∷ fs)
grows_flow width f fs new = record {
  sends = λ flow n is. ap (λ (c : Bool). if c then nat_le f.first n && nat_lt n (f.first + length f.sent) else was_sent fs flow n) (other_flow f fs flow n new is) ∙ is;
  same = λ flow n again is. ap (λ (c : Bool). copy_of (if c then stream_in width f else stream_of width fs flow) n again) (other_flow f fs flow n new is);
}

-- ---- copies

pub copy_grows : (width : Width) (old new : List SentFlow) (a : Arrival) → Grows width old new → IsCopy width old a → IsCopy width new a
copy_grows width old new a g c = record { number = c.number; sends = g.sends a.flow c.number c.sends; is = c.is ∙ sym (g.same a.flow c.number a.again c.sends) }

pub brings_grows : (width : Width) (old new : List SentFlow) (event : Event) → Grows width old new → BringsCopy width old event → BringsCopy width new event
brings_grows width old new (Media a) g b = copy_grows width old new a g b
brings_grows width old new TimeOnly g b = b
brings_grows width old new End g b = b

pub all_grow : (width : Width) (old new : List SentFlow) (history : List Step) → Grows width old new → BringCopies width old history → BringCopies width new history
all_grow width old new [] g b = b
all_grow width old new (step ∷ before) g b = (brings_grows width old new step.event g b.0, all_grow width old new before g b.1)
