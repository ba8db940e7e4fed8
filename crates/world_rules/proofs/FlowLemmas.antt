-- Numbers and timestamps of sent flows.
use Rattle.std.proofs.Common.{◌≡◌, ◌∙◌, ℕ, ◌+◌, ◌/◌, ◌^◌, ◌<◌, ◌≤◌, Bool, true, false, List, [], ◌∷◌, ◌++◌, length, refl, sym, ap, subst, arith, length-append}
use Rattle.std.specs.Prelude.{nat_le, nat_lt, ◌==◌, ◌&&◌, if◌then◌else◌}
use Rattle.std.proofs.lemmas.Bool.{eqb-true, eq-eqb, ne_eqb, leb-true, leb-false, ltb-true}
use Rattle.std.proofs.lemmas.Bool.Decides.{nat_tests}
use Rattle.seq_unwrap.specs.declared.width.Width.{Width}
use Rattle.seq_unwrap.specs.declared.width.Width.TheVariants.{W16, W32}
use Rattle.seq_unwrap.specs.Nearest.{cycle_of}
use Rattle.receiver_rules.specs.Sent.{HasSteadyTimestamps}
use Rattle.world_rules.specs.SentFlows.{SentPayload, SentFlow, tick_at, stream_in, stream_of, was_sent, AreSteady, IsShortFlow, AreShortFlows}
use Rattle.world_rules.specs.Reached.{flow_in}

-- ---- ticks

-- the tick of the last payload, whatever the first number is
last_tick : (first : ℕ) (sent : List SentPayload) (n : ℕ) → first + length sent ≤ n + 1 → tick_at first sent n ≡ tick_at 0 sent (length sent)
last_tick first [] n h = refl
last_tick first (p ∷ before) n h = grind (arith, nat_tests)

-- no tick is above that of the last
tick_most : (low first : ℕ) (sent : List SentPayload) (n : ℕ) → AreSteady low sent → tick_at first sent n ≤ tick_at 0 sent (length sent)
tick_most low first [] n a = omega arith
tick_most low first (p ∷ before) n a =
    let rest = tick_most low first before n a.1 in
    let top = a.0.rises in
    grind (arith, nat_tests)

pub tick_steady : (low first : ℕ) (sent : List SentPayload) (m n : ℕ) → AreSteady low sent → m ≤ n → tick_at first sent m ≤ tick_at first sent n
tick_steady low first [] m n a le = omega arith
tick_steady low first (p ∷ before) m n a le =
    let rest = tick_steady low first before m n a.1 le in
    let most = tick_most low first before m a.1 in
    let top = a.0.rises in
    grind (arith, nat_tests)

tick_within : (low first : ℕ) (sent : List SentPayload) (n : ℕ) → AreSteady low sent → first ≤ n → n < first + length sent
    → (low ≤ tick_at first sent n) × (tick_at first sent n < low + 2 ^ 31)
tick_within low first [] n a le lt = absurd (omega arith)
tick_within low first (p ∷ before) n a le lt =
    elim (nat_le (first + length before) n) as (λ (c : Bool). nat_le (first + length before) n ≡ c
    → (low ≤ (if c then p.tick else tick_at first before n)) × ((if c then p.tick else tick_at first before n) < low + 2 ^ 31)) [
      | true ↦ λ is. (a.0.low, a.0.high)
      | false ↦ λ is. tick_within low first before n a.1 le (leb-false _ _ is)
    ] refl

-- ---- streams

pub stream_flow : (width : Width) (sent : List SentFlow) (flow : ℕ) → (stream_of width sent flow).flow ≡ flow
stream_flow width [] flow = refl
stream_flow width (f ∷ fs) flow =
    elim (f.flow == flow) as (λ (c : Bool). (f.flow == flow) ≡ c → (if c then stream_in width f else stream_of width fs flow).flow ≡ flow) [
      | true ↦ λ is. eqb-true _ _ is
      | false ↦ λ is. stream_flow width fs flow
    ] refl

pub stream_width : (width : Width) (sent : List SentFlow) (flow : ℕ) → (stream_of width sent flow).width ≡ width
stream_width width [] flow = refl
stream_width width (f ∷ fs) flow =
    elim (f.flow == flow) as (λ (c : Bool). (if c then stream_in width f else stream_of width fs flow).width ≡ width) [
      | true ↦ refl
      | false ↦ stream_width width fs flow
    ]

pub stream_steady : (width : Width) (low : ℕ) (sent : List SentFlow) (flow : ℕ) → AreShortFlows width low sent → HasSteadyTimestamps (stream_of width sent flow)
stream_steady width low [] flow a = λ m n le. omega arith
stream_steady width low (f ∷ fs) flow a =
    elim (f.flow == flow) as (λ (c : Bool). HasSteadyTimestamps (if c then stream_in width f else stream_of width fs flow)) [
      | true ↦ λ m n le. tick_steady low f.first f.sent m n a.0.steady le
      | false ↦ stream_steady width low fs flow a.1
    ]

-- the numbers that were sent of a flow lie side by side, and their ticks near one another
pub record HasSpan (width : Width) (low : ℕ) (sent : List SentFlow) (flow : ℕ) : Type 0 where
  pub first : ℕ
  pub count : ℕ
  pub few : count < cycle_of width / 2
  pub inside : (n : ℕ) → was_sent sent flow n ≡ true → (first ≤ n) × (n < first + count)
  pub ticks : (n : ℕ) → first ≤ n → n < first + count
      → (low ≤ (stream_of width sent flow).timestamp n) × ((stream_of width sent flow).timestamp n < low + 2 ^ 31)

both : (a b : Bool) → (a && b) ≡ true → (a ≡ true) × (b ≡ true)
both true true e = (refl, refl)
both true false e = cc
both false b e = cc

some_half : (width : Width) → 0 < cycle_of width / 2
some_half W16 = omega arith
some_half W32 = omega arith

span-in : (width : Width) (low : ℕ) (f : SentFlow) (fs : List SentFlow) (flow : ℕ) (c : Bool) → (f.flow == flow) ≡ c → IsShortFlow width low f → HasSpan width low fs flow
    → HasSpan width low (f ∷ fs) flow
span-in width low f fs flow true is short rest =
    record {
      first = f.first;
      count = length f.sent;
      few = short.few;
      inside = λ n e.
          let h : (nat_le f.first n && nat_lt n (f.first + length f.sent)) ≡ true = sym (ap (λ (c : Bool). if c then nat_le f.first n && nat_lt n (f.first + length f.sent) else was_sent fs flow n) is) ∙ e in
          let t = both (nat_le f.first n) (nat_lt n (f.first + length f.sent)) h in
          (leb-true _ _ t.0, ltb-true _ _ t.1);
      ticks = λ n le lt.
          subst (λ (c : Bool). (low ≤ (if c then stream_in width f else stream_of width fs flow).timestamp n) × ((if c then stream_in width f else stream_of width fs flow).timestamp n < low + 2 ^ 31)) (sym is)
          (tick_within low f.first f.sent n short.steady le lt);
    }
span-in width low f fs flow false is short rest =
    record {
      first = rest.first;
      count = rest.count;
      few = rest.few;
      inside = λ n e. rest.inside n (sym (ap (λ (c : Bool). if c then nat_le f.first n && nat_lt n (f.first + length f.sent) else was_sent fs flow n) is) ∙ e);
      ticks = λ n le lt.
          subst (λ (c : Bool). (low ≤ (if c then stream_in width f else stream_of width fs flow).timestamp n) × ((if c then stream_in width f else stream_of width fs flow).timestamp n < low + 2 ^ 31)) (sym is)
          (rest.ticks n le lt);
    }

pub span : (width : Width) (low : ℕ) (sent : List SentFlow) (flow : ℕ) → AreShortFlows width low sent → HasSpan width low sent flow
span width low [] flow a =
    record { first = 0; count = 0; few = some_half width; inside = λ n e. cc; ticks = λ n le lt. absurd (omega arith) }
span width low (f ∷ fs) flow a = span-in width low f fs flow (f.flow == flow) refl a.0 (span width low fs flow a.1)

-- ---- the flows of epochs

-- the flow of an epoch is that which was told when it opened
pub flow_at : (more : List ℕ) (flow : ℕ) (flows : List ℕ) → flow_in (more ++ flow ∷ flows) (length flows) ≡ flow
flow_at [] flow flows = ap (λ (c : Bool). if c then flow else flow_in flows (length flows)) (eq-eqb (length flows) (length flows) refl)
flow_at (m ∷ more) flow flows =
    let other : (length flows == length (more ++ flow ∷ flows)) ≡ false = ne_eqb _ _ (λ e. omega (arith, e, length-append more (flow ∷ flows))) in
    ap (λ (c : Bool). if c then m else flow_in (more ++ flow ∷ flows) (length flows)) other ∙ flow_at more flow flows
