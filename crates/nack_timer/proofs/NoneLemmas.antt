-- Where nothing was kept nothing is asked for.
use Rattle.std.proofs.Common.{◌≡◌, ℕ, true, List, [], ◌∷◌, ◌++◌, map, Option, Some, None, option_map, refl, sym, ap, ◌∙◌, arith}
use Rattle.std.specs.List.{filter}
use Rattle.receiver_rules.specs.declared.limits.Limits.{Limits}
use Rattle.receiver_rules.specs.declared.anchor.Anchor.{Anchor}
use Rattle.receiver_rules.specs.Packets.{Packet, Moment, highest_of}
use Rattle.receiver_rules.specs.ReceiverSteps.{buffer_event}
use Rattle.receiver_rules.specs.Epochs.{epochs_of, epochs_after, newest_accepted}
use Rattle.receiver_rules.specs.History.{anchor_of, accepted_packets}
use Rattle.request_rules.specs.declared.policy.Policy.{Policy}
use Rattle.request_rules.specs.declared.policy.NackKind.{NackKind}
use Rattle.request_rules.specs.declared.policy.NackKind.TheVariants.{Range, Mask}
use Rattle.request_rules.specs.Steps.{Input, Media, Control, Keepalive, Refused, Tick, End, Step, buffer_history, receiver_input, effective_time, longest_rtt}
use Rattle.request_rules.specs.Words.{words_for, asked_numbers}
use Rattle.request_rules.specs.Missing.{missing_among, moment_at, is_passed, found_time}
use Rattle.request_rules.specs.Requests.{Request, request_times, requests_of, requests_after, is_due, asked_words}
use Rattle.request_rules.specs.Requests.{request_at}
use Rattle.nack_timer.specs.declared.entry.Missing.{Missing}
use Rattle.nack_timer.specs.State.{TimerState, AreRising, high_or}
use Rattle.nack_timer.specs.Steps.{tick_step}
use Rattle.nack_timer.specs.TimerAfter.{AreEntriesOf, IsTimerAfter}

pub none_kept : (ps : List Packet) → highest_of ps ≡ None → ps ≡ []
none_kept [] e = refl
none_kept (p ∷ ps) e = absurd cc

none_missing : (limits : Limits) (o : Option Anchor) (m : Moment) → missing_among limits o [] m None ≡ []
none_missing limits None m = refl
none_missing limits (Some a) m = refl

none_for : (kind : NackKind) → words_for kind 64 [] ≡ []
none_for Range = refl
none_for Mask = refl

none_named : (kind : NackKind) → asked_numbers kind [] ≡ []
none_named Range = refl
none_named Mask = refl

none_asked : (limits : Limits) (policy : Policy) (before : List Step) (at : ℕ) → accepted_packets limits (buffer_history before) ≡ [] → asked_words limits policy before at ≡ []
none_asked limits policy before at none =
    ap (λ xs. words_for policy.kind 64 (filter (λ x. is_due policy (longest_rtt 16 before) at (found_time limits (buffer_history before) x) (request_times (requests_of limits policy before) x)) xs))
    (ap (λ ps. missing_among limits (anchor_of limits (buffer_history before)) ps (moment_at (buffer_history before) at) (highest_of ps)) none ∙ none_missing limits (anchor_of limits (buffer_history before)) (moment_at (buffer_history before) at))
    ∙ none_for policy.kind

none_after : (limits : Limits) (policy : Policy) (before : List Step) (t : ℕ) (input : Input) → (epochs_of limits (buffer_history before) ≡ [] → requests_of limits policy before ≡ [])
    → epochs_after limits (epochs_of limits (buffer_history before)) t (buffer_event (receiver_input input)) ≡ [] → requests_after limits policy before (requests_of limits policy before) t input ≡ []
none_after limits policy before t (Media arrival) given e = cc
none_after limits policy before t (Control sample request) given e = given e
none_after limits policy before t Keepalive given e = given e
none_after limits policy before t Refused given e = given e
none_after limits policy before t (Tick micros) given e =
    ap (λ ws. map (λ x. request_at x t) (asked_numbers policy.kind ws) ++ requests_of limits policy before) (none_asked limits policy before t (ap newest_accepted e))
    ∙ ap (λ ns. map (λ x. request_at x t) ns ++ requests_of limits policy before) (none_named policy.kind)
    ∙ given e
none_after limits policy before t End given e = given e

-- before the first epoch nothing was asked for
pub none_requested : (limits : Limits) (policy : Policy) (history : List Step) → epochs_of limits (buffer_history history) ≡ [] → requests_of limits policy history ≡ []
none_requested limits policy [] e = refl
none_requested limits policy (step ∷ before) e = none_after limits policy before (effective_time (step ∷ before)) step.input (none_requested limits policy before) e

no_entries : (found : ℕ → ℕ) (requests : List Request) (low high : ℕ) (es : List Missing) → high ≡ 0 → AreRising low high es → AreEntriesOf found requests es
no_entries found requests low high [] e h = tt
no_entries found requests low high (m ∷ ms) e h = absurd (omega (arith, e, h.1))

pub none_stands : (limits : Limits) (t : TimerState) (before : List Step) (link tick micros at : ℕ) → IsTimerAfter t limits before → AreRising 0 (high_or t.high) t.missing → accepted_packets limits (buffer_history before) ≡ []
    → ([] ≡ asked_words limits t.policy before at) × IsTimerAfter t limits (tick_step link tick micros ∷ before)
none_stands limits t before link tick micros at s order none =
    let now = effective_time (tick_step link tick micros ∷ before) in
    let no_words : asked_words limits t.policy before now ≡ [] = none_asked limits t.policy before now none in
    let same : requests_of limits t.policy (tick_step link tick micros ∷ before) ≡ requests_of limits t.policy before =
    ap (λ ws. map (λ x. request_at x now) (asked_numbers t.policy.kind ws) ++ requests_of limits t.policy before) no_words in
    let nothing : high_or t.high ≡ 0 = ap high_or s.high ∙ ap (λ ps. high_or (option_map (λ h. h.number) (highest_of ps))) none in (
      sym (none_asked limits t.policy before at none),
      record {
        span = s.span;
        high = s.high;
        order = s.order;
        entries = no_entries (found_time limits (buffer_history (tick_step link tick micros ∷ before))) (requests_of limits t.policy (tick_step link tick micros ∷ before)) 0 (high_or t.high) t.missing nothing order;
        keeps = λ x l. absurd (not_passed x (ap (λ ps. is_passed ps x) (sym none) ∙ l.passed));
        unasked = λ x le. ap (λ r. request_times r x) same ∙ s.unasked x le;
        started = s.started;
      },
    )
  where
    not_passed : (x : ℕ) → is_passed [] x ≡ true → ⊥
    not_passed x e = cc

-- a value whose number is known
pub record IsSomeOf {X : Type 0} (f : X → ℕ) (o : Option X) (n : ℕ) : Type 0 where
  pub value : X
  pub is : o ≡ Some value
  pub number : f value ≡ n

pub some_of : {X : Type 0} (f : X → ℕ) (o : Option X) (n : ℕ) → option_map f o ≡ Some n → IsSomeOf f o n
some_of f None n e = absurd cc
some_of f (Some x) n e = record { value = x; is = refl; number = inside e }
  where
    inside : {m k : ℕ} → Some m ≡ Some k → m ≡ k
    inside g = cc

pub none_of : {X : Type 0} (f : X → ℕ) (o : Option X) → option_map f o ≡ None → o ≡ None
none_of f None e = refl
none_of f (Some x) e = absurd cc
