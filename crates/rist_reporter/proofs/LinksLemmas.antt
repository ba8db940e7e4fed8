-- The entries of the links after one more step.
use Rattle.std.proofs.Common.{◌≡◌, ◌≢◌, ℕ, zero, suc, ◌<◌, ◌≤◌, Bool, true, false, cond, ◌&&◌, List, ◌∷◌, length, Option, Some, None, refl, sym, ap, subst, ◌∙◌, arith, nat_eq, slice_set, inl, inr}
use Rattle.std.specs.Prelude.{◌⊎◌, ◌==◌, if◌then◌else◌}
use Rattle.std.proofs.lemmas.Bool.{eq-eqb, ne_eqb}
use Rattle.std.proofs.lemmas.Bool.Decides.{eqb_tells}
use Rattle.std.proofs.lemmas.List.{get_or-set_same, get_or-set_other, length-set}
use Rattle.rtcp_compound.specs.Compound.{Content}
use Rattle.rist_rtt.specs.Echo.{EchoOf, echoes_in}
use Rattle.rist_rtt.specs.Echo.{first_response}
use Rattle.rist_rtt.specs.Echo.{first_request}
use Rattle.request_rules.specs.Steps.{Control, Step, effective_time, rtt_of, rtt_after, longer, longest_rtt, sample_at}
use Rattle.request_rules.specs.Requests.{has_passed}
use Rattle.link_channels.specs.Intervals.{has_passed_since}
use Rattle.request_rules.proofs.KeptLemmas.{passed_since}
use Rattle.nack_timer.specs.Steps.{tick_step}
use Rattle.link_channels.specs.Intervals.{report_interval}
use Rattle.link_channels.specs.Intervals.{keepalive_interval}
use Rattle.rist_reporter.specs.When.{is_tick, times_each}
use Rattle.rist_reporter.specs.Links.{LinksState, newest, entry_at, AreLinksAfter, longest_of}
use Rattle.rist_reporter.specs.OneMore.{control_step}
use Rattle.rist_reporter.specs.Inside.Noted.{noted, with_sample, sampled}
use Rattle.rist_reporter.specs.Inside.Changes.{links_sampled}

-- ---- steps that are no ticks

both_same : {X : Type 0} (b : Bool) (x : X) → cond b x x ≡ x
both_same true x = refl
both_same false x = refl

never : (b h : Bool) (xs ys : List ℕ) → cond ((b && false) && h) xs ys ≡ ys
never true h xs ys = refl
never false h xs ys = refl

pub times_same : (interval link : ℕ) (step : Step) (before : List Step) → is_tick step.input ≡ false → times_each interval link (step ∷ before) ≡ times_each interval link before
times_same interval link step before e =
    let t = effective_time (step ∷ before) in
    let times = times_each interval link before in
    ap (λ (k : Bool). if ((step.link == link) && k) && has_passed interval t times then t ∷ times else times) e
    ∙ never (step.link == link) (has_passed interval t times) (t ∷ times) times

-- a step that is neither a tick nor a compound
pub links_same : (l : LinksState) (before : List Step) (step : Step) → is_tick step.input ≡ false → ((rtt : Option ℕ) → rtt_after rtt step.input ≡ rtt) → AreLinksAfter l before → AreLinksAfter l (step ∷ before)
links_same l before step silent same a = record {
  sixteen = a.sixteen;
  rtts = λ link below. a.rtts link below ∙ sym (ap (λ (x : Option ℕ). if step.link == link then x else rtt_of link before) (same (rtt_of link before)) ∙ both_same (step.link == link) (rtt_of link before));
  reports = λ link below. a.reports link below ∙ ap newest (sym (times_same report_interval link step before silent));
  keepalives = λ link below. a.keepalives link below ∙ ap newest (sym (times_same keepalive_interval link step before silent));
}

-- ---- ticks

abbrev IsEntries : ℕ → List (Option ℕ) → List Step → Type 0
IsEntries interval entries history = (link : ℕ) → link < 16 → entry_at entries link ≡ newest (times_each interval link history)

noted_here : (interval at k tick micros : ℕ) (entries : List (Option ℕ)) (before : List Step) → k < length entries → effective_time (tick_step k tick micros ∷ before) ≡ at
    → entry_at entries k ≡ newest (times_each interval k before) → entry_at (noted interval at k entries) k ≡ newest (times_each interval k (tick_step k tick micros ∷ before))
noted_here interval at k tick micros entries before room time is =
    let t = effective_time (tick_step k tick micros ∷ before) in
    let times = times_each interval k before in
    let passed : has_passed_since interval at (entry_at entries k) ≡ has_passed interval t times =
    passed_since interval at times (entry_at entries k) is ∙ ap (λ (x : ℕ). has_passed interval x times) (sym time) in
    let mine : times_each interval k (tick_step k tick micros ∷ before) ≡ (if has_passed interval t times then t ∷ times else times) =
    ap (λ (b : Bool). if (b && true) && has_passed interval t times then t ∷ times else times) (eq-eqb k k refl) in
    let chosen : (c : Bool) → entry_at (if c then slice_set entries k (Some at) else entries) k ≡ newest (if c then t ∷ times else times) =
    λ c. elim c as (λ c. entry_at (if c then slice_set entries k (Some at) else entries) k ≡ newest (if c then t ∷ times else times)) [
      | true ↦ get_or-set_same entries k (Some at) None room ∙ ap Some (sym time)
      | false ↦ is
    ] in
    ap (λ (c : Bool). entry_at (if c then slice_set entries k (Some at) else entries) k) passed ∙ chosen (has_passed interval t times) ∙ ap newest (sym mine)

noted_there : (interval at k link tick micros : ℕ) (entries : List (Option ℕ)) (before : List Step) → k ≢ link
    → entry_at entries link ≡ newest (times_each interval link before) → entry_at (noted interval at k entries) link ≡ newest (times_each interval link (tick_step k tick micros ∷ before))
noted_there interval at k link tick micros entries before apart is =
    let t = effective_time (tick_step k tick micros ∷ before) in
    let times = times_each interval link before in
    let other : times_each interval link (tick_step k tick micros ∷ before) ≡ times =
    ap (λ (b : Bool). if (b && true) && has_passed interval t times then t ∷ times else times) (ne_eqb k link apart) in
    let chosen : (c : Bool) → entry_at (if c then slice_set entries k (Some at) else entries) link ≡ entry_at entries link =
    λ c. elim c as (λ c. entry_at (if c then slice_set entries k (Some at) else entries) link ≡ entry_at entries link) [
      | true ↦ get_or-set_other entries k link (Some at) None (λ e. apart (sym e))
      | false ↦ refl
    ] in
    chosen (has_passed_since interval at (entry_at entries k)) ∙ is ∙ ap newest (sym other)

noted_entries : (interval at k tick micros : ℕ) (entries : List (Option ℕ)) (before : List Step) → k < 16 → length entries ≡ 16 → effective_time (tick_step k tick micros ∷ before) ≡ at
    → IsEntries interval entries before → IsEntries interval (noted interval at k entries) (tick_step k tick micros ∷ before)
noted_entries interval at k tick micros entries before here size time is link below = by_link (eqb_tells k link)
  where
    by_link : ((nat_eq k link ≡ true) × (k ≡ link)) ⊎ ((nat_eq k link ≡ false) × (k ≢ link)) → entry_at (noted interval at k entries) link ≡ newest (times_each interval link (tick_step k tick micros ∷ before))
    by_link (inl e) = subst (λ (n : ℕ). entry_at (noted interval at k entries) n ≡ newest (times_each interval n (tick_step k tick micros ∷ before))) e.1
        (noted_here interval at k tick micros entries before (omega (arith, here, size)) time (is k here))
    by_link (inr e) = noted_there interval at k link tick micros entries before e.1 (is link below)

noted_size : (interval at k : ℕ) (entries : List (Option ℕ)) → length (noted interval at k entries) ≡ length entries
noted_size interval at k entries =
    elim (has_passed_since interval at (entry_at entries k)) as (λ c. length (if c then slice_set entries k (Some at) else entries) ≡ length entries) [
      | true ↦ length-set entries k (Some at)
      | false ↦ refl
    ]

pub links_ticked : (l : LinksState) (before : List Step) (at k tick micros : ℕ) → k < 16 → effective_time (tick_step k tick micros ∷ before) ≡ at → AreLinksAfter l before
    → AreLinksAfter (record l { reports = noted report_interval at k l.reports; keepalives = noted keepalive_interval at k l.keepalives }) (tick_step k tick micros ∷ before)
links_ticked l before at k tick micros here time a = record {
  sixteen = record { rtts = a.sixteen.rtts; reports = noted_size report_interval at k l.reports ∙ a.sixteen.reports; keepalives = noted_size keepalive_interval at k l.keepalives ∙ a.sixteen.keepalives };
  rtts = λ link below. a.rtts link below ∙ sym (both_same (k == link) (rtt_of link before));
  reports = noted_entries report_interval at k tick micros l.reports before here a.sixteen.reports time a.reports;
  keepalives = noted_entries keepalive_interval at k tick micros l.keepalives before here a.sixteen.keepalives time a.keepalives;
}

-- ---- compounds

after_control : (rtt sample : Option ℕ) (request : Option EchoOf) → rtt_after rtt (Control sample request) ≡ with_sample rtt sample
after_control rtt None request = refl
after_control rtt (Some sample) request = refl

abbrev AreRtts : List (Option ℕ) → List Step → Type 0
AreRtts rtts history = (link : ℕ) → link < 16 → entry_at rtts link ≡ rtt_of link history

sampled_rtts : (k tick us : ℕ) (response : EchoOf) (request : Option EchoOf) (rtts : List (Option ℕ)) (before : List Step) → k < 16 → length rtts ≡ 16 → AreRtts rtts before
    → AreRtts (sampled k us response rtts) (record { link = k; tick = tick; input = Control (sample_at us (Some response)) request } ∷ before)
sampled_rtts k tick us response request rtts before here size is link below = by_link (eqb_tells k link)
  where
    by_link : ((nat_eq k link ≡ true) × (k ≡ link)) ⊎ ((nat_eq k link ≡ false) × (k ≢ link)) → entry_at (sampled k us response rtts) link ≡ rtt_of link (record { link = k; tick = tick; input = Control (sample_at us (Some response)) request } ∷ before)
    by_link (inl e) =
        let sample = sample_at us (Some response) in
        subst (λ (n : ℕ). entry_at (sampled k us response rtts) n ≡ rtt_of n (record { link = k; tick = tick; input = Control sample request } ∷ before)) e.1
        (get_or-set_same rtts k (with_sample (entry_at rtts k) sample) None (omega (arith, here, size))
        ∙ ap (λ o. with_sample o sample) (is k here)
        ∙ sym (after_control (rtt_of k before) sample request)
        ∙ sym (ap (λ (b : Bool). if b then rtt_after (rtt_of k before) (Control sample request) else rtt_of k before) (eq-eqb k k refl)))
    by_link (inr e) =
        let sample = sample_at us (Some response) in
        get_or-set_other rtts k link (with_sample (entry_at rtts k) sample) None (λ x. e.1 (sym x))
        ∙ is link below
        ∙ sym (ap (λ (b : Bool). if b then rtt_after (rtt_of link before) (Control sample request) else rtt_of link before) (ne_eqb k link e.1))

sampled_links : (l : LinksState) (before : List Step) (k tick us : ℕ) (response request : Option EchoOf) → k < 16 → AreLinksAfter l before
    → AreLinksAfter (links_sampled k us response l) (record { link = k; tick = tick; input = Control (sample_at us response) request } ∷ before)
sampled_links l before k tick us None request here a = links_same l before (record { link = k; tick = tick; input = Control None request }) refl (λ rtt. refl) a
sampled_links l before k tick us (Some response) request here a = record {
  sixteen = record { rtts = length-set l.rtts k (with_sample (entry_at l.rtts k) (sample_at us (Some response))) ∙ a.sixteen.rtts; reports = a.sixteen.reports; keepalives = a.sixteen.keepalives };
  rtts = sampled_rtts k tick us response request l.rtts before here a.sixteen.rtts a.rtts;
  reports = λ link below. a.reports link below ∙ ap newest (sym (times_same report_interval link (record { link = k; tick = tick; input = Control (sample_at us (Some response)) request }) before refl));
  keepalives = λ link below. a.keepalives link below ∙ ap newest (sym (times_same keepalive_interval link (record { link = k; tick = tick; input = Control (sample_at us (Some response)) request }) before refl));
}

pub links_heard : (l : LinksState) (before : List Step) (k tick us : ℕ) (packets : List Content) → k < 16 → AreLinksAfter l before
    → AreLinksAfter (links_sampled k us (first_response (echoes_in packets)) l) (control_step k tick us packets ∷ before)
links_heard l before k tick us packets here a = sampled_links l before k tick us (first_response (echoes_in packets)) (first_request (echoes_in packets)) here a

-- ---- the longest round-trip time

pub longest_is : (n : ℕ) (rtts : List (Option ℕ)) (before : List Step) → n ≤ 16 → AreRtts rtts before → longest_of n rtts ≡ longest_rtt n before
longest_is zero rtts before few is = refl
longest_is (suc n) rtts before few is =
    ap (λ o. longer o (longest_of n rtts)) (is n few) ∙ ap (longer (rtt_of n before)) (longest_is n rtts before (omega (arith, few)) is)
