-- What a tick makes, and what it leaves, against the history.
use Rattle.std.proofs.Common.{◌≡◌, ℕ, ◌<◌, Bool, true, false, ◌&&◌, ◌||◌, List, [], ◌∷◌, ◌++◌, length, Option, refl, sym, ap, subst, ◌∙◌, arith, option_map, is_err, Result, Ok, Err}
use Rattle.std.specs.Prelude.{if◌then◌else◌, IfOk}
use Rattle.rist_wire.specs.Writing.{pairs_left}
use Rattle.receiver_rules.specs.declared.limits.Limits.{Limits}
use Rattle.receiver_rules.specs.declared.anchor.Anchor.{Anchor}
use Rattle.receiver_rules.specs.Steps.{tick_of}
use Rattle.reorder_buffer.specs.State.{State}
use Rattle.reorder_buffer.specs.StateAfter.{Shows, IsStateAfter}
use Rattle.reorder_buffer.specs.declared.phase.Phase.TheVariants.{Open}
use Rattle.reorder_buffer.proofs.PhaseLemmas.{not_failed}
use Rattle.psk_seal.specs.declared.sealer.Spent.{Spent}
use Rattle.request_rules.specs.declared.word.AskWord.{AskWord}
use Rattle.request_rules.specs.Steps.{Step, Keepalive, buffer_history, effective_time, longest_rtt}
use Rattle.request_rules.specs.Requests.{asked_words, has_passed}
use Rattle.link_channels.specs.Intervals.{has_passed_since}
use Rattle.request_rules.proofs.KeptLemmas.{passed_since}
use Rattle.nack_timer.specs.Steps.{tick_step}
use Rattle.nack_timer.specs.OneMore as timer
use Rattle.nack_timer.proofs.OtherLemmas.{silent_stands}
use Rattle.link_channels.specs.Intervals.{report_interval}
use Rattle.link_channels.specs.Intervals.{keepalive_interval}
use Rattle.rist_reporter.specs.When.{times_each, is_report_due, is_keepalive_due}
use Rattle.rist_reporter.specs.Control.{ControlSettings, Datagram, Compound, Alive, is_any, flow_of, tick_packets, tick_compound, tick_keepalive, tick_datagrams, datagrams_of, words_made}
use Rattle.rist_reporter.specs.declared.out.Outs.{Outs}
use Rattle.rist_reporter.specs.declared.ticking.Due.{Due}
use Rattle.rist_reporter.specs.Links.{entry_at, longest_of}
use Rattle.rist_reporter.specs.Reporter.{ReporterState, is_main, settings_with, IsReporterAfter}
use Rattle.rist_reporter.specs.OneMore.{is_short, IsMade, AnswersAfter, step_answered}
use Rattle.rist_reporter.specs.Inside.Due.{datagrams_due, how_many, due_of, lacks_for}
use Rattle.rist_reporter.proofs.LinksLemmas.{links_same, longest_is}

-- ---- how many datagrams

pub same_any : (words : List AskWord) → timer.is_any words ≡ is_any words
same_any [] = refl
same_any (w ∷ ws) = refl

count_of : (a b : Bool) (x y : Datagram) → length ((if a then x ∷ [] else []) ++ (if b then y ∷ [] else [])) ≡ how_many a b
count_of true true x y = refl
count_of true false x y = refl
count_of false true x y = refl
count_of false false x y = refl

pub counted : (due : Due) (words : List AskWord) → length (datagrams_due due words) ≡ how_many (due.is_report || is_any words) due.is_keepalive
counted due words =
    count_of (due.is_report || is_any words) due.is_keepalive (Compound (tick_packets due.kind due.own due.is_report due.flow due.width words due.micros)) (Alive due.own)

-- what was found wanting
pub lacking : (is_muted : Bool) (left : Option ℕ) (datagrams : List Datagram) → lacks_for is_muted left datagrams ≡ true → (is_muted ≡ false) × (is_short left (length datagrams) ≡ true)
lacking true left datagrams e = absurd cc
lacking false left datagrams e = (refl, e)

-- ---- against the history

-- the datagrams of a tick, where they are made
pub made_is : (settings : ControlSettings) (before : List Step) (link tick micros : ℕ) → settings.is_muted ≡ false
    → datagrams_of settings before (tick_step link tick micros) ≡ tick_datagrams settings before link (effective_time (tick_step link tick micros ∷ before)) micros
made_is settings before link tick micros e =
    ap (λ (m : Bool). if m then [] else tick_datagrams settings before link (effective_time (tick_step link tick micros ∷ before)) micros) e

pub words_are : (settings : ControlSettings) (before : List Step) (link tick micros : ℕ) → settings.is_muted ≡ false
    → words_made settings before (tick_step link tick micros) ≡ asked_words settings.limits settings.policy before (effective_time (tick_step link tick micros ∷ before))
words_are settings before link tick micros e =
    ap (λ (m : Bool). if m then [] else asked_words settings.limits settings.policy before (effective_time (tick_step link tick micros ∷ before))) e

-- a reporter, its buffer and its history at a tick
pub record AtTick (r : ReporterState) (b : State) (before : List Step) (at link tick micros : ℕ) : Type 0 where
  pub reporter : IsReporterAfter r b.limits before
  pub buffer : IsStateAfter b (buffer_history (tick_step link tick micros ∷ before))
  pub running : b.phase ≡ Open
  pub clock : b.time ≡ at
  pub link_is : link < 16

module _ (r : ReporterState) (b : State) (before : List Step) (at link tick micros : ℕ) (k : AtTick r b before at link tick micros) where
  shows : Shows b (buffer_history (tick_step link tick micros ∷ before))
  shows = k.buffer (not_failed b.phase k.running)

  pub time_is : effective_time (tick_step link tick micros ∷ before) ≡ at
  time_is = sym shows.time ∙ k.clock

  pub flow_is : option_map (λ (a : Anchor). a.flow) b.anchor ≡ flow_of b.limits before
  flow_is = ap (option_map (λ (a : Anchor). a.flow)) shows.anchor

  pub rtt_is : longest_of 16 r.links.rtts ≡ longest_rtt 16 before
  rtt_is = longest_is 16 r.links.rtts before (omega arith) k.reporter.links.rtts

  report_is : has_passed_since report_interval at (entry_at r.links.reports link) ≡ is_report_due link before (effective_time (tick_step link tick micros ∷ before))
  report_is =
      passed_since report_interval at (times_each report_interval link before) (entry_at r.links.reports link) (k.reporter.links.reports link k.link_is)
      ∙ ap (λ (t : ℕ). has_passed report_interval t (times_each report_interval link before)) (sym time_is)

  keepalive_is : has_passed_since keepalive_interval at (entry_at r.links.keepalives link) ≡ is_keepalive_due link before (effective_time (tick_step link tick micros ∷ before))
  keepalive_is =
      passed_since keepalive_interval at (times_each keepalive_interval link before) (entry_at r.links.keepalives link) (k.reporter.links.keepalives link k.link_is)
      ∙ ap (λ (t : ℕ). has_passed keepalive_interval t (times_each keepalive_interval link before)) (sym time_is)

  pub due_is : (flow : Option ℕ) (words : List AskWord) → flow ≡ option_map (λ (a : Anchor). a.flow) b.anchor → words ≡ asked_words b.limits r.timer.policy before at
      → datagrams_due (due_of r at link micros flow) words ≡ tick_datagrams (settings_with b.limits r) before link (effective_time (tick_step link tick micros ∷ before)) micros
  due_is flow words flows asks =
      let f = flows ∙ flow_is in
      let w = asks ∙ ap (λ (t : ℕ). asked_words b.limits r.timer.policy before t) (sym time_is) in
      λ i. tick_compound r.timer.policy.kind r.own (report_is i) (f i) (k.reporter.width i) (w i) micros
      ++ tick_keepalive r.own (is_main r.shutter.session.profile && keepalive_is i)

  pub rtts_are : (rtt longest : ℕ) → rtt ≡ tick_of longest → longest ≡ longest_of 16 r.links.rtts → rtt ≡ tick_of (longest_rtt 16 before)
  rtts_are rtt longest e f = e ∙ ap tick_of (f ∙ rtt_is)

  -- the datagrams that are due are those of the step
  pub due_made : (due : Due) (flow : Option ℕ) (words : List AskWord) → due ≡ due_of r at link micros flow → flow ≡ option_map (λ (a : Anchor). a.flow) b.anchor → words ≡ asked_words b.limits r.timer.policy before at → r.is_muted ≡ false
      → datagrams_due due words ≡ datagrams_of (settings_with b.limits r) before (tick_step link tick micros)
  due_made due flow words e flows asks unmuted =
      ap (λ (d : Due). datagrams_due d words) e ∙ due_is flow words flows asks ∙ sym (made_is (settings_with b.limits r) before link tick micros unmuted)

  pub words_made_are : (words : List AskWord) → words ≡ asked_words b.limits r.timer.policy before at → r.is_muted ≡ false → words ≡ words_made (settings_with b.limits r) before (tick_step link tick micros)
  words_made_are words asks unmuted =
      asks ∙ ap (λ (t : ℕ). asked_words b.limits r.timer.policy before t) (sym time_is) ∙ sym (words_are (settings_with b.limits r) before link tick micros unmuted)

  -- what was made
  pub answers_made : (due : Due) (flow : Option ℕ) (words : List AskWord) (result : Result (Option Outs) Spent) → due ≡ due_of r at link micros flow → flow ≡ option_map (λ (a : Anchor). a.flow) b.anchor → words ≡ asked_words b.limits r.timer.policy before at → r.is_muted ≡ false
      → is_err result ≡ is_short (pairs_left r.shutter.sealer) (length (datagrams_due due words)) → IfOk result (IsMade r.shutter.session (datagrams_due due words) words)
      → AnswersAfter (settings_with b.limits r) r.shutter before (tick_step link tick micros) result
  answers_made due flow words result e flows asks unmuted spent made =
      let d = due_made due flow words e flows asks unmuted in
      let w = words_made_are words asks unmuted in
      record {
        spent = spent ∙ ap (λ (ds : List Datagram). is_short (pairs_left r.shutter.sealer) (length ds)) d;
        made = subst (λ (ws : List AskWord). IfOk result (IsMade r.shutter.session (datagrams_of (settings_with b.limits r) before (tick_step link tick micros)) ws)) w
            (subst (λ (ds : List Datagram). IfOk result (IsMade r.shutter.session ds words)) d made);
      }

-- ---- what stays

-- a keepalive that came leaves a reporter as it is
pub keepalive_stands : (r : ReporterState) (limits : Limits) (before : List Step) (link tick : ℕ) → IsReporterAfter r limits before
    → IsReporterAfter r limits (record { link = link; tick = tick; input = Keepalive } ∷ before)
keepalive_stands r limits before link tick s = record {
  timer = silent_stands r.timer limits before link tick Keepalive tt s.timer.order s.timer;
  links = links_same r.links before (record { link = link; tick = tick; input = Keepalive }) refl (λ rtt. refl) s.links;
  width = s.width;
}

-- nothing was wanting
pub not_short : (is_muted : Bool) (left : Option ℕ) (datagrams : List Datagram) → lacks_for is_muted left datagrams ≡ false → is_muted ≡ false → is_short left (length datagrams) ≡ false
not_short is_muted left datagrams e m = sym (ap (λ (b : Bool). lacks_for b left datagrams) m) ∙ e

-- a step that was answered is one more
pub stands_answered : (new : ReporterState) (limits : Limits) (before : List Step) (step : Step) (result : Result (Option Outs) Spent) → is_err result ≡ false → IsReporterAfter new limits (step ∷ before)
    → IsReporterAfter new limits (step_answered step result ∷ before)
stands_answered new limits before step (Ok made) e s = s
stands_answered new limits before step (Err spent) e s = absurd cc
