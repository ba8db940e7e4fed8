-- A record is one more step of the receiver.
use Rattle.std.proofs.Common.{◌≡◌, ℕ, List, [], ◌∷◌, ◌++◌, map, reverse, Option, Bool, true, false, ◌||◌, refl, sym, ap, ◌∙◌, arith, append-nil}
use mathlib.Core.List.{reverse-cons}
use Rattle.std.specs.Prelude.{OnOk, OnErr, IsErrOf, Result, Ok, Err}
use Rattle.capture_walk.specs.declared.visitor.VisitBad.TheVariants as bads
use Rattle.std.specs.List.{concat}
use Rattle.std.proofs.lemmas.List.{map_push, reverse-append}
use Rattle.outside_io.specs.Told.{IsPrefix, WritesPart}
use Rattle.outside_io.proofs.ToldLemmas.{appends_none}
use Rattle.capture_file.specs.Capture.{Record}
use Rattle.receiver_rules.specs.declared.limits.Limits.{Limits}
use Rattle.receiver_rules.specs.Steps.{Step, end_step, is_end, has_ended}
use Rattle.request_rules.specs.Steps.{Step as ReceiverStep, buffer_history}
use Rattle.request_rules.specs.Steps as inputs
use Rattle.reorder_buffer.specs.declared.phase.Phase.TheVariants.{Open}
use Rattle.rist_ends.specs.declared.told.What.{What}
use Rattle.rist_ends.specs.declared.told.What.TheVariants as whats
use Rattle.rist_ends.specs.Told.{input_of, buffer_step, event_of, phase_after}
use Rattle.receiver_rules.specs.Packets.{Packet}
use Rattle.receiver_rules.specs.History.{played_out_packets, released_bytes}
use Rattle.receiver_rules.proofs.HistoryLemmas.{played_out_grows}
use Rattle.rist_wire.specs.declared.session.Session.{Session}
use Rattle.std.specs.Prelude.{nat_lt, if◌then◌else◌, length, Some, None}
use Rattle.psk_seal.specs.declared.sealer.Spent.{Spent as NoPairs}
use Rattle.rist_wire.specs.Writing.{ShutterState, pairs_left}
use Rattle.request_rules.specs.Steps.{effective_time}
use Rattle.rist_reporter.specs.Control.{ControlSettings, Datagram, datagrams_of, input_datagrams}
use Rattle.rist_reporter.specs.declared.out.Outs.{Outs}
use Rattle.rist_reporter.specs.OneMore.{is_short, AnswersAfter, step_answered}
use Rattle.rist_ends.specs.declared.outcome.Outcome.{Outcome}
use Rattle.rist_ends.specs.declared.outcome.Outcome.TheVariants as outcomes
use Rattle.rist_ends.specs.declared.outcome.Answer.{Answer}
use Rattle.rist_ends.specs.declared.outcome.Answer.TheVariants as answers
use Rattle.rist_ends.specs.Outcome.{IfStepped, outcome_with}
use Rattle.rist_ends.proofs.SteppingLemmas.{concat-map-append}
use Rattle.rist_ends.specs.Items.{input_read}
use Rattle.rist_replay.specs.Steps.{step_of, receiver_history, history_of}
use Rattle.rist_wire.specs.Item.{item_of}
use Rattle.rist_wire.specs.declared.bad.WireBad.{WireBad}
use Rattle.rist_wire.specs.declared.item.Item.{Item}
use Rattle.rist_wire.specs.declared.item.Item.TheVariants as items
use Rattle.rist_replay.specs.Replay.{released_so_far, replayed}
use Rattle.rist_replay.specs.Inside.Visiting.{answer_of}

-- one more record is one more step
pub history_push : (session : Session) (rs : List Record) (r : Record) → receiver_history session (rs ++ r ∷ []) ≡ step_of session r ∷ receiver_history session rs
history_push session rs r = ap reverse (map_push (step_of session) rs r) ∙ reverse-append (map (step_of session) rs) (step_of session r ∷ [])

ended_both : (xs ys : List ReceiverStep) → has_ended (buffer_history (xs ++ ys)) ≡ (has_ended (buffer_history xs) || has_ended (buffer_history ys))
ended_both [] ys = refl
ended_both (x ∷ xs) ys = ap (λ b. is_end (buffer_step x).event || b) (ended_both xs ys) ∙ or_both (is_end (buffer_step x).event) (has_ended (buffer_history xs)) (has_ended (buffer_history ys))
  where
    or_both : (a b c : Bool) → (a || (b || c)) ≡ ((a || b) || c)
    or_both true b c = refl
    or_both false b c = refl

no_end : (session : Session) (r : Record) → is_end (buffer_step (step_of session r)).event ≡ false
no_end session r = by_item (item_of session r.channel r.octets)
  where
    by_item : (item : Result Item WireBad) → is_end (event_of (input_read r.us item)) ≡ false
    by_item (Ok (items.Media media)) = refl
    by_item (Ok (items.Control compound)) = refl
    by_item (Ok (items.Keepalive keepalive)) = refl
    by_item (Err bad) = refl

-- no record is an end
pub going : (session : Session) (rs : List Record) → has_ended (history_of session rs) ≡ false
going session [] = refl
going session (r ∷ rs) =
    ap (λ h. has_ended (buffer_history h)) (reverse-cons (step_of session r) (map (step_of session) rs))
    ∙ ended_both (reverse (map (step_of session) rs)) (step_of session r ∷ [])
    ∙ ap (λ b. b || (is_end (buffer_step (step_of session r)).event || false)) (going session rs)
    ∙ ap (λ b. b || false) (no_end session r)

-- an end only adds behind what is out
pub front_of_whole : (session : Session) (limits : Limits) (rs : List Record) → IsPrefix (released_so_far session limits rs) (replayed session limits rs)
front_of_whole session limits rs =
    let grows = played_out_grows limits end_step (history_of session rs) (going session rs) in (
      concat (map (λ (p : Packet). p.payload) grows.0),
      ap (λ ps. concat (map (λ (p : Packet). p.payload) ps)) grows.1 ∙ concat-map-append (played_out_packets limits (history_of session rs)) grows.0,
    )

-- where a step was made
pub on_made : (a : Answer) (outs : Outs) (P Q : Type 0) → IfStepped (outcome_with a outs) Q → (Q → P) → (outcome_with a outs ≡ outcomes.Stopped → P) → OnOk (answer_of a) P
on_made answers.Stopped outs P Q made to stopped = stopped refl
on_made answers.WriteFault outs P Q made to stopped = tt
on_made (answers.Verdict v) outs P Q made to stopped = to made
on_made answers.Spent outs P Q made to stopped = to made
on_made answers.Made outs P Q made to stopped = to made
on_made answers.Nothing outs P Q made to stopped = to made

-- where none was made
pub on_refused : (a : Answer) (outs : Outs) (P : Type 0) → (outcome_with a outs ≡ outcomes.WriteFault → P) → OnErr (answer_of a) P
on_refused answers.Stopped outs P fault = tt
on_refused answers.WriteFault outs P fault = fault refl
on_refused (answers.Verdict v) outs P fault = tt
on_refused answers.Spent outs P fault = tt
on_refused answers.Made outs P fault = tt
on_refused answers.Nothing outs P fault = tt

-- a step takes no memory
pub no_memory : (a : Answer) (P : Type 0) → IsErrOf (answer_of a) bads.Memory → P
no_memory answers.Stopped P is = cc
no_memory answers.WriteFault P is = cc
no_memory (answers.Verdict v) P is = cc
no_memory answers.Spent P is = cc
no_memory answers.Made P is = cc
no_memory answers.Nothing P is = cc

-- a step with this record's item is the record's step
pub pushed : (session : Session) (done : List Record) (r : Record) (step : ReceiverStep) → step ≡ step_of session r → buffer_history (step ∷ receiver_history session done) ≡ history_of session (done ++ r ∷ [])
pushed session done r step is = ap (λ s. buffer_history (s ∷ receiver_history session done)) is ∙ ap buffer_history (sym (history_push session done r))

-- nothing written is a front of what was to be written
pub wrote_nothing : (limits : Limits) (session : Session) (done : List Record) (r : Record) (told : Option (List ℕ)) → WritesPart told told (released_so_far session limits done) (released_so_far session limits (done ++ r ∷ []))
wrote_nothing limits session done r told =
    let step : Step = buffer_step (step_of session r) in
    let grows = played_out_grows limits step (history_of session done) (going session done) in
    let more : List ℕ = concat (map (λ (p : Packet). p.payload) grows.0) in
    let whole : released_so_far session limits (done ++ r ∷ []) ≡ released_so_far session limits done ++ more =
    ap (released_bytes limits) (sym (pushed session done r (step_of session r) refl))
    ∙ ap (λ ps. concat (map (λ (p : Packet). p.payload) ps)) grows.1 ∙ concat-map-append (played_out_packets limits (history_of session done)) grows.0 in
    ([], appends_none told, (more, whole ∙ ap (λ l. l ++ more) (sym (append-nil (released_so_far session limits done)))))

-- ---- a muted receiver makes nothing

not_short : (left : Option ℕ) → is_short left 0 ≡ false
not_short None = refl
not_short (Some n) = lt-ltb-none n
  where
    lt-ltb-none : (n : ℕ) → nat_lt n 0 ≡ false
    lt-ltb-none n = grind arith

pub muted_step : (settings : ControlSettings) (shutter : ShutterState) (before : List ReceiverStep) (step : ReceiverStep) (result : Result (Option Outs) NoPairs) → settings.is_muted ≡ true → AnswersAfter settings shutter before step result → step_answered step result ≡ step
muted_step settings shutter before step (Ok made) muted a = refl
muted_step settings shutter before step (Err spent) muted a =
    let none : datagrams_of settings before step ≡ [] = ap (λ (m : Bool). if m then [] else input_datagrams settings before step.link (effective_time (step ∷ before)) step.input) muted in
    absurd (lost (a.spent ∙ ap (λ (ds : List Datagram). is_short (pairs_left shutter.sealer) (length ds)) none ∙ not_short (pairs_left shutter.sealer)))
  where
    lost : true ≡ false → ⊥
    lost e = cc

-- ---- clauses of a step that was made

pub both_made : (o : Outcome) (P Q : Type 0) → IfStepped o P → IfStepped o Q → IfStepped o (P × Q)
both_made outcomes.Stopped P Q p q = tt
both_made outcomes.WriteFault P Q p q = tt
both_made (outcomes.Verdict v) P Q p q = (p, q)
both_made outcomes.Spent P Q p q = (p, q)
both_made (outcomes.Made outs) P Q p q = (p, q)
both_made outcomes.Nothing P Q p q = (p, q)

-- no record ends the receiver
pub goes_on : (us : ℕ) (w : What) (item : Result Item WireBad) → input_of us w ≡ input_read us item → phase_after w ≡ Open
goes_on us (whats.Media arrival) item e = refl
goes_on us (whats.Control compound) item e = refl
goes_on us whats.Keepalive item e = refl
goes_on us whats.Refused item e = refl
goes_on us whats.Tick item e = refl
goes_on us whats.End item e = absurd (no_ending item e)
  where
    no_ending : (item : Result Item WireBad) → inputs.End ≡ input_read us item → ⊥
    no_ending (Ok (items.Media media)) e = cc
    no_ending (Ok (items.Control compound)) e = cc
    no_ending (Ok (items.Keepalive keepalive)) e = cc
    no_ending (Err bad) e = cc
