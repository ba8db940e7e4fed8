-- A run without a sealer is never spent, but where a payload has no number.
use Rattle.std.proofs.Common.{◌≡◌, ◌∙◌, ◌⊎◌, ℕ, zero, suc, ◌+◌, ◌^◌, ◌≤◌, nat_le, List, [], ◌∷◌, Bool, true, false, if◌then◌else◌, Option, None, Some, Result, Ok, Err, refl, sym, ap, subst, arith}
use Rattle.std.specs.Prelude.{◌||◌}
use Rattle.std.specs.List.{range_with_len}
use Rattle.std.proofs.lemmas.Bool.Decides.{nat_tests}
use mathlib.Core.Logic.{inl, inr}
use Rattle.rtcp_compound.specs.Compound.{Content}
use Rattle.psk_seal.specs.declared.sealer.Pair.{Pair}
use Rattle.psk_seal.specs.Sealer.{SealerState}
use Rattle.block_source.specs.declared.fault.PieceFault.{PieceFault}
use Rattle.block_source.specs.declared.fault.PieceFault.TheVariants as pieces
use Rattle.rist_wire.specs.Writing.{is_spent, after_pair}
use Rattle.rist_sender.specs.declared.answer.Answer.{Answer}
use Rattle.sender_rules.specs.declared.send_bad.SendBad.{SendBad}
use Rattle.sender_rules.specs.declared.send_bad.SendBad.TheVariants as refusals
use Rattle.rist_sender.specs.Messages.{Message, Original}
use Rattle.rist_sender.specs.History.{Wrote, packet_count, effective_time, is_down}
use Rattle.rist_sender.specs.Calls.{Work, Due, IfElse, WritesInTurn, Spreads, SendsPacket, IsAnswer, TicksInTurn, after_due, after_write, without_pair, called_at, written_as, with_event, after_copy, after_sent, is_settled, is_ended, packet_for, is_sharing, links_tried}
use Rattle.rist_send.specs.declared.fault.SendFault.{SendFault}
use Rattle.rist_send.specs.declared.fault.SendFault.TheVariants as faults
use Rattle.rist_send.specs.declared.progress.Stage.{Stage}
use Rattle.rist_send.specs.declared.progress.Stage.TheVariants.{Reading, Ended}
use Rattle.rist_send.specs.Run.{Setup, Run, is_due, has_ended, outcome}
use Rattle.rist_sender.specs.Incoming.{compound_in}
use Rattle.rist_send.specs.Turns.{Stays, GoesOn, SendsRead, BringsDue, BringsNext, AnswersIf, ReadsOn, ReadsInTurn, TicksOnce, ReadsAndTicks, Turn, is_read, with_answer, with_moment}
use Rattle.rist_send.specs.Sending.{TurnsOn, Stops, IsSpent, SendsSource}

-- ---- calls that want no pair

-- where there was no sealer there is none, and no datagram wanted a pair
record IsQuiet (from to : Work) : Type 0 where
  keeps : from.sealer ≡ None → to.sealer ≡ None
  short : from.sealer ≡ None → to.is_short ≡ from.is_short

quiet_same : (from to : Work) → to ≡ from → IsQuiet from to
quiet_same from to is = record { keeps = λ none. ap (λ (w : Work). w.sealer) is ∙ none; short = λ none. ap (λ (w : Work). w.is_short) is }

quiet_then : (from between to : Work) → IsQuiet from between → IsQuiet between to → IsQuiet from to
quiet_then from between to a b = record { keeps = λ none. b.keeps (a.keeps none); short = λ none. b.short (a.keeps none) ∙ a.short none }

not_spent : (sealer : Option SealerState) → sealer ≡ None → is_spent sealer ≡ true → ⊥
not_spent sealer none spent = cc (sym (ap is_spent none) ∙ spent)

due_quiet : (down spent : Bool) (tick : ℕ) (due : Due) (answer : Answer) (w : Work) → is_spent w.sealer ≡ spent
    → IsQuiet w (if down then w else (if spent then without_pair w else after_write tick due answer w))
due_quiet true spent tick due answer w is = quiet_same w w refl
due_quiet false true tick due answer w is = record { keeps = λ none. none; short = λ none. absurd (not_spent w.sealer none is) }
due_quiet false false tick due answer w is = record { keeps = λ none. ap after_pair none; short = λ none. refl }

writes_quiet : (tick : ℕ) (dues : List Due) (from to : Work) → WritesInTurn tick dues from to → IsQuiet from to
writes_quiet tick [] from to is = quiet_same from to is
writes_quiet tick (due ∷ dues) from to (answer, rest) =
    quiet_then from (after_due tick due answer from) to (due_quiet (is_down from.history due.link) (is_spent from.sealer) tick due answer from refl)
    (writes_quiet tick dues (after_due tick due answer from) to rest)

ticks_quiet : (keepalives : Bool) (micros : ℕ) (links : List ℕ) (from to : Work) → TicksInTurn keepalives micros links from to → IsQuiet from to
ticks_quiet keepalives micros [] from to is = quiet_same from to is
ticks_quiet keepalives micros (link ∷ links) from to (between, one, rest) =
    quiet_then from between to (quiet_then from one.between between (writes_quiet _ _ from one.between one.report) (writes_quiet _ _ one.between between one.keepalive))
    (ticks_quiet keepalives micros links between to rest)

copy_quiet : (down : Bool) (tick : ℕ) (pair : Option Pair) (message : Message) (link : ℕ) (answer : Answer) (w : Work)
    → IsQuiet w (if down then w else with_event (Wrote (written_as tick pair (record { link = link; message = message }) answer)) w)
copy_quiet true tick pair message link answer w = quiet_same w w refl
copy_quiet false tick pair message link answer w = record { keeps = λ none. none; short = λ none. refl }

settled_quiet : (settled : Bool) (Rest : Type 0) (next to : Work) → (Rest → IsQuiet next to) → IfElse settled (to ≡ next) Rest → IsQuiet next to
settled_quiet true Rest next to rest is = quiet_same next to is
settled_quiet false Rest next to rest s = rest s

spreads_quiet : (one : Bool) (tick : ℕ) (pair : Option Pair) (message : Message) (links : List ℕ) (from to : Work) → Spreads one tick pair message links from to → IsQuiet from to
spreads_quiet one tick pair message [] from to is = quiet_same from to is
spreads_quiet one tick pair message (link ∷ links) from to (answer, rest) =
    let next = after_copy tick pair message link answer from in
    quiet_then from next to (copy_quiet (is_down from.history link) tick pair message link answer from)
    (settled_quiet (is_settled one link answer from) (Spreads one tick pair message links next to) next to (λ s. spreads_quiet one tick pair message links next to s) rest)

-- ---- the parts of a run

-- a payload's number would be 2^62
abbrev IsFar : Setup → Work → Type 0
IsFar setup work = 2 ^ 62 ≤ setup.rules.first + packet_count work.history

record EndsFar (setup : Setup) (result : Result Unit SendFault) (from to : Run) : Type 0 where
  keeps : from.work.sealer ≡ None → to.work.sealer ≡ None
  far : from.work.sealer ≡ None → result ≡ Err faults.Spent → IsFar setup to.work

far_stays : (setup : Setup) (result : Result Unit SendFault) (from to : Run) → Stays result from to → EndsFar setup result from to
far_stays setup result from to (answer, is) = record { keeps = λ none. ap (λ (r : Run). r.work.sealer) is ∙ none; far = λ none e. absurd (cc (sym answer ∙ e)) }

far_then : (setup : Setup) (P : Result Unit SendFault → Run → Run → Type 0) → ((r : Result Unit SendFault) (a b : Run) → P r a b → EndsFar setup r a b)
    → (first result : Result Unit SendFault) (from between to : Run) → EndsFar setup first from between → GoesOn P first result between to → EndsFar setup result from to
far_then setup P next (Ok done) result from between to d p =
    let n = next result between to p in
    record { keeps = λ none. n.keeps (d.keeps none); far = λ none e. n.far (d.keeps none) e }
far_then setup P next (Err fault) result from between to d (answer, is) = record {
  keeps = λ none. ap (λ (r : Run). r.work.sealer) is ∙ d.keeps none;
  far = λ none e. subst (λ (r : Run). IsFar setup r.work) (sym is) (d.far none (sym answer ∙ e));
}

-- a call that wants no pair isn't answered Spent
quiet_answer : {T : Type 0} (setup : Setup) (P : T → Type 0) (answer : Result T SendBad) (from to : Work) → from.is_short ≡ false → IsQuiet from to → IsAnswer setup.links P answer to
    → from.sealer ≡ None → outcome answer ≡ Err faults.Spent → ⊥
quiet_answer setup P (Ok done) from to whole quiet a none e = cc e
quiet_answer setup P (Err refusals.LinksDown) from to whole quiet a none e = cc e
quiet_answer setup P (Err refusals.Spent) from to whole quiet a none e = cc (sym a ∙ quiet.short none ∙ whole)

far_call : {T : Type 0} (setup : Setup) (P : T → Type 0) (micros : ℕ) (answer : Result T SendBad) (result : Result Unit SendFault) (from to : Run) → result ≡ outcome answer
    → IsQuiet (called_at micros from.work) to.work → IsAnswer setup.links P answer to.work → EndsFar setup result from to
far_call setup P micros answer result from to is quiet a = record {
  keeps = λ none. quiet.keeps none;
  far = λ none e. absurd (quiet_answer setup P answer (called_at micros from.work) to.work refl quiet a none (sym is ∙ e));
}

or_none : (a b : Bool) → (a || b) ≡ true → b ≡ false → a ≡ true
or_none true b or none = refl
or_none false true or none = absurd (cc none)
or_none false false or none = absurd (cc or)

number_far : (number : ℕ) (spent : Bool) → (nat_le (2 ^ 62) number || spent) ≡ true → spent ≡ false → 2 ^ 62 ≤ number
number_far number spent or none =
    let yes : nat_le (2 ^ 62) number ≡ true = or_none (nat_le (2 ^ 62) number) spent or none in
    grind (arith, nat_tests)

far_either : (setup : Setup) (ended : Bool) (piece : List ℕ) (answer : Result Unit SendBad) (from to : Work) → from.is_short ≡ false → is_ended (setup.rules.first + packet_count from.history) from ≡ ended
    → IfElse ended (to ≡ without_pair from)
    (SendsPacket setup.rules (packet_count from.history) (effective_time from.history) (packet_for setup.rules.nulls (setup.rules.first + packet_count from.history) (effective_time from.history) piece) from to)
    → IsAnswer setup.links (λ done. Unit {0}) answer to → from.sealer ≡ None → (to.sealer ≡ None) × (outcome answer ≡ Err faults.Spent → IsFar setup to)
far_either setup true piece answer from to whole is same a none = (
  ap (λ (w : Work). w.sealer) same ∙ none,
  λ e. subst (λ (w : Work). IsFar setup w) (sym same) (number_far (setup.rules.first + packet_count from.history) (is_spent from.sealer) is (ap is_spent none)),
)
far_either setup false piece answer from to whole is s a none =
    let packet = packet_for setup.rules.nulls (setup.rules.first + packet_count from.history) (effective_time from.history) piece in
    let spread = spreads_quiet (is_sharing setup.rules.bonding) (effective_time from.history) _ (Original packet) (links_tried setup.rules.bonding (packet_count from.history)) (after_sent packet from) to s in
    let quiet : IsQuiet from to = quiet_then from (after_sent packet from) to (record { keeps = λ n. ap after_pair n; short = λ n. refl }) spread in
    (quiet.keeps none, λ e. absurd (quiet_answer setup (λ done. Unit {0}) answer from to whole quiet a none e))

far_read : (setup : Setup) (k least : ℕ) (reading : Result (List ℕ) PieceFault) (result : Result Unit SendFault) (from to : Run) → SendsRead setup k least reading result from to → EndsFar setup result from to
far_read setup k least (Err pieces.ReadFault) result from to (answer, is) = record { keeps = λ none. ap (λ (r : Run). r.work.sealer) is ∙ none; far = λ none e. absurd (cc (sym answer ∙ e)) }
far_read setup k least (Err pieces.TooLong) result from to (answer, is) = record { keeps = λ none. ap (λ (r : Run). r.work.sealer) is ∙ none; far = λ none e. absurd (cc (sym answer ∙ e)) }
far_read setup k least (Ok []) result from to (answer, is) = record { keeps = λ none. ap (λ (r : Run). r.work.sealer) is ∙ none; far = λ none e. absurd (cc (sym answer ∙ e)) }
far_read setup k least (Ok (x ∷ xs)) result from to s =
    let start = called_at from.progress.moment from.work in
    let far = λ (none : from.work.sealer ≡ None). far_either setup (is_ended (setup.rules.first + packet_count start.history) start) (x ∷ xs) s.answer start to.work refl refl s.sends.writes s.sends.answer none in
    record { keeps = λ none. (far none).0; far = λ none e. (far none).1 (sym s.answers ∙ e) }

far_if : (setup : Setup) (k : ℕ) (due : Bool) (result : Result Unit SendFault) (from to : Run) → IfElse due (BringsDue setup k result from to) (Stays result from to) → EndsFar setup result from to
far_if setup k true result from to (inl b) =
    let r = far_read setup k 1316 b.reading result (record from { octets = b.left; payloads = b.payloads }) to b.sends in
    record { keeps = r.keeps; far = r.far }
far_if setup k true result from to (inr (inl b)) =
    let r = far_read setup k 1 b.reading result (record from { payloads = b.left }) to b.sends in
    record { keeps = r.keeps; far = r.far }
far_if setup k true result from to (inr (inr w)) = far_stays setup result from to w.stays
far_if setup k false result from to b = far_stays setup result from to b

far_next : (setup : Setup) (stage : Stage) (result : Result Unit SendFault) (from to : Run) → BringsNext setup stage result from to → EndsFar setup result from to
far_next setup (Reading k) result from to b = far_if setup k (is_due setup.settings from.progress k) result from to b
far_next setup (Ended moment) result from to b = far_stays setup result from to b

far_answers : (setup : Setup) (link : ℕ) (compound : Option (List Content)) (result : Result Unit SendFault) (from to : Run) → AnswersIf setup link compound result from to → EndsFar setup result from to
far_answers setup link None result from to a = far_stays setup result from to a
far_answers setup link (Some compound) result from to a =
    let w = a.feeds.writes in
    far_call setup _ from.progress.moment a.answer result from to a.answers (quiet_then _ w.between to.work (writes_quiet _ _ _ w.between w.request) (writes_quiet _ _ w.between to.work w.again)) a.feeds.answer

far_link : (setup : Setup) (link : ℕ) (read : Bool) (result : Result Unit SendFault) (from to : Run) → IfElse read (ReadsOn setup link result from to) (Stays result from to) → EndsFar setup result from to
far_link setup link true result from to r =
    let a = far_answers setup link (compound_in setup.session r.answer) result (with_answer link r.answer from) to r.answers in
    record { keeps = a.keeps; far = a.far }
far_link setup link false result from to r = far_stays setup result from to r

far_links : (setup : Setup) (links : List ℕ) (result : Result Unit SendFault) (from to : Run) → ReadsInTurn setup links result from to → EndsFar setup result from to
far_links setup [] result from to r = far_stays setup result from to r
far_links setup (link ∷ links) result from to f =
    far_then setup (ReadsInTurn setup links) (far_links setup links) f.first result from f.between to (far_link setup link (is_read link from) f.first from f.between f.before) f.after

far_tick : (setup : Setup) (result : Result Unit SendFault) (from to : Run) → TicksOnce setup result from to → EndsFar setup result from to
far_tick setup result from to t =
    far_call setup (λ done. Unit {0}) from.progress.moment t.answer result from to t.answers
    (ticks_quiet setup.rules.keepalives from.progress.moment (range_with_len 0 setup.links) (called_at from.progress.moment from.work) to.work t.ticks.writes) t.ticks.answer

far_rest : (setup : Setup) (result : Result Unit SendFault) (from to : Run) → ReadsAndTicks setup result from to → EndsFar setup result from to
far_rest setup result from to f =
    far_then setup (TicksOnce setup) (far_tick setup) f.first result from f.between to (far_links setup (range_with_len 0 setup.links) f.first from f.between f.before) f.after

far_turn : (setup : Setup) (result : Result Unit SendFault) (from to : Run) → Turn setup result from to → EndsFar setup result from to
far_turn setup result from to t =
    let start = with_moment t.moment from in
    let n = far_next setup from.progress.stage t.parts.first start t.parts.between t.parts.before in
    let r = far_then setup (ReadsAndTicks setup) (far_rest setup) t.parts.first result start t.parts.between to n t.parts.after in
    record { keeps = r.keeps; far = r.far }

none_after : (setup : Setup) (count : ℕ) (from to : Run) → TurnsOn setup count from to → from.work.sealer ≡ None → to.work.sealer ≡ None
none_after setup zero from to is none = ap (λ (r : Run). r.work.sealer) is ∙ none
none_after setup (suc count) from to (between, before, turn, on) none = (far_turn setup (Ok tt) between to turn).keeps (none_after setup count from between before none)

abbrev at_last : Bool → Result Unit SendFault
at_last ended = if ended then Ok tt else Err faults.TurnsSpent

not_at_last : (ended : Bool) → at_last ended ≡ Err faults.Spent → ⊥
not_at_last true e = cc
not_at_last false e = cc

far_end : (setup : Setup) (count : ℕ) (result : Result Unit SendFault) (before to : Run) → Stops setup count result before to ⊎ IsSpent setup count result before to
    → before.work.sealer ≡ None → result ≡ Err faults.Spent → IsFar setup to.work
far_end setup count result before to (inl s) none e = (far_turn setup result before to s.turn).far none e
far_end setup count result before to (inr s) none e = absurd (not_at_last (has_ended before.progress.stage) (sym s.answer ∙ e))

pub far_at_end : (setup : Setup) (result : Result Unit SendFault) (from to : Run) → SendsSource setup result from to → from.work.sealer ≡ None → result ≡ Err faults.Spent
    → 2 ^ 62 ≤ setup.rules.first + packet_count to.work.history
far_at_end setup result from to s none e = far_end setup s.count result s.before to s.ends (none_after setup s.count from s.before s.turns none) e
