-- What a call of the sender or a step of the receiver counts.
use Rattle.std.proofs.Common.{◌≡◌, ◌∙◌, ℕ, ◌+◌, Bool, true, false, List, [], ◌∷◌, Option, Result, Ok, Err, refl, sym, ap, arith}
use Rattle.std.specs.Prelude.{if◌then◌else◌}
use Rattle.std.proofs.lemmas.Bool.{true≢false}
use Rattle.sender_rules.specs.Sendings.{Packet}
use Rattle.rtcp_compound.specs.Compound.{Content}
use Rattle.psk_seal.specs.declared.sealer.Pair.{Pair}
use Rattle.rist_wire.specs.Writing.{is_spent}
use Rattle.rist_sender.specs.declared.answer.Answer.{Answer}
use Rattle.sender_rules.specs.declared.send_bad.SendBad.{SendBad}
use Rattle.sender_rules.specs.declared.send_bad.SendBad.TheVariants.{Spent, LinksDown}
use Rattle.rist_sender.specs.Messages.{Message}
use Rattle.rist_sender.specs.History.{Wrote, effective_time as sender_time, packet_count, is_down}
use Rattle.rist_sender.specs.Calls.{Work, Due, Rules, IfElse, IsAnswer, WritesInTurn, Spreads, SendsPacket, SendsNext, TicksInTurn, Sends, FeedsBack, Ticks, after_due, after_write, without_pair, called_at, written_as, with_event, after_copy, after_sent, is_settled, is_ended, packet_for}
use Rattle.world_rules.specs.Counts.{sent_count, sent_by}

-- ---- payloads

due_counts : (tick : ℕ) (due : Due) (answer : Answer) (from : Work) → sent_count (after_due tick due answer from).history ≡ sent_count from.history
due_counts tick due answer from =
    elim (is_down from.history due.link) as (λ (c : Bool). sent_count (if c then from else (if is_spent from.sealer then without_pair from else after_write tick due answer from)).history ≡ sent_count from.history) [
      | true ↦ refl
      | false ↦ elim (is_spent from.sealer) as (λ (c : Bool). sent_count (if c then without_pair from else after_write tick due answer from).history ≡ sent_count from.history) [
        | true ↦ refl
        | false ↦ refl
      ]
    ]

writes_count : (tick : ℕ) (dues : List Due) (from to : Work) → WritesInTurn tick dues from to → sent_count to.history ≡ sent_count from.history
writes_count tick [] from to is = ap (λ (w : Work). sent_count w.history) is
writes_count tick (due ∷ dues) from to (answer, rest) = writes_count tick dues (after_due tick due answer from) to rest ∙ due_counts tick due answer from

-- no payload was counted, and whether a pair was missing stays
record Keeps (from to : Work) : Type 0 where
  count : sent_count to.history ≡ sent_count from.history
  short : to.is_short ≡ from.is_short

keeps_same : (from to : Work) → to ≡ from → Keeps from to
keeps_same from to is = record { count = ap (λ (w : Work). sent_count w.history) is; short = ap (λ (w : Work). w.is_short) is }

keeps_copy : (tick : ℕ) (pair : Option Pair) (message : Message) (link : ℕ) (answer : Answer) (from : Work) → Keeps from (after_copy tick pair message link answer from)
keeps_copy tick pair message link answer from =
    elim (is_down from.history link) as (λ (c : Bool). Keeps from (if c then from else with_event (Wrote (written_as tick pair (record { link = link; message = message }) answer)) from)) [
      | true ↦ record { count = refl; short = refl }
      | false ↦ record { count = refl; short = refl }
    ]

keeps_then : (from between to : Work) → Keeps from between → Keeps between to → Keeps from to
keeps_then from between to a b = record { count = b.count ∙ a.count; short = b.short ∙ a.short }

keeps_spreads : (one : Bool) (tick : ℕ) (pair : Option Pair) (message : Message) (links : List ℕ) (from to : Work) → Spreads one tick pair message links from to → Keeps from to
keeps_spreads one tick pair message [] from to is = keeps_same from to is
keeps_spreads one tick pair message (link ∷ links) from to (answer, rest) =
    settled (is_settled one link answer from) (λ more. keeps_spreads one tick pair message links (after_copy tick pair message link answer from) to more) rest
  where
    settled : (c : Bool) → (Spreads one tick pair message links (after_copy tick pair message link answer from) to → Keeps (after_copy tick pair message link answer from) to)
        → IfElse c (to ≡ after_copy tick pair message link answer from) (Spreads one tick pair message links (after_copy tick pair message link answer from) to) → Keeps from to
    settled true on done =
        keeps_then from (after_copy tick pair message link answer from) to (keeps_copy tick pair message link answer from) (keeps_same (after_copy tick pair message link answer from) to done)
    settled false on more = keeps_then from (after_copy tick pair message link answer from) to (keeps_copy tick pair message link answer from) (on more)

none_where_short : (links : ℕ) (P : Unit {0} → Type 0) (result : Result Unit SendBad) (to : Work) → to.is_short ≡ true → IsAnswer links P result to → sent_by result ≡ 0
none_where_short links P (Ok done) to short a = absurd (true≢false (sym short ∙ a.0))
none_where_short links P (Err Spent) to short a = refl
none_where_short links P (Err LinksDown) to short a = absurd (true≢false (sym short ∙ a.0))

one_where_not : (links : ℕ) (P : Unit {0} → Type 0) (result : Result Unit SendBad) (to : Work) → to.is_short ≡ false → IsAnswer links P result to → sent_by result ≡ 1
one_where_not links P (Ok done) to short a = refl
one_where_not links P (Err Spent) to short a = absurd (true≢false (sym a ∙ short))
one_where_not links P (Err LinksDown) to short a = refl

next_counts : (rules : Rules) (links : ℕ) (payload : List ℕ) (result : Result Unit SendBad) (from to : Work) → from.is_short ≡ false → IsAnswer links (λ done. Unit {0}) result to → SendsNext rules payload from to
    → sent_count to.history ≡ sent_count from.history + sent_by result
next_counts rules links payload result from to fresh answer sends = by (is_ended (rules.first + packet_count from.history) from) sends
  where
    packet : Packet
    packet = packet_for rules.nulls (rules.first + packet_count from.history) (sender_time from.history) payload

    by : (c : Bool) → IfElse c (to ≡ without_pair from) (SendsPacket rules (packet_count from.history) (sender_time from.history) packet from to)
        → sent_count to.history ≡ sent_count from.history + sent_by result
    by true is =
        let same : sent_count to.history ≡ sent_count from.history = ap (λ (w : Work). sent_count w.history) is in
        let none : sent_by result ≡ 0 = none_where_short links (λ done. Unit {0}) result to (ap (λ (w : Work). w.is_short) is) answer in
        omega (arith, same, none)
    by false more =
        let k : Keeps (after_sent packet from) to = keeps_spreads _ _ _ _ _ (after_sent packet from) to more in
        let count : sent_count to.history ≡ sent_count from.history + 1 = k.count in
        let once : sent_by result ≡ 1 = one_where_not links (λ done. Unit {0}) result to (k.short ∙ fresh) answer in
        omega (arith, count, once)

pub sends_count : (rules : Rules) (links micros : ℕ) (payload : List ℕ) (result : Result Unit SendBad) (from to : Work) → Sends rules links micros payload result from to
    → sent_count to.history ≡ sent_count from.history + sent_by result
sends_count rules links micros payload result from to s = next_counts rules links payload result (called_at micros from) to refl s.answer s.writes

pub feeds_count : (rules : Rules) (links micros link : ℕ) (compound : List Content) (result : Result ℕ SendBad) (from to : Work) → FeedsBack rules links micros link compound result from to
    → sent_count to.history ≡ sent_count from.history
feeds_count rules links micros link compound result from to s =
    let w = s.writes in
    writes_count _ _ w.between to w.again ∙ writes_count _ _ (called_at micros from) w.between w.request

ticks_in_turn_count : (keepalives : Bool) (micros : ℕ) (links : List ℕ) (from to : Work) → TicksInTurn keepalives micros links from to → sent_count to.history ≡ sent_count from.history
ticks_in_turn_count keepalives micros [] from to is = ap (λ (w : Work). sent_count w.history) is
ticks_in_turn_count keepalives micros (link ∷ links) from to (between, one, rest) =
    ticks_in_turn_count keepalives micros links between to rest ∙ writes_count _ _ one.between between one.keepalive ∙ writes_count _ _ from one.between one.report

pub ticks_count : (rules : Rules) (links micros : ℕ) (result : Result Unit SendBad) (from to : Work) → Ticks rules links micros result from to → sent_count to.history ≡ sent_count from.history
ticks_count rules links micros result from to s = ticks_in_turn_count _ micros _ (called_at micros from) to s.writes
