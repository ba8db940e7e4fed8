-- Which packets are sent again, number by number.
use Rattle.std.proofs.Common.{rules, ◌≡◌, ◌∙◌, ℕ, zero, suc, ◌+◌, ◌≤◌, Bool, true, false, List, [], ◌∷◌, map, take, Option, None, Some, Result, Ok, Err, refl, sym, ap, subst, arith}
use Rattle.std.specs.Prelude.{◌==◌, not, if◌then◌else◌}
use Rattle.std.specs.List.{filter, filter_map}
use Rattle.std.proofs.lemmas.Bool.{eq-eqb, ne_eqb, eqb-true}
use Rattle.std.proofs.lemmas.Bool.Decides.{nat_tests}
use Rattle.std.proofs.lemmas.Grind.{common_steps}
use Rattle.sender_rules.specs.Sendings.{Packet, Sending, Again, last_sent_again}
use Rattle.sender_rules.specs.Stored.{stored_packets, packet_for}
use Rattle.sender_rules.specs.declared.bounds.TheConstants.{MAX_LOOKED_AT, MAX_SENT_AGAIN}
use Rattle.rist_wire.specs.Writing.{is_spent}
use Rattle.rist_sender.specs.declared.answer.Answer.{Answer}
use Rattle.rtcp_compound.specs.Compound.{Content}
use Rattle.rist_rtt.specs.Echo.{EchoOf}
use Rattle.rist_sender.specs.Links.{is_failed}
use Rattle.link_channels.specs.Intervals.{has_passed_since}
use Rattle.sender_rules.specs.Retransmissions.{AskedNumber, each_once}
use Rattle.rist_sender.specs.declared.answer.Answer.TheVariants.{Took}
use Rattle.rist_sender.specs.Messages.{Message, Status, Retransmission, RttAnswer}
use Rattle.rist_sender.specs.History.{is_down, effective_time, sendings_of, again_count}
use Rattle.rist_sender.specs.Calls.{Work, Due, Rules, WritesInTurn, asked_numbers, packets_again, rtt_answer, without_pair, after_write, after_due, on_link}
use Rattle.rist_sender.specs.Inside.Numbers.{number_again}
use Rattle.rist_sender.specs.Inside.Puts.{again_among, CountsAgain, AnswersBefore, LeavesNumber, SendsAgain}
use Rattle.rist_sender.proofs.TurnLemmas.{writes_short}

-- its hold time has passed
abbrev has_rested : ℕ → ℕ → List Sending → Packet → Bool
has_rested hold tick history packet = has_passed_since hold tick (last_sent_again history packet.number)

-- the packets but one
abbrev without : ℕ → List Packet → List Packet
without number packets = filter (λ other. not (other.number == number)) packets

step : (f : Packet → Bool) (q : Packet) (ps : List Packet) (b : Bool) → f q ≡ b → filter f (q ∷ ps) ≡ (if b then q ∷ filter f ps else filter f ps)
step f q ps true is = rw is refl
step f q ps false is = rw is refl

-- a packet that hasn't rested may be left out first
left_out : (hold tick : ℕ) (history : List Sending) (number : ℕ) (ps : List Packet) → has_passed_since hold tick (last_sent_again history number) ≡ false
    → filter (has_rested hold tick history) (without number ps) ≡ filter (has_rested hold tick history) ps
left_out hold tick history number [] tired = refl
left_out hold tick history number (q ∷ ps) tired =
    let f = has_rested hold tick history in
    elim (q.number == number) as (λ (x : Bool). (q.number == number) ≡ x
    → filter f (if not x then q ∷ without number ps else without number ps) ≡ filter f (q ∷ ps)) [
      | true ↦ λ yes.
          let rests : f q ≡ false = ap (λ (n : ℕ). has_passed_since hold tick (last_sent_again history n)) (eqb-true q.number number yes) ∙ tired in
          left_out hold tick history number ps tired ∙ sym (step f q ps false rests)
      | false ↦ λ other.
          elim (f q) as (λ (y : Bool). f q ≡ y → filter f (q ∷ without number ps) ≡ filter f (q ∷ ps)) [
            | true ↦ λ is. step f q (without number ps) true is ∙ ap (λ qs. q ∷ qs) (left_out hold tick history number ps tired) ∙ sym (step f q ps true is)
            | false ↦ λ is. step f q (without number ps) false is ∙ left_out hold tick history number ps tired ∙ sym (step f q ps false is)
          ] refl
    ] refl

just_sent : (hold tick : ℕ) → 1 ≤ hold → has_passed_since hold tick (Some tick) ≡ false
just_sent hold tick some = grind (arith, nat_tests, common_steps)

unrested : (hold tick : ℕ) (history : List Sending) (p : Packet) → number_again hold tick history (Some p) ≡ None → has_rested hold tick history p ≡ false
unrested hold tick history p none =
    elim (has_rested hold tick history p) as (λ (x : Bool). (if x then Some p.number else None) ≡ None → x ≡ false) [
      | true ↦ λ (e : ◌≡◌ {A = Option ℕ} (Some p.number) None). cc
      | false ↦ λ e. refl
    ] none

-- one that was sent again just now hasn't rested
now_left_out : (hold tick : ℕ) (history : List Sending) (number : ℕ) (ps : List Packet) → 1 ≤ hold
    → filter (has_rested hold tick history) (without number ps) ≡ filter (has_rested hold tick (Again number tick ∷ history)) ps
now_left_out hold tick history number [] some = refl
now_left_out hold tick history number (q ∷ ps) some =
    let f = has_rested hold tick history in
    let g = has_rested hold tick (Again number tick ∷ history) in
    elim (q.number == number) as (λ (x : Bool). (q.number == number) ≡ x
    → filter f (if not x then q ∷ without number ps else without number ps) ≡ filter g (q ∷ ps)) [
      | true ↦ λ yes.
          let e : q.number ≡ number = eqb-true q.number number yes in
          let same : (number == q.number) ≡ true = eq-eqb number q.number (sym e) in
          let rests : g q ≡ false = ap (λ (b : Bool). has_passed_since hold tick (if b then Some tick else last_sent_again history q.number)) same ∙ just_sent hold tick some in
          now_left_out hold tick history number ps some ∙ sym (step g q ps false rests)
      | false ↦ λ other.
          let differ : (number == q.number) ≡ false = ne_eqb number q.number (λ (e : number ≡ q.number). cc (eq-eqb q.number number (sym e))) in
          let on : g q ≡ f q = ap (λ (b : Bool). has_passed_since hold tick (if b then Some tick else last_sent_again history q.number)) differ in
          elim (f q) as (λ (y : Bool). f q ≡ y → filter f (q ∷ without number ps) ≡ filter g (q ∷ ps)) [
            | true ↦ λ is. step f q (without number ps) true is ∙ ap (λ qs. q ∷ qs) (now_left_out hold tick history number ps some) ∙ sym (step g q ps true (on ∙ is))
            | false ↦ λ is. step f q (without number ps) false is ∙ now_left_out hold tick history number ps some ∙ sym (step g q ps false (on ∙ is))
          ] refl
    ] refl

abbrev found_by : List Packet → AskedNumber → Option Packet
found_by stored n = packet_for stored n.width n.word

found_none : (stored : List Packet) (n : AskedNumber) (ns : List AskedNumber) → found_by stored n ≡ None
    → filter_map (found_by stored) (n ∷ ns) ≡ filter_map (found_by stored) ns
found_none stored n ns is = rw is refl

found_some : (stored : List Packet) (n : AskedNumber) (ns : List AskedNumber) (p : Packet) → found_by stored n ≡ Some p
    → filter_map (found_by stored) (n ∷ ns) ≡ p ∷ filter_map (found_by stored) ns
found_some stored n ns p is = rw is refl

-- a number for which nothing is sent again
pub again_none : (stored : List Packet) (hold tick most : ℕ) (history : List Sending) (n : AskedNumber) (ns : List AskedNumber)
    → number_again hold tick history (packet_for stored n.width n.word) ≡ None
    → again_among stored hold tick most history (n ∷ ns) ≡ again_among stored hold tick most history ns
again_none stored hold tick most history n ns none = by (found_by stored n) refl
  where
    by : (o : Option Packet) → found_by stored n ≡ o → again_among stored hold tick most history (n ∷ ns) ≡ again_among stored hold tick most history ns
    by None is = ap (λ ps. take most (filter (has_rested hold tick history) (each_once ps))) (found_none stored n ns is)
    by (Some p) is =
        let f = has_rested hold tick history in
        let rest = each_once (filter_map (found_by stored) ns) in
        let no : f p ≡ false = unrested hold tick history p (sym (ap (number_again hold tick history) is) ∙ none) in
        ap (λ ps. take most (filter f (each_once ps))) (found_some stored n ns p is)
        ∙ ap (take most) (step f p (without p.number rest) false no ∙ left_out hold tick history p.number rest no)

-- a packet that is sent again
pub again_some : (stored : List Packet) (hold tick most : ℕ) (history : List Sending) (n : AskedNumber) (ns : List AskedNumber) (p : Packet) → 1 ≤ hold
    → packet_for stored n.width n.word ≡ Some p → has_passed_since hold tick (last_sent_again history p.number) ≡ true
    → again_among stored hold tick (suc most) history (n ∷ ns) ≡ p ∷ again_among stored hold tick most (Again p.number tick ∷ history) ns
again_some stored hold tick most history n ns p some is rested =
    let f = has_rested hold tick history in
    let rest = each_once (filter_map (found_by stored) ns) in
    ap (λ ps. take (suc most) (filter f (each_once ps))) (found_some stored n ns p is)
    ∙ ap (take (suc most)) (step f p (without p.number rest) true rested)
    ∙ ap (λ qs. p ∷ take most qs) (now_left_out hold tick history p.number rest some)

-- nothing is made for a link that is down
pub writes_down : (tick link : ℕ) (messages : List Message) (w : Work) → is_down w.history link ≡ true → WritesInTurn tick (on_link link messages) w w
writes_down tick link [] w down = refl
writes_down tick link (m ∷ ms) w down =
    let same : after_due tick (record { link = link; message = m }) Took w ≡ w = rw down refl in
    (Took, subst (λ (v : Work). WritesInTurn tick (on_link link ms) v w) (sym same) (writes_down tick link ms w down))

-- ---- the numbers of a compound, one after another

take_none : (n : ℕ) → ◌≡◌ {A = List Packet} (take n []) []
take_none zero = refl
take_none (suc n) = refl

-- the retransmissions that are due on a link for these numbers
abbrev again_dues : ℕ → List Packet → ℕ → ℕ → ℕ → List Sending → List AskedNumber → List Due
again_dues link stored hold tick most history asked = on_link link (map Retransmission (again_among stored hold tick most history asked))

-- all that was asked for
abbrev Ends : ℕ → ℕ → ℕ → ℕ → List AskedNumber → Work → Work → Type 0
Ends size hold tick link all from to =
    WritesInTurn tick (again_dues link (stored_packets size (sendings_of from.history)) hold tick MAX_SENT_AGAIN (sendings_of from.history) all) from to

pub ends_empty : (size hold tick link count left : ℕ) (all : List AskedNumber) (from to : Work) → AnswersBefore size hold tick link count left [] all from to
    → Ends size hold tick link all from to
ends_empty size hold tick link count left all from to before =
    before.rest to (subst (λ (ps : List Packet). WritesInTurn tick (on_link link (map Retransmission ps)) to to) (sym (take_none left)) refl)

pub ends_full : (size hold tick link count left : ℕ) (asked all : List AskedNumber) (from to : Work) → left ≡ 0 → AnswersBefore size hold tick link count left asked all from to
    → Ends size hold tick link all from to
ends_full size hold tick link count left asked all from to none before =
    before.rest to (subst (λ (n : ℕ). WritesInTurn tick (again_dues link (stored_packets size (sendings_of from.history)) hold tick n (sendings_of to.history) asked) to to) (sym none) refl)

pub ends_down : (size hold tick link count left : ℕ) (asked all : List AskedNumber) (from to : Work) → is_down to.history link ≡ true
    → AnswersBefore size hold tick link count left asked all from to → Ends size hold tick link all from to
ends_down size hold tick link count left asked all from to down before =
    before.rest to (writes_down tick link (map Retransmission (again_among (stored_packets size (sendings_of from.history)) hold tick left (sendings_of to.history) asked)) to down)

pub goes_none : (size hold tick link count left : ℕ) (n : AskedNumber) (ns all : List AskedNumber) (from to next : Work)
    → AnswersBefore size hold tick link count left (n ∷ ns) all from to → LeavesNumber size hold tick n to next
    → AnswersBefore size hold tick link count left ns all from next
goes_none size hold tick link count left n ns all from to next before leaves =
    subst (λ (w : Work). AnswersBefore size hold tick link count left ns all from w) (sym leaves.same) (record {
      ends = before.ends;
      time = before.time;
      stored = before.stored;
      counts = before.counts;
      rest = λ last writes. before.rest last
          (subst (λ (ps : List Packet). WritesInTurn tick (on_link link (map Retransmission ps)) to last)
          (sym (again_none (stored_packets size (sendings_of from.history)) hold tick left (sendings_of to.history) n ns
          (ap (λ (ps : List Packet). number_again hold tick (sendings_of to.history) (packet_for ps n.width n.word)) (sym before.stored) ∙ leaves.none)))
          writes);
    })

-- a datagram that is due on a link that is up, and had a pair, was written
made : (tick : ℕ) (due : Due) (a : Answer) (from to : Work) → is_down from.history due.link ≡ false → to ≡ after_due tick due a from → to.is_short ≡ false → to ≡ after_write tick due a from
made tick due a from to up is long =
    elim (is_spent from.sealer) as (λ (x : Bool). to ≡ (if x then without_pair from else after_write tick due a from) → to ≡ after_write tick due a from) [
      | true ↦ λ short. let e : to.is_short ≡ true = ap (λ (w : Work). w.is_short) short in cc
      | false ↦ λ written. written
    ] (is ∙ ap (λ (b : Bool). if b then from else (if is_spent from.sealer then without_pair from else after_write tick due a from)) up)

-- what a retransmission that was written leaves
wrote_again : (size hold tick link count left : ℕ) (asked all : List AskedNumber) (from to : Work) (p : Packet) (a : Answer) (n : AskedNumber) → 1 ≤ hold
    → AnswersBefore size hold tick link count (suc left) (n ∷ asked) all from to
    → packet_for (stored_packets size (sendings_of to.history)) n.width n.word ≡ Some p → has_passed_since hold tick (last_sent_again (sendings_of to.history) p.number) ≡ true
    → (last : Work) → WritesInTurn tick (again_dues link (stored_packets size (sendings_of from.history)) hold tick left (Again p.number tick ∷ sendings_of to.history) asked)
    (after_due tick (record { link = link; message = Retransmission p }) a to) last
    → Ends size hold tick link all from last
wrote_again size hold tick link count left asked all from to p a n some before found passed last writes =
    before.rest last
    (subst (λ (ps : List Packet). WritesInTurn tick (on_link link (map Retransmission ps)) to last)
    (sym (again_some (stored_packets size (sendings_of from.history)) hold tick left (sendings_of to.history) n asked p some
    (ap (λ (ps : List Packet). packet_for ps n.width n.word) (sym before.stored) ∙ found) passed))
    (a, writes))

pub goes_some : (size hold tick link count left : ℕ) (n : AskedNumber) (ns all : List AskedNumber) (from to next : Work) (a : Answer) → 1 ≤ hold
    → AnswersBefore size hold tick link count (suc left) (n ∷ ns) all from to → is_down to.history link ≡ false → SendsAgain size hold tick link n a false to next
    → AnswersBefore size hold tick link (count + (if is_failed a then 0 else 1)) left ns all from next
goes_some size hold tick link count left n ns all from to next a some before up sends =
    let p = sends.packet in
    let due : Due = record { link = link; message = Retransmission p } in
    let is = made tick due a to next up sends.puts.is sends.puts.ends.pair in
    record {
      ends = sends.puts.ends;
      time = ap (λ (w : Work). effective_time w.history) is ∙ before.time;
      stored = ap (λ (w : Work). stored_packets size (sendings_of w.history)) is ∙ before.stored;
      counts = omega (arith, ap (λ (w : Work). again_count w.history) is, before.counts);
      rest = λ last writes. wrote_again size hold tick link count left ns all from to p a n some before sends.found sends.passed last
          (subst (λ (w : Work). WritesInTurn tick (again_dues link (stored_packets size (sendings_of from.history)) hold tick left (Again p.number tick ∷ sendings_of to.history) ns) w last) sends.puts.is
          (subst (λ (h : List Sending). WritesInTurn tick (again_dues link (stored_packets size (sendings_of from.history)) hold tick left h ns) next last)
          (ap (λ (w : Work). sendings_of w.history) is) writes));
    }

pub ends_short : (size hold tick link count left : ℕ) (n : AskedNumber) (ns all : List AskedNumber) (from to next : Work) → 1 ≤ hold
    → AnswersBefore size hold tick link count (suc left) (n ∷ ns) all from to → SendsAgain size hold tick link n Took true to next
    → Ends size hold tick link all from next
ends_short size hold tick link count left n ns all from to next some before sends =
    let p = sends.packet in
    wrote_again size hold tick link count left ns all from to p Took n some before sends.found sends.passed next
    (subst (λ (w : Work). WritesInTurn tick (again_dues link (stored_packets size (sendings_of from.history)) hold tick left (Again p.number tick ∷ sendings_of to.history) ns) w next) sends.puts.is
    (writes_short tick (again_dues link (stored_packets size (sendings_of from.history)) hold tick left (Again p.number tick ∷ sendings_of to.history) ns) next (sends.puts.ends.spent refl) sends.puts.ends.pair))

-- all that a compound asks for was answered
pub sends_all : (rules : Rules) (link : ℕ) (compound : List Content) (all : List AskedNumber) (from to : Work) → all ≡ take MAX_LOOKED_AT (asked_numbers rules.flow compound)
    → Ends rules.size rules.hold (effective_time from.history) link all from to
    → WritesInTurn (effective_time from.history) (on_link link (map Retransmission (packets_again rules from.history compound))) from to
sends_all rules link compound all from to is ends =
    subst (λ (ns : List AskedNumber). Ends rules.size rules.hold (effective_time from.history) link ns from to) is ends

pub leaves_same : (size size2 hold hold2 tick tick2 : ℕ) (asked : AskedNumber) (from to : Work) → size ≡ size2 → hold ≡ hold2 → tick ≡ tick2
    → LeavesNumber size hold tick asked from to → LeavesNumber size2 hold2 tick2 asked from to
leaves_same size size2 hold hold2 tick tick2 asked from to e f g x =
    subst (λ (n : ℕ). LeavesNumber size2 hold2 n asked from to) g
    (subst (λ (n : ℕ). LeavesNumber size2 n tick asked from to) f (subst (λ (n : ℕ). LeavesNumber n hold tick asked from to) e x))

pub sends_same : (size size2 hold hold2 tick tick2 link : ℕ) (asked : AskedNumber) (a : Answer) (short : Bool) (from to : Work) → size ≡ size2 → hold ≡ hold2 → tick ≡ tick2
    → SendsAgain size hold tick link asked a short from to → SendsAgain size2 hold2 tick2 link asked a short from to
sends_same size size2 hold hold2 tick tick2 link asked a short from to e f g x =
    subst (λ (n : ℕ). SendsAgain size2 hold2 n link asked a short from to) g
    (subst (λ (n : ℕ). SendsAgain size2 n tick link asked a short from to) f (subst (λ (n : ℕ). SendsAgain n hold tick link asked a short from to) e x))

pub before_more : (size hold tick link count left : ℕ) (asked more all : List AskedNumber) (from to : Work) → asked ≡ more
    → AnswersBefore size hold tick link count left asked all from to → AnswersBefore size hold tick link count left more all from to
before_more size hold tick link count left asked more all from to e x = subst (λ (ns : List AskedNumber). AnswersBefore size hold tick link count left ns all from to) e x

pub before_left : (size hold tick link count left right : ℕ) (asked all : List AskedNumber) (from to : Work) → left ≡ right
    → AnswersBefore size hold tick link count left asked all from to → AnswersBefore size hold tick link count right asked all from to
before_left size hold tick link count left right asked all from to e x = subst (λ (n : ℕ). AnswersBefore size hold tick link count n asked all from to) e x

pub at_most_one : (b : Bool) → (if b then 0 else 1) ≤ 1
at_most_one true = omega arith
at_most_one false = omega arith

-- an answer to an RTT request counts nothing
due_count : (tick link : ℕ) (status : Status) (echo : EchoOf) (a : Answer) (from : Work)
    → again_count (after_due tick (record { link = link; message = RttAnswer status echo }) a from).history ≡ again_count from.history
due_count tick link status echo a from =
    let due : Due = record { link = link; message = RttAnswer status echo } in
    elim (is_down from.history link) as (λ (x : Bool). again_count (if x then from else (if is_spent from.sealer then without_pair from else after_write tick due a from)).history ≡ again_count from.history) [
      | true ↦ refl
      | false ↦ elim (is_spent from.sealer) as (λ (y : Bool). again_count (if y then without_pair from else after_write tick due a from).history ≡ again_count from.history) [
        | true ↦ refl
        | false ↦ omega arith
      ]
    ]

pub request_count : (tick link : ℕ) (status : Status) (request : Option EchoOf) (from to : Work) → WritesInTurn tick (on_link link (rtt_answer status request)) from to
    → again_count to.history ≡ again_count from.history
request_count tick link status None from to same = ap (λ (w : Work). again_count w.history) same
request_count tick link status (Some echo) from to (a, same) = ap (λ (w : Work). again_count w.history) same ∙ due_count tick link status echo a from

pub counts_from : {E : Type 0} (r : Result ℕ E) (from mid to : Work) → again_count mid.history ≡ again_count from.history → CountsAgain r mid to → CountsAgain r from to
counts_from (Ok count) from mid to same counts = counts ∙ ap (λ (n : ℕ). n + count) same
counts_from (Err e) from mid to same counts = tt
