-- Which packets a run's payloads were sent as, part after part.
use Rattle.std.proofs.Common.{◌≡◌, ◌∙◌, ◌⊎◌, ℕ, zero, suc, ◌+◌, List, [], ◌∷◌, ◌++◌, length, reverse, Bool, true, false, if◌then◌else◌, Option, None, Some, Result, Ok, Err, refl, sym, ap, subst, append-nil, ◌*◌, ◌/◌, ◌≤◌, arith, length-append}
use Rattle.std.specs.Fork.{slice_chunk}
use Rattle.std.proofs.lemmas.List.FromFn.{length-map-range_with_len}
use Rattle.std.specs.List.{range_with_len}
use Rattle.std.proofs.lemmas.List.{reverse-append}
use mathlib.Core.Logic.{inl, inr}
use Rattle.rtcp_compound.specs.Compound.{Content}
use Rattle.psk_seal.specs.declared.sealer.Pair.{Pair}
use Rattle.block_source.specs.declared.fault.PieceFault.{PieceFault}
use Rattle.block_source.specs.Pieces.{pieces_of}
use Rattle.sender_rules.specs.Sendings.{Packet, Sending, sent_packets}
use Rattle.rist_wire.specs.Writing.{is_spent}
use Rattle.rist_sender.specs.declared.answer.Answer.{Answer}
use Rattle.sender_rules.specs.declared.send_bad.SendBad.{SendBad}
use Rattle.sender_rules.specs.declared.send_bad.SendBad.TheVariants as refusals
use Rattle.rist_sender.specs.Messages.{Message, Original, Retransmission, Report, RttAnswer, Alive}
use Rattle.rist_sender.specs.History.{Wrote, sendings_of, sending_as, packet_count, effective_time, is_down}
use Rattle.rist_sender.specs.Calls.{Work, Due, Rules, IfElse, WritesInTurn, Spreads, SendsPacket, IsAnswer, Sends, TicksInTurn, after_due, after_write, without_pair, called_at, written_as, with_event, after_copy, after_sent, is_settled, is_ended, packet_for, is_sharing, links_tried}
use Rattle.rist_send.specs.declared.fault.SendFault.{SendFault}
use Rattle.rist_send.specs.declared.progress.Stage.{Stage}
use Rattle.rist_send.specs.declared.progress.Stage.TheVariants.{Reading, Ended}
use Rattle.rist_send.specs.Run.{Setup, Run, is_due}
use Rattle.rist_sender.specs.Incoming.{compound_in}
use Rattle.rist_send.specs.Turns.{Stays, GoesOn, SendsRead, BringsDue, BringsNext, AnswersIf, ReadsOn, ReadsInTurn, TicksOnce, ReadsAndTicks, Turn, sent_with, with_piece, is_read, with_answer, with_moment}
use Rattle.rist_send.specs.Sending.{TurnsOn, Stops, IsSpent, SendsSource}
use Rattle.rist_send.specs.Packets.{AreSentAs}
use Rattle.rist_send.specs.Given.{GivesFirst}

-- ---- what adds no packet

abbrev packets_of : Work → List Packet
packets_of work = sent_packets (sendings_of work.history)

message_keeps : (tick : ℕ) (message : Message) (before : List Sending) → sent_packets (sending_as tick message before) ≡ sent_packets before
message_keeps tick (Original packet) before = refl
message_keeps tick (Retransmission packet) before = refl
message_keeps tick (Report status) before = refl
message_keeps tick (RttAnswer status echo) before = refl
message_keeps tick Alive before = refl

due_keeps : (down spent : Bool) (tick : ℕ) (due : Due) (answer : Answer) (w : Work)
    → packets_of (if down then w else (if spent then without_pair w else after_write tick due answer w)) ≡ packets_of w
due_keeps true spent tick due answer w = refl
due_keeps false true tick due answer w = refl
due_keeps false false tick due answer w = message_keeps tick due.message (sendings_of w.history)

writes_keep : (tick : ℕ) (dues : List Due) (from to : Work) → WritesInTurn tick dues from to → packets_of to ≡ packets_of from
writes_keep tick [] from to is = ap packets_of is
writes_keep tick (due ∷ dues) from to (answer, rest) =
    writes_keep tick dues (after_due tick due answer from) to rest ∙ due_keeps (is_down from.history due.link) (is_spent from.sealer) tick due answer from

ticks_keep : (keepalives : Bool) (micros : ℕ) (links : List ℕ) (from to : Work) → TicksInTurn keepalives micros links from to → packets_of to ≡ packets_of from
ticks_keep keepalives micros [] from to is = ap packets_of is
ticks_keep keepalives micros (link ∷ links) from to (between, one, rest) =
    ticks_keep keepalives micros links between to rest ∙ writes_keep _ _ one.between between one.keepalive ∙ writes_keep _ _ from one.between one.report

-- ---- a payload

-- the same packets, and as short of pairs
record IsLike (from to : Work) : Type 0 where
  packets : packets_of to ≡ packets_of from
  short : to.is_short ≡ from.is_short

like_same : (from to : Work) → to ≡ from → IsLike from to
like_same from to is = record { packets = ap packets_of is; short = ap (λ (w : Work). w.is_short) is }

like_then : (from between to : Work) → IsLike from between → IsLike between to → IsLike from to
like_then from between to a b = record { packets = b.packets ∙ a.packets; short = b.short ∙ a.short }

copy_like : (down : Bool) (tick : ℕ) (pair : Option Pair) (message : Message) (link : ℕ) (answer : Answer) (w : Work)
    → IsLike w (if down then w else with_event (Wrote (written_as tick pair (record { link = link; message = message }) answer)) w)
copy_like true tick pair message link answer w = like_same w w refl
copy_like false tick pair message link answer w = record { packets = message_keeps tick message (sendings_of w.history); short = refl }

settled_like : (settled : Bool) (Rest : Type 0) (next to : Work) → (Rest → IsLike next to) → IfElse settled (to ≡ next) Rest → IsLike next to
settled_like true Rest next to rest is = like_same next to is
settled_like false Rest next to rest s = rest s

spreads_like : (one : Bool) (tick : ℕ) (pair : Option Pair) (message : Message) (links : List ℕ) (from to : Work) → Spreads one tick pair message links from to → IsLike from to
spreads_like one tick pair message [] from to is = like_same from to is
spreads_like one tick pair message (link ∷ links) from to (answer, rest) =
    let next = after_copy tick pair message link answer from in
    like_then from next to (copy_like (is_down from.history link) tick pair message link answer from)
    (settled_like (is_settled one link answer from) (Spreads one tick pair message links next to) next to (λ s. spreads_like one tick pair message links next to s) rest)

same_as : (nulls : Bool) (first : ℕ) (sent more : List (List ℕ)) (packets after : List Packet) → more ≡ sent → after ≡ packets
    → AreSentAs nulls first (reverse sent) packets → AreSentAs nulls first (reverse more) after
same_as nulls first sent more packets after s p made = rw (s, p) made

-- it has no number or no pair
ended_as : (nulls : Bool) (first links : ℕ) (sent : List (List ℕ)) (piece : List ℕ) (answer : Result Unit SendBad) (from to : Work) → to ≡ without_pair from
    → IsAnswer links (λ done. Unit {0}) answer to → AreSentAs nulls first (reverse sent) (packets_of from) → AreSentAs nulls first (reverse (sent ++ sent_with piece answer)) (packets_of to)
ended_as nulls first links sent piece (Ok done) from to is a made = absurd (cc (ap (λ (w : Work). w.is_short) is, a.0))
ended_as nulls first links sent piece (Err refusals.LinksDown) from to is a made = absurd (cc (ap (λ (w : Work). w.is_short) is, a.0))
ended_as nulls first links sent piece (Err refusals.Spent) from to is a made = same_as nulls first sent (sent ++ []) (packets_of from) (packets_of to) (append-nil sent) (ap packets_of is) made

-- it has both
numbered_as : (nulls : Bool) (first links tick : ℕ) (sent : List (List ℕ)) (piece : List ℕ) (answer : Result Unit SendBad) (from to : Work)
    → packets_of to ≡ packet_for nulls (first + packet_count from.history) tick piece ∷ packets_of from → to.is_short ≡ false
    → IsAnswer links (λ done. Unit {0}) answer to → AreSentAs nulls first (reverse sent) (packets_of from) → AreSentAs nulls first (reverse (sent ++ sent_with piece answer)) (packets_of to)
numbered_as nulls first links tick sent piece (Ok done) from to is short a made =
    subst (λ (l : List (List ℕ)). AreSentAs nulls first l (packets_of to)) (sym (reverse-append sent (piece ∷ [])))
    (subst (λ (l : List Packet). AreSentAs nulls first (piece ∷ reverse sent) l) (sym is) ((tick, refl), made))
numbered_as nulls first links tick sent piece (Err refusals.LinksDown) from to is short a made =
    subst (λ (l : List (List ℕ)). AreSentAs nulls first l (packets_of to)) (sym (reverse-append sent (piece ∷ [])))
    (subst (λ (l : List Packet). AreSentAs nulls first (piece ∷ reverse sent) l) (sym is) ((tick, refl), made))
numbered_as nulls first links tick sent piece (Err refusals.Spent) from to is short a made = absurd (cc (short, a))

either_as : (ended : Bool) (rules : Rules) (links : ℕ) (sent : List (List ℕ)) (piece : List ℕ) (answer : Result Unit SendBad) (from to : Work) → from.is_short ≡ false
    → IfElse ended (to ≡ without_pair from)
    (SendsPacket rules (packet_count from.history) (effective_time from.history) (packet_for rules.nulls (rules.first + packet_count from.history) (effective_time from.history) piece) from to)
    → IsAnswer links (λ done. Unit {0}) answer to → AreSentAs rules.nulls rules.first (reverse sent) (packets_of from)
    → AreSentAs rules.nulls rules.first (reverse (sent ++ sent_with piece answer)) (packets_of to)
either_as true rules links sent piece answer from to whole is a made = ended_as rules.nulls rules.first links sent piece answer from to is a made
either_as false rules links sent piece answer from to whole s a made =
    let packet = packet_for rules.nulls (rules.first + packet_count from.history) (effective_time from.history) piece in
    let like = spreads_like (is_sharing rules.bonding) (effective_time from.history) _ (Original packet) (links_tried rules.bonding (packet_count from.history)) (after_sent packet from) to s in
    numbered_as rules.nulls rules.first links (effective_time from.history) sent piece answer from to like.packets (like.short ∙ whole) a made

sends_as_packet : (rules : Rules) (links micros : ℕ) (sent : List (List ℕ)) (piece : List ℕ) (answer : Result Unit SendBad) (from to : Work) → Sends rules links micros piece answer from to
    → AreSentAs rules.nulls rules.first (reverse sent) (packets_of from) → AreSentAs rules.nulls rules.first (reverse (sent ++ sent_with piece answer)) (packets_of to)
sends_as_packet rules links micros sent piece answer from to s made =
    either_as (is_ended (rules.first + packet_count from.history) (called_at micros from)) rules links sent piece answer (called_at micros from) to refl s.writes s.answer made

-- ---- the parts of a run

abbrev IsMade : Setup → Run → Type 0
IsMade setup run = AreSentAs setup.rules.nulls setup.rules.first (reverse run.sent) (packets_of run.work)

made_same : (setup : Setup) (from to : Run) → to.sent ≡ from.sent → packets_of to.work ≡ packets_of from.work → IsMade setup from → IsMade setup to
made_same setup from to s p made = same_as setup.rules.nulls setup.rules.first from.sent to.sent (packets_of from.work) (packets_of to.work) s p made

made_stays : (setup : Setup) (result : Result Unit SendFault) (from to : Run) → IsMade setup from → Stays result from to → IsMade setup to
made_stays setup result from to made (answer, is) = made_same setup from to (ap (λ (r : Run). r.sent) is) (ap (λ (r : Run). packets_of r.work) is) made

made_then : (setup : Setup) (P : Result Unit SendFault → Run → Run → Type 0) → ((r : Result Unit SendFault) (a b : Run) → IsMade setup a → P r a b → IsMade setup b)
    → (first result : Result Unit SendFault) (between to : Run) → IsMade setup between → GoesOn P first result between to → IsMade setup to
made_then setup P next (Ok done) result between to made p = next result between to made p
made_then setup P next (Err fault) result between to made (answer, is) = made_same setup between to (ap (λ (r : Run). r.sent) is) (ap (λ (r : Run). packets_of r.work) is) made

made_read : (setup : Setup) (k least : ℕ) (reading : Result (List ℕ) PieceFault) (result : Result Unit SendFault) (from to : Run) → IsMade setup from → SendsRead setup k least reading result from to → IsMade setup to
made_read setup k least (Err fault) result from to made (answer, is) = made_same setup from to (ap (λ (r : Run). r.sent) is) (ap (λ (r : Run). packets_of r.work) is) made
made_read setup k least (Ok []) result from to made s = made_stays setup result (with_piece k least 0 from) to made s
made_read setup k least (Ok (x ∷ xs)) result from to made s =
    subst (λ (ps : List (List ℕ)). AreSentAs setup.rules.nulls setup.rules.first (reverse ps) (packets_of to.work)) (sym (ap (λ (r : Run). r.sent) s.is))
    (sends_as_packet setup.rules setup.links from.progress.moment from.sent (x ∷ xs) s.answer from.work to.work s.sends made)

made_if : (setup : Setup) (k : ℕ) (due : Bool) (result : Result Unit SendFault) (from to : Run) → IsMade setup from
    → IfElse due (BringsDue setup k result from to) (Stays result from to) → IsMade setup to
made_if setup k true result from to made (inl b) = made_read setup k 1316 b.reading result (record from { octets = b.left; payloads = b.payloads }) to made b.sends
made_if setup k true result from to made (inr (inl b)) = made_read setup k 1 b.reading result (record from { payloads = b.left }) to made b.sends
made_if setup k true result from to made (inr (inr w)) = made_stays setup result from to made w.stays
made_if setup k false result from to made b = made_stays setup result from to made b

made_next : (setup : Setup) (stage : Stage) (result : Result Unit SendFault) (from to : Run) → IsMade setup from → BringsNext setup stage result from to → IsMade setup to
made_next setup (Reading k) result from to made b = made_if setup k (is_due setup.settings from.progress k) result from to made b
made_next setup (Ended moment) result from to made b = made_stays setup result from to made b

made_answer : (setup : Setup) (link : ℕ) (compound : Option (List Content)) (result : Result Unit SendFault) (from to : Run) → IsMade setup from → AnswersIf setup link compound result from to → IsMade setup to
made_answer setup link None result from to made a = made_stays setup result from to made a
made_answer setup link (Some compound) result from to made a =
    let w = a.feeds.writes in
    made_same setup from to (ap (λ (r : Run). r.sent) a.is) (writes_keep _ _ w.between to.work w.again ∙ writes_keep _ _ _ w.between w.request) made

made_link : (setup : Setup) (link : ℕ) (read : Bool) (result : Result Unit SendFault) (from to : Run) → IsMade setup from
    → IfElse read (ReadsOn setup link result from to) (Stays result from to) → IsMade setup to
made_link setup link true result from to made r = made_answer setup link (compound_in setup.session r.answer) result (with_answer link r.answer from) to made r.answers
made_link setup link false result from to made r = made_stays setup result from to made r

made_links : (setup : Setup) (links : List ℕ) (result : Result Unit SendFault) (from to : Run) → IsMade setup from → ReadsInTurn setup links result from to → IsMade setup to
made_links setup [] result from to made r = made_stays setup result from to made r
made_links setup (link ∷ links) result from to made f =
    made_then setup (ReadsInTurn setup links) (made_links setup links) f.first result f.between to (made_link setup link (is_read link from) f.first from f.between made f.before) f.after

made_tick : (setup : Setup) (result : Result Unit SendFault) (from to : Run) → IsMade setup from → TicksOnce setup result from to → IsMade setup to
made_tick setup result from to made t =
    made_same setup from to (ap (λ (r : Run). r.sent) t.is) (ticks_keep setup.rules.keepalives from.progress.moment (range_with_len 0 setup.links) (called_at from.progress.moment from.work) to.work t.ticks.writes) made

made_rest : (setup : Setup) (result : Result Unit SendFault) (from to : Run) → IsMade setup from → ReadsAndTicks setup result from to → IsMade setup to
made_rest setup result from to made f =
    made_then setup (TicksOnce setup) (made_tick setup) f.first result f.between to (made_links setup (range_with_len 0 setup.links) f.first from f.between made f.before) f.after

made_turn : (setup : Setup) (result : Result Unit SendFault) (from to : Run) → IsMade setup from → Turn setup result from to → IsMade setup to
made_turn setup result from to made t =
    made_then setup (ReadsAndTicks setup) (made_rest setup) t.parts.first result t.parts.between to
    (made_next setup from.progress.stage t.parts.first (with_moment t.moment from) t.parts.between made t.parts.before) t.parts.after

made_turns : (setup : Setup) (count : ℕ) (from to : Run) → IsMade setup from → TurnsOn setup count from to → IsMade setup to
made_turns setup zero from to made is = made_same setup from to (ap (λ (r : Run). r.sent) is) (ap (λ (r : Run). packets_of r.work) is) made
made_turns setup (suc count) from to made (between, before, turn, on) = made_turn setup (Ok tt) between to (made_turns setup count from between made before) turn

made_end : (setup : Setup) (count : ℕ) (result : Result Unit SendFault) (before to : Run) → IsMade setup before → Stops setup count result before to ⊎ IsSpent setup count result before to → IsMade setup to
made_end setup count result before to made (inl s) = made_turn setup result before to made s.turn
made_end setup count result before to made (inr s) = made_same setup before to (ap (λ (r : Run). r.sent) s.same) (ap (λ (r : Run). packets_of r.work) s.same) made

-- each payload of a run was sent as its packet
pub sent_as_packets : (setup : Setup) (result : Result Unit SendFault) (from to : Run) → SendsSource setup result from to
    → AreSentAs setup.rules.nulls setup.rules.first (reverse from.sent) (sent_packets (sendings_of from.work.history))
    → AreSentAs setup.rules.nulls setup.rules.first (reverse to.sent) (sent_packets (sendings_of to.work.history))
sent_as_packets setup result from to s made = made_end setup s.count result s.before to (made_turns setup s.count from s.before made s.turns) s.ends

-- as many packets as payloads
pub as_many : (nulls : Bool) (first : ℕ) (payloads : List (List ℕ)) (packets : List Packet) → AreSentAs nulls first payloads packets → length packets ≡ length payloads
as_many nulls first [] [] made = refl
as_many nulls first [] (packet ∷ packets) made = absurd made
as_many nulls first (payload ∷ payloads) [] made = absurd made
as_many nulls first (payload ∷ payloads) (packet ∷ packets) made = ap suc (as_many nulls first payloads packets made.1)

few_pieces : (b : List ℕ) → 1316 * length (pieces_of b) ≤ length b + 1315
unfolding pieces_of
few_pieces b = let many = length-map-range_with_len (slice_chunk b 1316) 0 ((length b + 1315) / 1316) in omega (arith, many)

-- a run that failed gave no more pieces than its source has
pub few_given : (fault : SendFault) (octets : List ℕ) (left : Option (List ℕ)) (given : List (List ℕ)) → GivesFirst fault octets left given → 1316 * length given ≤ length octets + 1315
few_given fault octets left given g =
    omega (arith, ap length g.first, length-append given (pieces_of (g.dropped ++ g.rest)), few_pieces octets)
