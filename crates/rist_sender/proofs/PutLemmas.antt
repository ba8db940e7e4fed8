-- One datagram that was due, on a link that is up.
use Rattle.std.proofs.Common.{◌≡◌, ◌∙◌, ℕ, ◌%◌, ◌^◌, ◌<◌, Bool, true, false, List, ◌∷◌, ◌++◌, set, Option, Some, refl, sym, ap, subst, arith}
use Rattle.link_channels.specs.declared.channel.Channel.{Channel}
use Rattle.rtcp_compound.specs.Writing.{sr_octets, sdes_octets}
use Rattle.rist_rtt.specs.Echo.{request_octets}
use Rattle.psk_seal.specs.declared.sealer.Pair.{Pair}
use Rattle.std.specs.Prelude.{not, ◌&&◌}
use Rattle.sender_rules.specs.Sendings.{Packet}
use Rattle.rist_wire.specs.Writing.{next_pair, after_pair, is_spent}
use Rattle.rist_sender.specs.declared.answer.Answer.{Answer}
use Rattle.rist_sender.specs.declared.answer.Answer.TheVariants.{Took}
use Rattle.rist_wire.specs.declared.session.Session.{Session}
use Rattle.outside_net.specs.Links.{LinkTells}
use Rattle.rist_sender.specs.Links.{Tried, WritesOn, is_failed}
use Rattle.rist_sender.specs.Messages.{Message, Original, message_channel, message_datagram, report_octets, told_octets, seconds_of, fraction_of, rtp_time_of}
use Rattle.rist_sender.specs.History.{Wrote, is_down, tried_as}
use Rattle.rist_sender.specs.Calls.{Work, Due, Rules, with_event, without_pair, written_as, after_write, after_due, after_copy, is_settled, IfElse, Spreads}
use Rattle.rist_sender.specs.Sender.{SenderState, IsSenderAfter, StaysSet, AreGiven, DoesWork}
use Rattle.rist_sender.specs.Inside.Puts.{PutsWith, PutsOn, IsPacketIn, CopiesOn}
use Rattle.rist_sender.specs.Inside.Kept.{down_with}
use Rattle.rist_sender.proofs.GivenLemmas.{given_none, given_one}
use Rattle.rist_sender.proofs.EventLemmas.{short_after, copy_after}

-- what a link that is up gets, where a pair is left and where none is
pub due_up : (tick : ℕ) (due : Due) (a : Answer) (from : Work) → is_down from.history due.link ≡ false → is_spent from.sealer ≡ false
    → after_due tick due a from ≡ after_write tick due a from
due_up tick due a from up left = rw up (rw left refl)

pub due_short : (tick : ℕ) (due : Due) (a : Answer) (from : Work) → is_down from.history due.link ≡ false → is_spent from.sealer ≡ true
    → after_due tick due a from ≡ without_pair from
due_short tick due a from up spent = rw up (rw spent refl)

pub due_down : (tick : ℕ) (due : Due) (a : Answer) (from : Work) → is_down from.history due.link ≡ true → after_due tick due a from ≡ from
due_down tick due a from down = rw down refl

as_seen : (flow : ℕ) (session : Session) (tick : ℕ) (pair : Option Pair) (link : ℕ) (message : Message) (a : Answer) (channel : Channel) (octets : List ℕ)
    → channel ≡ message_channel session message → octets ≡ message_datagram flow session pair message
    → ◌≡◌ {A = Tried} (record { channel = channel; octets = octets; answer = a }) (tried_as flow session (written_as tick pair (record { link = link; message = message }) a))
unfolding tried_as
as_seen flow session tick pair link message a channel octets on spelled =
    ap (λ (x : Channel). record { channel = x; octets = octets; answer = a }) on
    ∙ ap (λ (x : List ℕ). record { channel = message_channel session message; octets = x; answer = a }) spelled

-- no pair was left
pub put_short : {L : Type 0} (line : LinkTells L) (old new : SenderState) (was is : List L) (from : Work) (tick link : ℕ) (message : Message)
    → IsSenderAfter old from → is_down from.history link ≡ false → is_spent from.sealer ≡ true → new ≡ old → is ≡ was
    → DoesWork line old new was is from (PutsWith tick link message Took true from)
put_short {L} line old new was is from tick link message stands up spent same kept = record {
  to = without_pair from;
  fact = record { is = sym (due_short tick (record { link = link; message = message }) Took from up spent); ends = record { pair = refl; spent = λ _. spent } };
  stands = subst (λ (s : SenderState). IsSenderAfter s (without_pair from)) (sym same) (short_after old from stands);
  given = subst (λ (ls : List L). AreGiven line old.flow old.session from.history from.history was ls) (sym kept) (given_none line old.flow old.session from.history was);
}

-- it was made and written
pub put_made : {L : Type 0} (line : LinkTells L) (old new : SenderState) (was is : List L) (from : Work) (tick link : ℕ) (message : Message) (a : Answer)
    (channel : Channel) (octets : List ℕ)
    → is_down from.history link ≡ false → is_spent from.sealer ≡ false → from.is_short ≡ false
    → IsSenderAfter new (after_write tick (record { link = link; message = message }) a from)
    → WritesOn line link (record { channel = channel; octets = octets; answer = a }) was is
    → channel ≡ message_channel old.session message → octets ≡ message_datagram old.flow old.session (next_pair from.sealer) message
    → DoesWork line old new was is from (PutsWith tick link message a false from)
put_made line old new was is from tick link message a channel octets up left fresh stands writes on spelled =
    let due : Due = record { link = link; message = message } in record {
      to = after_write tick due a from;
      fact = record { is = sym (due_up tick due a from up left); ends = record { pair = fresh; spent = λ (e : false ≡ true). cc } };
      stands = stands;
      given = given_one line old.flow old.session from.history (written_as tick (next_pair from.sealer) due a)
          (record { channel = channel; octets = octets; answer = a }) was is (as_seen old.flow old.session tick (next_pair from.sealer) link message a channel octets on spelled) writes;
    }

-- ---- the parts of a sender, one after another

pub sealed_written : (old s t : SenderState) (link : ℕ) (a : Answer) → s ≡ record old { sealer = after_pair old.sealer }
    → t ≡ record s { down = down_with link a s.down } → t ≡ record old { sealer = after_pair old.sealer; down = down_with link a old.down }
sealed_written old s t link a e f = f ∙ ap (λ (x : SenderState). record x { down = down_with link a x.down }) e

pub then_report : (old t u : SenderState) (link : ℕ) (a : Answer) → t ≡ record old { sealer = after_pair old.sealer; down = down_with link a old.down }
    → u ≡ record t { reports = set t.reports link (Some t.time) }
    → u ≡ record old { sealer = after_pair old.sealer; down = down_with link a old.down; reports = set old.reports link (Some old.time) }
then_report old t u link a e f = f ∙ ap (λ (x : SenderState). record x { reports = set x.reports link (Some x.time) }) e

pub then_keepalive : (old t u : SenderState) (link : ℕ) (a : Answer) → t ≡ record old { sealer = after_pair old.sealer; down = down_with link a old.down }
    → u ≡ record t { keepalives = set t.keepalives link (Some t.time) }
    → u ≡ record old { sealer = after_pair old.sealer; down = down_with link a old.down; keepalives = set old.keepalives link (Some old.time) }
then_keepalive old t u link a e f = f ∙ ap (λ (x : SenderState). record x { keepalives = set x.keepalives link (Some x.time) }) e

pub then_store : (old t u : SenderState) (link : ℕ) (a : Answer) → t ≡ record old { sealer = after_pair old.sealer; down = down_with link a old.down }
    → u ≡ record t { store = u.store }
    → u ≡ record old { sealer = after_pair old.sealer; down = down_with link a old.down; store = u.store }
then_store old t u link a e f = f ∙ ap (λ (x : SenderState). record x { store = u.store }) e

-- the report says the same of the octets modulo 2^32
pub status_same : (flow micros packets count octets total : ℕ) → packets ≡ count → octets ≡ total % 2 ^ 32
    → report_octets flow (record { micros = micros; packets = packets; octets = octets }) ≡ report_octets flow (record { micros = micros; packets = count; octets = total })
status_same flow micros packets count octets total e f =
    let low : octets % 2 ^ 32 ≡ total % 2 ^ 32 = omega (arith, f) in
    ap (λ (n : ℕ). sr_octets flow (seconds_of micros) (fraction_of micros) (rtp_time_of micros) (n % 2 ^ 32) (octets % 2 ^ 32) ++ sdes_octets flow) e
    ∙ ap (λ (n : ℕ). sr_octets flow (seconds_of micros) (fraction_of micros) (rtp_time_of micros) (count % 2 ^ 32) n ++ sdes_octets flow) low

-- also where the report asks for the round-trip time
pub told_same : (asks : Bool) (flow micros packets count octets total : ℕ) → packets ≡ count → octets ≡ total % 2 ^ 32
    → told_octets asks flow (record { micros = micros; packets = packets; octets = octets }) ≡ told_octets asks flow (record { micros = micros; packets = count; octets = total })
told_same false flow micros packets count octets total e f = status_same flow micros packets count octets total e f
told_same true flow micros packets count octets total e f = ap (λ (xs : List ℕ). xs ++ request_octets flow micros) (status_same flow micros packets count octets total e f)

-- whatever its link answered
pub does_some : {L : Type 0} (line : LinkTells L) (old new : SenderState) (was is : List L) (from : Work) (tick link : ℕ) (message : Message) (a : Answer) (short : Bool)
    → DoesWork line old new was is from (PutsWith tick link message a short from) → DoesWork line old new was is from (PutsOn tick link message short from)
does_some line old new was is from tick link message a short d =
    record { to = d.to; fact = record { answer = a; with_answer = d.fact }; stands = d.stands; given = d.given }

-- ---- the datagram of a payload

-- one copy of it
pub copy_made : {L : Type 0} (line : LinkTells L) (old new : SenderState) (was is : List L) (from : Work) (one : Bool) (pair : Option Pair) (packet : Packet) (link : ℕ) (a : Answer)
    (channel : Channel) (octets : List ℕ) (settled : Bool)
    → IsSenderAfter old from → link < 16 → is_down from.history link ≡ false → IsPacketIn old pair packet channel octets
    → new ≡ record old { down = down_with link a old.down }
    → WritesOn line link (record { channel = channel; octets = octets; answer = a }) was is
    → (one && not (is_failed a)) ≡ settled
    → DoesWork line old new was is from (CopiesOn one old.time pair (Original packet) link settled from)
copy_made line old new was is from one pair packet link a channel octets settled stands few up spells state writes settles =
    let w = written_as old.time pair (record { link = link; message = Original packet }) a in
    let to = with_event (Wrote w) from in
    let copied : after_copy old.time pair (Original packet) link a from ≡ to = rw up refl in
    let done : is_settled one link a from ≡ settled = rw up settles in
    record {
      to = to;
      fact = record { answer = a; is = sym copied; settles = done; short = refl };
      stands = subst (λ (s : SenderState). IsSenderAfter s to) (sym state) (copy_after old from pair link packet a stands few);
      given = given_one line old.flow old.session from.history w (record { channel = channel; octets = octets; answer = a }) was is
          (as_seen old.flow old.session old.time pair link (Original packet) a channel octets spells.channel spells.datagram) writes;
    }

pub spread_on : (one : Bool) (tick : ℕ) (pair : Option Pair) (message : Message) (link : ℕ) (links : List ℕ) (from to last : Work) → CopiesOn one tick pair message link false from to
    → Spreads one tick pair message links to last → Spreads one tick pair message (link ∷ links) from last
spread_on one tick pair message link links from to last copies spreads = (
  copies.answer,
  subst (λ (b : Bool). IfElse b (last ≡ after_copy tick pair message link copies.answer from) (Spreads one tick pair message links (after_copy tick pair message link copies.answer from) last))
      (sym copies.settles) (subst (λ (w : Work). Spreads one tick pair message links w last) copies.is spreads),
)

pub spread_end : (one : Bool) (tick : ℕ) (pair : Option Pair) (message : Message) (link : ℕ) (links : List ℕ) (from to : Work) → CopiesOn one tick pair message link true from to
    → Spreads one tick pair message (link ∷ links) from to
spread_end one tick pair message link links from to copies = (
  copies.answer,
  subst (λ (b : Bool). IfElse b (to ≡ after_copy tick pair message link copies.answer from) (Spreads one tick pair message links (after_copy tick pair message link copies.answer from) to))
      (sym copies.settles) copies.is,
)

-- another sender of the same flow and session
pub packet_in : (old new : SenderState) (pair : Option Pair) (packet : Packet) (channel : Channel) (octets : List ℕ) → StaysSet old new
    → IsPacketIn old pair packet channel octets → IsPacketIn new pair packet channel octets
packet_in old new pair packet channel octets set is =
    let flow : new.flow ≡ old.flow = ap (λ (r : Rules). r.flow) set.rules in record {
      channel = is.channel ∙ ap (λ (s : Session). message_channel s (Original packet)) (sym set.session);
      datagram = is.datagram ∙ ap (λ (f : ℕ). message_datagram f old.session pair (Original packet)) (sym flow)
          ∙ ap (λ (s : Session). message_datagram new.flow s pair (Original packet)) (sym set.session);
    }
