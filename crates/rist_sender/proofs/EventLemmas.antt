-- What a sender keeps after one more event.
use Rattle.std.proofs.Common.{◌≡◌, ◌≢◌, ◌∙◌, ℕ, ◌+◌, ◌%◌, ◌^◌, ◌<◌, Bool, true, false, List, ◌∷◌, length, set, get_or, Option, None, Some, refl, sym, ap, subst, arith}
use Rattle.std.specs.Prelude.{◌==◌, ◌||◌, ◌&&◌, if◌then◌else◌}
use Rattle.std.proofs.lemmas.List.{get_or-set_other, get_or-set_same, length-set}
use Rattle.std.proofs.lemmas.Bool.{eq-eqb, eqb-true}
use Rattle.sender_rules.specs.Sendings.{Packet, First, Again}
use Rattle.retransmit_store.specs.State.{StoreState, IsStoreAfter}
use Rattle.rist_rtt.specs.Echo.{EchoOf}
use Rattle.psk_seal.specs.declared.sealer.Pair.{Pair}
use Rattle.rist_wire.specs.Writing.{after_pair}
use Rattle.rist_sender.specs.declared.answer.Answer.{Answer}
use Rattle.rist_sender.specs.declared.answer.Answer.TheVariants.{Took, NoPeer, Failed}
use Rattle.rist_sender.specs.Links.{is_failed}
use Rattle.rist_sender.specs.Messages.{Original, Retransmission, Report, RttAnswer, Alive, Status}
use Rattle.rist_sender.specs.History.{Wrote, sendings_of, is_down, is_report, is_alive, last_time}
use Rattle.rist_sender.specs.Calls.{Work, without_pair, written_as, after_write, after_sent, with_event}
use Rattle.rist_sender.specs.Sender.{SenderState, IsSenderAfter}
use Rattle.rist_sender.specs.Inside.Kept.{down_with}

and_false : (b : Bool) → (b && false) ≡ false
and_false true = refl
and_false false = refl

and_true : (b : Bool) → (b && true) ≡ b
and_true true = refl
and_true false = refl

-- ---- which links are down

pub down_length : (link : ℕ) (a : Answer) (down : List Bool) → length (down_with link a down) ≡ length down
down_length link Took down = refl
down_length link NoPeer down = refl
down_length link Failed down = length-set down link true

pub down_noted : (link : ℕ) (a : Answer) (down : List Bool) (h : ℕ → Bool) → length down ≡ 16 → link < 16
    → ((l : ℕ) → l < 16 → get_or down l false ≡ h l)
    → (l : ℕ) → l < 16 → get_or (down_with link a down) l false ≡ ((link == l && is_failed a) || h l)
down_noted link Took down h long few had l lt = had l lt ∙ sym (ap (λ b. b || h l) (and_false (link == l)))
down_noted link NoPeer down h long few had l lt = had l lt ∙ sym (ap (λ b. b || h l) (and_false (link == l)))
down_noted link Failed down h long few had l lt =
    elim (link == l) as (λ (x : Bool). (link == l) ≡ x → get_or (set down link true) l false ≡ ((x && true) || h l)) [
      | true ↦ λ yes.
          let here : link ≡ l = eqb-true link l yes in
          subst (λ (k : ℕ). get_or (set down link true) k false ≡ true) here (get_or-set_same down link true false (omega (arith, long, few)))
      | false ↦ λ no.
          let other : l ≢ link = λ (e : l ≡ link). cc (eq-eqb link l (sym e)) in
          get_or-set_other down link l true false other ∙ had l lt
    ] refl

-- ---- when links last had something

pub time_noted : (link t : ℕ) (times : List (Option ℕ)) (h : ℕ → Option ℕ) → length times ≡ 16 → link < 16
    → ((l : ℕ) → l < 16 → get_or times l None ≡ h l)
    → (l : ℕ) → l < 16 → get_or (set times link (Some t)) l None ≡ (if link == l && true then Some t else h l)
time_noted link t times h long few had l lt =
    elim (link == l) as (λ (x : Bool). (link == l) ≡ x → get_or (set times link (Some t)) l None ≡ (if x && true then Some t else h l)) [
      | true ↦ λ yes.
          let here : link ≡ l = eqb-true link l yes in
          subst (λ (k : ℕ). get_or (set times link (Some t)) k None ≡ Some t) here (get_or-set_same times link (Some t) None (omega (arith, long, few)))
      | false ↦ λ no.
          let other : l ≢ link = λ (e : l ≡ link). cc (eq-eqb link l (sym e)) in
          get_or-set_other times link l (Some t) None other ∙ had l lt
    ] refl

pub time_left : (link t : ℕ) (times : List (Option ℕ)) (h : ℕ → Option ℕ)
    → ((l : ℕ) → l < 16 → get_or times l None ≡ h l)
    → (l : ℕ) → l < 16 → get_or times l None ≡ (if link == l && false then Some t else h l)
time_left link t times h had l lt = had l lt ∙ sym (ap (λ (b : Bool). if b then Some t else h l) (and_false (link == l)))

-- ---- calls

pub short_after : (s : SenderState) (from : Work) → IsSenderAfter s from → IsSenderAfter s (without_pair from)
short_after s from is = record {
  sealer = is.sealer;
  links = is.links;
  store = is.store;
  time = is.time;
  count = is.count;
  octets = is.octets;
  down = is.down;
  reports = is.reports;
  keepalives = is.keepalives;
}

-- ---- datagrams

pub report_after : (s : SenderState) (from : Work) (link : ℕ) (status : Status) (a : Answer) → IsSenderAfter s from → link < 16
    → IsSenderAfter (record s { sealer = after_pair s.sealer; down = down_with link a s.down; reports = set s.reports link (Some s.time) })
    (after_write s.time (record { link = link; message = Report status }) a from)
report_after s from link status a is few = record {
  sealer = ap after_pair is.sealer;
  links = (down_length link a s.down ∙ is.links.0, length-set s.reports link (Some s.time) ∙ is.links.1, is.links.2);
  store = is.store;
  time = is.time;
  count = is.count;
  octets = is.octets;
  down = down_noted link a s.down (is_down from.history) is.links.0 few is.down;
  reports = time_noted link s.time s.reports (last_time is_report from.history) is.links.1 few is.reports;
  keepalives = time_left link s.time s.keepalives (last_time is_alive from.history) is.keepalives;
}

pub alive_after : (s : SenderState) (from : Work) (link : ℕ) (a : Answer) → IsSenderAfter s from → link < 16
    → IsSenderAfter (record s { sealer = after_pair s.sealer; down = down_with link a s.down; keepalives = set s.keepalives link (Some s.time) })
    (after_write s.time (record { link = link; message = Alive }) a from)
alive_after s from link a is few = record {
  sealer = ap after_pair is.sealer;
  links = (down_length link a s.down ∙ is.links.0, is.links.1, length-set s.keepalives link (Some s.time) ∙ is.links.2);
  store = is.store;
  time = is.time;
  count = is.count;
  octets = is.octets;
  down = down_noted link a s.down (is_down from.history) is.links.0 few is.down;
  reports = time_left link s.time s.reports (last_time is_report from.history) is.reports;
  keepalives = time_noted link s.time s.keepalives (last_time is_alive from.history) is.links.2 few is.keepalives;
}

pub rtt_after : (s : SenderState) (from : Work) (link : ℕ) (status : Status) (echo : EchoOf) (a : Answer) → IsSenderAfter s from → link < 16
    → IsSenderAfter (record s { sealer = after_pair s.sealer; down = down_with link a s.down })
    (after_write s.time (record { link = link; message = RttAnswer status echo }) a from)
rtt_after s from link status echo a is few = record {
  sealer = ap after_pair is.sealer;
  links = (down_length link a s.down ∙ is.links.0, is.links.1, is.links.2);
  store = is.store;
  time = is.time;
  count = is.count;
  octets = is.octets;
  down = down_noted link a s.down (is_down from.history) is.links.0 few is.down;
  reports = time_left link s.time s.reports (last_time is_report from.history) is.reports;
  keepalives = time_left link s.time s.keepalives (last_time is_alive from.history) is.keepalives;
}

pub again_after : (s : SenderState) (from : Work) (link : ℕ) (packet : Packet) (a : Answer) (store : StoreState) → IsSenderAfter s from → link < 16
    → IsStoreAfter store (Again packet.number s.time ∷ sendings_of from.history)
    → IsSenderAfter (record s { sealer = after_pair s.sealer; down = down_with link a s.down; store = store })
    (after_write s.time (record { link = link; message = Retransmission packet }) a from)
again_after s from link packet a store is few stored = record {
  sealer = ap after_pair is.sealer;
  links = (down_length link a s.down ∙ is.links.0, is.links.1, is.links.2);
  store = stored;
  time = is.time;
  count = is.count;
  octets = is.octets;
  down = down_noted link a s.down (is_down from.history) is.links.0 few is.down;
  reports = time_left link s.time s.reports (last_time is_report from.history) is.reports;
  keepalives = time_left link s.time s.keepalives (last_time is_alive from.history) is.keepalives;
}

-- a copy of the datagram of a payload
pub copy_after : (s : SenderState) (from : Work) (pair : Option Pair) (link : ℕ) (packet : Packet) (a : Answer) → IsSenderAfter s from → link < 16
    → IsSenderAfter (record s { down = down_with link a s.down })
    (with_event (Wrote (written_as s.time pair (record { link = link; message = Original packet }) a)) from)
copy_after s from pair link packet a is few = record {
  sealer = is.sealer;
  links = (down_length link a s.down ∙ is.links.0, is.links.1, is.links.2);
  store = is.store;
  time = is.time;
  count = is.count;
  octets = is.octets;
  down = down_noted link a s.down (is_down from.history) is.links.0 few is.down;
  reports = time_left link s.time s.reports (last_time is_report from.history) is.reports;
  keepalives = time_left link s.time s.keepalives (last_time is_alive from.history) is.keepalives;
}

pub sent_after : (s : SenderState) (from : Work) (packet : Packet) (store : StoreState) → IsSenderAfter s from
    → IsStoreAfter store (First packet ∷ sendings_of from.history)
    → IsSenderAfter (record s { sealer = after_pair s.sealer; store = store; count = s.count + 1; octets = (s.octets + length packet.payload) % 2 ^ 32 })
    (after_sent packet from)
sent_after s from packet store is stored = record {
  sealer = ap after_pair is.sealer;
  links = is.links;
  store = stored;
  time = is.time;
  count = omega (arith, is.count);
  octets = omega (arith, is.octets);
  down = is.down;
  reports = is.reports;
  keepalives = is.keepalives;
}
