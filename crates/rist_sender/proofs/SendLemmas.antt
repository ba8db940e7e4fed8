-- A payload's number, and its links.
use Rattle.std.proofs.Common.{rules, ◌≡◌, ◌∙◌, ℕ, ◌+◌, ◌%◌, ◌^◌, ◌<◌, ◌≤◌, Bool, true, false, List, [], length, Option, Err, refl, sym, ap, subst, arith, append-nil}
use Rattle.std.specs.Prelude.{◌||◌, nat_le}
use Rattle.std.specs.List.{range_with_len}
use Rattle.psk_seal.specs.declared.sealer.Pair.{Pair}
use Rattle.sender_rules.specs.Sendings.{Packet}
use Rattle.sender_rules.specs.Bonding.{Bonding, Duplicate, Share, link_count, links_from}
use Rattle.bond_links.specs.declared.plan.Plan.TheVariants.{All, One}
use Rattle.bond_links.specs.Plans.{plan_of}
use Rattle.rist_wire.specs.declared.session.Session.{Session}
use Rattle.rist_wire.specs.Writing.{next_pair, after_pair, is_spent}
use Rattle.sender_rules.specs.declared.send_bad.SendBad.{SendBad}
use Rattle.sender_rules.specs.declared.send_bad.SendBad.TheVariants.{Spent, LinksDown}
use Rattle.outside_net.specs.Links.{LinkTells}
use Rattle.rist_sender.specs.Messages.{Message, Original}
use Rattle.rist_sender.specs.History.{packet_count, effective_time}
use Rattle.rist_sender.specs.Calls.{Work, Rules, without_pair, after_sent, is_ended, is_sharing, links_tried, packet_for, IfElse, Spreads, SendsPacket, SendsNext, IsAnswer}
use Rattle.rist_sender.specs.Sender.{SenderState, AreGiven, DoesWork}
use Rattle.rist_sender.specs.Inside.Puts.{SpreadsOver}

-- ---- the plan

pub plan_all : (b : Bonding) (k : ℕ) → All ≡ plan_of b k → (false ≡ is_sharing b) × (range_with_len 0 (link_count b) ≡ links_tried b k)
plan_all (Duplicate links) k is = (refl, refl)
plan_all (Share weights) k is = cc

pub plan_one : (b : Bonding) (k link : ℕ) → One link ≡ plan_of b k → (true ≡ is_sharing b) × (links_from link (link_count b) ≡ links_tried b k)
plan_one (Duplicate links) k link is = cc
plan_one (Share weights) k link is = (refl, ap (λ (l : ℕ). links_from l (length weights)) cc)

pub spread_whole : (one : Bool) (tick : ℕ) (pair : Option Pair) (message : Message) (links : List ℕ) (settled : Bool) (from to : Work)
    → SpreadsOver one tick pair message links settled from to → Spreads one tick pair message links from to
spread_whole one tick pair message links true from to spreads =
    subst (λ (ls : List ℕ). Spreads one tick pair message ls from to) (append-nil links) (spreads [])
spread_whole one tick pair message links false from to spreads =
    subst (λ (ls : List ℕ). Spreads one tick pair message ls from to) (append-nil links) (spreads [] to refl)

pub spread_same : (one one2 : Bool) (tick : ℕ) (pair : Option Pair) (message : Message) (links links2 : List ℕ) (from to : Work) → one ≡ one2 → links ≡ links2
    → Spreads one tick pair message links from to → Spreads one2 tick pair message links2 from to
spread_same one one2 tick pair message links links2 from to e f s =
    subst (λ (ls : List ℕ). Spreads one2 tick pair message ls from to) f (subst (λ (b : Bool). Spreads b tick pair message links from to) e s)

-- ---- a payload that can't be sent, and one that is

ended_high : (number : ℕ) (b : Bool) → 2 ^ 62 ≤ number → (nat_le (2 ^ 62) number || b) ≡ true
ended_high number b high = rw (le_yes number high) refl
  where
    le_yes : (n : ℕ) → 2 ^ 62 ≤ n → nat_le (2 ^ 62) n ≡ true
    le_yes n h = grind arith

ended_spent : (b : Bool) → (b || true) ≡ true
ended_spent true = refl
ended_spent false = refl

pub high_ended : (rules : Rules) (payload : List ℕ) (from : Work) → 2 ^ 62 ≤ rules.first + packet_count from.history → SendsNext rules payload from (without_pair from)
high_ended rules payload from high =
    subst (λ (b : Bool). IfElse b (without_pair from ≡ without_pair from)
    (SendsPacket rules (packet_count from.history) (effective_time from.history) (packet_for rules.nulls (rules.first + packet_count from.history) (effective_time from.history) payload) from (without_pair from)))
    (sym (ended_high (rules.first + packet_count from.history) (is_spent from.sealer) high)) refl

pub spent_ended : (rules : Rules) (payload : List ℕ) (from : Work) → is_spent from.sealer ≡ true → SendsNext rules payload from (without_pair from)
spent_ended rules payload from spent =
    subst (λ (b : Bool). IfElse b (without_pair from ≡ without_pair from)
    (SendsPacket rules (packet_count from.history) (effective_time from.history) (packet_for rules.nulls (rules.first + packet_count from.history) (effective_time from.history) payload) from (without_pair from)))
    (sym (ap (λ (b : Bool). nat_le (2 ^ 62) (rules.first + packet_count from.history) || b) spent ∙ ended_spent (nat_le (2 ^ 62) (rules.first + packet_count from.history)))) refl

pub not_ended : (number : ℕ) (from : Work) → number < 2 ^ 62 → is_spent from.sealer ≡ false → is_ended number from ≡ false
not_ended number from low left = ap (λ (b : Bool). nat_le (2 ^ 62) number || b) left ∙ rw (le_no number low) refl
  where
    le_no : (n : ℕ) → n < 2 ^ 62 → nat_le (2 ^ 62) n ≡ false
    le_no n h = grind arith

pub sends_one : (rules : Rules) (payload : List ℕ) (from to : Work) (packet : Packet) (pair : Option Pair) (tick k : ℕ) (bonding : Bonding)
    → is_ended (rules.first + packet_count from.history) from ≡ false
    → packet ≡ packet_for rules.nulls (rules.first + packet_count from.history) (effective_time from.history) payload
    → pair ≡ next_pair from.sealer → tick ≡ effective_time from.history → k ≡ packet_count from.history → bonding ≡ rules.bonding
    → Spreads (is_sharing bonding) tick pair (Original packet) (links_tried bonding k) (after_sent packet from) to
    → SendsNext rules payload from to
sends_one rules payload from to packet pair tick k bonding on is paired timed counted bonded spreads =
    let p = packet_for rules.nulls (rules.first + packet_count from.history) (effective_time from.history) payload in
    let a = subst (λ (x : Packet). Spreads (is_sharing bonding) tick pair (Original x) (links_tried bonding k) (after_sent x from) to) is spreads in
    let b = subst (λ (x : Option Pair). Spreads (is_sharing bonding) tick x (Original p) (links_tried bonding k) (after_sent p from) to) paired a in
    let c = subst (λ (x : ℕ). Spreads (is_sharing bonding) x (next_pair from.sealer) (Original p) (links_tried bonding k) (after_sent p from) to) timed b in
    let d = subst (λ (x : ℕ). Spreads (is_sharing bonding) (effective_time from.history) (next_pair from.sealer) (Original p) (links_tried bonding x) (after_sent p from) to) counted c in
    let e = subst (λ (x : Bonding). Spreads (is_sharing x) (effective_time from.history) (next_pair from.sealer) (Original p) (links_tried x (packet_count from.history)) (after_sent p from) to) bonded d in
    subst (λ (b : Bool). IfElse b (to ≡ without_pair from) (SendsPacket rules (packet_count from.history) (effective_time from.history) p from to)) (sym on) e

-- a payload took its number, and its datagram is written
pub does_sent : {L : Type 0} (line : LinkTells L) (a b c : SenderState) (ls ns : List L) (from : Work) (packet : Packet) (Q R : Work → Type 0)
    → b.flow ≡ a.flow → b.session ≡ a.session
    → DoesWork line b c ls ns (after_sent packet from) Q → ((to : Work) → Q to → R to) → DoesWork line a c ls ns from R
does_sent line a b c ls ns from packet Q R flow session e both = record {
  to = e.to;
  fact = both e.to e.fact;
  stands = e.stands;
  given = subst (λ (s : Session). AreGiven line a.flow s from.history e.to.history ls ns) session
      (subst (λ (f : ℕ). AreGiven line f b.session from.history e.to.history ls ns) flow e.given);
}

-- the parts of a sender after it stored the packet
pub then_kept : (old s t : SenderState) (len : ℕ) → s ≡ record old { sealer = after_pair old.sealer }
    → t ≡ record s { store = t.store; count = s.count + 1; octets = (s.octets + len) % 2 ^ 32 }
    → t ≡ record old { sealer = after_pair old.sealer; store = t.store; count = old.count + 1; octets = (old.octets + len) % 2 ^ 32 }
then_kept old s t len e f = f ∙ ap (λ (x : SenderState). record x { store = t.store; count = x.count + 1; octets = (x.octets + len) % 2 ^ 32 }) e

-- ---- answers

pub answer_err : {A B : Type 0} (links : ℕ) (P : A → Type 0) (Q : B → Type 0) (bad : SendBad) (to : Work) → IsAnswer links P (Err bad) to → IsAnswer links Q (Err bad) to
answer_err links P Q Spent to is = is
answer_err links P Q LinksDown to is = is
