-- Parts of calls, one after another.
use Rattle.std.proofs.Common.{rules, ◌≡◌, ◌∙◌, ℕ, suc, ◌+◌, ◌-◌, ◌<◌, Bool, true, false, List, [], ◌∷◌, length, refl, sym, ap, subst, arith}
use Rattle.std.specs.List.{range_with_len}
use Rattle.rist_wire.specs.declared.session.Session.{Session}
use Rattle.rist_wire.specs.Writing.{is_spent}
use Rattle.rist_sender.specs.declared.answer.Answer.TheVariants.{Took}
use Rattle.outside_net.specs.Links.{LinkTells}
use Rattle.rist_sender.specs.History.{is_down, effective_time}
use Rattle.rist_sender.specs.Calls.{Work, Due, Rules, called_at, without_pair, after_due, WritesInTurn, on_link, report_due, keepalive_due, TicksInTurn}
use Rattle.rist_sender.specs.Sender.{SenderState, IsSenderAfter, StaysSet, AreGiven, DoesWork, rules_of}
use Rattle.rist_sender.proofs.GivenLemmas.{given_none, given_then}

pub stays_then : (a b c : SenderState) → StaysSet a b → StaysSet b c → StaysSet a c
stays_then a b c f g = record { rules = g.rules ∙ f.rules; session = g.session ∙ f.session }

-- a part of a call, and then the next
pub does_then : {L : Type 0} (line : LinkTells L) (a b c : SenderState) (ls ms ns : List L) (from : Work) (P Q R : Work → Type 0) → length ms ≡ length ls → StaysSet a b
    → (d : DoesWork line a b ls ms from P) → DoesWork line b c ms ns d.to Q → ((to : Work) → Q to → R to) → DoesWork line a c ls ns from R
does_then {L} line a b c ls ms ns from P Q R same set d e both = record {
  to = e.to;
  fact = both e.to e.fact;
  stands = e.stands;
  given = given_then line a.flow a.session from.history d.to.history e.to.history ls ms ns same d.given
      (subst (λ (s : Session). AreGiven line a.flow s d.to.history e.to.history ms ns) set.session
      (subst (λ (f : ℕ). AreGiven line f b.session d.to.history e.to.history ms ns) (ap (λ (r : Rules). r.flow) set.rules) e.given));
}

-- the same of which less is said
pub does_weaker : {L : Type 0} (line : LinkTells L) (a b : SenderState) (ls ms : List L) (from : Work) (P R : Work → Type 0)
    → DoesWork line a b ls ms from P → ((to : Work) → P to → R to) → DoesWork line a b ls ms from R
does_weaker line a b ls ms from P R d less = record { to = d.to; fact = less d.to d.fact; stands = d.stands; given = d.given }

-- a call begins, and its parts follow
pub does_call : {L : Type 0} (line : LinkTells L) (a b c : SenderState) (ls ns : List L) (from : Work) (us : ℕ) (Q R : Work → Type 0)
    → rules_of b ≡ rules_of a → b.session ≡ a.session
    → DoesWork line b c ls ns (called_at us from) Q → ((to : Work) → IsSenderAfter c to → Q to → R to) → DoesWork line a c ls ns from R
does_call {L} line a b c ls ns from us Q R rules session e both = record {
  to = e.to;
  fact = both e.to e.stands e.fact;
  stands = e.stands;
  given = subst (λ (s : Session). AreGiven line a.flow s from.history e.to.history ls ns) session
      (subst (λ (f : ℕ). AreGiven line f b.session from.history e.to.history ls ns) (ap (λ (r : Rules). r.flow) rules) e.given);
}

-- nothing is done
pub does_none : {L : Type 0} (line : LinkTells L) (a : SenderState) (ls : List L) (from : Work) (P : Work → Type 0) → IsSenderAfter a from → P from → DoesWork line a a ls ls from P
does_none line a ls from P stands holds = record { to = from; fact = holds; stands = stands; given = given_none line a.flow a.session from.history ls }

-- ---- where no pair is left, and where a link is down, nothing more is written

pub without_same : (w : Work) → w.is_short ≡ true → without_pair w ≡ w
without_same w short = ap (λ (b : Bool). record { history = w.history; sealer = w.sealer; is_short = b }) (sym short)

due_same : (tick : ℕ) (due : Due) (w : Work) → is_spent w.sealer ≡ true → w.is_short ≡ true → after_due tick due Took w ≡ w
due_same tick due w spent short =
    elim (is_down w.history due.link) as (λ (x : Bool). is_down w.history due.link ≡ x → after_due tick due Took w ≡ w) [
      | true ↦ λ down. rw down refl
      | false ↦ λ up. rw up (rw spent (without_same w short))
    ] refl

pub writes_short : (tick : ℕ) (dues : List Due) (w : Work) → is_spent w.sealer ≡ true → w.is_short ≡ true → WritesInTurn tick dues w w
writes_short tick [] w spent short = refl
writes_short tick (due ∷ dues) w spent short = (Took, subst (λ (v : Work). WritesInTurn tick dues v w) (sym (due_same tick due w spent short)) (writes_short tick dues w spent short))

pub ticks_short : (keepalives : Bool) (micros : ℕ) (links : List ℕ) (w : Work) → is_spent w.sealer ≡ true → w.is_short ≡ true → TicksInTurn keepalives micros links w w
ticks_short keepalives micros [] w spent short = refl
ticks_short keepalives micros (link ∷ links) w spent short = (
  w,
  record {
    between = w;
    report = writes_short (effective_time w.history) (on_link link (report_due micros w.history link)) w spent short;
    keepalive = writes_short (effective_time w.history) (on_link link (keepalive_due keepalives w.history link)) w spent short;
  },
  ticks_short keepalives micros links w spent short,
)

-- ---- links one after another

pub range_more : (link links : ℕ) → link < links → range_with_len link (links - link) ≡ link ∷ range_with_len (link + 1) (links - (link + 1))
range_more link links lt = ap (range_with_len link) (more link links lt)
  where
    more : (link to : ℕ) → link < to → to - link ≡ suc (to - (link + 1))
    more link to lt = omega (arith, lt)

pub range_done : (link links : ℕ) → links ≡ link → range_with_len link (links - link) ≡ []
range_done link links done = ap (range_with_len link) (none link links done)
  where
    none : (link to : ℕ) → to ≡ link → to - link ≡ 0
    none link to done = omega (arith, done)
