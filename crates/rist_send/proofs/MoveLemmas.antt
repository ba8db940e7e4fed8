-- Parts of a run, one after another.
use Rattle.std.proofs.Common.{◌≡◌, ◌∙◌, ℕ, ◌<◌, List, [], ◌∷◌, length, get_or, set, map, Option, None, option_map, Result, Ok, Err, refl, sym, ap, subst, arith}
use Rattle.std.proofs.lemmas.List.{get_or-map}
use Rattle.outside_net.specs.Streams.{later, IsFirst}
use Rattle.outside_net.specs.Links.{Answer}
use Rattle.rist_wire.specs.declared.session.Session.{Session}
use Rattle.outside_net.specs.Links.{LinkTells}
use Rattle.rist_sender.specs.Calls.{Work, Rules}
use Rattle.rist_sender.specs.Sender.{SenderState, StaysSet, DoesWork}
use Rattle.rist_send.specs.declared.progress.Progress.{Progress}
use Rattle.rist_send.specs.declared.fault.SendFault.{SendFault}
use Rattle.rist_send.specs.declared.settings.SendSettings.{SendSettings}
use Rattle.rist_send.specs.Run.{Setup, Run, setup_of}
use Rattle.rist_sender.specs.Incoming.{compound_in}
use Rattle.rist_send.specs.Turns.{Follows, with_answer, AnswersIf, ReadsOn}
use Rattle.rist_sender.specs.Served.{AreServed}
use Rattle.rist_send.specs.Served.{Outside, Runs, new_run}
use Rattle.rist_sender.specs.Served.{ReadsAt}
use Rattle.rist_send.specs.Inside.Moves.{IsAt, Moves, with_links}
use Rattle.rist_sender.proofs.ServedLemmas.{all_none, all_then, all_given, all_read, reads_given, reads_at}

-- these reads are to come
abbrev pub with_reads : Outside → List (Option (ℕ → Answer)) → Outside
with_reads o reads = record { moments = o.moments; octets = o.octets; payloads = o.payloads; answers = reads }

-- nothing is done to sender and links
pub moves_none : {L : Type 0} (line : LinkTells L) (s : SenderState) (p : Progress) (o : Outside) (ls : List L) (from : Run) (P : Run → Type 0) (to : Run) → to.work ≡ from.work
    → IsAt s p o to → P to → Moves line s s p o ls ls from P
moves_none line s p o ls from P to same at fact = record {
  to = to;
  fact = fact;
  stands = at;
  given = subst (λ (w : Work). AreServed line s.flow s.session from.work.history w.history ls ls) (sym same) (all_none line s.flow s.session from.work.history ls);
}

-- a call of the sender, after which the rest is as in a base
pub moves_call : {L : Type 0} (line : LinkTells L) (s t : SenderState) (p : Progress) (o : Outside) (was is : List L) (from base : Run) (P : Work → Type 0) (R : Run → Type 0)
    → base.work ≡ from.work → length is ≡ length was → o.answers ≡ map line.reads was → IsAt s p o base → DoesWork line s t was is from.work P
    → ((w : Work) → P w → R (record base { work = w })) → Moves line s t p (with_reads o (map line.reads is)) was is from R
moves_call line s t p o was is from base P R same long reads at d both = record {
  to = record base { work = d.to };
  fact = both d.to d.fact;
  stands = record {
    sender = d.stands;
    progress = at.progress;
    moments = at.moments;
    octets = at.octets;
    payloads = at.payloads;
    answers = at.answers ∙ reads ∙ sym (reads_given line s.flow s.session from.work.history d.to.history was is long d.given);
  };
  given = all_given line s.flow s.session from.work.history d.to.history was is d.given;
}

-- a part, and then the next
pub moves_next : {L : Type 0} (line : LinkTells L) (r s t : SenderState) (p q : Progress) (o u : Outside) (was mid is : List L) (from : Run) (P Q R : Run → Type 0) → length mid ≡ length was → StaysSet r s
    → (d : Moves line r s p o was mid from P) → Moves line s t q u mid is d.to Q → ((to : Run) → IsAt t q u to → Q to → R to) → Moves line r t q u was is from R
moves_next {L} line r s t p q o u was mid is from P Q R same set d e both = record {
  to = e.to;
  fact = both e.to e.stands e.fact;
  stands = e.stands;
  given = all_then line r.flow r.session from.work.history d.to.work.history e.to.work.history was mid is same d.given
      (subst (λ (x : Session). AreServed line r.flow x d.to.work.history e.to.work.history mid is) set.session
      (subst (λ (f : ℕ). AreServed line f s.session d.to.work.history e.to.work.history mid is) (ap (λ (x : Rules). x.flow) set.rules) e.given));
}

pub moves_then : {L : Type 0} (line : LinkTells L) (r s t : SenderState) (p q : Progress) (o u : Outside) (was mid is : List L) (from : Run) (P Q R : Run → Type 0) → length mid ≡ length was → StaysSet r s
    → (d : Moves line r s p o was mid from P) → Moves line s t q u mid is d.to Q → ((to : Run) → Q to → R to) → Moves line r t q u was is from R
moves_then line r s t p q o u was mid is from P Q R same set d e both = moves_next line r s t p q o u was mid is from P Q R same set d e (λ to at fact. both to fact)

-- the same of which something else is said
pub moves_as : {L : Type 0} (line : LinkTells L) (s t : SenderState) (p : Progress) (o u : Outside) (was is : List L) (from : Run) (P R : Run → Type 0)
    → (d : Moves line s t p o was is from P) → ((to : Run) → IsAt t p o to → IsAt t p u to) → ((to : Run) → P to → R to) → Moves line s t p u was is from R
moves_as line s t p o u was is from P R d at both = record { to = d.to; fact = both d.to d.fact; stands = at d.to d.stands; given = d.given }

-- ---- parts that come to sender and links alone

pub at_self : (s : SenderState) (p : Progress) (o : Outside) (run : Run) → IsAt s p o run → IsAt s p (with_links run o.answers) run
at_self s p o run at = record { sender = at.sender; progress = at.progress; moments = refl; octets = refl; payloads = refl; answers = at.answers }

pub setup_same : (settings : SendSettings) (s t : SenderState) (m n : ℕ) → StaysSet s t → n ≡ m → setup_of settings t n ≡ setup_of settings s m
setup_same settings s t m n set same = λ i. record { settings = settings; rules = set.rules i; session = set.session i; links = same i }

-- a part, and then one that comes to sender and links alone
pub follows : {L : Type 0} (line : LinkTells L) (r s t : SenderState) (p q : Progress) (o : Outside) (reads : List (Option (ℕ → Answer))) (was mid is : List L) (from base : Run)
    (settings : SendSettings) (P Q : Setup → Result Unit SendFault → Run → Run → Type 0) (result : Result Unit SendFault) → length mid ≡ length was → StaysSet r s
    → (d : Moves line r s p o was mid from (P (setup_of settings r (length was)) (Ok tt) base))
    → Moves line s t q (with_links d.to reads) mid is d.to (Q (setup_of settings s (length mid)) result d.to)
    → Moves line r t q (with_reads o reads) was is from (Follows (P (setup_of settings r (length was))) (Q (setup_of settings r (length was))) result base)
follows {L} line r s t p q o reads was mid is from base settings P Q result same set d e =
    moves_as line r t q (with_links d.to reads) (with_reads o reads) was is from _ _
    (moves_then line r s t p q o (with_links d.to reads) was mid is from (P (setup_of settings r (length was)) (Ok tt) base) (Q (setup_of settings s (length mid)) result d.to)
    (Follows (P (setup_of settings r (length was))) (Q (setup_of settings r (length was))) result base) same set d e
    (λ to fact. record {
      first = Ok tt;
      between = d.to;
      before = d.fact;
      after = subst (λ (x : Setup). Q x result d.to to) (setup_same settings r s (length was) (length mid) set same) fact;
    }))
    (λ to at. record { sender = at.sender; progress = at.progress; moments = at.moments ∙ d.stands.moments; octets = at.octets ∙ d.stands.octets; payloads = at.payloads ∙ d.stands.payloads; answers = at.answers })
    (λ to fact. fact)

-- two parts that come to sender and links alone
pub links_then : {L : Type 0} (line : LinkTells L) (r s t : SenderState) (p q : Progress) (a b : List (Option (ℕ → Answer))) (was mid is : List L) (from : Run)
    (P Q R : Run → Type 0) → length mid ≡ length was → StaysSet r s
    → (d : Moves line r s p (with_links from a) was mid from P) → Moves line s t q (with_links d.to b) mid is d.to Q → ((to : Run) → Q to → R to)
    → Moves line r t q (with_links from b) was is from R
links_then {L} line r s t p q a b was mid is from P Q R same set d e both =
    moves_as line r t q (with_links d.to b) (with_links from b) was is from R R
    (moves_then line r s t p q (with_links from a) (with_links d.to b) was mid is from P Q R same set d e both)
    (λ to at. record { sender = at.sender; progress = at.progress; moments = at.moments ∙ d.stands.moments; octets = at.octets ∙ d.stands.octets; payloads = at.payloads ∙ d.stands.payloads; answers = at.answers })
    (λ to fact. fact)

-- a part that was refused
pub stops : {L : Type 0} (line : LinkTells L) (s t : SenderState) (p : Progress) (o : Outside) (was is : List L) (from base : Run) (P Q : Result Unit SendFault → Run → Run → Type 0) (fault : SendFault)
    → Moves line s t p o was is from (P (Err fault) base) → Moves line s t p o was is from (Follows P Q (Err fault) base)
stops line s t p o was is from base P Q fault d =
    moves_as line s t p o o was is from _ _ d (λ to at. at) (λ to fact. record { first = Err fault; between = to; before = fact; after = (refl, refl) })

-- a part of the same work, of which more is said
pub rebased : {L : Type 0} (line : LinkTells L) (s t : SenderState) (p : Progress) (o : Outside) (was is : List L) (from base : Run) (P : Run → Type 0) → base.work ≡ from.work
    → Moves line s t p o was is base P → Moves line s t p o was is from P
rebased line s t p o was is from base P same d = record {
  to = d.to;
  fact = d.fact;
  stands = d.stands;
  given = subst (λ (w : Work). AreServed line s.flow s.session w.history d.to.work.history was is) same d.given;
}

-- a run that has stopped
pub runs_of : {L : Type 0} (line : LinkTells L) (s t : SenderState) (p : Progress) (old new : Outside) (was is : List L) (work : Work) (P R : Run → Type 0)
    → (d : Moves line s t p new was is (new_run work old) P) → (IsAt t p new d.to → P d.to → R d.to) → Runs line s t new was is work R
runs_of line s t p old new was is work P R d both = record {
  to = d.to;
  fact = both d.stands d.fact;
  stands = d.stands.sender;
  moments = d.stands.moments;
  octets = d.stands.octets;
  payloads = d.stands.payloads;
  answers = d.stands.answers;
  given = d.given;
}

-- ---- a read of a link

-- it gave the first of what it had to give
first_at : {L : Type 0} (line : LinkTells L) (place : ℕ) (answer : Answer) (a b : List L) → place < length a → ReadsAt line place answer a b
    → IsFirst (get_or (map line.reads a) place None) answer
first_at line place answer [] b inside r = absurd (omega (arith, inside))
first_at line place answer (x ∷ a) b inside r =
    subst (λ (told : Option (ℕ → Answer)). IsFirst told answer) (sym (get_or-map line.reads (x ∷ a) place x None inside)) (r.first x)

-- a link gave an answer, and what came is answered
pub reads_then : {L : Type 0} (line : LinkTells L) (s t : SenderState) (p q : Progress) (settings : SendSettings) (place : ℕ) (answer : Answer) (was mid is : List L) (from : Run) (result : Result Unit SendFault)
    → length mid ≡ length was → place < length was → ReadsAt line place answer was mid → IsAt s p (with_links from (map line.reads was)) from
    → (with_answer place answer from).progress ≡ q
    → (IsAt s q (with_links (with_answer place answer from) (map line.reads mid)) (with_answer place answer from)
    → Moves line s t q (with_links (with_answer place answer from) (map line.reads is)) mid is (with_answer place answer from)
    (AnswersIf (setup_of settings s (length mid)) place (compound_in s.session answer) result (with_answer place answer from)))
    → Moves line s t q (with_links from (map line.reads is)) was is from (ReadsOn (setup_of settings s (length was)) place result from)
reads_then line s t p q settings place answer was mid is from result same inside r at progress next =
    let run = with_answer place answer from in
    let d = next (record {
      sender = at.sender;
      progress = progress;
      moments = refl;
      octets = refl;
      payloads = refl;
      answers = ap (λ (told : List (Option (ℕ → Answer))). set told place (option_map later (get_or told place None))) at.answers ∙ sym (reads_at line place answer was mid same inside r);
    }) in
    record {
      to = d.to;
      fact = record {
        answer = answer;
        first = subst (λ (told : List (Option (ℕ → Answer))). IsFirst (get_or told place None) answer) (sym at.answers) (first_at line place answer was mid inside r);
        answers = subst (λ (n : ℕ). AnswersIf (setup_of settings s n) place (compound_in s.session answer) result run d.to) same d.fact;
      };
      stands = record { sender = d.stands.sender; progress = d.stands.progress; moments = d.stands.moments; octets = d.stands.octets; payloads = d.stands.payloads; answers = d.stands.answers };
      given = all_then line s.flow s.session from.work.history from.work.history d.to.work.history was mid is same
          (all_read line s.flow s.session from.work.history place answer was mid r) d.given;
    }
