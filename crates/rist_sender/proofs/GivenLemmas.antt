-- What links were given, one datagram after another.
use Rattle.std.proofs.Common.{◌≡◌, ◌≢◌, ◌∙◌, ℕ, Bool, true, false, List, [], ◌∷◌, ◌++◌, length, get_or, Option, None, Some, option_map, refl, sym, ap, subst, arith, append_assoc, append-nil}
use Rattle.std.specs.Prelude.{◌==◌, ◌||◌, if◌then◌else◌}
use Rattle.std.specs.List.{AllByRecursion, list_any}
use Rattle.std.proofs.lemmas.List.Folds.{list_any-append}
use Rattle.std.proofs.lemmas.Bool.{eq-eqb, eqb-true}
use Rattle.outside_io.specs.Causes.{RoseWhere}
use Rattle.link_channels.specs.declared.channel.Channel.{Channel}
use Rattle.outside_net.specs.Links.{Datagram}
use Rattle.rist_wire.specs.declared.session.Session.{Session}
use Rattle.rist_sender.specs.declared.answer.Answer.{Answer}
use Rattle.rist_sender.specs.declared.answer.Answer.TheVariants.{Took, NoPeer, Failed}
use Rattle.outside_net.specs.Links.{LinkTells}
use Rattle.rist_sender.specs.Links.{Tried, taken_as, datagrams_taken, is_failed, IsBy, Delivers, WritesOn}
use Rattle.rist_sender.specs.History.{Write, Event, Wrote, tried_as, tried_on}
use Rattle.rist_sender.specs.Sender.{IsGiven, AreGiven}

-- ---- one link

told_none : (told : Option (List Datagram)) → told ≡ option_map (λ had. had ++ []) told
told_none None = refl
told_none (Some had) = ap Some (sym (append-nil had))

pub delivers_none : {L : Type 0} (line : LinkTells L) (was : L) → Delivers line [] was was
delivers_none line was = record {
  taken = told_none (line.taken was);
  answers = tt;
  faults = refl;
  knows = λ c. refl;
  reads = refl;
  ends = refl;
}

taken_both : (xs ys : List Tried) → datagrams_taken (xs ++ ys) ≡ datagrams_taken xs ++ datagrams_taken ys
taken_both [] ys = refl
taken_both (x ∷ xs) ys = ap (λ ds. taken_as x.channel x.octets x.answer ++ ds) (taken_both xs ys)
    ∙ sym (append_assoc (taken_as x.channel x.octets x.answer) (datagrams_taken xs) (datagrams_taken ys))

told_both : (xs ys both : List Datagram) (a b c : Option (List Datagram)) → both ≡ xs ++ ys
    → b ≡ option_map (λ had. had ++ xs) a → c ≡ option_map (λ had. had ++ ys) b → c ≡ option_map (λ had. had ++ both) a
told_both xs ys both None b c is f s = s ∙ ap (option_map (λ had. had ++ ys)) f
told_both xs ys both (Some had) b c is f s =
    s ∙ ap (option_map (λ h. h ++ ys)) f ∙ ap Some (append_assoc had xs ys ∙ ap (λ ds. had ++ ds) (sym is))

by_same : (f g : Channel → Bool) → ((c : Channel) → g c ≡ f c) → (ts : List Tried)
    → AllByRecursion (λ t. IsBy g t.channel t.answer) ts → AllByRecursion (λ t. IsBy f t.channel t.answer) ts
by_same f g same [] all = tt
by_same f g same (t ∷ ts) all = (one t.answer all.0, by_same f g same ts all.1)
  where
    one : (a : Answer) → IsBy g t.channel a → IsBy f t.channel a
    one Took is = sym (same t.channel) ∙ is
    one NoPeer is = sym (same t.channel) ∙ is
    one Failed is = tt

all_both : (f : Channel → Bool) (xs ys : List Tried)
    → AllByRecursion (λ t. IsBy f t.channel t.answer) xs → AllByRecursion (λ t. IsBy f t.channel t.answer) ys → AllByRecursion (λ t. IsBy f t.channel t.answer) (xs ++ ys)
all_both f [] ys a b = b
all_both f (x ∷ xs) ys a b = (a.0, all_both f xs ys a.1 b)

rose_both : (p q : Bool) (a b c : ℕ) → RoseWhere p a b → RoseWhere q b c → RoseWhere (p || q) a c
rose_both true true a b c r s = omega (arith, r, s)
rose_both true false a b c r s = omega (arith, r, s)
rose_both false true a b c r s = omega (arith, r, s)
rose_both false false a b c r s = s ∙ r

pub delivers_then : {L : Type 0} (line : LinkTells L) (xs ys : List Tried) (a b c : L) → Delivers line xs a b → Delivers line ys b c → Delivers line (xs ++ ys) a c
delivers_then line xs ys a b c d e = record {
  taken = told_both (datagrams_taken xs) (datagrams_taken ys) (datagrams_taken (xs ++ ys)) (line.taken a) (line.taken b) (line.taken c) (taken_both xs ys) d.taken e.taken;
  answers = all_both (line.knows a) xs ys d.answers (by_same (line.knows a) (line.knows b) d.knows ys e.answers);
  faults = subst (λ (x : Bool). RoseWhere x (line.faults a) (line.faults c)) (sym (list_any-append (λ (t : Tried). is_failed t.answer) xs ys))
      (rose_both (list_any (λ (t : Tried). is_failed t.answer) xs) (list_any (λ (t : Tried). is_failed t.answer) ys) (line.faults a) (line.faults b) (line.faults c) d.faults e.faults);
  knows = λ k. e.knows k ∙ d.knows k;
  reads = e.reads ∙ d.reads;
  ends = e.ends ∙ d.ends;
}

-- ---- all links

pub given_none : {L : Type 0} (line : LinkTells L) (flow : ℕ) (session : Session) (history : List Event) (was : List L) → AreGiven line flow session history history was was
given_none line flow session history was link d among = record { gained = []; more = sym (append-nil _); delivers = delivers_none line (get_or was link d) }

pub given_then : {L : Type 0} (line : LinkTells L) (flow : ℕ) (session : Session) (h i j : List Event) (a b c : List L) → length b ≡ length a
    → AreGiven line flow session h i a b → AreGiven line flow session i j b c → AreGiven line flow session h j a c
given_then line flow session h i j a b c same f g link d among =
    let x = f link d among in
    let y = g link d (omega (arith, same, among)) in
    record {
      gained = x.gained ++ y.gained;
      more = y.more ∙ ap (λ ts. ts ++ y.gained) x.more ∙ append_assoc _ x.gained y.gained;
      delivers = delivers_then line x.gained y.gained (get_or a link d) (get_or b link d) (get_or c link d) x.delivers y.delivers;
    }

-- one datagram on one link
pub given_one : {L : Type 0} (line : LinkTells L) (flow : ℕ) (session : Session) (history : List Event) (w : Write) (tried : Tried) (was is : List L)
    → tried ≡ tried_as flow session w → WritesOn line w.link tried was is → AreGiven line flow session history (Wrote w ∷ history) was is
given_one {L} line flow session history w tried was is seen writes link d among =
    elim (w.link == link) as (λ (x : Bool). (w.link == link) ≡ x → IsGiven line (tried_on (tried_as flow session) link history)
    (tried_on (tried_as flow session) link history ++ (if x then tried_as flow session w ∷ [] else [])) (get_or was link d) (get_or is link d)) [
      | true ↦ λ yes.
          let here : w.link ≡ link = eqb-true w.link link yes in
          record {
            gained = tried_as flow session w ∷ [];
            more = refl;
            delivers = subst (λ (t : Tried). Delivers line (t ∷ []) (get_or was link d) (get_or is link d)) seen
                (subst (λ (k : ℕ). Delivers line (tried ∷ []) (get_or was k d) (get_or is k d)) here (writes.here d));
          }
      | false ↦ λ no.
          let other : link ≢ w.link = λ (e : link ≡ w.link). cc (eq-eqb w.link link (sym e)) in
          record {
            gained = [];
            more = refl;
            delivers = subst (λ (x : L). Delivers line [] (get_or was link d) x) (sym (writes.others link d other)) (delivers_none line (get_or was link d));
          }
    ] refl
