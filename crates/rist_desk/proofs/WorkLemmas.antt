-- What was planned, and what was made of it, one after another, whatever the kind of work.
use Rattle.std.proofs.Common.{◌≡◌, ◌<◌, inl, inr, List, [], ◌∷◌, ◌++◌, length, map, Option, None, Some, option_map, refl, ap, sym, ◌∙◌, subst, arith, append_assoc, length-append}
use Rattle.std.proofs.lemmas.List.{map-append, append-nil}
use Rattle.outside_net.specs.Links.{Datagram}
use Rattle.rist_desk.specs.declared.ended.Ended.{Ended}
use Rattle.rist_desk.specs.declared.ended.Ended.TheVariants as ends
use Rattle.rist_desk.specs.Work.{AreSent, Breaks, CameAfter, CutShort, CutsAt, EndsBy, Gains, Goes, Holds, IsOlder, SeesAll, SeesWith, TurnEnds, Work, last_in, went_of}
use Rattle.rist_desk.specs.Made.{steps_with}

-- ---- what is told gains nothing, or two parts

pub none_gained : {E : Type 0} (o : Option (List E)) → o ≡ option_map (λ l. l ++ []) o
none_gained None = refl
none_gained (Some l) = ap Some (sym (append-nil l))

both_gained : {E : Type 0} (a b c : Option (List E)) (xs ys zs : List E) → zs ≡ xs ++ ys → b ≡ option_map (λ l. l ++ xs) a → c ≡ option_map (λ l. l ++ ys) b → c ≡ option_map (λ l. l ++ zs) a
both_gained {E} None b c xs ys zs z e f = f ∙ ap (option_map (λ l. l ++ ys)) e
both_gained {E} (Some l) b c xs ys zs z e f = f ∙ (ap (option_map (λ (l : List E). l ++ ys)) e ∙ ap Some (append_assoc l xs ys ∙ ap (λ (x : List E). l ++ x) (sym z)))

went_both : {K P M : Type 0} (work : Work K P M) (a b : List M) → went_of work (a ++ b) ≡ went_of work a ++ went_of work b
went_both work [] b = refl
went_both work (m ∷ a) b = ap (λ (x : List Datagram). work.went m ++ x) (went_both work a b) ∙ sym (append_assoc (work.went m) (went_of work a) (went_of work b))

-- ---- what was seen

pub older_same : {K : Type 0} (l : List K) → IsOlder l l
older_same l = record { later = []; is = sym (append-nil l) }

pub older_both : {K : Type 0} (a b c : List K) → IsOlder a b → IsOlder b c → IsOlder a c
older_both {K} a b c x y = record { later = x.later ++ y.later; is = y.is ∙ (ap (λ (l : List K). l ++ y.later) x.is ∙ append_assoc a x.later y.later) }

came_later : {K P M : Type 0} (work : Work K P M) (a b c : List K) (ms : List M) → IsOlder a b → CameAfter work b ms c → CameAfter work a ms c
came_later work a b c [] x y = older_both a b c x y
came_later work a b c (m ∷ ms) x y = (older_both a b (work.before m) x y.0, y.1)

came_both : {K P M : Type 0} (work : Work K P M) (a b c : List K) (xs ys : List M) → CameAfter work a xs b → CameAfter work b ys c → CameAfter work a (xs ++ ys) c
came_both work a b c [] ys x y = came_later work a b c ys x y
came_both work a b c (m ∷ xs) ys x y = (x.0, came_both work (work.before m ++ work.kept m ∷ []) b c xs ys x.1 y)

pub sees_none : {K P M : Type 0} (work : Work K P M) (o : Option (List K)) → SeesAll work o [] o
sees_none work None = refl
sees_none work (Some l) = older_same l

sees_both : {K P M : Type 0} (work : Work K P M) (a b c : Option (List K)) (xs ys : List M) → SeesAll work a xs b → SeesAll work b ys c → SeesAll work a (xs ++ ys) c
sees_both work None None c xs ys x y = y
sees_both work None (Some b) c xs ys x y = absurd (cc (x))
sees_both work (Some a) None c xs ys x y = absurd x
sees_both work (Some a) (Some b) None xs ys x y = absurd y
sees_both work (Some a) (Some b) (Some c) xs ys x y = came_both work a b c xs ys x y

-- one was made, or none
pub sees_one : {K P M : Type 0} (work : Work K P M) (m : M) (was is before : Option (List K)) → before ≡ Some (work.before m) → SeesWith was is before (Some (work.kept m)) → SeesAll work was (m ∷ []) is
sees_one work m None is before e s = s
sees_one work m (Some was) is None e s = absurd s
sees_one {K} work m (Some was) is (Some before) e s =
    let same : before ≡ work.before m = cc (e) in
    let older : IsOlder was (work.before m) = subst (λ (l : List K). IsOlder was l) same s.0 in
    let now : is ≡ Some (work.before m ++ work.kept m ∷ []) = s.1 ∙ ap (λ (l : List K). Some (l ++ work.kept m ∷ [])) same in
    subst (λ (o : Option (List K)). SeesAll work (Some was) (m ∷ []) o) (sym now) (older, older_same (work.before m ++ work.kept m ∷ []))

pub sees_nothing : {K P M : Type 0} (work : Work K P M) (was is before : Option (List K)) → SeesWith was is before None → SeesAll work was [] is
sees_nothing work None is before s = s
sees_nothing work (Some was) is None s = absurd s
sees_nothing {K} work (Some was) is (Some before) s = subst (λ (o : Option (List K)). SeesAll work (Some was) [] o) (sym s.1) s.0

-- nothing is told of what was seen
sees_untold : {K P M : Type 0} (work : Work K P M) (m : M) (was is : Option (List K)) → SeesWith was is None (Some (work.kept m)) → SeesAll work was (m ∷ []) is
sees_untold work m None is s = s
sees_untold work m (Some was) is s = absurd s

-- ---- gains

pub gains_none : {K P M : Type 0} (work : Work K P M) (h : Holds K) → Gains work h h []
gains_none work h = record { list = none_gained h.own.list; taken = none_gained h.taken; seen = sees_none work h.own.seen }

pub gains_both : {K P M : Type 0} (work : Work K P M) (a b c : Holds K) (xs ys : List M) → Gains work a b xs → Gains work b c ys → Gains work a c (xs ++ ys)
gains_both work a b c xs ys g h = record {
  list = both_gained a.own.list b.own.list c.own.list (map work.kept xs) (map work.kept ys) (map work.kept (xs ++ ys)) (map-append work.kept xs ys) g.list h.list;
  taken = both_gained a.taken b.taken c.taken (went_of work xs) (went_of work ys) (went_of work (xs ++ ys)) (went_both work xs ys) g.taken h.taken;
  seen = sees_both work a.own.seen b.own.seen c.own.seen xs ys g.seen h.seen;
}

sent_both : {K P M : Type 0} (work : Work K P M) (a b : List M) → AreSent work a → AreSent work b → AreSent work (a ++ b)
sent_both work [] b s t = t
sent_both work (m ∷ a) b s t = (s.0, sent_both work a b s.1 t)

plan_both : {K P M : Type 0} (work : Work K P M) (a b : List M) → map work.planned (a ++ b) ≡ map work.planned a ++ map work.planned b
plan_both work a b = map-append work.planned a b

-- ---- parts of a plan

pub goes_none : {K P M : Type 0} (work : Work K P M) (h : Holds K) → Goes work h h []
goes_none work h = record { done = []; gains = gains_none work h; plan_is = refl; sent = tt }

pub goes_both : {K P M : Type 0} (work : Work K P M) (a b c : Holds K) (xs ys : List P) → Goes work a b xs → Goes work b c ys → Goes work a c (xs ++ ys)
goes_both {P = P} work a b c xs ys g h =
    record {
      done = g.done ++ h.done;
      gains = gains_both work a b c g.done h.done g.gains h.gains;
      plan_is = plan_both work g.done h.done ∙ (ap (λ (l : List P). l ++ map work.planned h.done) g.plan_is ∙ ap (λ (l : List P). xs ++ l) h.plan_is);
      sent = sent_both work g.done h.done g.sent h.sent;
    }

-- more would have followed
pub breaks_first : {K P M : Type 0} (work : Work K P M) (C D : Option M → List P → Type 0) (a b : Holds K) (xs more : List P) → ((last : Option M) (missing : List P) → C last missing → D last (missing ++ more)) → Breaks work C a b xs → Breaks work D a b (xs ++ more)
breaks_first {P = P} work C D a b xs more follow k =
    record {
      done = k.done;
      last = k.last;
      missing = k.missing ++ more;
      gains = k.gains;
      plan_is = ap (λ (l : List P). l ++ more) k.plan_is ∙ append_assoc (map work.planned (k.done ++ last_in k.last)) k.missing more;
      sent = k.sent;
      cause = follow k.last k.missing k.cause;
    }

-- something came before
pub breaks_second : {K P M : Type 0} (work : Work K P M) (C : Option M → List P → Type 0) (a b c : Holds K) (first xs : List P) → Goes work a b first → Breaks work C b c xs → Breaks work C a c (first ++ xs)
breaks_second {P = P} {M = M} work C a b c first xs g k =
    let all : g.done ++ (k.done ++ last_in k.last) ≡ (g.done ++ k.done) ++ last_in k.last = sym (append_assoc g.done k.done (last_in k.last)) in
    record {
      done = g.done ++ k.done;
      last = k.last;
      missing = k.missing;
      gains = subst (λ (l : List M). Gains work a c l) all (gains_both work a b c g.done (k.done ++ last_in k.last) g.gains k.gains);
      plan_is =
          ap (λ (l : List P). l ++ xs) (sym g.plan_is)
          ∙ (ap (λ (l : List P). map work.planned g.done ++ l) k.plan_is
          ∙ (sym (append_assoc (map work.planned g.done) (map work.planned (k.done ++ last_in k.last)) k.missing)
          ∙ ap (λ (l : List P). l ++ k.missing) (sym (plan_both work g.done (k.done ++ last_in k.last)) ∙ ap (map work.planned) all)));
      sent = sent_both work g.done k.done g.sent k.sent;
      cause = k.cause;
    }

cuts_before : {K P M : Type 0} (work : Work K P M) (end : Ended) (last : Option M) (missing more : List P) → CutsAt work end last missing → CutsAt work end last (missing ++ more)
cuts_before work ends.Stopped last missing more c = (c.0, omega (arith, length-append missing more, c.1))
cuts_before work ends.TraceFull last missing more c = (c.0, omega (arith, length-append missing more, c.1))
cuts_before work ends.WriteFault last missing more c = c
cuts_before work ends.Spent last missing more c = c
cuts_before work ends.Failed last missing more c = c
cuts_before work ends.End last missing more c = absurd c
cuts_before work ends.Turns last missing more c = absurd c
cuts_before work ends.Idle last missing more c = absurd c

pub cut_first : {K P M : Type 0} (work : Work K P M) (end : Ended) (planned : Option Ended) (a b : Holds K) (xs more : List P) → CutShort work end a b xs → TurnEnds work end planned a b (xs ++ more)
cut_first work end planned a b xs more k = breaks_first work (CutsAt work end) (EndsBy work planned end) a b xs more (λ last missing c. inr (cuts_before work end last missing more c)) k

pub cut_ends : {K P M : Type 0} (work : Work K P M) (end : Ended) (planned : Option Ended) (a b : Holds K) (xs : List P) → CutShort work end a b xs → TurnEnds work end planned a b xs
cut_ends work end planned a b xs k = record { done = k.done; last = k.last; missing = k.missing; gains = k.gains; plan_is = k.plan_is; sent = k.sent; cause = inr k.cause }

-- all was made
pub whole_ends : {K P M : Type 0} (work : Work K P M) (end : Ended) (planned : Option Ended) (a b : Holds K) (xs : List P) → Goes work a b xs → planned ≡ Some end → TurnEnds work end planned a b xs
whole_ends {M = M} work end planned a b xs g e =
    record {
      done = g.done;
      last = None;
      missing = [];
      gains = subst (λ (l : List M). Gains work a b l) (sym (append-nil g.done)) g.gains;
      plan_is = sym g.plan_is ∙ (ap (map work.planned) (sym (append-nil g.done)) ∙ sym (append-nil (map work.planned (g.done ++ []))));
      sent = g.sent;
      cause = inl (e, refl, refl);
    }

-- ---- one step

-- it was not made
pub not_made : {K P M : Type 0} (work : Work K P M) (end : Ended) (a b : Holds K) (x : P) → Gains work a b [] → ((missing : List P) → 0 < length missing → CutsAt work end None missing) → CutShort work end a b (x ∷ [])
not_made work end a b x gains cause = record { done = []; last = None; missing = x ∷ []; gains = gains; plan_is = refl; sent = tt; cause = cause (x ∷ []) (omega arith) }

-- it was made, and it ended the worker
pub made_last : {K P M : Type 0} (work : Work K P M) (end : Ended) (a b : Holds K) (m : M) → Gains work a b (m ∷ []) → CutsAt work end (Some m) [] → CutShort work end a b (work.planned m ∷ [])
made_last work end a b m g c = record { done = []; last = Some m; missing = []; gains = g; plan_is = refl; sent = tt; cause = c }

-- it was made, and what it made was sent
pub made_one : {K P M : Type 0} (work : Work K P M) (a b : Holds K) (m : M) → Gains work a b (m ∷ []) → work.Sent m → Goes work a b (work.planned m ∷ [])
made_one work a b m g s = record { done = m ∷ []; gains = g; plan_is = refl; sent = (s, tt) }
