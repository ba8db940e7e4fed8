-- Parts of a call, one after another.
use Rattle.std.proofs.Common.{◌≡◌, ◌∙◌, ℕ, zero, suc, ◌<◌, ◌≤◌, List, [], ◌∷◌, length, get_or, set, map, take, drop, Option, None, option_map, Result, Ok, Err, refl, sym, ap, subst, arith}
use Rattle.std.proofs.lemmas.List.{get_or-map}
use Rattle.outside_net.specs.Streams.{later, IsFirst}
use Rattle.outside_net.specs.Links.{Answer}
use Rattle.rist_wire.specs.declared.session.Session.{Session}
use Rattle.outside_net.specs.Links.{LinkTells}
use Rattle.rist_sender.specs.Calls.{Work, Rules}
use Rattle.rist_sender.specs.Sender.{SenderState, StaysSet, DoesWork}
use Rattle.sender_rules.specs.declared.send_bad.SendBad.{SendBad}
use Rattle.rist_sender.specs.Served.{AreServed}
use Rattle.rist_sender.specs.Served.{ReadsAt}
use Rattle.rist_sender.proofs.ServedLemmas.{all_none, all_then, all_given, all_read, reads_given, reads_at}
use Rattle.rist_gateway.specs.Course.{Setup, Passed, Course, with_read, SendsPart, AreParts, SendsOn}
use Rattle.rist_gateway.specs.Onward.{passed_of}
use Rattle.rist_gateway.specs.Inside.Moves.{setup_with, IsFar, Goes, SendsBefore}

-- nothing is done to sender and links
pub goes_none : {L : Type 0} (line : LinkTells L) (s : SenderState) (m : Passed) (ls : List L) (from : Course) (P : Course → Type 0) → IsFar line s m ls from → P from → Goes line s s m ls ls from P
goes_none line s m ls from P far fact = record { to = from; fact = fact; stands = far; given = all_none line s.flow s.session from.work.history ls }

-- a call of the sender; the clock gave what it did
pub goes_call : {L : Type 0} (line : LinkTells L) (s t : SenderState) (m n : Passed) (was is : List L) (from : Course) (P : Work → Type 0) (R : Course → Type 0)
    → length is ≡ length was → IsFar line s m was from → DoesWork line s t was is from.work P
    → ((w : Work) → P w → R (record from { work = w; passed = n })) → Goes line s t n was is from R
goes_call line s t m n was is from P R long far d both = record {
  to = record from { work = d.to; passed = n };
  fact = both d.to d.fact;
  stands = record {
    sender = d.stands;
    passed_is = refl;
    answers = far.answers ∙ sym (reads_given line s.flow s.session from.work.history d.to.history was is long d.given);
  };
  given = all_given line s.flow s.session from.work.history d.to.history was is d.given;
}

-- a part, and then the next
pub goes_then : {L : Type 0} (line : LinkTells L) (r s t : SenderState) (m n : Passed) (was mid is : List L) (from : Course) (P Q R : Course → Type 0) → length mid ≡ length was → StaysSet r s
    → (d : Goes line r s m was mid from P) → Goes line s t n mid is d.to Q → ((to : Course) → Q to → R to) → Goes line r t n was is from R
goes_then {L} line r s t m n was mid is from P Q R same stay d e both = record {
  to = e.to;
  fact = both e.to e.fact;
  stands = e.stands;
  given = all_then line r.flow r.session from.work.history d.to.work.history e.to.work.history was mid is same d.given
      (subst (λ (x : Session). AreServed line r.flow x d.to.work.history e.to.work.history mid is) stay.session
      (subst (λ (f : ℕ). AreServed line f s.session d.to.work.history e.to.work.history mid is) (ap (λ (x : Rules). x.flow) stay.rules) e.given));
}

-- the same of which something else is said
pub goes_as : {L : Type 0} (line : LinkTells L) (s t : SenderState) (m : Passed) (was is : List L) (from : Course) (P R : Course → Type 0) → Goes line s t m was is from P → ((to : Course) → P to → R to) → Goes line s t m was is from R
goes_as line s t m was is from P R d both = record { to = d.to; fact = both d.to d.fact; stands = d.stands; given = d.given }

pub setup_same : (s t : SenderState) (m n : ℕ) → StaysSet s t → n ≡ m → setup_with t n ≡ setup_with s m
setup_same s t m n stay same = λ i. record { rules = stay.rules i; session = stay.session i; links = same i }

pub setup_links : (s : SenderState) (m n : ℕ) → n ≡ m → setup_with s n ≡ setup_with s m
setup_links s m n same = ap (setup_with s) same

pub stays_none : (s : SenderState) → StaysSet s s
stays_none s = record { rules = refl; session = refl }

pub stays_then : (r s t : SenderState) → StaysSet r s → StaysSet s t → StaysSet r t
stays_then r s t a b = record { rules = b.rules ∙ a.rules; session = b.session ∙ a.session }

-- ---- a read of a link

-- it gave the first of what it had to give
first_at : {L : Type 0} (line : LinkTells L) (place : ℕ) (answer : Answer) (a b : List L) → place < length a → ReadsAt line place answer a b
    → IsFirst (get_or (map line.reads a) place None) answer
first_at line place answer [] b inside r = absurd (omega (arith, inside))
first_at line place answer (x ∷ a) b inside r =
    subst (λ (told : Option (ℕ → Answer)). IsFirst told answer) (sym (get_or-map line.reads (x ∷ a) place x None inside)) (r.first x)

-- sender and links are as far as with that answer
pub read_far : {L : Type 0} (line : LinkTells L) (s : SenderState) (m : Passed) (place : ℕ) (answer : Answer) (was mid : List L) (from : Course) → length mid ≡ length was → place < length was
    → ReadsAt line place answer was mid → IsFar line s m was from → IsFar line s m mid (with_read place from)
read_far line s m place answer was mid from same inside r far = record {
  sender = far.sender;
  passed_is = far.passed_is;
  answers = ap (λ (told : List (Option (ℕ → Answer))). set told place (option_map later (get_or told place None))) far.answers ∙ sym (reads_at line place answer was mid same inside r);
}

-- a link gave an answer, and then what follows
pub reads_then : {L : Type 0} (line : LinkTells L) (s t : SenderState) (m : Passed) (micros place puts : ℕ) (answer : Answer) (was mid is : List L) (from : Course) (P : Course → Type 0) (R : Course → Type 0)
    → length mid ≡ length was → place < length was → ReadsAt line place answer was mid → IsFar line s m was from
    → (IsFar line s m mid (with_read place from) → Goes line s t m mid is (with_read place from) P)
    → (IsFirst (get_or from.answers place None) answer → (to : Course) → P to → R to)
    → Goes line s t m was is from R
reads_then {L} line s t m micros place puts answer was mid is from P R same inside r far next both =
    let d = next (read_far line s m place answer was mid from same inside r far) in
    record {
      to = d.to;
      fact = both (subst (λ (told : List (Option (ℕ → Answer))). IsFirst (get_or told place None) answer) (sym far.answers) (first_at line place answer was mid inside r)) d.to d.fact;
      stands = d.stands;
      given = all_then line s.flow s.session from.work.history from.work.history d.to.work.history was mid is same
          (all_read line s.flow s.session from.work.history place answer was mid r) d.given;
    }

-- ---- parts of a piece

-- any octets can be cut
cut_within : (n : ℕ) (octets : List ℕ) → length octets ≤ n → (parts : List (List ℕ)) × AreParts parts octets
cut_within n [] within = ([], refl)
cut_within zero (x ∷ xs) within = absurd (omega (arith, within))
cut_within (suc n) (x ∷ xs) within =
    let rest = cut_within n (drop 1500 (x ∷ xs)) (shorter n 1499 xs (omega (arith, within))) in
    (take 1500 (x ∷ xs) ∷ rest.0, (omega arith, refl, rest.1))
  where
    shorter : (n k : ℕ) (ys : List ℕ) → length ys ≤ n → length (drop k ys) ≤ n
    shorter n zero ys w = w
    shorter n (suc k) [] w = w
    shorter n (suc k) (y ∷ ys) w = shorter n k ys (omega (arith, w))

pub cut_of : (octets : List ℕ) → (parts : List (List ℕ)) × AreParts parts octets
cut_of octets = cut_within (length octets) octets (omega arith)

-- a part was sent, and then the rest of the piece
pub sends_more : (setup : Setup) (piece rest : List ℕ) (from here to : Course) → 0 < length rest → SendsBefore setup piece rest from here → SendsPart setup (take 1500 rest) (Ok tt) here to
    → SendsBefore setup piece (drop 1500 rest) from to
sends_more setup piece rest from here to some before part result last more =
    before result last (record { parts = take 1500 rest ∷ more.parts; cut = (some, refl, more.cut); sends = (Ok tt, to, part, more.sends) })

-- a part was refused
pub sends_bad : (setup : Setup) (piece rest : List ℕ) (bad : SendBad) (from here to : Course) → 0 < length rest → SendsBefore setup piece rest from here → SendsPart setup (take 1500 rest) (Err bad) here to
    → SendsOn setup piece (Err bad) from to
sends_bad setup piece rest bad from here to some before part =
    let more = cut_of (drop 1500 rest) in
    before (Err bad) to (record { parts = take 1500 rest ∷ more.0; cut = (some, refl, more.1); sends = (Err bad, to, part, (refl, refl)) })

-- no octet is left
pub sends_none : (setup : Setup) (piece rest : List ℕ) (from here : Course) → length rest ≡ 0 → SendsBefore setup piece rest from here → SendsOn setup piece (Ok tt) from here
sends_none setup piece [] from here none before = before (Ok tt) here (record { parts = []; cut = refl; sends = (refl, refl) })
sends_none setup piece (x ∷ rest) from here none before = absurd (omega (arith, none))

-- the last part was sent, or refused
pub sends_last : (setup : Setup) (piece rest : List ℕ) (result : Result Unit SendBad) (from here to : Course) → 0 < length rest → take 1500 rest ≡ rest → drop 1500 rest ≡ []
    → SendsBefore setup piece rest from here → SendsPart setup rest result here to → SendsOn setup piece result from to
sends_last setup piece rest (Ok done) from here to some whole none before part =
    before (Ok tt) to (record { parts = rest ∷ []; cut = (some, sym whole, none); sends = (Ok tt, to, part, (refl, refl)) })
sends_last setup piece rest (Err bad) from here to some whole none before part =
    before (Err bad) to (record { parts = rest ∷ []; cut = (some, sym whole, none); sends = (Err bad, to, part, (refl, refl)) })

-- a list that is no longer than that
pub take_all : {A : Type 0} (k : ℕ) (xs : List A) → length xs ≤ k → take k xs ≡ xs
take_all zero [] w = refl
take_all zero (x ∷ xs) w = absurd (omega (arith, w))
take_all (suc k) [] w = refl
take_all (suc k) (x ∷ xs) w = ap (λ l. x ∷ l) (take_all k xs (omega (arith, w)))

pub drop_all : {A : Type 0} (k : ℕ) (xs : List A) → length xs ≤ k → drop k xs ≡ []
drop_all zero [] w = refl
drop_all zero (x ∷ xs) w = absurd (omega (arith, w))
drop_all (suc k) [] w = refl
drop_all (suc k) (x ∷ xs) w = drop_all k xs (omega (arith, w))

-- a part of the setup and the octets that it is said of
pub part_as : (s t : SenderState) (m n : ℕ) (part whole : List ℕ) (result : Result Unit SendBad) (from to : Course) → StaysSet s t → n ≡ m → part ≡ whole → SendsPart (setup_with t n) part result from to → SendsPart (setup_with s m) whole result from to
part_as s t m n part whole result from to stay same is fact =
    subst (λ (x : Setup). SendsPart x whole result from to) (setup_same s t m n stay same) (subst (λ (xs : List ℕ). SendsPart (setup_with t n) xs result from to) is fact)

-- the same moments and octets have passed
pub passed_equal : {m n : Option (ℕ → ℕ)} {s t : List ℕ} → m ≡ n → s ≡ t → passed_of m s ≡ passed_of n t
passed_equal p q = λ i. record { moments = p i; sent = q i }
