-- What a read leaves of its link, and what links were given, part after part.
use Rattle.std.proofs.Common.{◌≡◌, ◌≢◌, ◌∙◌, ℕ, suc, ◌<◌, ◌≤◌, Bool, true, false, List, [], ◌∷◌, ◌++◌, length, get_or, set, map, Option, None, Some, option_map, refl, sym, ap, subst, arith, append_assoc, append-nil}
use Rattle.std.specs.Prelude.{◌||◌, ◌==◌}
use Rattle.std.proofs.lemmas.Bool.{eq-eqb, eqb-true}
use Rattle.std.specs.List.{AllByRecursion, list_any}
use Rattle.std.proofs.lemmas.List.{get_or-map, length-map, length-set, get_or-set_other}
use Rattle.std.proofs.lemmas.Grind.{get_or-set_at}
use Rattle.std.proofs.lemmas.List.Folds.{list_any-append}
use Rattle.outside_io.specs.Causes.{RoseWhere}
use Rattle.outside_net.specs.Streams.{later}
use Rattle.link_channels.specs.declared.channel.Channel.{Channel}
use Rattle.outside_net.specs.declared.link.Got.{Got}
use Rattle.outside_net.specs.declared.link.Got.TheVariants as gots
use Rattle.link_channels.specs.declared.channel.Channel.TheVariants as channels
use Rattle.outside_net.specs.Links as answered
use Rattle.outside_net.specs.Links.{Datagram, Answer, Gave, Quiet, End, KnowsAfter, LearnsOf, answer_of, has_read_failed, has_come_to_end}
use Rattle.rist_wire.specs.declared.session.Session.{Session}
use Rattle.outside_net.specs.Links.{LinkTells}
use Rattle.rist_sender.specs.declared.answer.Answer.{Answer as Written}
use Rattle.rist_sender.specs.declared.answer.Answer.TheVariants.{Took, NoPeer, Failed}
use Rattle.rist_sender.specs.Links.{Tried, taken_as, datagrams_taken, is_failed, IsBy, IsByThen}
use Rattle.rist_sender.specs.History.{Event, tried_as, tried_on}
use Rattle.rist_sender.specs.Sender.{IsGiven, AreGiven}
use Rattle.rist_sender.specs.Served.{RisesWith, KeepsPeers, IsServed, AreServed, ReadsAt, KnowsWith, says_failed, says_end}

-- ---- a read, by the answer that it gave

pub faults_by : (got : Got) (block : List ℕ) (before now : ℕ) → RoseWhere (has_read_failed got) before now → RoseWhere (says_failed (answer_of got block)) before now
faults_by (gots.Datagram channel count) block before now rose = rose
faults_by gots.Quiet block before now rose = rose
faults_by gots.End block before now rose = rose
faults_by gots.Failed block before now rose = rose

pub ends_by : (got : Got) (block : List ℕ) (before now : ℕ) → RoseWhere (has_come_to_end got) before now → RoseWhere (says_end (answer_of got block)) before now
ends_by (gots.Datagram channel count) block before now rose = rose
ends_by gots.Quiet block before now rose = rose
ends_by gots.End block before now rose = rose
ends_by gots.Failed block before now rose = rose

pub knows_by : (got : Got) (block : List ℕ) (old new : Channel → Bool) → KnowsAfter old new got → KnowsWith old new (answer_of got block)
knows_by (gots.Datagram channel count) block old new knows = knows
knows_by gots.Quiet block old new knows = knows
knows_by gots.End block old new knows = knows
knows_by gots.Failed block old new knows = knows

-- ---- one link

told_none : (told : Option (List Datagram)) → told ≡ option_map (λ had. had ++ []) told
told_none None = refl
told_none (Some had) = ap Some (sym (append-nil had))

taken_both : (xs ys : List Tried) → datagrams_taken (xs ++ ys) ≡ datagrams_taken xs ++ datagrams_taken ys
taken_both [] ys = refl
taken_both (x ∷ xs) ys = ap (λ ds. taken_as x.channel x.octets x.answer ++ ds) (taken_both xs ys)
    ∙ sym (append_assoc (taken_as x.channel x.octets x.answer) (datagrams_taken xs) (datagrams_taken ys))

told_both : (xs ys both : List Datagram) (a b c : Option (List Datagram)) → both ≡ xs ++ ys
    → b ≡ option_map (λ had. had ++ xs) a → c ≡ option_map (λ had. had ++ ys) b → c ≡ option_map (λ had. had ++ both) a
told_both xs ys both None b c is f s = s ∙ ap (option_map (λ had. had ++ ys)) f
told_both xs ys both (Some had) b c is f s =
    s ∙ ap (option_map (λ h. h ++ ys)) f ∙ ap Some (append_assoc had xs ys ∙ ap (λ ds. had ++ ds) (sym is))

rises_both : (p q : Bool) (a b c : ℕ) → RisesWith p a b → RisesWith q b c → RisesWith (p || q) a c
rises_both true true a b c r s = omega (arith, r, s)
rises_both true false a b c r s = omega (arith, r, s)
rises_both false true a b c r s = omega (arith, r, s)
rises_both false false a b c r s = omega (arith, r, s)

rises_by : (p : Bool) (a b : ℕ) → RoseWhere p a b → RisesWith p a b
rises_by true a b r = r
rises_by false a b r = omega (arith, r)

-- a count that rose, or stands, didn't fall
never_falls : (p : Bool) (a b : ℕ) → RoseWhere p a b → a ≤ b
never_falls true a b r = omega (arith, r)
never_falls false a b r = omega (arith, r)

-- ---- peers

abbrev AllBy : (Channel → Bool) → (Channel → Bool) → List Tried → Type 0
AllBy was is ts = AllByRecursion (λ (t : Tried). IsByThen was is t.channel t.answer) ts

not_before : (a b : Bool) → (a ≡ true → b ≡ true) → b ≡ false → a ≡ false
not_before false b keeps unknown = refl
not_before true b keeps unknown = absurd (true_not_false (sym (keeps refl) ∙ unknown))
  where
    true_not_false : true ≡ false → ⊥
    true_not_false e = cc e

-- what was said of them holds where fewer peers were known before, and more are known after
by_wider : (f g h k : Channel → Bool) → KeepsPeers f g → KeepsPeers h k → (ts : List Tried) → AllBy g h ts → AllBy f k ts
by_wider f g h k before after [] all = tt
by_wider f g h k before after (t ∷ ts) all = (one t.answer all.0, by_wider f g h k before after ts all.1)
  where
    one : (a : Written) → IsByThen g h t.channel a → IsByThen f k t.channel a
    one Took is = after t.channel is
    one NoPeer is = not_before (f t.channel) (g t.channel) (before t.channel) is
    one Failed is = tt

by_both : (f h : Channel → Bool) (xs ys : List Tried) → AllBy f h xs → AllBy f h ys → AllBy f h (xs ++ ys)
by_both f h [] ys a b = b
by_both f h (x ∷ xs) ys a b = (a.0, by_both f h xs ys a.1 b)

-- at the writes the same peers are known all the time
by_then : (f h : Channel → Bool) → ((c : Channel) → h c ≡ f c) → (ts : List Tried) → AllByRecursion (λ (t : Tried). IsBy f t.channel t.answer) ts → AllBy f h ts
by_then f h same [] all = tt
by_then f h same (t ∷ ts) all = (one t.answer all.0, by_then f h same ts all.1)
  where
    one : (a : Written) → IsBy f t.channel a → IsByThen f h t.channel a
    one Took is = same t.channel ∙ is
    one NoPeer is = is
    one Failed is = tt

keeps_all : (f : Channel → Bool) → KeepsPeers f f
keeps_all f c known = known

keeps_same : (f h : Channel → Bool) → ((c : Channel) → h c ≡ f c) → KeepsPeers f h
keeps_same f h same c known = same c ∙ known

-- a read may make a peer known, and forgets none
keeps_read : (f h : Channel → Bool) (answer : Answer) → KnowsWith f h answer → KeepsPeers f h
keeps_read f h (Gave datagram) k = λ c known. learns f h datagram.channel c k known
  where
    learns : (f h : Channel → Bool) (channel c : Channel) → LearnsOf channel f h → f c ≡ true → h c ≡ true
    learns f h channels.Media channels.Media k known = k.known
    learns f h channels.Media channels.Control k known = k.others channels.Control (λ e. cc e) ∙ known
    learns f h channels.Media channels.Tunnel k known = k.others channels.Tunnel (λ e. cc e) ∙ known
    learns f h channels.Control channels.Media k known = k.others channels.Media (λ e. cc e) ∙ known
    learns f h channels.Control channels.Control k known = k.known
    learns f h channels.Control channels.Tunnel k known = k.others channels.Tunnel (λ e. cc e) ∙ known
    learns f h channels.Tunnel channels.Media k known = k.others channels.Media (λ e. cc e) ∙ known
    learns f h channels.Tunnel channels.Control k known = k.others channels.Control (λ e. cc e) ∙ known
    learns f h channels.Tunnel channels.Tunnel k known = k.known
keeps_read f h Quiet k = keeps_same f h k
keeps_read f h End k = keeps_same f h k
keeps_read f h answered.Failed k = keeps_same f h k

-- ---- one link, part after part

served_then : {L : Type 0} (line : LinkTells L) (h i j : List Tried) (a b c : L) → IsServed line h i a b → IsServed line i j b c → IsServed line h j a c
served_then line h i j a b c x y = record {
  gained = x.gained ++ y.gained;
  more = y.more ∙ ap (λ ts. ts ++ y.gained) x.more ∙ append_assoc h x.gained y.gained;
  taken = told_both (datagrams_taken x.gained) (datagrams_taken y.gained) (datagrams_taken (x.gained ++ y.gained)) (line.taken a) (line.taken b) (line.taken c) (taken_both x.gained y.gained) x.taken y.taken;
  answers = by_both (line.knows a) (line.knows c) x.gained y.gained
      (by_wider (line.knows a) (line.knows a) (line.knows b) (line.knows c) (keeps_all (line.knows a)) y.knows x.gained x.answers)
      (by_wider (line.knows a) (line.knows b) (line.knows c) (line.knows c) x.knows (keeps_all (line.knows c)) y.gained y.answers);
  knows = λ k known. y.knows k (x.knows k known);
  faults = subst (λ (p : Bool). RisesWith p (line.faults a) (line.faults c)) (sym (list_any-append (λ (t : Tried). is_failed t.answer) x.gained y.gained))
      (rises_both (list_any (λ (t : Tried). is_failed t.answer) x.gained) (list_any (λ (t : Tried). is_failed t.answer) y.gained) (line.faults a) (line.faults b) (line.faults c) x.faults y.faults);
}

-- a link of which no more is taken
served_same : {L : Type 0} (line : LinkTells L) (h : List Tried) (a b : L) → line.taken b ≡ line.taken a → KeepsPeers (line.knows a) (line.knows b) → line.faults a ≤ line.faults b → IsServed line h h a b
served_same line h a b taken knows faults = record { gained = []; more = sym (append-nil h); taken = taken ∙ told_none (line.taken a); answers = tt; knows = knows; faults = faults }

served_given : {L : Type 0} (line : LinkTells L) (h i : List Tried) (a b : L) → IsGiven line h i a b → IsServed line h i a b
served_given line h i a b x = record {
  gained = x.gained;
  more = x.more;
  taken = x.delivers.taken;
  answers = by_then (line.knows a) (line.knows b) x.delivers.knows x.gained x.delivers.answers;
  knows = keeps_same (line.knows a) (line.knows b) x.delivers.knows;
  faults = rises_by (list_any (λ (t : Tried). is_failed t.answer) x.gained) (line.faults a) (line.faults b) x.delivers.faults;
}

-- ---- all links

pub all_none : {L : Type 0} (line : LinkTells L) (flow : ℕ) (session : Session) (h : List Event) (was : List L) → AreServed line flow session h h was was
all_none line flow session h was link d among = served_same line _ (get_or was link d) (get_or was link d) refl (keeps_all (line.knows (get_or was link d))) (omega arith)

pub all_then : {L : Type 0} (line : LinkTells L) (flow : ℕ) (session : Session) (h i j : List Event) (a b c : List L) → length b ≡ length a
    → AreServed line flow session h i a b → AreServed line flow session i j b c → AreServed line flow session h j a c
all_then line flow session h i j a b c same f g link d among =
    served_then line _ (tried_on (tried_as flow session) link i) _ (get_or a link d) (get_or b link d) (get_or c link d) (f link d among) (g link d (omega (arith, same, among)))

pub all_given : {L : Type 0} (line : LinkTells L) (flow : ℕ) (session : Session) (h i : List Event) (a b : List L)
    → AreGiven line flow session h i a b → AreServed line flow session h i a b
all_given line flow session h i a b f link d among = served_given line _ _ (get_or a link d) (get_or b link d) (f link d among)

-- a read of one of them
pub all_read : {L : Type 0} (line : LinkTells L) (flow : ℕ) (session : Session) (h : List Event) (place : ℕ) (answer : Answer) (a b : List L)
    → ReadsAt line place answer a b → AreServed line flow session h h a b
all_read {L} line flow session h place answer a b r link d among =
    elim (link == place) as (λ (x : Bool). (link == place) ≡ x → IsServed line (tried_on (tried_as flow session) link h) (tried_on (tried_as flow session) link h) (get_or a link d) (get_or b link d)) [
      | true ↦ λ yes.
          let is : place ≡ link = sym (eqb-true link place yes) in
          served_same line _ (get_or a link d) (get_or b link d)
          (subst (λ (k : ℕ). line.taken (get_or b k d) ≡ line.taken (get_or a k d)) is (r.taken d))
          (subst (λ (k : ℕ). KeepsPeers (line.knows (get_or a k d)) (line.knows (get_or b k d))) is
          (keeps_read (line.knows (get_or a place d)) (line.knows (get_or b place d)) answer (r.knows d)))
          (subst (λ (k : ℕ). line.faults (get_or a k d) ≤ line.faults (get_or b k d)) is
          (never_falls (says_failed answer) (line.faults (get_or a place d)) (line.faults (get_or b place d)) (r.faults d)))
      | false ↦ λ no.
          let other : link ≢ place = λ (e : link ≡ place). cc (eq-eqb link place e) in
          let same : get_or b link d ≡ get_or a link d = r.others link d other in
          let count : line.faults (get_or b link d) ≡ line.faults (get_or a link d) = ap line.faults same in
          served_same line _ (get_or a link d) (get_or b link d) (ap line.taken same) (λ c known. ap (λ (x : L). line.knows x c) same ∙ known) (omega (arith, count))
    ] refl

-- ---- what the reads have still to give

-- a list by its places
by_place : {L X : Type 0} (f : L → X) (b : List L) (xs : List X) → length xs ≡ length b
    → ((k : ℕ) (d : L) (e : X) → k < length b → f (get_or b k d) ≡ get_or xs k e) → map f b ≡ xs
by_place f [] [] same at = refl
by_place f [] (x ∷ xs) same at = absurd (omega (arith, same))
by_place f (y ∷ b) [] same at = absurd (omega (arith, same))
by_place f (y ∷ b) (x ∷ xs) same at = λ i. at 0 y x (omega arith) i ∷ by_place f b xs (omega (arith, same)) (λ k d e among. at (suc k) d e (omega (arith, among))) i

-- the calls of a sender read nothing
pub reads_given : {L : Type 0} (line : LinkTells L) (flow : ℕ) (session : Session) (h i : List Event) (a b : List L) → length b ≡ length a
    → AreGiven line flow session h i a b → map line.reads b ≡ map line.reads a
reads_given line flow session h i a b same given = by_place line.reads b (map line.reads a) (length-map a line.reads ∙ sym same)
    (λ k d e among.
    let here : k < length a = omega (arith, among, same) in
    (given k d here).delivers.reads ∙ sym (get_or-map line.reads a k d e here))

-- a read takes the first of what one has to give
pub reads_at : {L : Type 0} (line : LinkTells L) (place : ℕ) (answer : Answer) (a b : List L) → length b ≡ length a → place < length a
    → ReadsAt line place answer a b → map line.reads b ≡ set (map line.reads a) place (option_map later (get_or (map line.reads a) place None))
reads_at {L} line place answer a b same inside r =
    let reads = map line.reads a in
    let next = option_map later (get_or reads place None) in
    let long : length reads ≡ length a = length-map a line.reads in
    by_place line.reads b (set reads place next) (length-set reads place next ∙ long ∙ sym same)
    (λ k d e among.
    let here : k < length a = omega (arith, among, same) in
    elim (k == place) as (λ (x : Bool). (k == place) ≡ x → line.reads (get_or b k d) ≡ get_or (set reads place next) k e) [
      | true ↦ λ yes.
          let is : place ≡ k = sym (eqb-true k place yes) in
          subst (λ (j : ℕ). line.reads (get_or b j d) ≡ get_or (set reads place next) j e) is
          (r.reads d ∙ ap (option_map later) (sym (get_or-map line.reads a place d None inside)) ∙ sym (get_or-set_at reads place place next e refl (omega (arith, long, inside))))
      | false ↦ λ no.
          let other : k ≢ place = λ (q : k ≡ place). cc (eq-eqb k place q) in
          ap line.reads (r.others k d other) ∙ sym (get_or-map line.reads a k d e here) ∙ sym (get_or-set_other reads place k next e other)
    ] refl)
