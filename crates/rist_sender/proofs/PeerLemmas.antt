-- A link that knew its peers at first, and of whose calls none failed, took what it was given.
use Rattle.std.proofs.Common.{◌≡◌, ◌∙◌, ◌<◌, ◌^◌, ◌-◌, ℕ, List, [], ◌∷◌, ◌++◌, length, get_or, Bool, true, false, if◌then◌else◌, option_map, refl, sym, ap, subst, arith}
use Rattle.std.specs.Prelude.{◌||◌, ◌==◌}
use Rattle.std.specs.List.{AllByRecursion, list_any}
use Rattle.link_channels.specs.declared.channel.Channel.{Channel}
use Rattle.outside_net.specs.Links.{Datagram, LinkTells}
use Rattle.rist_wire.specs.declared.session.Session.{Session}
use Rattle.rist_sender.specs.declared.answer.Answer.{Answer}
use Rattle.rist_sender.specs.declared.answer.Answer.TheVariants.{Took, NoPeer, Failed}
use Rattle.rist_sender.specs.Links.{Tried, datagrams_given, datagrams_taken, is_failed, IsByThen}
use Rattle.rist_sender.specs.Messages.{kind_of}
use Rattle.rist_sender.specs.History.{Event, Called, Sent, Wrote, Renewed, Write, tried_as, tried_on}
use Rattle.rist_sender.specs.Served.{RisesWith, KnowsPeers, IsServed, AreServed}

-- no write failed where the count stands
none_failed : (p : Bool) (before now : ℕ) → RisesWith p before now → before < 2 ^ 64 - 1 → now ≡ before → p ≡ false
none_failed true before now rose few same = absurd (omega (arith, rose, few, same))
none_failed false before now rose few same = refl

none_left : (a b : Bool) → (a || b) ≡ false → (a ≡ false) × (b ≡ false)
none_left false b none = (refl, none)
none_left true b none = (none, absurd (cc none))

known_not : (b : Bool) → b ≡ true → b ≡ false → ⊥
known_not b known unknown = cc (known, unknown)

-- each of them was taken
each_taken : (was is : Channel → Bool) (ts : List Tried) → list_any (λ (t : Tried). is_failed t.answer) ts ≡ false
    → AllByRecursion (λ (t : Tried). IsByThen was is t.channel t.answer) ts → AllByRecursion (λ (t : Tried). was t.channel ≡ true) ts → datagrams_taken ts ≡ datagrams_given ts
each_taken was is [] none by known = refl
each_taken was is (t ∷ ts) none by known =
    let left = none_left (is_failed t.answer) (list_any (λ (x : Tried). is_failed x.answer) ts) none in
    one t.answer refl left.0 by.0 (each_taken was is ts left.1 by.1 known.1)
  where
    one : (a : Answer) → t.answer ≡ a → is_failed a ≡ false → IsByThen was is t.channel a → datagrams_taken ts ≡ datagrams_given ts → datagrams_taken (t ∷ ts) ≡ datagrams_given (t ∷ ts)
    one Took e ok at same = subst (λ (x : Answer). datagrams_taken ((record { channel = t.channel; octets = t.octets; answer = x }) ∷ ts) ≡ datagrams_given (t ∷ ts)) (sym e)
        (ap (λ (ds : List Datagram). (record { channel = t.channel; octets = t.octets }) ∷ ds) same)
    one NoPeer e ok at same = absurd (known_not (was t.channel) known.0 at)
    one Failed e ok at same = absurd (cc ok)

pub took_gained : {L : Type 0} (line : LinkTells L) (had has : List Tried) (was is : L) → (s : IsServed line had has was is) → line.faults was < 2 ^ 64 - 1 → line.faults is ≡ line.faults was
    → AllByRecursion (λ (t : Tried). line.knows was t.channel ≡ true) s.gained → datagrams_taken s.gained ≡ datagrams_given s.gained
took_gained line had has was is s few same known =
    each_taken (line.knows was) (line.knows is) s.gained
    (none_failed (list_any (λ (t : Tried). is_failed t.answer) s.gained) (line.faults was) (line.faults is) s.faults few same) s.answers known

-- ---- by its history

all_more : (P : Tried → Type 0) (xs ys : List Tried) → AllByRecursion P xs → AllByRecursion P ys → AllByRecursion P (xs ++ ys)
all_more P [] ys a b = b
all_more P (x ∷ xs) ys a b = (a.0, all_more P xs ys a.1 b)

all_if : (P : Tried → Type 0) (b : Bool) (x : Tried) → P x → AllByRecursion P (if b then x ∷ [] else [])
all_if P true x p = (p, tt)
all_if P false x p = tt

known_as : (flow : ℕ) (session : Session) (knows : Channel → Bool) (write : Write) → KnowsPeers session knows → knows (tried_as flow session write).channel ≡ true
unfolding tried_as
known_as flow session knows write known = known (kind_of write.message)

-- each went on a channel of the session
known_on : (flow : ℕ) (session : Session) (knows : Channel → Bool) (link : ℕ) (history : List Event) → KnowsPeers session knows
    → AllByRecursion (λ (t : Tried). knows t.channel ≡ true) (tried_on (tried_as flow session) link history)
known_on flow session knows link [] known = tt
known_on flow session knows link (Called micros ∷ before) known = known_on flow session knows link before known
known_on flow session knows link (Sent packet ∷ before) known = known_on flow session knows link before known
known_on flow session knows link (Wrote write ∷ before) known =
    all_more (λ (t : Tried). knows t.channel ≡ true) (tried_on (tried_as flow session) link before) (if write.link == link then tried_as flow session write ∷ [] else [])
    (known_on flow session knows link before known)
    (all_if (λ (t : Tried). knows t.channel ≡ true) (write.link == link) (tried_as flow session write) (known_as flow session knows write known))
known_on flow session knows link (Renewed other first ∷ before) known = known_on flow session knows link before known

pub took_all : {L : Type 0} (line : LinkTells L) (flow : ℕ) (session : Session) (history : List Event) (were are : List L) (link : ℕ) (d : L)
    → AreServed line flow session [] history were are → link < length were → line.faults (get_or were link d) < 2 ^ 64 - 1 → line.faults (get_or are link d) ≡ line.faults (get_or were link d)
    → KnowsPeers session (line.knows (get_or were link d))
    → line.taken (get_or are link d) ≡ option_map (λ held. held ++ datagrams_given (tried_on (tried_as flow session) link history)) (line.taken (get_or were link d))
took_all line flow session history were are link d served among few same known =
    let s = served link d among in
    let all = took_gained line [] (tried_on (tried_as flow session) link history) (get_or were link d) (get_or are link d) s few same
    (subst (λ (ts : List Tried). AllByRecursion (λ (t : Tried). line.knows (get_or were link d) t.channel ≡ true) ts) s.more (known_on flow session (line.knows (get_or were link d)) link history known)) in
    s.taken ∙ ap (λ (ds : List Datagram). option_map (λ held. held ++ ds) (line.taken (get_or were link d))) (all ∙ ap datagrams_given (sym s.more))
