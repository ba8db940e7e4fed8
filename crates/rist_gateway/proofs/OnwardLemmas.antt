-- The sending end after one more call.
use Rattle.std.proofs.Common.{◌≡◌, ◌⊎◌, inl, inr, ◌∙◌, ℕ, ◌<◌, ◌≤◌, nat_lt, List, [], ◌∷◌, ◌++◌, drop, length, get_or, map, Bool, true, false, Option, None, Some, Result, Ok, Err, refl, sym, ap, subst, arith}
use Rattle.std.proofs.lemmas.List.{get_or-map, length-map, append-nil, append_assoc, take-append-drop}
use Rattle.outside_io.specs.Causes.{Rose}
use Rattle.outside_io.specs.Told.{IsPrefix}
use Rattle.outside_net.specs.Links.{Answer, Gave, Quiet, End, Failed}
use Rattle.rtcp_compound.specs.Compound.{Content}
use Rattle.rist_wire.specs.declared.session.Session.{Session}
use Rattle.sender_rules.specs.declared.send_bad.SendBad.{SendBad}
use Rattle.sender_rules.specs.declared.send_bad.SendBad.TheVariants.{Spent, LinksDown}
use Rattle.outside_net.specs.Links.{LinkTells}
use Rattle.rist_sender.specs.History.{Event, tried_as, tried_on}
use Rattle.rist_sender.specs.Calls.{Rules, IfElse, AreDown}
use Rattle.rist_sender.specs.Sender.{SenderState, rules_of, StaysSet}
use Rattle.rist_sender.specs.Served.{RisesWith}
use Rattle.rist_sender.specs.Served.{IsServed}
use Rattle.rist_sender.specs.Served.{AreServed}
use Rattle.rist_sender.specs.Incoming.{compound_in}
use Rattle.rist_sender.proofs.ServedLemmas.{all_none, all_then}
use Rattle.rist_sender.proofs.DownLemmas.{down_rose}
use Rattle.rist_desk.specs.declared.beside.Side.{Side}
use Rattle.rist_desk.specs.declared.beside.Side.TheVariants as sides
use Rattle.rist_gateway.specs.Course.{Setup, Passed, Course, Deed, Sent, Looked, AreParts, SendsParts, SendsOn, TicksOnce, AnswersAndTicks, AfterRead, ReadsOnce, LooksAt, DoesAll, side_of, with_read}
use Rattle.rist_gateway.specs.Onward.{LinkState, shown, plain, OnwardState, onward_of, setup_of, IsAt, Moves, start_of, HasRisen, IsOnward, IsUncalled, AnswersPut, Puts, Looks, bad_after}
use Rattle.rist_gateway.specs.Inside.Moves.{setup_with, IsFar, Goes}

-- ---- links as they are shown

-- each link was served, as it is shown
shown_served : {L : Type 0} (line : LinkTells L) (flow : ℕ) (session : Session) (h i : List Event) (was is : List L) → length is ≡ length was
    → AreServed line flow session h i was is → AreServed plain flow session h i (map (shown line) was) (map (shown line) is)
shown_served line flow session h i [] is same given link d among = absurd (omega (arith, among))
shown_served {L} line flow session h i (x ∷ was) is same given link d among =
    let here : link < length (x ∷ was) = omega (arith, length-map (x ∷ was) (shown line), among) in
    let there : link < length is = omega (arith, here, same) in
    let s = given link x here in
    let P : LinkState → LinkState → Type 0 = λ a b. IsServed plain (tried_on (tried_as flow session) link h) (tried_on (tried_as flow session) link i) a b in
    subst (λ (a : LinkState). P a (get_or (map (shown line) is) link d)) (sym (get_or-map (shown line) (x ∷ was) link x d here))
    (subst (λ (b : LinkState). P (shown line (get_or (x ∷ was) link x)) b) (sym (get_or-map (shown line) is link x d there))
    (record { gained = s.gained; more = s.more; taken = s.taken; answers = s.answers; knows = s.knows; faults = s.faults }))

reads_shown : {L : Type 0} (line : LinkTells L) (xs : List L) → map (λ (s : LinkState). s.reads) (map (shown line) xs) ≡ map line.reads xs
reads_shown line [] = refl
reads_shown line (x ∷ xs) = ap (λ l. line.reads x ∷ l) (reads_shown line xs)

pub far_of : {L : Type 0} (line : LinkTells L) (s : SenderState) (opener : Session) (links : List L) (m : Passed) (puts faults : ℕ) (put_bad aside_bad : Option SendBad) (from : Course)
    → IsAt (onward_of line s opener links m puts faults put_bad aside_bad) from → IsFar line s m links from
far_of line s opener links m puts faults put_bad aside_bad from at = record { sender = at.sender; passed_is = at.passed; answers = at.answers ∙ reads_shown line links }

setup_shown : {L : Type 0} (line : LinkTells L) (s : SenderState) (opener : Session) (links : List L) (m : Passed) (puts faults : ℕ) (put_bad aside_bad : Option SendBad)
    → setup_with s (length links) ≡ setup_of (onward_of line s opener links m puts faults put_bad aside_bad)
setup_shown line s opener links m puts faults put_bad aside_bad = ap (setup_with s) (sym (length-map links (shown line)))

-- what a call did, as it is shown
pub moves_of : {L : Type 0} (line : LinkTells L) (s t : SenderState) (op oq : Session) (was is : List L) (m n : Passed) (p q f h : ℕ) (pb qb ab bb : Option SendBad) (from : Course) (P : Setup → Course → Type 0)
    → length is ≡ length was → Goes line s t n was is from (P (setup_with s (length was)))
    → Moves (onward_of line s op was m p f pb ab) (onward_of line t oq is n q h qb bb) from (P (setup_of (onward_of line s op was m p f pb ab)))
moves_of line s t op oq was is m n p q f h pb qb ab bb from P long d = record {
  to = d.to;
  fact = subst (λ (x : Setup). P x d.to) (setup_shown line s op was m p f pb ab) d.fact;
  stands = record { sender = d.stands.sender; passed = d.stands.passed_is; answers = d.stands.answers ∙ sym (reads_shown line is) };
  given = shown_served line s.flow s.session from.work.history d.to.work.history was is long d.given;
}

-- ---- refusals

down_parts : (setup : Setup) (parts : List (List ℕ)) (result : Result Unit SendBad) (from to : Course) → SendsParts setup parts result from to → result ≡ Err LinksDown → AreDown setup.links to.work.history
down_parts setup [] result from to s e = absurd (cc (sym s.0 ∙ e))
down_parts setup (part ∷ parts) result from to (Ok done, between, sent, more) e = down_parts setup parts result between to more e
down_parts setup (part ∷ parts) result from to (Err Spent, between, sent, more) e = absurd (cc (sym more.0 ∙ e))
down_parts setup (part ∷ parts) result from to (Err LinksDown, between, sent, more) e =
    subst (λ (x : Course). AreDown setup.links x.work.history) (sym more.1) sent.sends.answer.1

down_tick : (setup : Setup) (micros : ℕ) (result : Result Unit SendBad) (from to : Course) → TicksOnce setup micros result from to → result ≡ Err LinksDown → AreDown setup.links to.work.history
down_tick setup micros (Ok done) from to t e = absurd (cc (e))
down_tick setup micros (Err Spent) from to t e = absurd (cc (e))
down_tick setup micros (Err LinksDown) from to t e = t.ticks.answer.1

down_answers : (setup : Setup) (micros link : ℕ) (compound : Option (List Content)) (result : Result Unit SendBad) (from to : Course) → AnswersAndTicks setup micros link compound result from to
    → result ≡ Err LinksDown → AreDown setup.links to.work.history
down_answers setup micros link None result from to a e = down_tick setup micros result from to a e
down_answers setup micros link (Some compound) result from to (Ok count, between, feeds, ticks) e = down_tick setup micros result between to ticks e
down_answers setup micros link (Some compound) result from to (Err Spent, between, feeds, ticks) e = absurd (cc (sym ticks.0 ∙ e))
down_answers setup micros link (Some compound) result from to (Err LinksDown, between, feeds, ticks) e =
    subst (λ (x : Course). AreDown setup.links x.work.history) (sym ticks.1) feeds.feeds.answer.1

side_bad : (came : Bool) (puts : ℕ) (result : Result Unit SendBad) (bad : SendBad) → sides.Bad bad ≡ side_of came puts result → result ≡ Err bad
side_bad true puts (Ok done) bad e = absurd (cc (e))
side_bad false puts (Ok done) bad e = absurd (cc (e))
side_bad true puts (Err b) bad e = cc (e)
side_bad false puts (Err b) bad e = cc (e)

down_read : (setup : Setup) (micros link puts : ℕ) (answer : Answer) (side : Side) (from to : Course) → AfterRead setup micros link puts answer side from to → side ≡ sides.Bad LinksDown → AreDown setup.links to.work.history
down_read setup micros link puts (Gave d) side from to (result, does, is) e = down_answers setup micros link (compound_in setup.session (Gave d)) result from to does (side_bad true puts result LinksDown (sym e ∙ is))
down_read setup micros link puts Quiet side from to (result, does, is) e = down_tick setup micros result from to does (side_bad false puts result LinksDown (sym e ∙ is))
down_read setup micros link puts End side from to (is, same) e = absurd (cc (sym is ∙ e))
down_read setup micros link puts Failed side from to (is, same) e = absurd (cc (sym is ∙ e))

down_where : (setup : Setup) (micros link puts : ℕ) (side : Side) (from to : Course) (b : Bool) → IfElse b (ReadsOnce setup micros link puts side from to) ((side ≡ sides.End) × (to ≡ from)) → side ≡ sides.Bad LinksDown
    → AreDown setup.links to.work.history
down_where setup micros link puts side from to true r e = down_read setup micros link puts r.answer side (with_read link from) to r.after e
down_where setup micros link puts side from to false r e = absurd (cc (sym r.0 ∙ e))

down_look : (setup : Setup) (micros link puts : ℕ) (side : Side) (from to : Course) → LooksAt setup micros link puts side from to → side ≡ sides.Bad LinksDown → AreDown setup.links to.work.history
down_look setup micros link puts side from to l e = down_where setup micros link puts side from to (nat_lt link setup.links) l e

-- ---- deeds

-- parts that were sent are deeds
deeds_of : (setup : Setup) (parts : List (List ℕ)) (result : Result Unit SendBad) (start from to : Course) (deeds : List Deed) → DoesAll setup deeds start from → SendsParts setup parts result from to
    → (more : List Deed) × DoesAll setup more start to
deeds_of setup [] result start from to deeds does s = (deeds, subst (DoesAll setup deeds start) (sym s.1) does)
deeds_of setup (part ∷ parts) result start from to deeds does (Ok done, between, sent, more) = deeds_of setup parts result start between to (Sent part (Ok done) ∷ deeds) (from, does, sent) more
deeds_of setup (part ∷ parts) result start from to deeds does (Err bad, between, sent, more) =
    (Sent part (Err bad) ∷ deeds, subst (DoesAll setup (Sent part (Err bad) ∷ deeds) start) (sym more.1) (from, does, sent))

-- ---- what holds of it

rises_most : (b : Bool) (x y : ℕ) → RisesWith b x y → x ≤ y
rises_most true x y r = omega (arith, r)
rises_most false x y r = r

rose_more : (x y z : ℕ) → Rose x y → y ≤ z → Rose x z
rose_more x y z r more = omega (arith, r, more)

-- it rose before, and no count fell
risen_still : (why : Option SendBad) (flow : ℕ) (session : Session) (h i : List Event) (first was is : List LinkState) → length was ≡ length first → AreServed plain flow session h i was is
    → HasRisen why first was → HasRisen why first is
risen_still why flow session h i first was is same given risen e link d among =
    let s = given link d (omega (arith, same, among)) in
    rose_more (get_or first link d).faults (get_or was link d).faults (get_or is link d).faults (risen e link d among)
    (rises_most _ (get_or was link d).faults (get_or is link d).faults s.faults)

-- all links are down, so each count rose
risen_now : (why : Option SendBad) (links flow : ℕ) (session : Session) (history : List Event) (first is : List LinkState) → links ≡ length first
    → (why ≡ Some LinksDown → AreDown links history) → AreServed plain flow session [] history first is → HasRisen why first is
risen_now why links flow session history first is same down given e link d among =
    down_rose plain flow session history first is link d among (down e link (omega (arith, same, among))) given

-- after one more call it is set as before
pub record More (o e : OnwardState) : Type 0 where
  pub rules : rules_of e.sender ≡ rules_of o.sender
  pub session : e.sender.session ≡ o.sender.session
  pub opener : e.opener ≡ o.opener
  pub count : length e.links ≡ length o.links

setup_first : (first o : OnwardState) → IsOnward first o → setup_of o ≡ setup_of first
setup_first first o is = λ i. record { rules = is.rules i; session = is.session i; links = is.count i }

moved_more : (first o e : OnwardState) (P : Course → Type 0) → (is : IsOnward first o) → More o e → (m : Moves o e is.moved.to P)
    → AreServed plain first.sender.flow first.sender.session [] m.to.work.history first.links e.links
moved_more first o e P is more m =
    all_then plain first.sender.flow first.sender.session [] is.moved.to.work.history m.to.work.history first.links o.links e.links is.count is.moved.given
    (subst (λ (x : Session). AreServed plain first.sender.flow x is.moved.to.work.history m.to.work.history o.links e.links) is.session
    (subst (λ (f : ℕ). AreServed plain f o.sender.session is.moved.to.work.history m.to.work.history o.links e.links) (ap (λ (x : Rules). x.flow) is.rules) m.given))

onward_more : (first o e : OnwardState) (P : Course → Type 0) → (is : IsOnward first o) → More o e → (m : Moves o e is.moved.to P)
    → (deeds : List Deed) → DoesAll (setup_of first) deeds (start_of first) m.to → (e.put_bad ≡ None → (o.put_bad ≡ None) × (e.faults ≡ o.faults))
    → HasRisen e.put_bad first.links e.links → HasRisen e.aside_bad first.links e.links → IsOnward first e
onward_more first o e P is more m deeds does none put_down aside_down = record {
  rules = more.rules ∙ is.rules;
  session = more.session ∙ is.session;
  opener = more.opener ∙ is.opener;
  count = more.count ∙ is.count;
  bonded = is.bonded;
  few = is.few;
  deeds = deeds;
  moved = record { to = m.to; fact = does; stands = m.stands; given = moved_more first o e P is more m };
  refused = λ told. (none told).1 ∙ is.refused (none told).0;
  put_down = put_down;
  aside_down = aside_down;
}

-- ---- by call

pub onward_first : (o : OnwardState) → IsUncalled o → o.put_bad ≡ None → o.aside_bad ≡ None → IsOnward o o
onward_first o u put aside = record {
  rules = refl;
  session = refl;
  opener = u.opener;
  count = refl;
  bonded = u.bonded;
  few = u.few;
  deeds = [];
  moved = record { to = start_of o; fact = refl; stands = record { sender = u.sender; passed = refl; answers = refl }; given = all_none plain o.sender.flow o.sender.session [] o.links };
  refused = λ told. refl;
  put_down = λ e. absurd (none_some put e);
  aside_down = λ e. absurd (none_some aside e);
}
  where
    none_some : {b : SendBad} {x : Option SendBad} → x ≡ None → x ≡ Some b → ⊥
    none_some p q = cc (p, q)

-- a put that was made, or refused
pub onward_put : (first o e : OnwardState) (piece : List ℕ) (answer : Result Unit SendBad) → (is : IsOnward first o) → More o e
    → ((from : Course) → IsAt o from → Moves o e from (SendsOn (setup_of o) piece answer from))
    → ((bad : SendBad) → e.put_bad ≡ Some bad → (answer ≡ Err bad) ⊎ (o.put_bad ≡ Some bad)) → (e.put_bad ≡ None → (o.put_bad ≡ None) × (e.faults ≡ o.faults))
    → e.aside_bad ≡ o.aside_bad → IsOnward first e
onward_put first o e piece answer is more work put none aside =
    let m = work is.moved.to is.moved.stands in
    let same = setup_first first o is in
    let parts = subst (λ (x : Setup). SendsParts x m.fact.parts answer is.moved.to m.to) same m.fact.sends in
    let done = deeds_of (setup_of first) m.fact.parts answer (start_of first) is.moved.to m.to is.deeds is.moved.fact parts in
    let given = moved_more first o e _ is more m in
    onward_more first o e _ is more m done.0 done.1 none
    (λ down. by_cause given (put LinksDown down) down)
    (subst (λ (x : Option SendBad). HasRisen x first.links e.links) (sym aside)
    (risen_still o.aside_bad o.sender.flow o.sender.session is.moved.to.work.history m.to.work.history first.links o.links e.links is.count m.given is.aside_down))
  where
    m : Moves o e is.moved.to (SendsOn (setup_of o) piece answer is.moved.to)
    m = work is.moved.to is.moved.stands

    by_cause : AreServed plain first.sender.flow first.sender.session [] m.to.work.history first.links e.links → (answer ≡ Err LinksDown) ⊎ (o.put_bad ≡ Some LinksDown) → HasRisen e.put_bad first.links e.links
    by_cause given (inl now) = risen_now e.put_bad (setup_of o).links first.sender.flow first.sender.session m.to.work.history first.links e.links is.count (λ down. down_parts (setup_of o) m.fact.parts answer is.moved.to m.to m.fact.sends now) given
    by_cause given (inr before) = λ down. risen_still o.put_bad o.sender.flow o.sender.session is.moved.to.work.history m.to.work.history first.links o.links e.links is.count m.given is.put_down before

-- an aside
pub onward_aside : (first o e : OnwardState) (micros link : ℕ) (side : Side) → (is : IsOnward first o) → More o e
    → ((from : Course) → IsAt o from → Moves o e from (LooksAt (setup_of o) micros link o.puts side from))
    → e.put_bad ≡ o.put_bad → e.faults ≡ o.faults → e.aside_bad ≡ bad_after o.aside_bad side → IsOnward first e
onward_aside first o e micros link side is more work put same_faults aside =
    let same = setup_first first o is in
    let does : DoesAll (setup_of first) (Looked micros link o.puts side ∷ is.deeds) (start_of first) m.to = (is.moved.to, is.moved.fact, subst (λ (x : Setup). LooksAt x micros link o.puts side is.moved.to m.to) same m.fact) in
    onward_more first o e _ is more m (Looked micros link o.puts side ∷ is.deeds) does (λ told. (sym put ∙ told, same_faults))
    (subst (λ (x : Option SendBad). HasRisen x first.links e.links) (sym put)
    (risen_still o.put_bad o.sender.flow o.sender.session is.moved.to.work.history m.to.work.history first.links o.links e.links is.count m.given is.put_down))
    (subst (λ (x : Option SendBad). HasRisen x first.links e.links) (sym aside) (by_side side refl))
  where
    m : Moves o e is.moved.to (LooksAt (setup_of o) micros link o.puts side is.moved.to)
    m = work is.moved.to is.moved.stands

    still : HasRisen o.aside_bad first.links e.links
    still = risen_still o.aside_bad o.sender.flow o.sender.session is.moved.to.work.history m.to.work.history first.links o.links e.links is.count m.given is.aside_down

    by_side : (s : Side) → side ≡ s → HasRisen (bad_after o.aside_bad s) first.links e.links
    by_side (sides.Took puts) e1 = still
    by_side (sides.Quiet puts) e1 = still
    by_side sides.End e1 = still
    by_side sides.Failed e1 = still
    by_side (sides.Bad Spent) e1 = λ f. absurd (spent_down f)
      where
        spent_down : Some Spent ≡ Some LinksDown → ⊥
        spent_down f = cc (f)
    by_side (sides.Bad LinksDown) e1 = risen_now (Some LinksDown) (setup_of o).links first.sender.flow first.sender.session m.to.work.history first.links e.links is.count
        (λ down. down_look (setup_of o) micros link o.puts side is.moved.to m.to m.fact e1) (moved_more first o e _ is more m)

-- ---- what a put hands on

-- the payloads of a piece that the sender took are a front part of it, and all of it where none was refused
pub record Front (piece : List ℕ) (answer : Result Unit SendBad) (before after : List ℕ) : Type 0 where
  pub front : List ℕ
  pub gained : after ≡ before ++ front
  pub prefix : IsPrefix front piece
  pub whole : answer ≡ Ok tt → front ≡ piece

none_front : (piece : List ℕ) (answer : Result Unit SendBad) (before after : List ℕ) → after ≡ before → (answer ≡ Ok tt → [] ≡ piece) → Front piece answer before after
none_front piece answer before after same whole = record { front = []; gained = same ∙ sym (append-nil before); prefix = (piece, refl); whole = whole }

part_front : (part rest piece : List ℕ) (answer : Result Unit SendBad) (before mid after : List ℕ) → part ++ rest ≡ piece → mid ≡ before ++ part → Front rest answer mid after → Front piece answer before after
part_front part rest piece answer before mid after cut gained f = record {
  front = part ++ f.front;
  gained = f.gained ∙ ap (λ (l : List ℕ). l ++ f.front) gained ∙ append_assoc before part f.front;
  prefix = (f.prefix.0, sym cut ∙ ap (λ (l : List ℕ). part ++ l) f.prefix.1 ∙ sym (append_assoc part f.front f.prefix.0));
  whole = λ ok. ap (λ (l : List ℕ). part ++ l) (f.whole ok) ∙ cut;
}

parts_front : (setup : Setup) (parts : List (List ℕ)) (piece : List ℕ) (answer : Result Unit SendBad) (from to : Course) → AreParts parts piece → SendsParts setup parts answer from to
    → Front piece answer from.passed.sent to.passed.sent
parts_front setup [] piece answer from to cut s = none_front piece answer from.passed.sent to.passed.sent (ap (λ (c : Course). c.passed.sent) s.1) (λ ok. sym cut)
parts_front setup (part ∷ parts) piece answer from to cut (Ok done, between, sent, more) =
    part_front part (drop 1500 piece) piece answer from.passed.sent between.passed.sent to.passed.sent
    (ap (λ (l : List ℕ). l ++ drop 1500 piece) cut.1 ∙ take-append-drop 1500 piece)
    (ap (λ (c : Course). c.passed.sent) sent.is)
    (parts_front setup parts (drop 1500 piece) answer between to cut.2 more)
parts_front setup (part ∷ parts) piece answer from to cut (Err bad, between, sent, more) =
    none_front piece answer from.passed.sent to.passed.sent (ap (λ (c : Course). c.passed.sent) more.1 ∙ ap (λ (c : Course). c.passed.sent) sent.is)
    (λ ok. absurd (refused bad (sym more.0 ∙ ok)))
  where
    the_answer : SendBad → Result Unit SendBad
    the_answer bad = Err bad

    refused : (b : SendBad) → the_answer b ≡ Ok tt → ⊥
    refused b e = cc (e)

front_moved : (first o e : OnwardState) (piece : List ℕ) (answer : Result Unit SendBad) → IsOnward first o
    → ((from : Course) → IsAt o from → Moves o e from (SendsOn (setup_of o) piece answer from)) → Front piece answer o.passed.sent e.passed.sent
front_moved first o e piece answer is work =
    let m = work is.moved.to is.moved.stands in
    subst (λ (x : Passed). Front piece answer x.sent e.passed.sent) is.moved.stands.passed
    (subst (λ (x : Passed). Front piece answer is.moved.to.passed.sent x.sent) m.stands.passed
    (parts_front (setup_of o) m.fact.parts piece answer is.moved.to m.to m.fact.cut m.fact.sends))

-- ---- by the parts

more_of : {L : Type 0} (line : LinkTells L) (s t : SenderState) (op oq : Session) (was is : List L) (m n : Passed) (p q f h : ℕ) (pb qb ab bb : Option SendBad) → oq ≡ op → length is ≡ length was → StaysSet s t
    → More (onward_of line s op was m p f pb ab) (onward_of line t oq is n q h qb bb)
more_of line s t op oq was is m n p q f h pb qb ab bb same long stay = record {
  rules = stay.rules;
  session = stay.session;
  opener = same;
  count = length-map is (shown line) ∙ long ∙ sym (length-map was (shown line));
}

pub aside_looks : {L : Type 0} (line : LinkTells L) (s t : SenderState) (op oq : Session) (was items is back : List L) (m : Passed) (puts f : ℕ) (pb ab bb : Option SendBad) (us link : ℕ) (side : Side)
    → was ≡ items → back ≡ is → length is ≡ length was
    → ((moments : Passed) (from : Course) → IsFar line s moments was from → Goes line s t moments was is from (LooksAt (setup_with s (length was)) us link puts side from))
    → Looks (onward_of line s op items m puts f pb ab) (onward_of line t oq back m puts f pb bb) us link side
aside_looks {L} line s t op oq was items is back m puts f pb ab bb us link side value wrote long work =
    subst (λ (xs : List L). Looks (onward_of line s op xs m puts f pb ab) (onward_of line t oq back m puts f pb bb) us link side) value
    (subst (λ (xs : List L). Looks (onward_of line s op was m puts f pb ab) (onward_of line t oq xs m puts f pb bb) us link side) (sym wrote)
    (λ from at. moves_of line s t op oq was is m m puts puts f f pb pb ab bb from (λ setup. LooksAt setup us link puts side from) long (work m from (far_of line s op was m puts f pb ab from at))))

pub aside_keeps : {L : Type 0} (line : LinkTells L) (first : OnwardState) (s t : SenderState) (op oq : Session) (was items is back : List L) (m : Passed) (puts f : ℕ) (pb ab bb : Option SendBad) (us link : ℕ) (side : Side)
    → was ≡ items → back ≡ is → length is ≡ length was → oq ≡ op → StaysSet s t → bb ≡ bad_after ab side
    → ((moments : Passed) (from : Course) → IsFar line s moments was from → Goes line s t moments was is from (LooksAt (setup_with s (length was)) us link puts side from))
    → IsOnward first (onward_of line s op items m puts f pb ab) → IsOnward first (onward_of line t oq back m puts f pb bb)
aside_keeps {L} line first s t op oq was items is back m puts f pb ab bb us link side value wrote long same stay bad work old =
    subst (λ (xs : List L). IsOnward first (onward_of line t oq xs m puts f pb bb)) (sym wrote)
    (onward_aside first (onward_of line s op was m puts f pb ab) (onward_of line t oq is m puts f pb bb) us link side
    (subst (λ (xs : List L). IsOnward first (onward_of line s op xs m puts f pb ab)) (sym value) old)
    (more_of line s t op oq was is m m puts puts f f pb pb ab bb same long stay)
    (aside_looks line s t op oq was was is is m puts f pb ab bb us link side refl refl long work) refl refl bad)

pub put_works : {L E : Type 0} (line : LinkTells L) (s t : SenderState) (op : Session) (was items is back : List L) (m n : Passed) (p q f h : ℕ) (pb qb ab : Option SendBad) (piece : List ℕ) (answer : Result Unit SendBad) (result : Result Unit E)
    → was ≡ items → back ≡ is → length is ≡ length was → AnswersPut result answer pb qb
    → ((from : Course) → IsFar line s m was from → Goes line s t n was is from (SendsOn (setup_with s (length was)) piece answer from))
    → Puts (onward_of line s op items m p f pb ab) (onward_of line t op back n q h qb ab) piece result
put_works {L} {E} line s t op was items is back m n p q f h pb qb ab piece answer result value wrote long told work =
    subst (λ (xs : List L). Puts (onward_of line s op xs m p f pb ab) (onward_of line t op back n q h qb ab) piece result) value
    (subst (λ (xs : List L). Puts (onward_of line s op was m p f pb ab) (onward_of line t op xs n q h qb ab) piece result) (sym wrote)
    (λ from at.
    let d = moves_of line s t op op was is m n p q f h pb qb ab ab from (λ setup. SendsOn setup piece answer from) long (work from (far_of line s op was m p f pb ab from at)) in
    record { to = d.to; fact = record { answer = answer; sends = d.fact; told = told }; stands = d.stands; given = d.given }))

pub put_keeps : {L : Type 0} (line : LinkTells L) (first : OnwardState) (s t : SenderState) (op : Session) (was items is back : List L) (m n : Passed) (p q f h : ℕ) (pb qb ab : Option SendBad) (piece : List ℕ) (answer : Result Unit SendBad)
    → was ≡ items → back ≡ is → length is ≡ length was → StaysSet s t
    → ((bad : SendBad) → qb ≡ Some bad → (answer ≡ Err bad) ⊎ (pb ≡ Some bad)) → (qb ≡ None → (pb ≡ None) × (h ≡ f))
    → ((from : Course) → IsFar line s m was from → Goes line s t n was is from (SendsOn (setup_with s (length was)) piece answer from))
    → IsOnward first (onward_of line s op items m p f pb ab) → IsOnward first (onward_of line t op back n q h qb ab)
put_keeps {L} line first s t op was items is back m n p q f h pb qb ab piece answer value wrote long stay cause none work old =
    subst (λ (xs : List L). IsOnward first (onward_of line t op xs n q h qb ab)) (sym wrote)
    (onward_put first (onward_of line s op was m p f pb ab) (onward_of line t op is n q h qb ab) piece answer
    (subst (λ (xs : List L). IsOnward first (onward_of line s op xs m p f pb ab)) (sym value) old)
    (more_of line s t op op was is m n p q f h pb qb ab ab refl long stay)
    (λ from at. moves_of line s t op op was is m n p q f h pb qb ab ab from (λ setup. SendsOn setup piece answer from) long (work from (far_of line s op was m p f pb ab from at)))
    cause none refl)

-- a refusal
abbrev pub the_error : SendBad → Result Unit SendBad
the_error bad = Err bad

pub same_bad : (a b : SendBad) → Some a ≡ Some b → the_error a ≡ the_error b
same_bad a b e = cc (e)

-- what the parts of a put hand on
pub put_front : {L : Type 0} (line : LinkTells L) (first : OnwardState) (s t : SenderState) (op : Session) (was items is : List L) (m n : Passed) (p f : ℕ) (pb ab : Option SendBad) (piece : List ℕ) (answer : Result Unit SendBad)
    → was ≡ items → length is ≡ length was
    → ((from : Course) → IsFar line s m was from → Goes line s t n was is from (SendsOn (setup_with s (length was)) piece answer from))
    → IsOnward first (onward_of line s op items m p f pb ab) → Front piece answer m.sent n.sent
put_front {L} line first s t op was items is m n p f pb ab piece answer value long work old =
    front_moved first (onward_of line s op was m p f pb ab) (onward_of line t op is n p f pb ab) piece answer
    (subst (λ (xs : List L). IsOnward first (onward_of line s op xs m p f pb ab)) (sym value) old)
    (λ from at. moves_of line s t op op was is m n p p f f pb pb ab ab from (λ setup. SendsOn setup piece answer from) long (work from (far_of line s op was m p f pb ab from at)))

pub none_bad : (a : SendBad) → Some a ≡ None → ⊥
none_bad a e = cc (e)
