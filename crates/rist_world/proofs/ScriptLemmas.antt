-- The moves of a made script, slot after slot.
use Rattle.std.proofs.Common.{◌≡◌, ◌∙◌, ◌≤◌, ◌<◌, ◌+◌, ℕ, List, [], ◌∷◌, ◌++◌, length, map, reverse, get_or, nat_lt, if◌then◌else◌, suc, Bool, true, false, Option, None, Some, option_to_list, drop, refl, sym, ap, subst, rules, arith}
use Rattle.std.specs.List.{range_with_len, flat_map, filter}
use Rattle.std.proofs.lemmas.List.{append_assoc, append-nil, reverse-append}
use Rattle.std.proofs.lemmas.List.FromFn.{map-range_with_len_more}
use Rattle.std.proofs.Math.Nat.{le_antisymm}
use Rattle.std.proofs.Math.ListN.{get_or-map, get_or-eq_default}
use Rattle.outside_net.specs.Links.{Datagram}
use Rattle.made_script.specs.declared.draws.Way.{Way}
use Rattle.made_script.specs.declared.draws.Way.TheVariants.{Forward, Backward}
use Rattle.made_script.specs.declared.draws.Due.{Due}
use Rattle.made_script.specs.declared.draws.Held.{Held}
use Rattle.made_script.specs.declared.draws.Script.{Script}
use Rattle.made_script.specs.Payload.{made_payload}
use Rattle.made_script.specs.Draws.{Drawn, DrawsState, IsDrawn, nothing_drawn, draw, is_pending}
use Rattle.made_script.proofs.DrawLemmas.{filter_twice, flat_more}
use Rattle.world_rules.specs.declared.moves.Move.{Move}
use Rattle.world_rules.specs.declared.moves.Move.TheVariants.{Send, Tick, End, SenderTick}
use Rattle.world_rules.specs.World.{Setup, Course, links_of, Makes, MakesAll}
use Rattle.rist_world.specs.World.{WireState, WorldState, IsWorldAfter, none}
use Rattle.rist_world.specs.Mover.{HasGivenNone, IsNext}
use Rattle.rist_world.specs.Script.{AreSlots, OneSlot, HasGiven, IsMadeScript, MadeState, slot_count, micros_of, sends, ticks, slot_moves, moves_at, is_due, carries_on, carries, forward_count, backward_count, held_on, held_in}

-- ---- what is due

-- what is due in a slot is due there or later
due_is_pending : (way : Way) (link slot : ℕ) (due : Due) → is_due way link slot due ≡ true → is_pending slot due ≡ true
due_is_pending way link slot due is = grind (rules, is)

-- pieces that are alike, end to end
flat_same : {X A : Type 0} (f g : X → List A) → ((x : X) → f x ≡ g x) → (xs : List X) → flat_map f xs ≡ flat_map g xs
flat_same f g alike [] = refl
flat_same f g alike (x ∷ xs) = ap (λ ys. ys ++ flat_map f xs) (alike x) ∙ ap (λ ys. g x ++ ys) (flat_same f g alike xs)

-- what was due before a slot is not carried in it
carries_same : (way : Way) (links slot : ℕ) (dues : List Due) → carries way links slot (filter (is_pending slot) dues) ≡ carries way links slot dues
carries_same way links slot dues =
    flat_same (λ link. carries_on way link slot (filter (is_pending slot) dues)) (λ link. carries_on way link slot dues)
    (λ link. ap (map _) (filter_twice (is_pending slot) (is_due way link slot) (due_is_pending way link slot) dues)) (range_with_len 0 links)

-- nor does it change the moves
pub moves_same : (script : Script) (slot : ℕ) (dues kept : List Due) → kept ≡ filter (is_pending slot) dues → moves_at script slot kept ≡ moves_at script slot dues
moves_same script slot dues kept is =
    let forward = ap (carries Forward script.links slot) is ∙ carries_same Forward script.links slot dues in
    let backward = ap (carries Backward script.links slot) is ∙ carries_same Backward script.links slot dues in
    grind (rules, forward, backward)

-- ---- the moves of a slot, one after another

-- some more, behind others
pub put_more : (old now new more most one : List Move) → now ≡ old ++ more → new ≡ now ++ one → most ≡ more ++ one → new ≡ old ++ most
put_more old now new more most one was put all = put ∙ ap (λ ms. ms ++ one) was ∙ append_assoc old more one ∙ sym (ap (λ ms. old ++ ms) all)

-- a link more
pub way_more : (way : Way) (link slot : ℕ) (dues : List Due) → carries way (link + 1) slot dues ≡ carries way link slot dues ++ carries_on way link slot dues
way_more way link slot dues = flat_more (λ n. carries_on way n slot dues) link

-- a tick more
pub tick_more : (link slot micros : ℕ) → micros ≡ micros_of slot → ticks (link + 1) slot ≡ ticks link slot ++ Tick link micros ∷ []
tick_more link slot micros now =
    let last : 0 + link ≡ link = omega arith in
    map-range_with_len_more (λ n. Tick n (micros_of slot)) 0 link link last ∙ ap (λ m. ticks link slot ++ Tick link m ∷ []) (sym now)

-- a payload is left
pub sends_one : (script : Script) (slot micros : ℕ) (payload : List ℕ) → slot < script.count → micros ≡ micros_of slot → payload ≡ made_payload slot → sends script slot ≡ Send micros payload ∷ []
sends_one script slot micros payload left now is =
    let some : nat_lt slot script.count ≡ true = search (rules, left) in
    ap (λ b. if b then Send (micros_of slot) (made_payload slot) ∷ [] else []) some
    ∙ ap (λ m. Send m (made_payload slot) ∷ []) (sym now) ∙ ap (λ p. Send micros p ∷ []) (sym is)

-- all of them
pub slot_put : (script : Script) (slot micros : ℕ) (dues : List Due) (sent ticked forth looked back : List Move) → slot < slot_count script → micros ≡ micros_of slot
    → sent ≡ sends script slot → ticked ≡ sent ++ SenderTick micros ∷ [] → forth ≡ ticked ++ carries Forward script.links slot dues → looked ≡ forth ++ ticks script.links slot
    → back ≡ looked ++ carries Backward script.links slot dues → back ≡ moves_at script slot dues
slot_put script slot micros dues sent ticked forth looked back left now sends_are ticked_are forth_are looked_are back_are =
    let some : nat_lt slot (slot_count script) ≡ true = search (rules, left) in
    let to_tick = ticked_are ∙ ap (λ ms. ms ++ SenderTick micros ∷ []) sends_are ∙ ap (λ m. sends script slot ++ SenderTick m ∷ []) now in
    let to_forth = forth_are ∙ ap (λ ms. ms ++ carries Forward script.links slot dues) to_tick in
    let to_looks = looked_are ∙ ap (λ ms. ms ++ ticks script.links slot) to_forth in
    back_are ∙ ap (λ ms. ms ++ carries Backward script.links slot dues) to_looks
    ∙ sym (ap (λ b. if b then slot_moves script slot dues else End (micros_of slot) ∷ []) some)

-- ---- what the links hold

-- the same numbers, one after another
map_same : (f g : ℕ → ℕ) → ((n : ℕ) → f n ≡ g n) → (ns : List ℕ) → map f ns ≡ map g ns
map_same f g alike [] = refl
map_same f g alike (n ∷ ns) = ap (λ m. m ∷ map f ns) (alike n) ∙ ap (λ ms. g n ∷ ms) (map_same f g alike ns)

-- numbers under the same test
if_same : (b : Bool) (m n : ℕ) → (b ≡ true → m ≡ n) → (if b then m else 0) ≡ (if b then n else 0)
if_same true m n same = same refl
if_same false m n same = refl

-- a number that is 0 where a test fails
if_there : (b : Bool) (n : ℕ) → (b ≡ false → n ≡ 0) → (if b then n else 0) ≡ n
if_there true n zero_else = refl
if_there false n zero_else = sym (zero_else refl)

-- a link of the sender
forward_same : (setup : Setup) (w : WorldState) (course : Course) → IsWorldAfter setup w course → (link : ℕ) → held_on w.forward link ≡ forward_count setup course link
forward_same setup w course stands link =
    let count = ap (λ n. if nat_lt link n then length (get_or w.forward link none).put else 0) stands.links in
    count ∙ if_same (nat_lt link (links_of setup)) _ _ (λ there. ap length (stands.forward link none (search (rules, there))))

-- a link of the receiver
backward_same : (setup : Setup) (w : WorldState) (course : Course) → IsWorldAfter setup w course → (link : ℕ) → held_on w.backward link ≡ backward_count course link
backward_same setup w course stands link =
    let put = get_or-map (λ (wire : WireState). wire.put) w.backward link none in
    let count : backward_count course link ≡ length (get_or w.backward link none).put
    = ap (λ (links : List (List Datagram)). length (get_or links link [])) (sym stands.backward) ∙ ap length put in
    if_there (nat_lt link (length w.backward)) _ (λ away. ap (λ (wire : WireState). length wire.put) (get_or-eq_default w.backward none (search (rules, away)))) ∙ sym count

-- what they hold
held_same : (setup : Setup) (w : WorldState) (course : Course) (held : Held) → IsWorldAfter setup w course → held.forward ≡ map (held_on w.forward) (range_with_len 0 4)
    → held.backward ≡ map (held_on w.backward) (range_with_len 0 4) → held ≡ held_in setup course
held_same setup w course held stands forward backward =
    let f = forward ∙ map_same (held_on w.forward) (forward_count setup course) (forward_same setup w course stands) (range_with_len 0 4) in
    let b = backward ∙ map_same (held_on w.backward) (backward_count course) (backward_same setup w course stands) (range_with_len 0 4) in
    ap (λ fs. record { forward = fs; backward = held.backward }) f ∙ ap (λ bs. record { forward = map (forward_count setup course) (range_with_len 0 4); backward = bs }) b

-- ---- what was given

-- at the beginning nothing was
pub none_given : (made : MadeState) → made.draws.slot ≡ 0 → IsDrawn made.draws nothing_drawn → made.queue ≡ moves_at made.draws.script made.draws.slot made.draws.dues → HasGivenNone (HasGiven made)
none_given made slot drawn queue = λ setup from. record {
  earlier = [];
  drawn = nothing_drawn;
  begun = from;
  done = [];
  within = subst (λ n. n ≤ slot_count made.draws.script) (sym slot) (search rules);
  slots = subst (λ n. AreSlots made.draws.script setup from n [] nothing_drawn from) (sym slot) ((refl, refl), refl);
  draws = drawn;
  split = sym (queue ∙ moves_same made.draws.script made.draws.slot nothing_drawn.dues made.draws.dues drawn.dues);
  makes = refl;
  moves_are = refl;
}

-- a slot is over, and the next one begins
pub turned : (old new : MadeState) (setup : Setup) (w : WorldState) (held : Held) (from to : Course) (moves : List Move) → HasGiven old setup from moves to → IsWorldAfter setup w to
    → held.forward ≡ map (held_on w.forward) (range_with_len 0 4) → held.backward ≡ map (held_on w.backward) (range_with_len 0 4)
    → old.queue ≡ [] → old.draws.slot < slot_count old.draws.script
    → new.draws.script ≡ old.draws.script → new.draws.slot ≡ old.draws.slot + 1
    → ((drawn : Drawn) → IsDrawn old.draws drawn → IsDrawn new.draws (draw old.draws.script old.draws.slot held drawn))
    → new.queue ≡ moves_at new.draws.script new.draws.slot new.draws.dues → HasGiven new setup from moves to
turned old new setup w held from to moves given stands forward backward empty within script slot drawn queue =
    let was = old.draws.script in
    let known = draw was old.draws.slot held given.drawn in
    let next : new.draws.slot ≡ suc old.draws.slot = slot ∙ (omega arith) in
    let all : given.done ≡ moves_at was old.draws.slot given.drawn.dues = sym (given.split ∙ ap (λ ms. given.done ++ ms) empty ∙ append-nil given.done) in
    let one : OneSlot was setup old.draws.slot (AreSlots was setup from old.draws.slot) moves known to = record {
      earlier = given.earlier;
      known = given.drawn;
      from = given.begun;
      before = given.slots;
      makes = subst (λ ms. MakesAll setup (reverse ms) given.begun to) all given.makes;
      moves_are = given.moves_are ∙ ap (λ ms. reverse ms ++ given.earlier) all;
      drawn_are = ap (λ h. draw was old.draws.slot h given.drawn) (held_same setup w to held stands forward backward);
    } in
    let slots : AreSlots was setup from (suc old.draws.slot) moves known to = one in
    let now = drawn given.drawn given.draws in
    record {
      earlier = moves;
      drawn = known;
      begun = to;
      done = [];
      within = subst (λ s. new.draws.slot ≤ slot_count s) (sym script) (subst (λ n. n ≤ slot_count was) (sym slot) (search (rules, within)));
      slots = subst (λ s. AreSlots s setup from new.draws.slot moves known to) (sym script) (subst (λ n. AreSlots was setup from n moves known to) (sym next) slots);
      draws = now;
      split = sym (queue ∙ moves_same new.draws.script new.draws.slot known.dues new.draws.dues now.dues);
      makes = refl;
      moves_are = refl;
    }

-- the front of nothing
front_nil : (xs ys : List Move) → xs ++ ys ≡ [] → xs ≡ []
front_nil [] ys is = refl
front_nil (x ∷ xs) ys is = absurd (search (rules, is))

-- one of two lists
some_if : (b : Bool) (xs ys : List Move) → (xs ≡ [] → ⊥) → (ys ≡ [] → ⊥) → (if b then xs else ys) ≡ [] → ⊥
some_if true xs ys some other is = some is
some_if false xs ys some other is = other is

-- the sender's clock ticks in each slot
ticks_some : (ms : List Move) (next : Move) → ms ++ next ∷ [] ≡ [] → ⊥
ticks_some [] next is = search (rules, is)
ticks_some (m ∷ ms) next is = search (rules, is)

-- there is a move in each slot
pub moves_are_some : (script : Script) (slot : ℕ) (dues : List Due) → moves_at script slot dues ≡ [] → ⊥
moves_are_some script slot dues =
    some_if (nat_lt slot (slot_count script)) (slot_moves script slot dues) (End (micros_of slot) ∷ [])
    (λ none. ticks_some (sends script slot) (SenderTick (micros_of slot)) (front_nil _ _ (front_nil _ _ (front_nil _ _ none)))) (λ none. search (rules, none))

-- a move is given
gives_one : (made new : MadeState) (next : Move) (setup : Setup) (from to : Course) (moves : List Move) → HasGiven made setup from moves to → new.draws ≡ made.draws → made.queue ≡ next ∷ new.queue
    → (after : Course) → Makes setup next to after → HasGiven new setup from (next ∷ moves) after
gives_one made new next setup from to moves given same queue after more =
    let reversed = reverse-append given.done (next ∷ []) in
    let makes : MakesAll setup (next ∷ reverse given.done) given.begun after = (to, given.makes, more) in
    record {
      earlier = given.earlier;
      drawn = given.drawn;
      begun = given.begun;
      done = given.done ++ next ∷ [];
      within = subst (λ (d : DrawsState). d.slot ≤ slot_count d.script) (sym same) given.within;
      slots = subst (λ (d : DrawsState). AreSlots d.script setup from d.slot given.earlier given.drawn given.begun) (sym same) given.slots;
      draws = subst (λ (d : DrawsState). IsDrawn d given.drawn) (sym same) given.draws;
      split = ap (λ (d : DrawsState). moves_at d.script d.slot given.drawn.dues) same ∙ given.split ∙ ap (λ ms. given.done ++ ms) queue ∙ sym (append_assoc given.done (next ∷ []) new.queue);
      makes = subst (λ ms. MakesAll setup ms given.begun after) (sym reversed) makes;
      moves_are = ap (λ ms. next ∷ ms) given.moves_are ∙ sym (ap (λ ms. ms ++ given.earlier) reversed);
    }

-- none is left
gives_none : (made : MadeState) (setup : Setup) (from to : Course) (moves : List Move) → HasGiven made setup from moves to → made.queue ≡ [] → slot_count made.draws.script ≤ made.draws.slot
    → IsMadeScript made.draws.script setup from moves to
gives_none made setup from to moves given empty over =
    let script = made.draws.script in
    let count = slot_count script in
    let last : made.draws.slot ≡ count = le_antisymm given.within over in
    let past : nat_lt count count ≡ false = search rules in
    let all : given.done ≡ End (micros_of count) ∷ []
    = sym (given.split ∙ ap (λ ms. given.done ++ ms) empty ∙ append-nil given.done) ∙ ap (λ n. moves_at script n given.drawn.dues) last
    ∙ ap (λ b. if b then slot_moves script count given.drawn.dues else End (micros_of count) ∷ []) past in
    record {
      earlier = given.earlier;
      drawn = given.drawn;
      last = given.begun;
      slots = subst (λ n. AreSlots script setup from n given.earlier given.drawn given.begun) last given.slots;
      makes = subst (λ ms. MakesAll setup (reverse ms) given.begun to) all given.makes;
      moves_are = given.moves_are ∙ ap (λ ms. reverse ms ++ given.earlier) all;
    }

-- a list that has no first element
no_first : (ms : List Move) → ms ≡ drop 1 ms → ms ≡ []
no_first [] is = refl
no_first (m ∷ ms) is =
    let more : suc (length ms) ≡ length ms = ap length is in
    absurd (omega (arith, more))

-- what is given next
pub next_given : (made new : MadeState) (next : Option Move) (setup : Setup) (from to : Course) (moves : List Move) → HasGiven made setup from moves to → new.draws ≡ made.draws
    → made.queue ≡ option_to_list next ++ new.queue → new.queue ≡ drop 1 made.queue → (made.queue ≡ [] → slot_count made.draws.script ≤ made.draws.slot)
    → IsNext (IsMadeScript made.draws.script) (HasGiven new) setup from moves to next
next_given made new None setup from to moves given same queue rest over =
    let empty = no_first made.queue (queue ∙ rest) in
    gives_none made setup from to moves given empty (over empty)
next_given made new (Some next) setup from to moves given same queue rest over = gives_one made new next setup from to moves given same queue
