-- The draws, one after another.
use Rattle.std.proofs.Common.{◌≡◌, ◌∙◌, ◌≤◌, ◌+◌, ◌-◌, ℕ, List, [], ◌∷◌, ◌++◌, sym, ap, subst, Bool, true, refl, rules, arith, suc, zero}
use Rattle.std.specs.List.{range_with_len, flat_map, filter, sum_by}
use Rattle.std.proofs.lemmas.Grind.{flat_map-append}
use Rattle.std.proofs.lemmas.List.{append_assoc, append-nil}
use Rattle.std.proofs.lemmas.List.Elements.{filter-append}
use Rattle.std.proofs.lemmas.List.Sums.{sum_by-append}
use Rattle.std.proofs.Math.Nat.{add_assoc}
use Rattle.made_script.specs.declared.draws.Way.{Way}
use Rattle.made_script.specs.declared.draws.Way.TheVariants.{Forward, Backward}
use Rattle.made_script.specs.declared.draws.Due.{Due}
use Rattle.made_script.specs.declared.draws.Held.{Held}
use Rattle.made_script.specs.declared.draws.Script.{Script}
use Rattle.made_script.specs.Words.{word_of, generator_at}
use Rattle.made_script.specs.Draws.{DrawsState, DrawsMore, Drawn, IsDrawn, draw, is_pending, script_word, due_by, dues_on, dues_of, held_on, new_on, new_below}

-- one more number
range_more : (a n : ℕ) → range_with_len a (suc n) ≡ range_with_len a n ++ (a + n) ∷ []
range_more a zero = ap (λ x. x ∷ []) (omega arith)
range_more a (suc n) = ap (λ xs. a ∷ xs) (range_more (a + 1) n ∙ ap (λ x. range_with_len (a + 1) n ++ x ∷ []) (omega arith))

-- so many numbers from 0 on, and the next one
next_number : (n : ℕ) → range_with_len 0 (n + 1) ≡ range_with_len 0 n ++ n ∷ []
next_number n =
    let one : n + 1 ≡ suc n = omega arith in
    let last : 0 + n ≡ n = omega arith in
    ap (range_with_len 0) one ∙ range_more 0 n ∙ ap (λ k. range_with_len 0 n ++ k ∷ []) last

-- what one more number gives
pub flat_more : {X : Type 0} (f : ℕ → List X) (n : ℕ) → flat_map f (range_with_len 0 (n + 1)) ≡ flat_map f (range_with_len 0 n) ++ f n
flat_more f n = ap (flat_map f) (next_number n) ∙ flat_map-append f (range_with_len 0 n) (n ∷ []) ∙ ap (λ xs. flat_map f (range_with_len 0 n) ++ xs) (append-nil (f n))

-- what it adds
sum_more : (f : ℕ → ℕ) (n : ℕ) → sum_by f (range_with_len 0 (n + 1)) ≡ sum_by f (range_with_len 0 n) + f n
sum_more f n =
    let last : 0 + f n ≡ f n = omega arith in
    ap (sum_by f) (next_number n) ∙ sum_by-append f (range_with_len 0 n) (n ∷ []) ∙ ap (λ k. sum_by f (range_with_len 0 n) + k) last

-- nothing was drawn yet
pub none_more : (s : DrawsState) (more : ℕ → List Due) → ((w : ℕ) → more w ≡ []) → DrawsMore s s 0 more
none_more s more none = record { script = refl; slot = refl; held = refl; words = λ w is. is ∙ ap (generator_at s.script.number 0) (omega arith); dues = λ w is. search (rules, none w) }

-- one datagram more
pub link_more : (start before after : DrawsState) (way : Way) (link first place word : ℕ) → first ≤ place
    → DrawsMore start before (place - first) (λ w. dues_on start.script start.slot w way link first (place - first))
    → after.script ≡ before.script → after.slot ≡ before.slot → after.held ≡ before.held
    → ((n f p : ℕ) → before.words ≡ generator_at n f p → word ≡ word_of n f p) → ((n f p : ℕ) → before.words ≡ generator_at n f p → after.words ≡ generator_at n f (p + 1))
    → after.dues ≡ before.dues ++ due_by before.script before.slot way link place word
    → DrawsMore start after (place + 1 - first) (λ w. dues_on start.script start.slot w way link first (place + 1 - first))
link_more start before after way link first place word low so script slot held value next dues = record {
  script = script ∙ so.script;
  slot = slot ∙ so.slot;
  held = held ∙ so.held;
  words = λ w is. next start.script.number 0 (w + (place - first)) (so.words w is) ∙ ap (generator_at start.script.number 0) (omega arith);
  dues = λ w is.
      let drawn = value start.script.number 0 (w + (place - first)) (so.words w is) in
      let here : first + (place - first) ≡ place = omega arith in
      let count : place + 1 - first ≡ (place - first) + 1 = omega arith in
      let one : due_by before.script before.slot way link place word ≡ due_by start.script start.slot way link (first + (place - first)) (script_word start.script (w + (place - first)))
      = ap (λ s. due_by s before.slot way link place word) so.script ∙ ap (λ s. due_by start.script s way link place word) so.slot
      ∙ ap (λ x. due_by start.script start.slot way link place x) drawn ∙ ap (λ p. due_by start.script start.slot way link p (script_word start.script (w + (place - first)))) (sym here) in
      let more : dues_on start.script start.slot w way link first (place + 1 - first)
      ≡ dues_on start.script start.slot w way link first (place - first) ++ due_by start.script start.slot way link (first + (place - first)) (script_word start.script (w + (place - first)))
      = ap (dues_on start.script start.slot w way link first) count
      ∙ flat_more (λ k. due_by start.script start.slot way link (first + k) (script_word start.script (w + k))) (place - first) in
      dues ∙ ap (λ xs. xs ++ due_by before.script before.slot way link place word) (so.dues w is)
      ∙ ap (λ xs. (start.dues ++ dues_on start.script start.slot w way link first (place - first)) ++ xs) one
      ∙ append_assoc start.dues (dues_on start.script start.slot w way link first (place - first)) (due_by start.script start.slot way link (first + (place - first)) (script_word start.script (w + (place - first))))
      ∙ ap (λ xs. start.dues ++ xs) (sym more);
}

-- so many words
pub same_count : {n m : ℕ} (start after : DrawsState) (more : ℕ → ℕ → List Due) → n ≡ m → DrawsMore start after n (more n) → DrawsMore start after m (more m)
same_count start after more is so = subst (λ k. DrawsMore start after k (more k)) is so

-- one link more
pub way_more : (start before after : DrawsState) (way : Way) (held : Held) (link : ℕ)
    → DrawsMore start before (new_below way start.held held link) (λ w. dues_of start.script start.slot w way start.held held link)
    → DrawsMore before after (held_on way held link - held_on way before.held link)
    (λ w. dues_on before.script before.slot w way link (held_on way before.held link) (held_on way held link - held_on way before.held link))
    → DrawsMore start after (new_below way start.held held (link + 1)) (λ w. dues_of start.script start.slot w way start.held held (link + 1))
way_more start before after way held link so more =
    let count : held_on way held link - held_on way before.held link ≡ new_on way start.held held link = ap (λ h. held_on way held link - held_on way h link) so.held in
    record {
      script = more.script ∙ so.script;
      slot = more.slot ∙ so.slot;
      held = more.held ∙ so.held;
      words = λ w is.
          let sum = sum_more (new_on way start.held held) link in
          let here = so.words w is in
          let script : before.script.number ≡ start.script.number = ap (λ (s : Script). s.number) so.script in
          let there = more.words (w + new_below way start.held held link) (here ∙ ap (λ n. generator_at n 0 (w + new_below way start.held held link)) (sym script)) in
          there ∙ ap (λ n. generator_at n 0 ((w + new_below way start.held held link) + (held_on way held link - held_on way before.held link))) script
          ∙ ap (generator_at start.script.number 0) (add_assoc w (new_below way start.held held link) (held_on way held link - held_on way before.held link) ∙ ap (λ k. w + k) (ap (λ k. new_below way start.held held link + k) count ∙ sym sum));
      dues = λ w is.
          let here = so.words w is in
          let script : before.script.number ≡ start.script.number = ap (λ (s : Script). s.number) so.script in
          let first = w + new_below way start.held held link in
          let there = more.dues first (here ∙ ap (λ n. generator_at n 0 first) (sym script)) in
          let last : dues_on before.script before.slot first way link (held_on way before.held link) (held_on way held link - held_on way before.held link)
          ≡ dues_on start.script start.slot first way link (held_on way start.held link) (new_on way start.held held link)
          = ap (λ s. dues_on s before.slot first way link (held_on way before.held link) (held_on way held link - held_on way before.held link)) so.script
          ∙ ap (λ s. dues_on start.script s first way link (held_on way before.held link) (held_on way held link - held_on way before.held link)) so.slot
          ∙ ap (λ h. dues_on start.script start.slot first way link (held_on way h link) (held_on way held link - held_on way h link)) so.held in
          there ∙ ap (λ xs. xs ++ dues_on before.script before.slot first way link (held_on way before.held link) (held_on way held link - held_on way before.held link)) (so.dues w is)
          ∙ ap (λ xs. (start.dues ++ dues_of start.script start.slot w way start.held held link) ++ xs) last
          ∙ append_assoc start.dues (dues_of start.script start.slot w way start.held held link) (dues_on start.script start.slot first way link (held_on way start.held link) (new_on way start.held held link))
          ∙ ap (λ xs. start.dues ++ xs)
          (sym (flat_more (λ l. dues_on start.script start.slot (w + new_below way start.held held l) way l (held_on way start.held l) (new_on way start.held held l)) link));
    }

-- a test of what passed a weaker one
pub filter_twice : {X : Type 0} (p q : X → Bool) → ((x : X) → q x ≡ true → p x ≡ true) → (xs : List X) → filter q (filter p xs) ≡ filter q xs
filter_twice p q weaker [] = refl
filter_twice p q weaker (x ∷ xs) = grind (rules, filter_twice p q weaker xs, weaker x)

-- what is due in the slot behind one or later is due in that slot or later
later : (slot : ℕ) (due : Due) → is_pending (slot + 1) due ≡ true → is_pending slot due ≡ true
later slot due is = search rules

-- a slot is over
pub slot_more : (start middle after : DrawsState) (held : Held) (kept : List Due) (drawn : Drawn) → IsDrawn start drawn
    → DrawsMore start middle (new_below Forward start.held held start.script.links) (λ w. dues_of start.script start.slot w Forward start.held held start.script.links)
    → DrawsMore middle after (new_below Backward middle.held held middle.script.links) (λ w. dues_of middle.script middle.slot w Backward middle.held held middle.script.links)
    → kept ≡ filter (is_pending (after.slot + 1)) after.dues
    → IsDrawn (record { script = after.script; slot = after.slot + 1; words = after.words; held = held; dues = kept }) (draw start.script start.slot held drawn)
slot_more start middle after held kept drawn so forth back is =
    let links = start.script.links in
    let forth_count = new_below Forward drawn.held held links in
    let back_count = new_below Backward drawn.held held links in
    let second = drawn.words + forth_count in
    let forth_dues = dues_of start.script start.slot drawn.words Forward drawn.held held links in
    let back_dues = dues_of start.script start.slot second Backward drawn.held held links in
    let forward : DrawsMore start middle forth_count (λ w. dues_of start.script start.slot w Forward drawn.held held links)
    = subst (λ h. DrawsMore start middle (new_below Forward h held links) (λ w. dues_of start.script start.slot w Forward h held links)) so.held forth in
    let backward : DrawsMore middle after back_count (λ w. dues_of start.script start.slot w Backward drawn.held held links)
    = subst (λ h. DrawsMore middle after (new_below Backward h held links) (λ w. dues_of start.script start.slot w Backward h held links)) (forth.held ∙ so.held)
    (subst (λ s. DrawsMore middle after (new_below Backward middle.held held links) (λ w. dues_of start.script s w Backward middle.held held links)) forth.slot
    (subst (λ (s : Script). DrawsMore middle after (new_below Backward middle.held held s.links) (λ w. dues_of s middle.slot w Backward middle.held held s.links)) forth.script back)) in
    let number : middle.script.number ≡ start.script.number = ap (λ (s : Script). s.number) forth.script in
    let there : middle.words ≡ generator_at middle.script.number 0 second
    = forward.words drawn.words so.words ∙ ap (λ n. generator_at n 0 second) (sym number) in
    let last : after.script.number ≡ middle.script.number = ap (λ (s : Script). s.number) back.script in
    let slot : after.slot ≡ start.slot = back.slot ∙ forth.slot in
    let pass = filter (is_pending (start.slot + 1)) in
    let all : after.dues ≡ (filter (is_pending start.slot) drawn.dues ++ forth_dues) ++ back_dues
    = backward.dues second there ∙ ap (λ xs. xs ++ back_dues) (forward.dues drawn.words so.words ∙ ap (λ xs. xs ++ forth_dues) so.dues) in
    let apart : pass ((filter (is_pending start.slot) drawn.dues ++ forth_dues) ++ back_dues) ≡ pass ((drawn.dues ++ forth_dues) ++ back_dues)
    = filter-append (is_pending (start.slot + 1)) (filter (is_pending start.slot) drawn.dues ++ forth_dues) back_dues
    ∙ ap (λ xs. xs ++ pass back_dues) (filter-append (is_pending (start.slot + 1)) (filter (is_pending start.slot) drawn.dues) forth_dues
    ∙ ap (λ xs. xs ++ pass forth_dues) (filter_twice (is_pending start.slot) (is_pending (start.slot + 1)) (later start.slot) drawn.dues)
    ∙ sym (filter-append (is_pending (start.slot + 1)) drawn.dues forth_dues))
    ∙ sym (filter-append (is_pending (start.slot + 1)) (drawn.dues ++ forth_dues) back_dues) in
    record {
      words = backward.words second there ∙ ap (λ n. generator_at n 0 (second + back_count)) (sym last);
      held = refl;
      dues = is ∙ ap (λ s. filter (is_pending (s + 1)) after.dues) slot ∙ ap pass all ∙ apart
          ∙ ap (λ s. filter (is_pending (s + 1)) ((drawn.dues ++ forth_dues) ++ back_dues)) (sym slot);
    }
