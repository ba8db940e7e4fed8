-- Masks, words and packets, one after another.
use Rattle.std.proofs.Common.{◌≡◌, ℕ, zero, suc, ◌+◌, ◌-◌, ◌/◌, ◌%◌, ◌^◌, ◌<◌, ◌≤◌, Bool, true, false, cond, List, [], ◌∷◌, ◌++◌, length, take, drop, map, Option, Some, None, refl, sym, ap, ◌∙◌, arith, length-drop}
use Rattle.std.specs.Prelude.{◌==◌, if◌then◌else◌}
use Rattle.std.specs.List.{flat_map, AllByRecursion}
use Rattle.std.specs.Int.{w16, from_be_bytes, to_be_bytes}
use Rattle.std.proofs.lemmas.Nat.{from_be_bytes-to_be_bytes_2}
use Rattle.std.proofs.lemmas.List.Concat.{flat_map-cons}
use Rattle.rist_nack.specs.Written.{word_spelling, words_spelling, upper_spelling}
use Rattle.std.proofs.lemmas.Bool.{eq-eqb, ne_eqb}
use Rattle.rtcp_compound.specs.Compound.{Content, application}
use Rattle.rtcp_compound.specs.Name.{rist_name}
use Rattle.rist_nack.specs.Requests.{flow_of, numbered, set_places, mask_asks, word_asks, words_asks, Request, request_in, upper_in}
use Rattle.rist_nack.specs.Asked.{newer, upper_after, is_wanted, request_asks, asks_behind}
use Rattle.rist_nack.specs.declared.ask.Ask.{Ask}

-- ---- the set bits of a mask

places_step : (place mask : ℕ) → place < 17 → set_places (17 - place) mask place
    ≡ (if mask % 2 == 1 then place ∷ set_places (17 - (place + 1)) (mask / 2) (place + 1) else set_places (17 - (place + 1)) (mask / 2) (place + 1))
places_step place mask lt =
    let k : 17 - place ≡ suc (17 - (place + 1)) = omega arith in
    ap (λ (n : ℕ). set_places n mask place) k

pub places_set : (place mask : ℕ) → place < 17 → mask % 2 ≡ 1 → set_places (17 - place) mask place ≡ place ∷ set_places (17 - (place + 1)) (mask / 2) (place + 1)
places_set place mask lt e = places_step place mask lt ∙ rw (eq-eqb (mask % 2) 1 e) refl

pub places_clear : (place mask : ℕ) → place < 17 → (mask % 2 ≡ 1 → ⊥) → set_places (17 - place) mask place ≡ set_places (17 - (place + 1)) (mask / 2) (place + 1)
places_clear place mask lt e = places_step place mask lt ∙ rw (ne_eqb (mask % 2) 1 e) refl

pub places_end : (place mask : ℕ) → 17 ≤ place → set_places (17 - place) mask place ≡ []
places_end place mask le =
    let k : 17 - place ≡ 0 = omega arith in
    ap (λ (n : ℕ). set_places n mask place) k

-- ---- words

pub words_step : (mask : Bool) (upper : Option ℕ) (flow : ℕ) (b : List ℕ) → 4 ≤ length b
    → words_asks mask upper flow b ≡ word_asks mask upper flow (from_be_bytes w16 (take 2 b)) (from_be_bytes w16 (take 2 (drop 2 b))) ++ words_asks mask upper flow (drop 4 b)
words_step mask upper flow [] h = absurd (omega arith)
words_step mask upper flow (a ∷ []) h = absurd (omega arith)
words_step mask upper flow (a ∷ b ∷ []) h = absurd (omega arith)
words_step mask upper flow (a ∷ b ∷ c ∷ []) h = absurd (omega arith)
words_step mask upper flow (a ∷ b ∷ c ∷ d ∷ rest) h = refl

pub words_end : (mask : Bool) (upper : Option ℕ) (flow : ℕ) (b : List ℕ) → length b < 4 → words_asks mask upper flow b ≡ []
words_end mask upper flow [] h = refl
words_end mask upper flow (a ∷ []) h = refl
words_end mask upper flow (a ∷ b ∷ []) h = refl
words_end mask upper flow (a ∷ b ∷ c ∷ []) h = refl
words_end mask upper flow (a ∷ b ∷ c ∷ d ∷ rest) h = absurd (omega arith)

-- ---- packets

-- the next packet moves from what is left to what stands before
pub moved : {X : Type 0} (i : ℕ) (xs : List X) (x : X) (rest : List X) → drop i xs ≡ x ∷ rest → (take (i + 1) xs ≡ take i xs ++ x ∷ []) × (drop (i + 1) xs ≡ rest)
moved zero [] x rest e = absurd cc
moved zero (y ∷ xs) x rest e =
    let same : y ≡ x = cc in
    let tail : xs ≡ rest = cc in
    (ap (λ z. z ∷ []) same, tail)
moved (suc i) [] x rest e = absurd cc
moved (suc i) (y ∷ xs) x rest e =
    let k : suc i + 1 ≡ suc (i + 1) = omega arith in
    let r = moved i xs x rest e in
    (ap (λ n. take n (y ∷ xs)) k ∙ ap (λ l. y ∷ l) r.0, ap (λ n. drop n (y ∷ xs)) k ∙ r.1)

upper_push : (flow : ℕ) (upper : Option ℕ) (ps : List Content) (p : Content) → upper_after flow upper (ps ++ p ∷ []) ≡ newer (upper_in flow p) (upper_after flow upper ps)
upper_push flow upper [] p = refl
upper_push flow upper (q ∷ ps) p = upper_push flow (newer (upper_in flow q) upper) ps p

-- the loop over the packets before a request goes on behind one
pub upper_more : (flow i : ℕ) (ps rest : List Content) (p : Content) (packets : List Content) (half upper : Option ℕ) → packets ≡ drop i ps → packets ≡ p ∷ rest → half ≡ upper_in flow p
    → upper ≡ upper_after flow None (take i ps) → newer half upper ≡ upper_after flow None (take (i + 1) ps)
upper_more flow i ps rest p packets half upper left first half-is so_far =
    let m = moved i ps p rest (sym left ∙ first) in
    ap (λ (h : Option ℕ). newer h upper) half-is ∙ ap (newer (upper_in flow p)) so_far ∙ sym (upper_push flow None (take i ps) p) ∙ ap (upper_after flow None) (sym m.0)

pub left_more : (i : ℕ) (ps rest : List Content) (p : Content) (packets : List Content) → packets ≡ drop i ps → packets ≡ p ∷ rest → rest ≡ drop (i + 1) ps
left_more i ps rest p packets left first = sym (moved i ps p rest (sym left ∙ first)).1

-- a packet is left where fewer were read than there are
pub some_left : (i : ℕ) (ps packets : List Content) → i < length ps → packets ≡ drop i ps → packets ≡ [] → ⊥
some_left i ps packets lt left none = omega (arith, ap length (sym left ∙ none), length-drop i ps)

-- what is asked behind a packet
pub asks_step : (wanted : Option ℕ) (i : ℕ) (ps rest : List Content) (p : Content) (packets : List Content) → packets ≡ drop i ps → packets ≡ p ∷ rest
    → asks_behind wanted (take i ps) packets ≡ request_asks wanted (take i ps) (request_in p) ++ asks_behind wanted (take (i + 1) ps) rest
asks_step wanted i ps rest p packets left first =
    let m = moved i ps p rest (sym left ∙ first) in
    ap (asks_behind wanted (take i ps)) first ∙ ap (λ (l : List Content). request_asks wanted (take i ps) (request_in p) ++ asks_behind wanted l rest) (sym m.0)

-- a packet was left to read
pub more_left : (i : ℕ) (ps rest : List Content) (p : Content) (packets : List Content) → packets ≡ drop i ps → packets ≡ p ∷ rest → i + 1 ≤ length ps
more_left i ps rest p packets left first = omega (arith, ap length (sym left ∙ first), length-drop i ps)

-- a packet that is no request
pub step_none : (wanted : Option ℕ) (before : List Content) (p : Content) (total : List Ask) → None ≡ request_in p → request_asks wanted before (request_in p) ++ total ≡ total
step_none wanted before p total e = ap (λ (r : Option Request). request_asks wanted before r ++ total) (sym e)

-- a request of another flow
pub step_unwanted : (wanted : Option ℕ) (before : List Content) (p : Content) (total : List Ask) (r : Request) → Some r ≡ request_in p → is_wanted wanted r.flow ≡ false
    → request_asks wanted before (request_in p) ++ total ≡ total
step_unwanted wanted before p total r e f =
    ap (λ (q : Option Request). request_asks wanted before q ++ total) (sym e) ∙ ap (λ (b : Bool). cond b (words_asks r.mask (upper_after r.flow None before) r.flow r.words) [] ++ total) f

-- a request that is wanted
pub step_wanted : (wanted : Option ℕ) (before : List Content) (p : Content) (total : List Ask) (r : Request) (upper : Option ℕ) (words : List Ask) → Some r ≡ request_in p → is_wanted wanted r.flow ≡ true
    → upper ≡ upper_after r.flow None before → words ≡ words_asks r.mask upper r.flow r.words → request_asks wanted before (request_in p) ++ total ≡ words ++ total
step_wanted wanted before p total r upper words e f u w =
    ap (λ (q : Option Request). request_asks wanted before q ++ total) (sym e) ∙ ap (λ (b : Bool). cond b (words_asks r.mask (upper_after r.flow None before) r.flow r.words) [] ++ total) f
    ∙ ap (λ (x : Option ℕ). words_asks r.mask x r.flow r.words ++ total) (sym u) ∙ ap (λ (l : List Ask). l ++ total) (sym w)

-- the first ask of a mask word
pub word_masked : (is_mask : Bool) (upper : Option ℕ) (flow : ℕ) (rest rest' : List ℕ) (front all : List Ask) (first second : ℕ) (a : Ask) → is_mask ≡ true → front ≡ [] → rest' ≡ drop 4 rest → 4 ≤ length rest
    → first ≡ from_be_bytes w16 (take 2 rest) → second ≡ from_be_bytes w16 (take 2 (drop 2 rest)) → a ≡ numbered upper flow first 0
    → front ++ words_asks is_mask upper flow rest ≡ all → all ≡ a ∷ (map (λ i. numbered upper flow (first + i) 0) (set_places 16 second 1) ++ words_asks is_mask upper flow rest')
word_masked false upper flow rest rest' front all first second a m none r h f s e whole = absurd cc
word_masked true upper flow rest rest' front all first second a m none r h f s e whole =
    let parts : words_asks true upper flow rest ≡ mask_asks upper flow first second ++ words_asks true upper flow rest' =
    words_step true upper flow rest h ∙ ap (λ (n : ℕ). mask_asks upper flow n (from_be_bytes w16 (take 2 (drop 2 rest))) ++ words_asks true upper flow (drop 4 rest)) (sym f)
    ∙ ap (λ (n : ℕ). mask_asks upper flow first n ++ words_asks true upper flow (drop 4 rest)) (sym s) ∙ ap (λ (l : List ℕ). mask_asks upper flow first second ++ words_asks true upper flow l) (sym r) in
    sym whole ∙ ap (λ (l : List Ask). l ++ words_asks true upper flow rest) none ∙ parts ∙ ap (λ (x : Ask). x ∷ (map (λ i. numbered upper flow (first + i) 0) (set_places 16 second 1) ++ words_asks true upper flow rest')) (sym e)

-- one word that is written, before others
word_written : (is_mask : Bool) (upper : Option ℕ) (flow a b : ℕ) (rest : List ℕ) → a < 2 ^ 16 → b < 2 ^ 16
    → words_asks is_mask upper flow ((to_be_bytes w16 a ++ to_be_bytes w16 b) ++ rest) ≡ word_asks is_mask upper flow a b ++ words_asks is_mask upper flow rest
word_written is_mask upper flow a b rest la lb =
    ap (λ (n : ℕ). word_asks is_mask upper flow n (from_be_bytes w16 (to_be_bytes w16 b)) ++ words_asks is_mask upper flow rest) (from_be_bytes-to_be_bytes_2 a la)
    ∙ ap (λ (n : ℕ). word_asks is_mask upper flow a n ++ words_asks is_mask upper flow rest) (from_be_bytes-to_be_bytes_2 b lb)

pub words_written : (is_mask : Bool) (upper : Option ℕ) (flow : ℕ) (words : List (ℕ × ℕ)) → AllByRecursion (λ w. (w.0 < 2 ^ 16) × (w.1 < 2 ^ 16)) words
    → words_asks is_mask upper flow (words_spelling words) ≡ flat_map (λ w. word_asks is_mask upper flow w.0 w.1) words
words_written is_mask upper flow [] each = refl
words_written is_mask upper flow (w ∷ words) each =
    ap (words_asks is_mask upper flow) (flat_map-cons word_spelling w words) ∙ word_written is_mask upper flow w.0 w.1 (words_spelling words) each.0.0 each.0.1
    ∙ ap (λ (l : List Ask). word_asks is_mask upper flow w.0 w.1 ++ l) (words_written is_mask upper flow words each.1) ∙ sym (flat_map-cons (λ v. word_asks is_mask upper flow v.0 v.1) w words)

-- an extension that is written
pub upper_written : (media upper : ℕ) → upper < 2 ^ 16 → upper_in (flow_of media) (application 1 media rist_name (upper_spelling upper)) ≡ Some upper
upper_written media upper lt = rw (eq-eqb (flow_of media) (flow_of media) refl) (ap Some (from_be_bytes-to_be_bytes_2 upper lt))
