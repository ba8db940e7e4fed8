-- The states that a loop over round keys goes through, and the round keys of a schedule.
use Rattle.std.proofs.Common.{◌≡◌, ℕ, suc, ◌+◌, ◌-◌, ◌*◌, ◌<◌, ◌≤◌, List, [], ◌++◌, length, map, take, get_or, ap, sym, ◌∙◌, arith}
use Rattle.std.proofs.lemmas.List.{get_or-map}
use Rattle.aes_block.specs.State.{add_round_key, mix_columns, shift_rows, sub_bytes}
use Rattle.aes_block.specs.Cipher.{cipher, expanded_key, last_state, round_count, round_key, state_after}
use Rattle.aes_block.specs.Inside.Words.{word_octets}
use Rattle.aes_block.proofs.ScheduleLemmas.{get_or-first_words}

-- a state before the first round, after one more, and after the last
pub begun : (key block s k : List ℕ) → s ≡ add_round_key block k → k ≡ round_key (expanded_key key) 0
    → s ≡ state_after (expanded_key key) 0 block
unfolding state_after
begun key block s k e is = e ∙ ap (add_round_key block) is

pub gone_on : (key block s t k : List ℕ) (r : ℕ) → 1 ≤ r → t ≡ add_round_key (mix_columns (shift_rows (sub_bytes s))) k
    → k ≡ round_key (expanded_key key) r → s ≡ state_after (expanded_key key) (r - 1) block
    → t ≡ state_after (expanded_key key) (r + 1 - 1) block
unfolding state_after
gone_on key block s t k r least e is before =
    let w = expanded_key key in
    let n = r - 1 in
    let here : r ≡ suc n = omega arith in
    let next : suc n ≡ r + 1 - 1 = omega arith in
    let inner = ap (λ (x : List ℕ). mix_columns (shift_rows (sub_bytes x))) before in
    let at = is ∙ ap (round_key w) here in
    e ∙ (λ i. add_round_key (inner i) (at i)) ∙ ap (λ (m : ℕ). state_after w m block) next

pub ended : (key block s t k : List ℕ) (r rounds : ℕ) → r ≡ rounds → rounds ≡ round_count key
    → t ≡ add_round_key (shift_rows (sub_bytes s)) k → k ≡ round_key (expanded_key key) rounds
    → s ≡ state_after (expanded_key key) (r - 1) block → t ≡ cipher key block
unfolding cipher
ended key block s t k r rounds same count e is before =
    let w = expanded_key key in
    let inner = ap (λ (x : List ℕ). shift_rows (sub_bytes x)) (before ∙ ap (λ (m : ℕ). state_after w (m - 1) block) same) in
    e ∙ (λ i. add_round_key (inner i) (is i)) ∙ ap (λ (m : ℕ). last_state w m (state_after w (m - 1) block)) count

-- two schedules have the same words below n
abbrev SameBelow : ℕ → List (List ℕ) → List (List ℕ) → Type 0
SameBelow n w v = (i : ℕ) → i < n → get_or w i [] ≡ get_or v i []

round_key_same : (n r : ℕ) (w v : List (List ℕ)) → SameBelow n w v → 4 * r + 4 ≤ n → round_key w r ≡ round_key v r
round_key_same n r w v same fits =
    λ j. same (4 * r) (omega arith) j ++ same (4 * r + 1) (omega arith) j ++ same (4 * r + 2) (omega arith) j ++ same (4 * r + 3) (omega arith) j

-- the round keys of words that begin with a key's schedule
pub kept_round_key : (key words : List ℕ) (r : ℕ) → length key ≤ 32 → length words ≡ 60 → r ≤ round_count key
    → map word_octets (take (4 * (round_count key + 1)) words) ≡ expanded_key key
    → round_key (map word_octets words) r ≡ round_key (expanded_key key) r
kept_round_key key words r most long le is =
    let n = 4 * (round_count key + 1) in
    let w = map word_octets words in
    let same : SameBelow n w (expanded_key key) =
    λ i low. get_or-map word_octets words i 0 [] (omega arith)
    ∙ sym (get_or-first_words words n i low (omega arith)) ∙ ap (λ (v : List (List ℕ)). get_or v i []) is in
    round_key_same n r w (expanded_key key) same (omega arith)
