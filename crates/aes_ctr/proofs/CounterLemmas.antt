-- The octets of a number: those of what stands above its last one, and that one.
use Rattle.std.proofs.Common.{◌≡◌, ℕ, ◌+◌, ◌*◌, ◌/◌, ◌%◌, ◌^◌, ◌<◌, ◌≤◌, List, [], ◌∷◌, ◌++◌, take, refl, ap, sym, ◌∙◌, arith}
use Rattle.std.proofs.Math.Nat.{div-div-eq-div-mul}
use Rattle.std.specs.Int.{w128, to_be_bytes}

octet : (n k : ℕ) → n / (2 ^ 8 * 2 ^ k) % 2 ^ 8 ≡ n / 2 ^ 8 / 2 ^ k % 2 ^ 8
octet n k = ap (λ (m : ℕ). m % 2 ^ 8) (sym (div-div-eq-div-mul n (2 ^ 8) (2 ^ k)))

-- the first 15 octets, from what they spell
abbrev head_of : ℕ → List ℕ
head_of q = q / 2 ^ 112 % 2 ^ 8 ∷ q / 2 ^ 104 % 2 ^ 8 ∷ q / 2 ^ 96 % 2 ^ 8 ∷ q / 2 ^ 88 % 2 ^ 8 ∷ q / 2 ^ 80 % 2 ^ 8 ∷ q / 2 ^ 72 % 2 ^ 8 ∷ q / 2 ^ 64 % 2 ^ 8 ∷ q / 2 ^ 56 % 2 ^ 8 ∷ q / 2 ^ 48 % 2 ^ 8 ∷ q / 2 ^ 40 % 2 ^ 8 ∷ q / 2 ^ 32 % 2 ^ 8 ∷ q / 2 ^ 24 % 2 ^ 8 ∷ q / 2 ^ 16 % 2 ^ 8 ∷ q / 2 ^ 8 % 2 ^ 8 ∷ q % 2 ^ 8 ∷ []

head_is : (n : ℕ) → take 15 (to_be_bytes w128 n) ≡ head_of (n / 2 ^ 8)
head_is n =
    let e15 = octet n 112 in
    let e14 = octet n 104 in
    let e13 = octet n 96 in
    let e12 = octet n 88 in
    let e11 = octet n 80 in
    let e10 = octet n 72 in
    let e9 = octet n 64 in
    let e8 = octet n 56 in
    let e7 = octet n 48 in
    let e6 = octet n 40 in
    let e5 = octet n 32 in
    let e4 = octet n 24 in
    let e3 = octet n 16 in
    let e2 = octet n 8 in
    λ i. e15 i ∷ e14 i ∷ e13 i ∷ e12 i ∷ e11 i ∷ e10 i ∷ e9 i ∷ e8 i ∷ e7 i ∷ e6 i ∷ e5 i ∷ e4 i ∷ e3 i ∷ e2 i ∷ n / 2 ^ 8 % 2 ^ 8 ∷ []

parted : (n : ℕ) → to_be_bytes w128 n ≡ take 15 (to_be_bytes w128 n) ++ n % 2 ^ 8 ∷ []
parted n = refl

-- a number of the same row has the same first octets
pub same_row : (n m : ℕ) → n / 256 ≡ m / 256 → take 15 (to_be_bytes w128 n) ≡ take 15 (to_be_bytes w128 m)
same_row n m e = head_is n ∙ ap head_of e ∙ sym (head_is m)

-- a row's block so many places on
pub block_on : (n j last : ℕ) → n < 2 ^ 128 → n % 256 + j < 256 → last ≡ n % 256 + j
    → take 15 (to_be_bytes w128 n) ++ last ∷ [] ≡ to_be_bytes w128 ((n + j) % 2 ^ 128)
block_on n j last fits low is =
    let m = (n + j) % 2 ^ 128 in
    let row : n / 256 ≡ m / 256 = omega arith in
    let end : last ≡ m % 256 = omega arith in
    (λ i. same_row n m row i ++ end i ∷ []) ∙ sym (parted m)

-- four places on, a number is in the same row or among its first four
pub row_on : (n : ℕ) → n < 2 ^ 128 → 4 ≤ (n + 4) % 2 ^ 128 % 256 → take 15 (to_be_bytes w128 n) ≡ take 15 (to_be_bytes w128 ((n + 4) % 2 ^ 128))
row_on n fits high = same_row n ((n + 4) % 2 ^ 128) (omega arith)

-- a number that was reduced stays so
pub again : (n : ℕ) → (n % 2 ^ 128 + 0) % 2 ^ 128 ≡ n % 2 ^ 128
again n = omega arith
