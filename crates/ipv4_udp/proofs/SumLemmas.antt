-- The one's complement sum by the plain sum.
use Rattle.std.proofs.Common.{◌≡◌, ℕ, zero, suc, ◌+◌, ◌-◌, ◌*◌, ◌%◌, ◌^◌, ◌<◌, List, [], ◌∷◌, ◌++◌, length, get_or, refl, sym, ap, ◌∙◌, arith}
use Rattle.std.specs.Prelude.{if◌then◌else◌, ◌==◌}
use Rattle.std.specs.List.{fold, sum}
use Rattle.std.proofs.lemmas.Bool.Decides.{nat_tests}
use Rattle.octet_fields.proofs.OctetLemmas.{AreOctets}
use Rattle.ipv4_udp.specs.Sum.{words_of, add_words, ones_sum}
use Rattle.ipv4_udp.specs.Ip.{pseudo_header}
use Rattle.ipv4_udp.specs.Inside.Total.{folded_total}

fold-step : (w t : ℕ) → w < 2 ^ 16 → add_words w (folded_total t) ≡ folded_total (w + t)
fold-step w t lt = grind (arith, nat_tests)

fold-from : (n : ℕ) (words : List ℕ) → fold ◌+◌ n words ≡ n + fold ◌+◌ 0 words
fold-from n [] = omega arith
fold-from n (w ∷ words) = let left = fold-from (n + w) words in let right = fold-from (0 + w) words in omega (arith, left, right)

sum-cons : (w : ℕ) (words : List ℕ) → sum (w ∷ words) ≡ w + sum words
sum-cons w words = let front = fold-from (0 + w) words in omega (arith, front)

pub ones-folded : (octets : List ℕ) → AreOctets octets → ones_sum (words_of octets) ≡ folded_total (sum (words_of octets))
unfolding words_of ones_sum
ones-folded [] are = refl
ones-folded (a ∷ []) are =
    let plain : 256 * a + 0 ≡ 0 + 256 * a = omega arith in
    fold-step (256 * a) 0 (omega (arith, are 0)) ∙ ap folded_total plain
ones-folded (a ∷ b ∷ rest) are =
    ap (add_words (256 * a + b)) (ones-folded rest (λ i. are (suc (suc i)))) ∙ fold-step (256 * a + b) (sum (words_of rest)) (omega (arith, are 0, are 1))
    ∙ ap folded_total (sym (sum-cons (256 * a + b) (words_of rest)))

-- the plain sums of two parts, of which the first has an even length
pub total-append : (a b : List ℕ) → length a % 2 ≡ 0 → sum (words_of (a ++ b)) ≡ sum (words_of a) + sum (words_of b)
unfolding words_of
total-append [] b even = omega arith
total-append (x ∷ []) b even = absurd (omega (arith, even))
total-append (x ∷ y ∷ rest) b even =
    let more = total-append rest b (omega (arith, even)) in
    omega (arith, more, sum-cons (256 * x + y) (words_of rest), sum-cons (256 * x + y) (words_of (rest ++ b)))

pub AreOctets-both : (a b : List ℕ) → AreOctets a → AreOctets b → (i : ℕ) → get_or (a ++ b) i 0 < 256
AreOctets-both [] b are more i = more i
AreOctets-both (x ∷ a) b are more zero = are 0
AreOctets-both (x ∷ a) b are more (suc i) = AreOctets-both a b (λ k. are (suc k)) more i

-- the same of what functions answered
pub ones-folded_of : (octets : List ℕ) (total result : ℕ) → AreOctets octets → total ≡ sum (words_of octets) → result ≡ folded_total total
    → result ≡ ones_sum (words_of octets)
ones-folded_of octets total result are e f = f ∙ ap folded_total e ∙ sym (ones-folded octets are)

pub ones-both : (a b : List ℕ) (total result : ℕ) → AreOctets a → AreOctets b → length a % 2 ≡ 0
    → total ≡ sum (words_of a) + sum (words_of b) → result ≡ folded_total total → result ≡ ones_sum (words_of (a ++ b))
ones-both a b total result are more even e f =
    ones-folded_of (a ++ b) total result (AreOctets-both a b are more) (e ∙ sym (total-append a b even)) f

pub pseudo-even : (from to len : ℕ) → length (pseudo_header from to len) % 2 ≡ 0
unfolding pseudo_header
pseudo-even from to len = refl

pub ones-three : (a b c : List ℕ) (total result : ℕ) → AreOctets a → AreOctets b → AreOctets c → length a % 2 ≡ 0 → length b % 2 ≡ 0
    → total ≡ sum (words_of a) + sum (words_of b) + sum (words_of c) → result ≡ folded_total total → result ≡ ones_sum (words_of (a ++ (b ++ c)))
ones-three a b c total result are more last even too e f =
    ones-both a (b ++ c) total result are (AreOctets-both b c more last) even (omega (arith, e, total-append b c too)) f

-- ---- a checksum makes the sum whole
pub filled : (total sum : ℕ) → sum ≡ 65535 - folded_total total → folded_total (total + sum) ≡ 65535
filled total sum e = grind (arith, nat_tests)

pub filled_or_full : (total sum : ℕ) → sum ≡ (if 65535 - folded_total total == 0 then 65535 else 65535 - folded_total total) → folded_total (total + sum) ≡ 65535
filled_or_full total sum e = grind (arith, nat_tests)
