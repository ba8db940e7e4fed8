-- Links on which no write has failed took all that was written on them.
use Rattle.std.proofs.Common.{◌≡◌, ℕ, ◌+◌, ◌<◌, ◌≤◌, Bool, true, false, not, List, [], ◌∷◌, ◌++◌, length, get_or, refl, subst, arith}
use Rattle.std.specs.Prelude.{◌==◌, ◌||◌, nat_lt}
use Rattle.std.specs.List.{AllByRecursion, list_any}
use Rattle.std.proofs.lemmas.Bool.{true≢false, ltb-true, ltb-false, eqb-true}
use Rattle.outside_io.specs.Causes.{RoseWhere}
use Rattle.rist_sender.specs.declared.answer.Answer.{Answer}
use Rattle.rist_sender.specs.declared.answer.Answer.TheVariants.{Took, NoPeer, Failed}
use Rattle.rist_sender.specs.Links.{Tried, is_failed, IsBy}
use Rattle.rist_world.specs.World.{WireState, AreSound, none}

-- no write on the links below one has failed
pub record AreSoundBelow (wires : List WireState) (link : ℕ) : Type 0 where
  pub sound : (k : ℕ) → k < link → (get_or wires k none).faults ≡ 0

pub none_below : (wires : List WireState) → AreSoundBelow wires 0
none_below wires = record { sound = λ k below. absurd (omega (arith, below)) }

-- nor on one more
pub one_sound : (wires : List WireState) (link : ℕ) → AreSoundBelow wires link → not ((get_or wires link none).faults == 0) ≡ false → AreSoundBelow wires (link + 1)
one_sound wires link is zero = record { sound = λ k below. by k below (nat_lt k link) refl }
  where
    no_fault : (c : Bool) → ((get_or wires link none).faults == 0) ≡ c → not c ≡ false → (get_or wires link none).faults ≡ 0
    no_fault true same e = eqb-true _ _ same
    no_fault false same e = absurd (true≢false e)

    by : (k : ℕ) → k < link + 1 → (c : Bool) → nat_lt k link ≡ c → (get_or wires k none).faults ≡ 0
    by k below true among = is.sound k (ltb-true _ _ among)
    by k below false other =
        let same : link ≡ k = omega (arith, below, ltb-false _ _ other) in
        subst (λ n. (get_or wires n none).faults ≡ 0) same (no_fault ((get_or wires link none).faults == 0) refl zero)

pub all_below : (wires : List WireState) (link : ℕ) → length wires ≤ link → AreSoundBelow wires link → AreSound wires
all_below wires link most is = λ k among. is.sound k (omega (arith, among, most))

-- ---- what was taken

-- no write failed where none has failed in the end
pub none_failed : (p : Bool) (before now : ℕ) → RoseWhere p before now → now ≡ 0 → p ≡ false
none_failed true before now rose zero = absurd (omega (arith, rose, zero))
none_failed false before now rose zero = refl

none_left : (a b : Bool) → (a || b) ≡ false → (a ≡ false) × (b ≡ false)
none_left false b neither = (refl, neither)
none_left true b neither = absurd (true≢false neither)

-- where each peer is known, what didn't fail was taken
pub each_taken : (ts : List Tried) → list_any (λ (t : Tried). is_failed t.answer) ts ≡ false → AllByRecursion (λ (t : Tried). IsBy (λ c. true) t.channel t.answer) ts
    → AllByRecursion (λ (t : Tried). t.answer ≡ Took) ts
each_taken [] sound by = tt
each_taken (t ∷ ts) sound by =
    let left = none_left (is_failed t.answer) (list_any (λ (x : Tried). is_failed x.answer) ts) sound in
    (one t.answer left.0 by.0, each_taken ts left.1 by.1)
  where
    one : (a : Answer) → is_failed a ≡ false → IsBy (λ c. true) t.channel a → a ≡ Took
    one Took ok at = refl
    one NoPeer ok at = absurd (true≢false at)
    one Failed ok at = absurd (true≢false ok)

pub all_more : (P : Tried → Type 0) (xs ys : List Tried) → AllByRecursion P xs → AllByRecursion P ys → AllByRecursion P (xs ++ ys)
all_more P [] ys a b = b
all_more P (x ∷ xs) ys a b = (a.0, all_more P xs ys a.1 b)
