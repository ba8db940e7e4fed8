-- What a call is lent, and what it leaves.
use Rattle.std.specs.Prelude.{◌≡◌, List, ℕ}
use Rattle.std.specs.Borrow.{MutBor}

-- a call may be made with these octets and with two values, by what it requires
abbrev pub TakesLent : {A B : Type 0} → (MutBor (List ℕ) → MutBor A → MutBor B → Type 0) → List ℕ → A → B → Type 0
TakesLent {A} {B} pre octets one other =
    (lent : MutBor (List ℕ)) (x : MutBor A) (y : MutBor B) → lent.now ≡ octets → x.now ≡ one → y.now ≡ other
    → pre lent x y

-- a call was made with these octets and two values, and left those, by what it ensures
pub record ReturnsLent {A B R : Type 0}
    (post : MutBor (List ℕ) → MutBor A → MutBor B → R → MutBor (List ℕ) → MutBor A → MutBor B → Type 0)
    (octets left : List ℕ) (one one_left : A) (other other_left : B) (result : R) : Type 0 where
  pub lent : MutBor (List ℕ)
  pub back : MutBor (List ℕ)
  pub x : MutBor A
  pub x_back : MutBor A
  pub y : MutBor B
  pub y_back : MutBor B
  pub before : (lent.now ≡ octets) × (x.now ≡ one) × (y.now ≡ other)
  pub after : (back.now ≡ left) × (x_back.now ≡ one_left) × (y_back.now ≡ other_left)
  pub met : post lent x y result back x_back y_back
