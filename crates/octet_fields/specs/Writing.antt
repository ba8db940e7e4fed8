-- What writing a part at its place leaves as it was.
use Rattle.std.specs.Prelude.{◌≡◌, ℕ, ◌≤◌, List, drop}

-- nothing changed from this place on
abbrev pub KeepsFrom : ℕ → List ℕ → List ℕ → Type 0
KeepsFrom place old new = (n : ℕ) → place ≤ n → drop n new ≡ drop n old
