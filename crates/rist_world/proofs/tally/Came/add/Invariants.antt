use Rattle.std.proofs.Common.{◌≡◌, length, ℕ, get_or, false}
use Rattle.rist_world.proofs.tally.Came.add.Given as goal

abbrev pub invariant-loop : goal.invariant-loop
invariant-loop l = record { same : (k : ℕ) → get_or l.self-inside.places.items k false ≡ get_or l.fn.self k false; long : length l.self-inside.places.items ≡ l.counter }
