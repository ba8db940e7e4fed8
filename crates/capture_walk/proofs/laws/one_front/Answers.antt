use Rattle.std.proofs.Common.{◌≡◌, ℕ, List, take, sym, ap, ◌∙◌}
use mathlib.Core.Logic.{inl, inr}
use Rattle.capture_file.specs.Capture.{Record, IsFront, magic}
use Rattle.capture_file.proofs.FormatLemmas.{one_reading}
use Rattle.capture_walk.specs.Form.{Capture, Fronts}
use Rattle.capture_walk.proofs.laws.one_front.Goals as goal

named : (rs : List Record) (b : List ℕ) → IsFront rs b → take 8 b ≡ magic
named rs b front = ap (take 8) front.whole

one : (b : List ℕ) (rs ss : List Record) → Fronts Capture rs b → Fronts Capture ss b → rs ≡ ss
one b rs ss (inl p) (inl q) = one_reading b rs ss p q
one b rs ss (inl p) (inr q) = absurd (q.1 (named rs b p))
one b rs ss (inr p) (inl q) = absurd (p.1 (named ss b q))
one b rs ss (inr p) (inr q) = p.0 ∙ sym q.0

pub returns : goal.returns
returns c = one
