use Rattle.std.proofs.Common.{sym, subst, ℕ}
use Rattle.ts_nulls.specs.Shape.{IsShape}
use Rattle.rist_ext.proofs.WordLemmas.{nulls_in-shape}
use Rattle.rist_ext.proofs.reading.nulls_in.Goals as goal

pub returns-clause-shape : goal.returns-clause-shape
returns-clause-shape c =
    subst (λ (n : ℕ). IsShape c.args.units n) (sym c.kept_bits.ensures) (nulls_in-shape c.args.units c.args.second c.requires.some c.requires.few)
