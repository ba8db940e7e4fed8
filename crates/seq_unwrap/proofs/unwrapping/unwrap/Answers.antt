use Rattle.std.proofs.Common.{sym, subst, arith, ℕ}
use Rattle.seq_unwrap.specs.Nearest.{cycle_of, IsNearest}
use Rattle.seq_unwrap.proofs.NearestLemmas.{is_nearest_width, half_small}
use Rattle.seq_unwrap.proofs.unwrapping.unwrap.Goals as goal

pub returns-then-number-lt-MAX_NUMBER-clause-near : goal.returns-then-number-lt-MAX_NUMBER-clause-near
returns-then-number-lt-MAX_NUMBER-clause-near c =
    subst
    (λ (n : ℕ). IsNearest (cycle_of c.args.width) c.args.reference c.args.word n)
    (sym c.nearest-number.ensures.value)
    (is_nearest_width c.args.width c.args.reference c.args.word (omega (arith, half_small c.args.width, c.requires.low)) c.requires.word)
