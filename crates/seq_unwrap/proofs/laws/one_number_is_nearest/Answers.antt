use Rattle.std.proofs.Common.{sym, subst, ℕ}
use Rattle.seq_unwrap.specs.Nearest.{cycle_of, IsNearest}
use Rattle.seq_unwrap.proofs.NearestLemmas.{is_nearest_width, nearest_only}
use Rattle.seq_unwrap.proofs.laws.one_number_is_nearest.Goals as goal

pub returns : goal.returns
returns c = λ width reference word x small low. (
  nearest_only width reference word x low,
  λ e. subst (λ (n : ℕ). IsNearest (cycle_of width) reference word n) (sym e) (is_nearest_width width reference word low small),
)
