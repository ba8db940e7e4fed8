use Rattle.std.proofs.Common.{ℕ, sym, subst}
use Rattle.sender_rules.specs.Bonding.{HasPlace}
use Rattle.sender_rules.proofs.BondingLemmas.{link_at_has, has_only}
use Rattle.sender_rules.proofs.laws.one_link_has_each_place.Goals as goal

pub returns : goal.returns
returns c = λ weights place link lt. (
  has_only weights place link,
  λ e. subst (λ (n : ℕ). HasPlace weights place n) (sym e) (link_at_has weights place lt),
)
