use Rattle.aes_block.specs.Inside.Rounds.{once, twice}
use Rattle.aes_block.specs.Inside.Tables.{read}
use Rattle.aes_block.specs.Inside.Tower.{upper, lower}
use Rattle.aes_block.specs.declared.substitution.TheConstants.{ONCE_UPPER, ONCE_LOWER, TWICE_UPPER, TWICE_LOWER}
use Rattle.aes_block.proofs.LaneLemmas.{places, looked_up, summed}
use Rattle.aes_block.proofs.substitution.substituted.Goals as goal

pub look_up-once_upper-requires : goal.look_up-once_upper-requires
unfolding upper lower
look_up-once_upper-requires c = places upper c.args.t c.parts.result.0 c.fits-t.1 c.parts.ensures.upper tt

pub look_up-once_lower-requires : goal.look_up-once_lower-requires
unfolding upper lower
look_up-once_lower-requires c = places lower c.args.t c.parts.result.1 c.fits-t.1 c.parts.ensures.lower tt

pub look_up-twice_upper-requires : goal.look_up-twice_upper-requires
unfolding upper lower
look_up-twice_upper-requires c = places upper c.args.t c.parts.result.0 c.fits-t.1 c.parts.ensures.upper tt

pub look_up-twice_lower-requires : goal.look_up-twice_lower-requires
unfolding upper lower
look_up-twice_lower-requires c = places lower c.args.t c.parts.result.1 c.fits-t.1 c.parts.ensures.lower tt

pub returns-clause-once : goal.returns-clause-once
unfolding once
returns-clause-once c =
    let t = c.args.t in
    let e_u = looked_up ONCE_UPPER upper t c.look_up-once_upper.ensures c.parts.ensures.upper in
    let e_l = looked_up ONCE_LOWER lower t c.look_up-once_lower.ensures c.parts.ensures.lower in
    summed (λ x. read ONCE_UPPER (upper x)) (λ x. read ONCE_LOWER (lower x)) t c.sum-once.ensures e_u e_l

pub returns-clause-twice : goal.returns-clause-twice
unfolding twice
returns-clause-twice c =
    let t = c.args.t in
    let e_u = looked_up TWICE_UPPER upper t c.look_up-twice_upper.ensures c.parts.ensures.upper in
    let e_l = looked_up TWICE_LOWER lower t c.look_up-twice_lower.ensures c.parts.ensures.lower in
    summed (λ x. read TWICE_UPPER (upper x)) (λ x. read TWICE_LOWER (lower x)) t c.sum-twice.ensures e_u e_l
