use Rattle.std.proofs.Common.{◌≤◌, ◌+◌, drop, arith, subst, sym, ap, ◌∙◌}
use Rattle.outside_io.specs.Told.{Takes}
use Rattle.block_source.specs.Block.{IsAllAhead, between, behind}
use Rattle.block_source.proofs.BlockLemmas.{between_rest, between_front, takes_front, ends_after}
use Rattle.block_source.proofs.block.Block.pass.Goals as goal

pub returns-clause-ahead : goal.returns-clause-ahead
returns-clause-ahead g c =
    let fits : c.self.inside.from + c.min-count.result ≤ c.self.inside.to = omega (arith, c.min-count.ensures, c.self.invariant.1) in
    sym (between_rest c.self.inside.octets c.self.inside.from c.self.inside.to c.min-count.result fits) ∙ ap (λ v. drop c.min-count.result v.ahead) c.self.view_is

pub returns-clause-value : goal.returns-clause-value
returns-clause-value g c =
    let octets = c.self.inside.octets in
    let from = c.self.inside.from in
    let to = c.self.inside.to in
    let n = c.min-count.result in
    let rest = g.S.Source.remaining c.self.inside.source in
    let fits : from + n ≤ to = omega (arith, c.min-count.ensures, c.self.invariant.1) in
    subst (λ v. Takes v.remaining (behind (between octets (from + n) to) rest) (between octets from (from + n))) c.self.view_is
    (takes_front octets _ from to n rest fits (between_front octets from to n fits))

pub returns-clause-end : goal.returns-clause-end
returns-clause-end g c less whole =
    let n = c.min-count.result in
    ends_after c.self.inside.octets c.self.inside.from c.self.inside.to n (g.S.Source.remaining c.self.inside.source) (omega (arith, c.min-count.ensures, less))
    (subst (λ v. IsAllAhead v) (sym c.self.view_is) whole)
