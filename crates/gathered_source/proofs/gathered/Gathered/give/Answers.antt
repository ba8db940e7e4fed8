use Rattle.std.proofs.Common.{◌≤◌, ◌+◌, ◌-◌, take, drop, arith, subst, length-take}
use Rattle.outside_io.specs.Told.{Takes}
use Rattle.block_source.specs.Block.{between, behind}
use Rattle.block_source.proofs.BlockLemmas.{takes_front}
use Rattle.gathered_source.proofs.gathered.Gathered.give.Goals as goal

pub returns-clause-value : goal.returns-clause-value
returns-clause-value g c =
    let from = c.self.inside.from in
    let to = c.self.inside.to in
    let n = c.copy_front-count.result in
    let rest = g.S.Source.remaining c.self.inside.source in
    let fits : from + n ≤ to = omega (arith, c.copy_front-count.ensures.count, length-take (to - from) (drop from c.self.inside.octets), c.self.invariant.0) in
    subst (λ v. Takes v.left (behind (between c.self.inside.octets (from + n) to) rest) (take n c.copy_front-count.new.buf)) c.self.view_is
    (takes_front c.self.inside.octets _ from to n rest fits c.copy_front-count.ensures.copied)
