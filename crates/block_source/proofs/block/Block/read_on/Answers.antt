use Rattle.std.proofs.Common.{◌≡◌, ◌+◌, ◌-◌, ◌∙◌, take, drop, length, ap, sym, arith, length-take, length-drop}
use borrow.Rule.Slice.PartMut.{put_mid}
use Rattle.outside_io.proofs.FillingLemmas.{filled_more}
use Rattle.block_source.specs.Block.{behind}
use Rattle.block_source.proofs.block.Block.read_on.Goals as goal

pub returns-in-Ok-clause-same : goal.returns-in-Ok-clause-same
returns-in-Ok-clause-same g c =
    let end = c.move_to_front-end.result in
    let rest = g.S.Source.remaining c.self.inside.source in
    let all : end + c.in-Ok.count - 0 ≡ end + c.in-Ok.count = omega arith in
    ap (λ n. behind (take n (put_mid end (65536 - end) c.move_to_front-end.new.octets c.read.new.buf)) (g.S.Source.remaining c.read.new.self)) all ∙ sym (filled_more c.args.self.now.remaining rest (g.S.Source.remaining c.read.new.self) end c.in-Ok.count (65536 - end) c.move_to_front-end.new.octets c.read.new.buf
    (omega (arith, c.move_to_front-end.ensures.count, c.self.invariant, c.self.told, ap length c.move_to_front-end.ensures.front, length-take end c.move_to_front-end.new.octets, length-take (c.self.inside.to - c.self.inside.from) (drop c.self.inside.from c.self.inside.octets), length-drop c.self.inside.from c.self.inside.octets)) c.in-Ok.ensures.within.0
    (sym (ap (λ v. v.remaining) c.self.view_is) ∙ ap (λ l. behind l rest) (sym c.move_to_front-end.ensures.front)) c.in-Ok.ensures.ok)
