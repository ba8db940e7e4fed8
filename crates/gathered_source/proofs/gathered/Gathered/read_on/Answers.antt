use Rattle.std.proofs.Common.{◌≡◌, ◌≤◌, ◌+◌, ◌-◌, ◌∙◌, ◌++◌, take, drop, length, ap, sym, arith, length-take, length-drop, append-nil}
use borrow.Rule.Slice.PartMut.{put_mid}
use Rattle.outside_io.proofs.FillingLemmas.{filled_more, taken_more}
use Rattle.block_source.specs.Block.{behind}
use Rattle.gathered_source.proofs.gathered.Gathered.read_on.Goals as goal

pub returns-in-Ok-clause-left : goal.returns-in-Ok-clause-left
returns-in-Ok-clause-left g c =
    let end = c.move_to_front-end.result in
    let rest = g.S.Source.remaining c.self.inside.source in
    let all : end + c.in-Ok.count - 0 ≡ end + c.in-Ok.count = omega arith in
    ap (λ n. behind (take n (put_mid end (16384 - end) c.move_to_front-end.new.octets c.read.new.buf)) (g.S.Source.remaining c.read.new.self)) all ∙ sym (filled_more c.args.self.now.left rest (g.S.Source.remaining c.read.new.self) end c.in-Ok.count (16384 - end) c.move_to_front-end.new.octets c.read.new.buf
    (omega (arith, c.move_to_front-end.ensures.count, c.self.invariant, c.self.told, ap length c.move_to_front-end.ensures.front, length-take end c.move_to_front-end.new.octets, length-take (c.self.inside.to - c.self.inside.from) (drop c.self.inside.from c.self.inside.octets), length-drop c.self.inside.from c.self.inside.octets)) c.in-Ok.ensures.within.0
    (sym (ap (λ v. v.left) c.self.view_is) ∙ ap (λ l. behind l rest) (sym c.move_to_front-end.ensures.front)) c.in-Ok.ensures.ok)

pub returns-in-Ok-clause-front : goal.returns-in-Ok-clause-front
returns-in-Ok-clause-front g c =
    let end = c.move_to_front-end.result in
    let octets = c.move_to_front-end.new.octets in
    let came = take c.in-Ok.count c.read.new.buf in
    let all : end + c.in-Ok.count - 0 ≡ end + c.in-Ok.count = omega arith in
    let inside : end ≤ length octets = omega (arith, c.move_to_front-end.ensures.count, c.self.invariant, c.self.told, ap length c.move_to_front-end.ensures.front, length-take end octets, length-take (c.self.inside.to - c.self.inside.from) (drop c.self.inside.from c.self.inside.octets), length-drop c.self.inside.from c.self.inside.octets) in (
      came,
      ap (λ n. take n (put_mid end (16384 - end) octets c.read.new.buf)) all
          ∙ taken_more end c.in-Ok.count (16384 - end) octets c.read.new.buf inside c.in-Ok.ensures.within.0
          ∙ ap (λ l. l ++ came) (c.move_to_front-end.ensures.front ∙ ap (λ v. v.ahead) c.self.view_is),
    )

pub returns-in-Err-clause-front : goal.returns-in-Err-clause-front
returns-in-Err-clause-front g c =
    let end = c.move_to_front-end.result in
    let octets = c.move_to_front-end.new.octets in
    let all : end - 0 ≡ end + 0 = omega arith in
    let inside : end ≤ length octets = omega (arith, c.move_to_front-end.ensures.count, c.self.invariant, c.self.told, ap length c.move_to_front-end.ensures.front, length-take end octets, length-take (c.self.inside.to - c.self.inside.from) (drop c.self.inside.from c.self.inside.octets), length-drop c.self.inside.from c.self.inside.octets) in (
      take 0 c.read.new.buf,
      ap (λ n. take n (put_mid end (16384 - end) octets c.read.new.buf)) all
          ∙ taken_more end 0 (16384 - end) octets c.read.new.buf inside (omega arith)
          ∙ ap (λ l. l ++ take 0 c.read.new.buf) (c.move_to_front-end.ensures.front ∙ ap (λ v. v.ahead) c.self.view_is),
    )
