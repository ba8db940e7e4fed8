use Rattle.std.proofs.Common.{◌-◌, ◌≡◌, ℕ, List, Option, refl, ap, sym, ◌∙◌, arith}
use borrow.Rule.Slice.PartMut.{put_mid}
use Rattle.block_source.specs.Block.{BlockState, between, behind}
use Rattle.block_source.proofs.BlockLemmas.{changed_between, same_between}
use Rattle.block_source.proofs.block.Block.lend.Goals as goal

-- what a block shows, by the octets ahead
abbrev shown : Option (List ℕ) → List ℕ → ℕ → List ℕ → BlockState
shown rest taken faults ahead = record { remaining = behind ahead rest; ahead = ahead; taken = taken; faults = faults }

pub returns-clause-called : goal.returns-clause-called
returns-clause-called g c =
    let last = c.self.inside.last in
    let from = c.self.inside.from in
    record {
      lent = _;
      back = _;
      x = _;
      x_back = _;
      y = _;
      y_back = _;
      before = (ap (λ v. v.taken) c.self.view_is, refl, refl);
      after = (sym (changed_between c.self.inside.octets c.call.new.arg2 last from (omega (arith, c.self.invariant, c.self.told)) (omega (arith, c.call.auto.arg2))), refl, refl);
      met = c.call.ensures;
    }

pub returns-clause-rest : goal.returns-clause-rest
returns-clause-rest g c =
    let last = c.self.inside.last in
    let from = c.self.inside.from in
    let to = c.self.inside.to in
    let rest = g.S.Source.remaining c.self.inside.source in
    let faults = g.S.Source.faults c.self.inside.source in
    let left = between (put_mid last (from - last) c.self.inside.octets c.call.new.arg2) last from in
    let same = same_between c.self.inside.octets c.call.new.arg2 last from to (omega (arith, c.self.invariant)) (omega (arith, c.self.invariant, c.self.told)) (omega (arith, c.call.auto.arg2)) in
    let kept : ◌≡◌ {A = BlockState} (record (shown rest left faults (between c.self.inside.octets from to)) { taken = left }) (record c.args.self.now { taken = left }) =
    ap (λ (v : BlockState). record v { taken = left }) c.self.view_is in
    ap (shown rest left faults) same ∙ kept
