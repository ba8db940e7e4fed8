use Rattle.std.proofs.Common.{◌∙◌, ap, replicate, []}
use Rattle.rist_world.specs.World.{none}
use Rattle.rist_world.proofs.ReceiverLemmas.{begins}
use Rattle.rist_world.proofs.world.World.with.Goals as goal

pub returns : goal.returns
returns c = record {
  state = begins c.args.session.now c.args.near c.args.far.now c.args.near_sealer c.args.far_sealer c.args.links c.in_ok-with.field-0 _ _ c.in_ok-with-3.field-0 c.with-5.result _ _ _ _ _
      c.requires.links.2 c.in_ok-with.ensures.set.0 c.in_ok-with.ensures.set.1 c.in_ok-with.ensures.set.2 c.in_ok-with.ensures.set.3 c.in_ok-with.ensures.set.4 c.in_ok-with.ensures.set.5 c.in_ok-with.ensures.state c.in_ok-with-2.ensures.ok c.in_ok-with-4.ensures.ok c.in_ok-with-3.ensures.settings c.in_ok-with-3.ensures.shutter
      c.in_ok-with-3.ensures.running c.in_ok-with-3.ensures.state c.with-5.ensures.value (c.in_ok-wires.ensures.value ∙ ap (λ n. replicate n none) c.from.ensures) (c.in_ok-wires-2.ensures.value ∙ ap (λ n. replicate n none) c.from-2.ensures) (c.in_ok-no_marks.ensures.value ∙ ap (λ n. replicate n []) c.from-3.ensures) c.in_ok-flows.ensures.items
      (c.in_ok-with-5.ensures.value ∙ ap (λ n. record { sent = 0; carried = 0; came = replicate n [] }) c.from-4.ensures);
}
